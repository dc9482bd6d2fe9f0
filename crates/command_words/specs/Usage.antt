-- The usage text: what words without a plan are answered with (this project's profile).
use Rattle.std.specs.Prelude.{ℕ, List, codes}

abbrev pub usage_text : List ℕ
usage_text = codes "usage: safetynets replay --site FILE FEED...\n       safetynets run --site FILE --workers N FEED...\n"
