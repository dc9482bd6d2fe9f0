-- What the law of searches says: each finds the first pass of its look-ahead, and only that is what it finds.
use Rattle.std.proofs.Common.{◌≡◌, ℕ, Bool, Option, find}
use Rattle.tick_sets.specs.Searches.{Finds, ticks_to}

abbrev pub SearchesFind : Type 0
SearchesFind = (p : ℕ → Bool) (look : ℕ) → Finds p look (find p (ticks_to look))

abbrev pub OnlyThatIsFound : Type 0
OnlyThatIsFound = (p : ℕ → Bool) (look : ℕ) (found : Option ℕ) → Finds p look found → find p (ticks_to look) ≡ found
