-- The plan of the command words (this project's profile).
use Rattle.std.specs.Prelude.{◌≡◌, ◌≢◌, ◌⊎◌, ◌<◌, ◌≤◌, ◌-◌, ◌^◌, ◌&&◌, ℕ, List, [], ◌∷◌, codes, decimal, length, min, nat_le, unwrap_or, Option, Some, None, Result, Ok, Err, if◌then◌else◌}
use Rattle.std.specs.List.{All}
use Rattle.std.specs.Option.{option_map_or}
use Rattle.std.specs.Result.{result_map_both}
use Rattle.std.specs.Str.{bytes_eq}
use Rattle.std.specs.Str.Parse.{digits_value, without_leading_plus}
use Rattle.clap.specs.Words.{Row, Text, all_of, fault_of, first_of, one_of, subcommand_of}
use Rattle.clap.specs.Kinds.{Kinds}
use Rattle.clap.specs.ValueTests.{is_unsigned_in}
use Rattle.command_words.specs.Words.{Refuses, safetynets}
use Rattle.command_words.specs.declared.plan.Plan.{Plan}
use Rattle.command_words.specs.declared.plan.Plan.TheVariants.{Replay, Run}
use Rattle.command_words.specs.declared.plan.WordsFault.{WordsFault}
use Rattle.command_words.specs.declared.plan.WordsFault.TheVariants.{Usage, Feeds}
use Rattle.command_words.specs.declared.plan.TheConstants.{MOST_FEEDS}

-- the value of `--site`
abbrev pub site_of : List Row → Text
site_of values = unwrap_or (first_of (codes "site") values) []

-- the number that a text writes where it is one of 32 bits, else 0
abbrev pub number_of : Text → ℕ
number_of text = if is_unsigned_in 0 (2 ^ 32 - 1) text then digits_value 10 (without_leading_plus text) else 0

-- the number that the value of `--workers` writes
abbrev pub workers_of : List Row → ℕ
workers_of values = number_of (unwrap_or (one_of (codes "workers") values) [])

-- the feeds
abbrev pub feeds_of : List Row → List Text
feeds_of values = unwrap_or (all_of (codes "feed") values) []

-- the feeds, of which there have to be 1 to 8
abbrev pub counted : List Text → Result (List Text) WordsFault
counted feeds = if nat_le 1 (length feeds) && nat_le (length feeds) MOST_FEEDS then Ok feeds else Err (Feeds (min (length feeds) (2 ^ 32 - 1)))

-- the plan of the values of `replay`, and of `run`
abbrev pub replay_of : List Row → Result Plan WordsFault
replay_of values = result_map_both (Replay (site_of values)) (λ fault. fault) (counted (feeds_of values))

abbrev pub run_of : List Row → Result Plan WordsFault
run_of values = result_map_both (Run (site_of values) (workers_of values)) (λ fault. fault) (counted (feeds_of values))

-- the plan of what clap makes of words: a command with its values
abbrev pub plan_of_command : Option (Text × List Row) → Result Plan WordsFault
plan_of_command None = Err Usage
plan_of_command (Some found) = if bytes_eq found.0 (codes "run") then run_of found.1 else replay_of found.1

-- words that clap refuses have none
abbrev pub unless_refused : Kinds → Result Plan WordsFault → Result Plan WordsFault
unless_refused [] plan = plan
unless_refused (fault ∷ faults) plan = Err Usage

-- the plan of the words after the program's name
abbrev pub plan_of : List Text → Result Plan WordsFault
plan_of words = unless_refused (fault_of safetynets words) (plan_of_command (subcommand_of safetynets words))

-- a word that isn't empty and doesn't begin with `-` (45)
abbrev pub IsPlain : Text → Type 0
IsPlain [] = ⊥
IsPlain (byte ∷ word) = byte ≢ 45

-- plain words, as many as a command may have feeds
pub record ArePlainFeeds (feeds : List Text) : Type 0 where
  pub plain : All IsPlain feeds
  pub some : 1 ≤ length feeds
  pub few : length feeds ≤ MOST_FEEDS

-- `replay --site FILE FEED...`
abbrev pub replay_words : Text → List Text → List Text
replay_words site feeds = codes "replay" ∷ codes "--site" ∷ site ∷ feeds

-- `run --site FILE --workers N FEED...`, N without leading zeros
abbrev pub run_words : Text → ℕ → List Text → List Text
run_words site workers feeds = codes "run" ∷ codes "--site" ∷ site ∷ codes "--workers" ∷ decimal workers ∷ feeds

-- the feeds that the words give
abbrev pub feeds_in : List Text → List Text
feeds_in words = option_map_or (λ found. feeds_of found.1) (subcommand_of safetynets words) []

-- clap takes the words, and they give so many feeds that no command has, at most 2^32 - 1 told
pub record HaveOtherFeeds (words : List Text) (told : ℕ) : Type 0 where
  pub taken : ¬ Refuses words
  pub outside : (length (feeds_in words) < 1) ⊎ (MOST_FEEDS < length (feeds_in words))
  pub count : told ≡ min (length (feeds_in words)) (2 ^ 32 - 1)
