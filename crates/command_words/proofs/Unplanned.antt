-- Which words have no plan.
use Rattle.std.proofs.Common.{◌≡◌, ◌≢◌, ◌∙◌, ◌<◌, ◌≤◌, ◌⊎◌, ◌-◌, ◌^◌, arith, ℕ, Bool, cond, true, false, codes, List, [], ◌∷◌, length, min, Option, Some, None, is_some, Result, Ok, Err, inl, inr, refl, ap, sym}
use Rattle.std.specs.Option.{option_map_or}
use Rattle.std.specs.Result.{result_map_both}
use Rattle.std.specs.Str.{bytes_eq}
use Rattle.std.proofs.lemmas.Bool.{cases_lt}
use Rattle.clap.specs.Walk.{Row, Text, Walk, finished, nothing_held, settled, walk, walk_from}
use Rattle.clap.specs.Simple.{built, entered, names_of, subcommand_of}
use Rattle.clap.specs.Kinds.{Kinds, or_else}
use Rattle.clap.specs.Faults.{check_fault, defaults_fault, entered_fault, fault_of, settle_fault, walk_fault}
use Rattle.command_words.specs.Words.{safetynets}
use Rattle.command_words.specs.Plans.{counted, feeds_of, plan_of, plan_of_command, replay_of, run_of, site_of, unless_refused, workers_of}
use Rattle.command_words.specs.declared.plan.Plan.{Plan}
use Rattle.command_words.specs.declared.plan.Plan.TheVariants.{Replay, Run}
use Rattle.command_words.specs.declared.plan.TheConstants.{MOST_FEEDS}
use Rattle.command_words.specs.declared.plan.WordsFault.{WordsFault}
use Rattle.command_words.specs.declared.plan.WordsFault.TheVariants.{Usage, Feeds}
use Rattle.command_words.proofs.PlainWords.{commands, top_fault}
use Rattle.command_words.proofs.Counts.{counted_few, counted_many, counted_none}

-- ---- clap takes no words without a command

behind : (a b : Kinds) → or_else a b ≡ [] → b ≡ []
behind [] b e = e
behind (k ∷ ks) b e = cc

wants_command : (rows : List Row) (has : Bool) → check_fault (built safetynets).top rows has ≡ [] → has ≡ true
wants_command rows true e = refl
wants_command rows false e = cc

top_wants : (w : Walk) (k : Kinds) → top_fault w k ≡ [] → is_some (entered commands w.stopped) ≡ true
top_wants w k e =
    let rows = finished commands.top.rules w.held in
    let last = check_fault commands.top rows (is_some (entered commands w.stopped)) in
    let defaults = defaults_fault (settled commands.top.rules w.held).rows commands.top.rules in
    let settling = settle_fault commands.top.rules commands.top.args_override_self w.held in
    let below = entered_fault commands w.stopped in
    wants_command rows (is_some (entered commands w.stopped))
    (behind defaults last (behind settling (or_else defaults last) (behind below (or_else settling (or_else defaults last)) (behind k (or_else below (or_else settling (or_else defaults last))) e))))

pub has_command : (words : List Text) → fault_of safetynets words ≡ [] → is_some (subcommand_of safetynets words) ≡ true
has_command words e =
    top_wants (walk commands.top.rules (names_of commands) nothing_held words) (walk_fault commands.top (names_of commands) (walk_from nothing_held) words) e

-- ---- the plan of a command is by its feeds

abbrev pub given : Option (Text × List Row) → List Text
given found = option_map_or (λ f. feeds_of f.1) found []

abbrev made : (List Text → Plan) → List Text → Result Plan WordsFault
made plan feeds = result_map_both plan (λ fault. fault) (counted feeds)

same_command : (run : Bool) (values : List Row)
    → cond run (run_of values) (replay_of values) ≡ made (λ feeds. cond run (Run (site_of values) (workers_of values) feeds) (Replay (site_of values) feeds)) (feeds_of values)
same_command true values = refl
same_command false values = refl

command_is : (found : Text × List Row) → (plan : List Text → Plan) × (plan_of_command (Some found) ≡ made plan (feeds_of found.1))
command_is found =
    let run = bytes_eq found.0 (codes "run") in
    (λ feeds. cond run (Run (site_of found.1) (workers_of found.1) feeds) (Replay (site_of found.1) feeds), same_command run found.1)

-- few, none or many
pub record IsOutside (feeds : List Text) (told : ℕ) : Type 0 where
  pub outside : (length feeds < 1) ⊎ (8 < length feeds)
  pub count : told ≡ min (length feeds) (2 ^ 32 - 1)

split : (feeds : List Text) → ((length feeds < 1) ⊎ (8 < length feeds)) ⊎ ((1 ≤ length feeds) × (length feeds ≤ 8))
split feeds = elim (cases_lt (length feeds) 1) [
  | inl none ↦ inl (inl none)
  | inr some ↦ elim (cases_lt 8 (length feeds)) [ inl many ↦ inl (inr many) | inr few ↦ inr (some, few) ]
]

counted_outside : (feeds : List Text) → (length feeds < 1) ⊎ (8 < length feeds) → counted feeds ≡ Err (Feeds (min (length feeds) (2 ^ 32 - 1)))
counted_outside feeds (inl none) = counted_none feeds none
counted_outside feeds (inr many) = counted_many feeds many

made_outside : (plan : List Text → Plan) (feeds : List Text) → (length feeds < 1) ⊎ (8 < length feeds) → made plan feeds ≡ Err (Feeds (min (length feeds) (2 ^ 32 - 1)))
made_outside plan feeds h = ap (result_map_both plan (λ fault. fault)) (counted_outside feeds h)

made_few : (plan : List Text → Plan) (feeds : List Text) → 1 ≤ length feeds → length feeds ≤ 8 → made plan feeds ≡ Ok (plan feeds)
made_few plan feeds some few = ap (result_map_both plan (λ fault. fault)) (counted_few feeds some few)

never_usage : (plan : List Text → Plan) (feeds : List Text) → made plan feeds ≡ Err Usage → ⊥
never_usage plan feeds e = elim (split feeds) [
  | inl h ↦ let is = made_outside plan feeds h in cc
  | inr h ↦ let is = made_few plan feeds h.0 h.1 in cc
]

only_outside : (plan : List Text → Plan) (feeds : List Text) (told : ℕ) → made plan feeds ≡ Err (Feeds told) → IsOutside feeds told
only_outside plan feeds told e = elim (split feeds) [
  | inl h ↦ let is = made_outside plan feeds h in record { outside = h; count = cc }
  | inr h ↦ let is = made_few plan feeds h.0 h.1 in cc
]

-- ---- words without a plan

pub usage_is : (kinds : Kinds) (found : Option (Text × List Row)) → (kinds ≡ [] → is_some found ≡ true) → unless_refused kinds (plan_of_command found) ≡ Err Usage → kinds ≢ []
usage_is (k ∷ ks) found has e = λ none. cc
usage_is [] None has e = let bad = has refl in cc
usage_is [] (Some found) has e = absurd (never_usage (command_is found).0 (feeds_of found.1) (sym (command_is found).1 ∙ e))

pub refused_is : (kinds : Kinds) (found : Option (Text × List Row)) → kinds ≢ [] → unless_refused kinds (plan_of_command found) ≡ Err Usage
refused_is [] found some = absurd (some refl)
refused_is (k ∷ ks) found some = refl

pub feeds_are : (kinds : Kinds) (found : Option (Text × List Row)) (told : ℕ) → unless_refused kinds (plan_of_command found) ≡ Err (Feeds told) → (kinds ≡ []) × IsOutside (given found) told
feeds_are (k ∷ ks) found told e = cc
feeds_are [] None told e = cc
feeds_are [] (Some found) told e = (refl, only_outside (command_is found).0 (feeds_of found.1) told (sym (command_is found).1 ∙ e))

pub outside_is : (kinds : Kinds) (found : Option (Text × List Row)) (told : ℕ) → ((kinds ≢ []) → ⊥) → (kinds ≡ [] → is_some found ≡ true) → (length (given found) < 1) ⊎ (8 < length (given found))
    → told ≡ min (length (given found)) (2 ^ 32 - 1) → unless_refused kinds (plan_of_command found) ≡ Err (Feeds told)
outside_is (k ∷ ks) found told taken has outside count = absurd (taken (λ e. cc))
outside_is [] None told taken has outside count = let bad = has refl in cc
outside_is [] (Some found) told taken has outside count = (command_is found).1 ∙ made_outside (command_is found).0 (feeds_of found.1) outside ∙ ap (λ (n : ℕ). Err (Feeds n)) (sym count)

-- ---- a plan has no more feeds than a command may have

unless_taken : (kinds : Kinds) (plan : Result Plan WordsFault) (p : Plan) → unless_refused kinds plan ≡ Ok p → plan ≡ Ok p
unless_taken [] plan p is = is
unless_taken (fault ∷ faults) plan p is = absurd (cc)

few_counted : (feeds others : List Text) → counted feeds ≡ Ok others → (others ≡ feeds) × (length feeds ≤ MOST_FEEDS)
few_counted feeds others is = elim (cases_lt 8 (length feeds)) [
  | inl many ↦ absurd (let none = counted_many feeds many in cc)
  | inr few ↦ elim (cases_lt (length feeds) 1) [
    | inl none ↦ absurd (let empty = counted_none feeds none in cc)
    | inr some ↦ (let all = counted_few feeds (omega arith) (omega arith) in let same : others ≡ feeds = cc in (same, omega arith))
  ]
]

few_replayed : (run : Bool) (values : List Row) (site : Text) (feeds : List Text) (found : Result (List Text) WordsFault) → counted (feeds_of values) ≡ found →
    result_map_both (λ fs. cond run (Run (site_of values) (workers_of values) fs) (Replay (site_of values) fs)) (λ fault. fault) found ≡ Ok (Replay site feeds) → length feeds ≤ MOST_FEEDS
few_replayed true values site feeds (Ok others) is made = absurd (cc)
few_replayed false values site feeds (Ok others) is made =
    let few = few_counted (feeds_of values) others is in
    let same : others ≡ feeds = cc in
    rw (← same, few.0) few.1
few_replayed run values site feeds (Err fault) is made = absurd (cc)

few_command : (found : Option (Text × List Row)) (site : Text) (feeds : List Text) → plan_of_command found ≡ Ok (Replay site feeds) → length feeds ≤ MOST_FEEDS
few_command None site feeds is = absurd (cc)
few_command (Some found) site feeds is = few_replayed (bytes_eq found.0 (codes "run")) found.1 site feeds (counted (feeds_of found.1)) refl (sym (same_command (bytes_eq found.0 (codes "run")) found.1) ∙ is)

pub few_feeds : (words : List Text) (site : Text) (feeds : List Text) → plan_of words ≡ Ok (Replay site feeds) → length feeds ≤ MOST_FEEDS
few_feeds words site feeds is = few_command (subcommand_of safetynets words) site feeds (unless_taken (fault_of safetynets words) (plan_of_command (subcommand_of safetynets words)) (Replay site feeds) is)
