use Rattle.std.proofs.Common.{◌≡◌, ◌∙◌, ◌<◌, ◌≤◌, ℕ, List, [], Option, Some, None, Bor, ap, sym, refl, map, length, min, arith, Ok, Err, unwrap_or, option_map, codes, false, ◌==◌}
use Rattle.std.proofs.lemmas.Bool.{eqb-true, eqb-false}
use Rattle.clap.specs.Words.{found_of}
use Rattle.command_words.specs.declared.plan.WordsFault.TheVariants.{Feeds}
use Rattle.std.proofs.lemmas.List.{length-map}
use Rattle.clap.proofs.WalkLemmas.{raw_values-rows}
use Rattle.command_words.specs.Plans.{counted}
use Rattle.command_words.proofs.Counts.{counted_few, counted_many, counted_none}
use Rattle.command_words.proofs.values.feeds.Goals as goal
use Rattle.command_words.proofs.values.feeds.Goals.{then-is_empty-via-then-is_empty, then-is_empty-via-else-is_empty+then-texts}

values_or_none : (o : Option (Bor (List (Bor (List ℕ))))) (d s : Bor (List (Bor (List ℕ)))) → s ≡ unwrap_or o d → d.now ≡ []
    → map (λ (t : Bor (List ℕ)). t.now) s.now ≡ unwrap_or (option_map (λ (b : Bor (List (Bor (List ℕ)))). map (λ (t : Bor (List ℕ)). t.now) b.now) o) []
values_or_none None d s is none = ap (λ (b : Bor (List (Bor (List ℕ)))). map (λ (t : Bor (List ℕ)). t.now) b.now) is ∙ ap (map (λ (t : Bor (List ℕ)). t.now)) none
values_or_none (Some v) d s is none = ap (λ (b : Bor (List (Bor (List ℕ)))). map (λ (t : Bor (List ℕ)). t.now) b.now) is

-- texts of a list of feeds are as many
as_many : (feeds : List (List ℕ)) (texts : List (Bor (List ℕ))) → map (λ (t : Bor (List ℕ)). t.now) texts ≡ feeds → length texts ≡ length feeds
as_many feeds texts is = sym (length-map texts (λ (t : Bor (List ℕ)). t.now)) ∙ ap length is

too_few : (feeds : List (List ℕ)) (texts : List (Bor (List ℕ))) (told : ℕ) → map (λ (t : Bor (List ℕ)). t.now) texts ≡ feeds → told ≡ min (length texts) 4294967295 → length texts ≡ 0 → counted feeds ≡ Err (Feeds told)
too_few feeds texts told is count none =
    let same = as_many feeds texts is in
    counted_none feeds (omega (arith, same)) ∙ ap (λ (n : ℕ). Err (Feeds n)) (ap (λ (n : ℕ). min n 4294967295) (sym same) ∙ sym count)

too_many : (feeds : List (List ℕ)) (texts : List (Bor (List ℕ))) (told : ℕ) → map (λ (t : Bor (List ℕ)). t.now) texts ≡ feeds → told ≡ min (length texts) 4294967295 → 8 < length texts → counted feeds ≡ Err (Feeds told)
too_many feeds texts told is count many =
    let same = as_many feeds texts is in
    counted_many feeds (omega (arith, same)) ∙ ap (λ (n : ℕ). Err (Feeds n)) (ap (λ (n : ℕ). min n 4294967295) (sym same) ∙ sym count)

few : (feeds : List (List ℕ)) (texts : List (Bor (List ℕ))) → map (λ (t : Bor (List ℕ)). t.now) texts ≡ feeds → (length texts == 0) ≡ false → length texts ≤ 8 → counted feeds ≡ Ok feeds
few feeds texts is some most =
    let same = as_many feeds texts is in
    let ne = eqb-false (length texts) 0 some in
    counted_few feeds (omega (arith, same, ne)) (omega (arith, same))

pub returns-then-is_empty-clause-fault : goal.returns-then-is_empty-clause-fault
returns-then-is_empty-clause-fault c = λ _.
    let found = found_of c.args.values.now in
    let is = values_or_none c.get_strs.result _ c.unwrap_or-texts.result c.unwrap_or-texts.ensures refl
    ∙ ap (λ (o : Option (List (List ℕ))). unwrap_or o []) (c.get_strs.ensures ∙ raw_values-rows found (codes "feed")) in
    elim c.then-is_empty.branch [
      | then-is_empty-via-then-is_empty w ↦ too_few _ c.unwrap_or-texts.result.now _ is c.min.ensures (eqb-true _ _ (sym c.is_empty.ensures ∙ w.if-is_empty.true))
      | then-is_empty-via-else-is_empty+then-texts w ↦ too_many _ c.unwrap_or-texts.result.now _ is c.min.ensures w.if-texts.true
    ]

pub returns-clause-ok : goal.returns-clause-ok
returns-clause-ok c =
    let found = found_of c.args.values.now in
    let is = values_or_none c.get_strs.result _ c.unwrap_or-texts.result c.unwrap_or-texts.ensures refl
    ∙ ap (λ (o : Option (List (List ℕ))). unwrap_or o []) (c.get_strs.ensures ∙ raw_values-rows found (codes "feed")) in
    few _ c.unwrap_or-texts.result.now is (sym c.is_empty.ensures ∙ c.if-is_empty.false) c.if-texts.false
    ∙ ap (λ (names : List (List ℕ)). Ok names) (sym is ∙ sym c.in_ok-names.ensures)
