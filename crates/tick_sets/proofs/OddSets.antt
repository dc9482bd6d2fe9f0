-- From the sorted ends to the sets that they come from.
use Rattle.std.proofs.Common.{◌≡◌, sym, ap, ◌∙◌, ℕ, ◌%◌, ◌^◌, cond, List, Option, Some, None, IfSome, IfNone, ℤ, pos, ◌≤ℤ◌, ◌<ℤ◌, int_le, IsPermutation, arith}
use Rattle.std.proofs.lemmas.Int.{ints}
use Rattle.std.proofs.lemmas.List.Sorted.{sum_by-IsPermutation}
use Rattle.tick_sets.specs.Ends.{ends_by, AreEndsOf, IsAfterOddEnds}
use Rattle.tick_sets.specs.Ticks.{Has, IsFirstTick, IsInOddNumber, sets_with}
use Rattle.tick_sets.specs.declared.Ticks.{Ticks}
use Rattle.tick_sets.specs.declared.Ticks.TheVariants.{Span}

-- as many sorted ends as sets are odd in number at each tick of a span that fits
same_parity : (sets : List Ticks) (ends sorted : List ℤ) (last t : ℤ) → AreEndsOf sets ends → IsPermutation ends sorted → last <ℤ pos (2 ^ 63) → t ≤ℤ last → ends_by sorted t % 2 ≡ sets_with sets t % 2
same_parity sets ends sorted last t are moved fits before = ap (λ (n : ℕ). n % 2) (sum_by-IsPermutation (λ end. cond (int_le end t) 1 0) ends sorted moved) ∙ are t (omega (arith, ints))

pub found_in_sets : (answer : Option ℤ) (sets : List Ticks) (ends sorted passed : List ℤ) (within : Ticks) (first last : ℤ) → AreEndsOf sets ends → IsPermutation ends sorted → passed ≡ sorted → within ≡ Span first last → last <ℤ pos (2 ^ 63) → IfSome answer (IsFirstTick (IsAfterOddEnds passed) (Span first last)) → IfSome answer (IsFirstTick (IsInOddNumber sets) within)
found_in_sets None sets ends sorted passed within first last are moved passed_is within_is fits h = h
found_in_sets (Some t) sets ends sorted passed within first last are moved passed_is within_is fits h =
    let k = rw passed_is at h in
    rw within_is (record {
      member = k.member;
      holds = sym (same_parity sets ends sorted last t are moved fits k.member.1) ∙ k.holds;
      first = λ s inside odd. k.first s inside (same_parity sets ends sorted last s are moved fits inside.1 ∙ odd);
    })

pub none_in_sets : (answer : Option ℤ) (sets : List Ticks) (ends sorted passed : List ℤ) (within : Ticks) (first last : ℤ) → AreEndsOf sets ends → IsPermutation ends sorted → passed ≡ sorted → within ≡ Span first last → last <ℤ pos (2 ^ 63) → IfNone answer ((t : ℤ) → Has (Span first last) t → ¬ IsAfterOddEnds passed t) → IfNone answer ((t : ℤ) → Has within t → ¬ IsInOddNumber sets t)
none_in_sets (Some t) sets ends sorted passed within first last are moved passed_is within_is fits h = h
none_in_sets None sets ends sorted passed within first last are moved passed_is within_is fits h =
    let k = rw passed_is at h in
    rw within_is (λ t inside odd. k t inside (same_parity sets ends sorted last t are moved fits inside.1 ∙ odd))
