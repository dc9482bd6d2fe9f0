-- How many of the ends are at or before a tick, and what a walk over the sorted ends knows.
use Rattle.std.proofs.Common.{◌≡◌, refl, ap, sym, ◌∙◌, ℕ, zero, suc, ◌+◌, ◌%◌, ◌<◌, ◌≤◌, ◌↔◌, Bool, true, false, not, cond, true≢false, List, [], ◌∷◌, length, get_or, ℤ, pos, ◌≤ℤ◌, ◌<ℤ◌, int_le, int_lt, int_cmp, is_lt, IsSorted, below_more, inl, inr, arith}
use Rattle.std.proofs.lemmas.Bool.{cases_eq}
use Rattle.std.proofs.lemmas.Cmp.{int_cmp_total}
use Rattle.std.proofs.lemmas.Int.{ints, by_lt_z}
use Rattle.std.proofs.lemmas.List.Sums.{sum_by-cons}
use Rattle.std.proofs.lemmas.List.Sorted.{sorted_far, ranks_by}
use Rattle.tick_sets.specs.Ends.{ends_by, IsAfterOddEnds}
use Rattle.tick_sets.specs.Ticks.{IsFirstTick}
use Rattle.tick_sets.specs.declared.Ticks.TheVariants.{Span}

-- what the walk knows before the end at i
pub record Walks (ends : List ℤ) (first last tick : ℤ) (i : ℕ) (odd : Bool) : Type 0 where
  pub not_before : first ≤ℤ tick
  pub not_after : tick ≤ℤ last
  pub passed : (k : ℕ) → k < i → get_or ends k (pos 0) ≤ℤ tick
  pub parity : (odd ≡ true) ↔ (i % 2 ≡ 1)
  pub earlier : (s : ℤ) → first ≤ℤ s → s <ℤ tick → ends_by ends s % 2 ≡ 0

-- ---- sorted ends
not_below : (x y : ℤ) → is_lt (int_cmp y x) ≡ false → x ≤ℤ y
not_below x y h = by_lt_z y x
    (λ below. let e : int_lt y x ≡ true = sym (omega (arith, ints)) in let clash : true ≡ false = rw e at h in cc)
    (λ fine. fine)

pub rises : (ends : List ℤ) → IsSorted int_cmp ends → (i j : ℕ) → i ≤ j → j < length ends → get_or ends i (pos 0) ≤ℤ get_or ends j (pos 0)
rises ends sorted i j before inside = not_below _ _ (sorted_far (λ x y. is_lt (int_cmp x y)) (ranks_by int_cmp_total (λ x. x)) ends sorted i j (pos 0) before inside)

ends_by-cons : (e : ℤ) (ends : List ℤ) (s : ℤ) (test : Bool) → int_le e s ≡ test → ends_by (e ∷ ends) s ≡ cond test 1 0 + ends_by ends s
ends_by-cons e ends s test h = sum_by-cons (λ x. cond (int_le x s) 1 0) e ends ∙ ap (λ (b : Bool). cond b 1 0 + ends_by ends s) h

-- where the first i are at or before s, and the others after it
counted : (ends : List ℤ) (s : ℤ) (i : ℕ) → i ≤ length ends → ((k : ℕ) → k < i → get_or ends k (pos 0) ≤ℤ s) → ((k : ℕ) → i ≤ k → k < length ends → s <ℤ get_or ends k (pos 0)) → ends_by ends s ≡ i
counted [] s i bound passed ahead = omega arith
counted (e ∷ ends) s zero bound passed ahead =
    let here : s <ℤ e = ahead 0 (omega arith) (omega arith) in
    let test : int_le e s ≡ false = sym (omega (arith, ints)) in
    let rest : ends_by ends s ≡ 0 = counted ends s 0 (omega arith) (λ k h. absurd (omega arith)) (λ k low high. ahead (suc k) (omega arith) (omega arith)) in
    omega (arith, ends_by-cons e ends s false test)
counted (e ∷ ends) s (suc i) bound passed ahead =
    let here : e ≤ℤ s = passed 0 (omega arith) in
    let test : int_le e s ≡ true = sym (omega (arith, ints)) in
    let rest : ends_by ends s ≡ i = counted ends s i (omega arith) (λ k h. passed (suc k) (omega arith)) (λ k low high. ahead (suc k) (omega arith) (omega arith)) in
    omega (arith, ends_by-cons e ends s true test)

-- ---- the walk
even_where_not : (b : Bool) (i : ℕ) → (b ≡ true) ↔ (i % 2 ≡ 1) → b ≡ false → i % 2 ≡ 0
even_where_not b i parity is_false = elim (cases_eq (i % 2) 1) [ inl h ↦ (let yes = parity.1 h in absurd (true≢false (sym yes ∙ is_false))) | inr h ↦ omega arith ]

flips : (b : Bool) (i : ℕ) → (b ≡ true) ↔ (i % 2 ≡ 1) → (not b ≡ true) ↔ ((i + 1) % 2 ≡ 1)
flips true i parity = let odd = parity.0 refl in (λ h. absurd (true≢false (sym h)), λ h. absurd (omega arith))
flips false i parity = let even = even_where_not false i parity refl in (λ h. omega arith, λ h. refl)

-- between the tick and the next end as many ends are passed as the walk has seen
seen : (ends : List ℤ) (first last tick : ℤ) (i : ℕ) (odd : Bool) (s : ℤ) → IsSorted int_cmp ends → Walks ends first last tick i odd → i ≤ length ends → tick ≤ℤ s → (i < length ends → s <ℤ get_or ends i (pos 0)) → ends_by ends s ≡ i
seen ends first last tick i odd s sorted walks bound from before = counted ends s i bound
    (λ k h. let p = walks.passed k h in omega (arith, ints))
    (λ k low high. let p = before (omega arith) in let q = rises ends sorted i k low high in omega (arith, ints))

pub answers : (ends : List ℤ) (first last tick : ℤ) (i : ℕ) (odd : Bool) → IsSorted int_cmp ends → Walks ends first last tick i odd → i ≤ length ends → (i < length ends → tick <ℤ get_or ends i (pos 0)) → odd ≡ true → IsFirstTick (IsAfterOddEnds ends) (Span first last) tick
answers ends first last tick i odd sorted walks bound before is_odd = record {
  member = (walks.not_before, walks.not_after);
  holds = ap (λ (n : ℕ). n % 2) (seen ends first last tick i odd tick sorted walks bound (omega (arith, ints)) before) ∙ walks.parity.0 is_odd;
  first = λ s inside holds. by_lt_z s tick (λ early. let even = walks.earlier s inside.0 early in absurd (omega arith)) (λ late. late);
}

pub none_until : (ends : List ℤ) (first last tick : ℤ) (i : ℕ) (odd : Bool) → IsSorted int_cmp ends → Walks ends first last tick i odd → i ≤ length ends → (i < length ends → last <ℤ get_or ends i (pos 0)) → odd ≡ false → (s : ℤ) → (first ≤ℤ s) × (s ≤ℤ last) → IsAfterOddEnds ends s → ⊥
none_until ends first last tick i odd sorted walks bound before is_even s inside holds =
    let even = even_where_not odd i walks.parity is_even in
    by_lt_z s tick
    (λ early. let none = walks.earlier s inside.0 early in omega arith)
    (λ late. let same = seen ends first last tick i odd s sorted walks bound late (λ more. let b = before more in omega (arith, ints, inside.1)) in
    let still = ap (λ (n : ℕ). n % 2) same in omega arith)

pub starts : (ends : List ℤ) (first last : ℤ) → first ≤ℤ last → Walks ends first last first 0 false
starts ends first last proper = record {
  not_before = omega (arith, ints);
  not_after = proper;
  passed = λ k h. absurd (omega arith);
  parity = (λ h. absurd (true≢false (sym h)), λ h. absurd (omega arith));
  earlier = λ s from early. absurd (omega (arith, ints));
}

pub moves : (ends : List ℤ) (first last tick next : ℤ) (i : ℕ) (odd : Bool) → IsSorted int_cmp ends → Walks ends first last tick i odd → i < length ends → next ≡ get_or ends i (pos 0) → tick <ℤ next → next ≤ℤ last → odd ≡ false → Walks ends first last next (i + 1) (not odd)
moves ends first last tick next i odd sorted walks inside next_is after proper is_even =
    let even = even_where_not odd i walks.parity is_even in
    let low = walks.not_before in
    record {
      not_before = omega (arith, ints);
      not_after = proper;
      passed = below_more _ _ (λ k h. let p = walks.passed k h in omega (arith, ints)) (omega (arith, ints));
      parity = flips odd i walks.parity;
      earlier = λ s from early. by_lt_z s tick
          (λ before. walks.earlier s from before)
          (λ late. let same = seen ends first last tick i odd s sorted walks (omega arith) late (λ more. omega (arith, ints)) in
          ap (λ (n : ℕ). n % 2) same ∙ even);
    }

pub stays : (ends : List ℤ) (first last tick : ℤ) (i : ℕ) (odd : Bool) → Walks ends first last tick i odd → get_or ends i (pos 0) ≤ℤ tick → Walks ends first last tick (i + 1) (not odd)
stays ends first last tick i odd walks before = record {
  not_before = walks.not_before;
  not_after = walks.not_after;
  passed = below_more _ _ walks.passed before;
  parity = flips odd i walks.parity;
  earlier = walks.earlier;
}
