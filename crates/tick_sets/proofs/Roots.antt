-- The root and the least tick, from their definitions: that they are what is sought, and that nothing else is.
use Rattle.std.proofs.Common.{◌≡◌, ap, sym, ◌∙◌, ℕ, ◌+◌, ◌*◌, ◌<◌, ◌≤◌, zero, suc, refl, arith, nat_lt, cond, Bool, true, false, ⊎_elim, ℤ, pos, ◌+ℤ◌, ◌*ℤ◌, ◌≤ℤ◌, ◌<ℤ◌}
use Rattle.std.proofs.lemmas.Bool.{cases_lt}
use Rattle.std.proofs.lemmas.Bool.Decides.{nat_tests}
use Rattle.std.proofs.lemmas.Int.{ints}
use Rattle.std.proofs.lemmas.Nat.{mul-le}
use Rattle.std.specs.Int.RustNames.{unsigned_abs}
use borrow.Author.Tests.{ltb-true, ltb-false}
use Rattle.tick_sets.specs.Inequalities.{IsRaised}
use Rattle.tick_sets.specs.Roots.{root, least_tick_of}
use Rattle.tick_sets.specs.Ticks.{IsLeastTick}

root_at_most : (n : ℕ) → root n * root n ≤ n
unfolding root
root_at_most zero = omega arith
root_at_most (suc n) = let below = root_at_most n in grind (arith, nat_tests)

root_next_above : (n : ℕ) → n < (root n + 1) * (root n + 1)
unfolding root
root_next_above zero = omega arith
root_next_above (suc n) = let above = root_next_above n in grind (arith, nat_tests)

-- no other number is the root
pub root_is : (n r : ℕ) → r * r ≤ n → n < (r + 1) * (r + 1) → r ≡ root n
root_is n r below above =
    let at_most = root_at_most n in
    let next_above = root_next_above n in
    ⊎_elim
    (λ less. let squares = mul-le (r + 1) (r + 1) (root n) (root n) (omega arith) (omega arith) in absurd (omega arith))
    (λ no_less. ⊎_elim
    (λ more. let squares = mul-le (root n + 1) (root n + 1) r r (omega arith) (omega arith) in absurd (omega arith))
    (λ no_more. omega arith)
    (cases_lt (root n) r))
    (cases_lt r (root n))

-- the least tick is one of the ticks
least_within : (f : ℕ → ℕ) (last : ℕ) → least_tick_of f last ≤ last
unfolding least_tick_of
least_within f zero = omega arith
least_within f (suc last) = let within = least_within f last in grind (arith, nat_tests)

-- what holds at both of two numbers holds at the one that a test picks
picked : (b : Bool) (x y : ℕ) (P : ℕ → Type 0) → (b ≡ true → P x) → (b ≡ false → P y) → P (cond b x y)
picked true x y P at_true at_false = at_true refl
picked false x y P at_true at_false = at_false refl

-- nowhere is f less than there
least_least : (f : ℕ → ℕ) (last s : ℕ) → s ≤ last → f (least_tick_of f last) ≤ f s
unfolding least_tick_of
least_least f zero s before = let same : s ≡ zero = omega arith in rw same (omega arith)
least_least f (suc last) s before =
    picked (nat_lt (f (suc last)) (f (least_tick_of f last))) (suc last) (least_tick_of f last) (λ t. f t ≤ f s)
    (λ less. ⊎_elim
    (λ earlier. let least = least_least f last s (omega arith) in let lower = ltb-true _ _ less in omega arith)
    (λ here. let same : s ≡ suc last = (let after : suc last ≤ s = here in omega arith) in rw same (omega arith))
    (cases_lt s (suc last)))
    (λ no_less. ⊎_elim
    (λ earlier. least_least f last s (omega arith))
    (λ here. let same : s ≡ suc last = (let after : suc last ≤ s = here in omega arith) in let higher = ltb-false _ _ no_less in rw same (omega arith))
    (cases_lt s (suc last)))

-- before it f is greater
least_first : (f : ℕ → ℕ) (last s : ℕ) → s < least_tick_of f last → f (least_tick_of f last) < f s
unfolding least_tick_of
least_first f zero s before = absurd (omega arith)
least_first f (suc last) s before =
    picked (nat_lt (f (suc last)) (f (least_tick_of f last))) (suc last) (least_tick_of f last) (λ t. s < t → f t < f s)
    (λ less earlier. let least = least_least f last s (omega arith) in let lower = ltb-true _ _ less in omega arith)
    (λ no_less earlier. least_first f last s earlier)
    before

-- no other tick is
least_tick_is : (f : ℕ → ℕ) (last t : ℕ) → t ≤ last → ((s : ℕ) → s ≤ last → f t ≤ f s) → ((s : ℕ) → s < t → f t < f s) → t ≡ least_tick_of f last
least_tick_is f last t within least first =
    ⊎_elim
    (λ before. absurd (let greater = least_first f last t before in let no_less = least (least_tick_of f last) (least_within f last) in omega arith))
    (λ not_before. ⊎_elim
    (λ after. absurd (let greater = first (least_tick_of f last) after in let no_less = least_least f last t within in omega arith))
    (λ not_after. omega arith)
    (cases_lt (least_tick_of f last) t))
    (cases_lt t (least_tick_of f last))

-- the least tick of a parabola is that of numbers that are the parabola, raised by one number
pub least_raised : (a b l tick : ℤ) (f : ℕ → ℕ) → IsRaised f a b l → IsLeastTick (λ t. a *ℤ t *ℤ t +ℤ pos 2 *ℤ b *ℤ t) l tick → tick ≡ pos (least_tick_of f (unsigned_abs l))
least_raised a b l tick f raised least =
    let value : ℤ → ℤ = λ t. a *ℤ t *ℤ t +ℤ pos 2 *ℤ b *ℤ t in
    let begun : tick ≡ pos (unsigned_abs tick) = (let low = least.not_before in omega (arith, ints)) in
    let within : unsigned_abs tick ≤ unsigned_abs l = (let low = least.not_before in let high = least.not_after in omega (arith, ints)) in
    let inside : (t : ℕ) → t ≤ unsigned_abs l → pos t ≤ℤ l = λ t before. (let low = least.not_before in let high = least.not_after in omega (arith, ints)) in
    let here : pos (f (unsigned_abs tick)) ≡ value tick +ℤ raised.by = raised.at_each (unsigned_abs tick) (inside (unsigned_abs tick) within) ∙ ap (λ t. value t +ℤ raised.by) (sym begun) in
    begun ∙ ap pos (least_tick_is f (unsigned_abs l) (unsigned_abs tick) within
    (λ s before.
    let there = raised.at_each s (inside s before) in
    let no_less : value tick ≤ℤ value (pos s) = least.least (pos s) (omega (arith, ints)) (inside s before) in
    omega (arith, ints))
    (λ s before.
    let there = raised.at_each s (inside s (omega arith)) in
    let less : value tick <ℤ value (pos s) = least.first (pos s) (omega (arith, ints)) (omega (arith, ints)) in
    omega (arith, ints)))
