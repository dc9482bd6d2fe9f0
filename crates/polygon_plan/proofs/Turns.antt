-- An edge from its lower end to its upper one counts where the edge does.
use Rattle.std.proofs.Common.{◌≡◌, sym, ap, ◌∙◌, ℤ, pos, ◌-ℤ◌, ◌*ℤ◌, ◌≤ℤ◌, ◌<ℤ◌, Bool, true, false, ◌&&◌, ◌||◌, int_le, int_lt, arith}
use Rattle.std.proofs.Math.Bool.{false-or, or-false}
use Rattle.std.proofs.lemmas.Bool.{and_parts, false_from_ne_true}
use Rattle.std.proofs.lemmas.Int.{ints, by_lt_z}
use Rattle.polygon_plan.specs.Inside.{counts, counts_upward}
use Rattle.polygon_plan.specs.Sides.{cross_product}

pub lt_fact : (x y : ℤ) → int_lt x y ≡ true → x <ℤ y
lt_fact x y h = omega (arith, ints)

pub le_fact : (x y : ℤ) → int_le x y ≡ true → x ≤ℤ y
le_fact x y h = omega (arith, ints)

pub lt_true : (x y : ℤ) → x <ℤ y → int_lt x y ≡ true
lt_true x y h = sym (omega (arith, ints))

pub le_true : (x y : ℤ) → x ≤ℤ y → int_le x y ≡ true
le_true x y h = sym (omega (arith, ints))

downward : (x y : ℤ) (low high : ℤ × ℤ) → high.1 ≤ℤ low.1 → counts_upward x y low high ≡ false
downward x y low high down = false_from_ne_true (counts_upward x y low high) (λ h.
    let between = and_parts _ _ (and_parts _ _ h).0 in
    let from = le_fact low.1 y between.0 in
    let to = lt_fact y high.1 between.1 in
    omega (arith, ints))

pub kept : (x y : ℤ) (from to : ℤ × ℤ) → from.1 ≤ℤ to.1 → counts x y (from, to) ≡ counts_upward x y from to
kept x y from to up = ap (λ (b : Bool). counts_upward x y from to || b) (downward x y to from up) ∙ or-false _

pub turned : (x y : ℤ) (from to : ℤ × ℤ) → to.1 ≤ℤ from.1 → counts x y (from, to) ≡ counts_upward x y to from
turned x y from to down = ap (λ (b : Bool). b || counts_upward x y to from) (downward x y from to down) ∙ false-or _

-- ---- what the code tests
lt_by_less : (a b : ℤ) → int_lt (a -ℤ b) (pos 0) ≡ int_lt a b
lt_by_less a b = by_lt_z a b
    (λ less. let first : int_lt (a -ℤ b) (pos 0) ≡ true = sym (omega (arith, ints)) in let second : int_lt a b ≡ true = sym (omega (arith, ints)) in first ∙ sym second)
    (λ not_less. let first : int_lt (a -ℤ b) (pos 0) ≡ false = sym (omega (arith, ints)) in let second : int_lt a b ≡ false = sym (omega (arith, ints)) in first ∙ sym second)

pub left_test : (x y r : ℤ) (low high : ℤ × ℤ) → int_le low.1 y && int_lt y high.1 ≡ true → r ≡ cross_product (x -ℤ low.0) (y -ℤ low.1) (high.0 -ℤ low.0) (high.1 -ℤ low.1) → int_lt r (pos 0) ≡ counts_upward x y low high
left_test x y r low high between r_is =
    ap (λ (z : ℤ). int_lt z (pos 0)) r_is ∙ lt_by_less ((x -ℤ low.0) *ℤ (high.1 -ℤ low.1)) ((high.0 -ℤ low.0) *ℤ (y -ℤ low.1)) ∙
    ap (λ (b : Bool). b && int_lt ((x -ℤ low.0) *ℤ (high.1 -ℤ low.1)) ((high.0 -ℤ low.0) *ℤ (y -ℤ low.1))) (sym between)

pub level : (x y left right height : ℤ) → counts x y ((left, height), (right, height)) ≡ false
level x y left right height =
    let same : height ≤ℤ height = omega (arith, ints) in
    kept x y (left, height) (right, height) same ∙ downward x y (left, height) (right, height) same
