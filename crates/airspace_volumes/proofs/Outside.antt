-- A place on one side of all of a polygon's points isn't inside it.
use Rattle.std.proofs.Common.{◌≡◌, ap, ◌∙◌, refl, ℕ, ◌+◌, ◌%◌, ◌==◌, ◌≤◌, Bool, true, false, cond, List, [], ◌∷◌, ◌++◌, All, zip, ℤ, pos, ◌-ℤ◌, ◌+ℤ◌, ◌*ℤ◌, ◌≤ℤ◌, ◌<ℤ◌, int_le, inl, inr, arith}
use Rattle.std.proofs.lemmas.Bool.{and_from, and_parts, false_from_ne_true}
use Rattle.std.proofs.lemmas.Int.{ints}
use Rattle.std.proofs.lemmas.List.Elements.{All-tail}
use Rattle.std.proofs.lemmas.List.Sums.{sum_by-cons}
use Rattle.tick_sets.specs.Inequalities.{line_at}
use Rattle.track_motion.specs.declared.motion.Motion.{Motion}
use Rattle.polygon_plan.specs.Inside.{counts, counts_upward, crossings, inside, inside_at}
use Rattle.airspace_volumes.specs.Bounds.{PassesBy}
use Rattle.airspace_volumes.proofs.Courses.{le_fact, lt_fact, lt_true}
use Rattle.airspace_volumes.proofs.Products.{times_ge, times_le, times_next}
use lib.IntN.{*ℤ_comm}

above_fact : (x y : ℤ) → int_le x y ≡ false → y <ℤ x
above_fact x y h = omega (arith, ints)

-- ---- one edge
-- what an edge that counts says
pub record Counts (x y : ℤ) (low high : ℤ × ℤ) : Type 0 where
  pub from : low.1 ≤ℤ y
  pub to : y <ℤ high.1
  pub left : ((x -ℤ low.0) *ℤ (high.1 -ℤ low.1)) <ℤ ((high.0 -ℤ low.0) *ℤ (y -ℤ low.1))

counts_fact : (x y : ℤ) (low high : ℤ × ℤ) → counts_upward x y low high ≡ true → Counts x y low high
counts_fact x y low high h =
    let parts = and_parts _ _ h in
    let heights = and_parts _ _ parts.0 in
    record { from = le_fact _ _ heights.0; to = lt_fact _ _ heights.1; left = lt_fact _ _ parts.1 }

counts_not : (x y : ℤ) (low high : ℤ × ℤ) → ¬ Counts x y low high → counts_upward x y low high ≡ false
counts_not x y low high fails = false_from_ne_true (counts_upward x y low high) (λ h. fails (counts_fact x y low high h))

under : (x y : ℤ) (low high : ℤ × ℤ) → y <ℤ low.1 → counts_upward x y low high ≡ false
under x y low high h = counts_not x y low high (λ c. let from = c.from in omega (arith, ints))

over : (x y : ℤ) (low high : ℤ × ℤ) → high.1 ≤ℤ y → counts_upward x y low high ≡ false
over x y low high h = counts_not x y low high (λ c. let to = c.to in omega (arith, ints))

-- 0 ≤ a, b ≤ a and 0 ≤ e ≤ d
products_right : (a b d e : ℤ) → pos 0 ≤ℤ a → b ≤ℤ a → pos 0 ≤ℤ e → e ≤ℤ d → (b *ℤ e) ≤ℤ (a *ℤ d)
products_right a b d e a_low b_high e_low e_high =
    let first = times_le e b a e_low b_high in
    let second = times_le a e d a_low e_high in
    let turn_b : e *ℤ b ≡ b *ℤ e = *ℤ_comm e b in
    let turn_a : e *ℤ a ≡ a *ℤ e = *ℤ_comm e a in
    omega (arith, ints)

right : (x y : ℤ) (low high : ℤ × ℤ) → low.0 ≤ℤ x → high.0 ≤ℤ x → counts_upward x y low high ≡ false
right x y low high low_left high_left = counts_not x y low high (λ c.
    let from = c.from in
    let to = c.to in
    let left = c.left in
    let products = products_right (x -ℤ low.0) (high.0 -ℤ low.0) (high.1 -ℤ low.1) (y -ℤ low.1) (omega (arith, ints)) (omega (arith, ints)) (omega (arith, ints)) (omega (arith, ints)) in
    omega (arith, ints))

-- a < 0, a ≤ b and 0 ≤ e < d
products_left : (a b d e : ℤ) → a <ℤ pos 0 → a ≤ℤ b → pos 0 ≤ℤ e → e <ℤ d → (a *ℤ d) <ℤ (b *ℤ e)
products_left a b d e a_high b_low e_low e_high =
    let first = times_le e a b e_low b_low in
    let second = times_ge a (e +ℤ pos 1) d a_high (omega (arith, ints)) in
    let next = times_next a e in
    let turn_b : e *ℤ b ≡ b *ℤ e = *ℤ_comm e b in
    let turn_a : e *ℤ a ≡ a *ℤ e = *ℤ_comm e a in
    omega (arith, ints)

left : (x y : ℤ) (low high : ℤ × ℤ) → x <ℤ low.0 → x <ℤ high.0 → int_le low.1 y ≡ true → int_le high.1 y ≡ false → counts_upward x y low high ≡ true
left x y low high low_right high_right from to =
    let low_from = le_fact low.1 y from in
    let high_to = above_fact high.1 y to in
    and_from _ _ (and_from _ _ from (lt_true y high.1 high_to))
    (lt_true _ _ (products_left (x -ℤ low.0) (high.0 -ℤ low.0) (high.1 -ℤ low.1) (y -ℤ low.1) (omega (arith, ints)) (omega (arith, ints)) (omega (arith, ints)) (omega (arith, ints))))

-- ---- all edges
abbrev pub differ : Bool → Bool → Bool
differ true true = false
differ true false = true
differ false true = true
differ false false = false

abbrev pub turn : Bool → Bool → ℕ
turn a b = cond (differ a b) 1 0

turn_small : (a b : Bool) → (turn a b + 0) % 2 ≡ turn a b
turn_small true true = refl
turn_small true false = refl
turn_small false true = refl
turn_small false false = refl

turn_back : (a : Bool) → turn a a ≡ 0
turn_back true = refl
turn_back false = refl

turn_on : (a b c : Bool) (n : ℕ) → n % 2 ≡ turn b c → (turn a b + n) % 2 ≡ turn a c
turn_on true true true n h = omega (arith, h)
turn_on true true false n h = omega (arith, h)
turn_on true false true n h = omega (arith, h)
turn_on true false false n h = omega (arith, h)
turn_on false true true n h = omega (arith, h)
turn_on false true false n h = omega (arith, h)
turn_on false false true n h = omega (arith, h)
turn_on false false false n h = omega (arith, h)

-- between points of this kind an edge counts exactly where f differs at its ends
abbrev pub CountsTurns : (ℤ × ℤ → Type 0) → (ℤ × ℤ → Bool) → ℤ → ℤ → Type 0
CountsTurns P f x y = (p q : ℤ × ℤ) → P p → P q → counts x y (p, q) ≡ differ (f p) (f q)

-- the edges of a way from its first point to one beyond its last
way : ℤ × ℤ → List (ℤ × ℤ) → ℤ × ℤ → List ((ℤ × ℤ) × (ℤ × ℤ))
way p ps end = zip (p ∷ ps) (ps ++ end ∷ [])

crossings-cons : (edge : (ℤ × ℤ) × (ℤ × ℤ)) (of : List ((ℤ × ℤ) × (ℤ × ℤ))) (x y : ℤ) → crossings (edge ∷ of) x y ≡ cond (counts x y edge) 1 0 + crossings of x y
crossings-cons edge of x y = sum_by-cons (λ (e : (ℤ × ℤ) × (ℤ × ℤ)). cond (counts x y e) 1 0) edge of

way_turns : (P : ℤ × ℤ → Type 0) (f : ℤ × ℤ → Bool) (x y : ℤ) (p : ℤ × ℤ) (ps : List (ℤ × ℤ)) (end : ℤ × ℤ) → CountsTurns P f x y → P p → All P ps → P end → crossings (way p ps end) x y % 2 ≡ turn (f p) (f end)
unfolding way
way_turns P f x y p [] end turns is_p all is_end =
    ap (λ (n : ℕ). n % 2) (crossings-cons (p, end) [] x y ∙ ap (λ (b : Bool). let n : ℕ = cond b 1 0 + 0 in n) (turns p end is_p is_end)) ∙ turn_small (f p) (f end)
way_turns P f x y p (q ∷ qs) end turns is_p all is_end =
    let is_q : P q = all 0 q (omega arith) in
    ap (λ (n : ℕ). n % 2) (crossings-cons (p, q) (way q qs end) x y ∙ ap (λ (b : Bool). let n : ℕ = cond b 1 0 + crossings (way q qs end) x y in n) (turns p q is_p is_q)) ∙
    turn_on (f p) (f q) (f end) (crossings (way q qs end) x y) (way_turns P f x y q qs end turns is_q (All-tail P q qs all) is_end)

none_inside : (P : ℤ × ℤ → Type 0) (f : ℤ × ℤ → Bool) (x y : ℤ) (points : List (ℤ × ℤ)) → CountsTurns P f x y → All P points → inside points x y ≡ false
unfolding way
none_inside P f x y [] turns all = refl
none_inside P f x y (p ∷ ps) turns all =
    let is_p : P p = all 0 p (omega arith) in
    ap (λ (n : ℕ). n == 1) (way_turns P f x y p ps p turns is_p (All-tail P p ps all) is_p ∙ turn_back (f p))

-- ---- on each side
neither : (x y : ℤ) (p q : ℤ × ℤ) → counts_upward x y p q ≡ false → counts_upward x y q p ≡ false → counts x y (p, q) ≡ false
neither x y p q there back = rw (there, back) refl

none_right : (x y : ℤ) (points : List (ℤ × ℤ)) → All (λ p. p.0 ≤ℤ x) points → inside points x y ≡ false
none_right x y points = none_inside (λ p. p.0 ≤ℤ x) (λ p. true) x y points (λ p q is_p is_q. neither x y p q (right x y p q is_p is_q) (right x y q p is_q is_p))

none_under : (x y : ℤ) (points : List (ℤ × ℤ)) → All (λ p. y <ℤ p.1) points → inside points x y ≡ false
none_under x y points = none_inside (λ p. y <ℤ p.1) (λ p. true) x y points (λ p q is_p is_q. neither x y p q (under x y p q is_p) (under x y q p is_q))

none_over : (x y : ℤ) (points : List (ℤ × ℤ)) → All (λ p. p.1 ≤ℤ y) points → inside points x y ≡ false
none_over x y points = none_inside (λ p. p.1 ≤ℤ y) (λ p. true) x y points (λ p q is_p is_q. neither x y p q (over x y p q is_q) (over x y q p is_p))

-- to the left of both ends an edge counts where one end is at the height or below it and the other above
left_turns : (x y : ℤ) (p q : ℤ × ℤ) (a b : Bool) → x <ℤ p.0 → x <ℤ q.0 → int_le p.1 y ≡ a → int_le q.1 y ≡ b → counts x y (p, q) ≡ differ a b
left_turns x y p q true true is_p is_q low_p low_q = neither x y p q (over x y p q (le_fact _ _ low_q)) (over x y q p (le_fact _ _ low_p))
left_turns x y p q true false is_p is_q low_p high_q = rw (left x y p q is_p is_q low_p high_q) refl
left_turns x y p q false true is_p is_q high_p low_q = rw (under x y p q (above_fact _ _ high_p), left x y q p is_q is_p low_q high_p) refl
left_turns x y p q false false is_p is_q high_p high_q = neither x y p q (under x y p q (above_fact _ _ high_p)) (under x y q p (above_fact _ _ high_q))

none_left : (x y : ℤ) (points : List (ℤ × ℤ)) → All (λ p. x <ℤ p.0) points → inside points x y ≡ false
none_left x y points = none_inside (λ p. x <ℤ p.0) (λ p. int_le p.1 y) x y points (λ p q is_p is_q. left_turns x y p q _ _ is_p is_q refl refl)

-- ---- a track that passes by
pub never_inside : (points : List (ℤ × ℤ)) (m : Motion) (look t : ℕ) → PassesBy points m look → t ≤ look → inside_at points m (pos t) ≡ false
never_inside points m look t (inl (inl before)) ahead = none_left (line_at m.vx m.x (pos t)) (line_at m.vy m.y (pos t)) points (λ i d h. before i d h t ahead)
never_inside points m look t (inl (inr behind)) ahead = none_right (line_at m.vx m.x (pos t)) (line_at m.vy m.y (pos t)) points (λ i d h. behind i d h t ahead)
never_inside points m look t (inr (inl under)) ahead = none_under (line_at m.vx m.x (pos t)) (line_at m.vy m.y (pos t)) points (λ i d h. under i d h t ahead)
never_inside points m look t (inr (inr over)) ahead = none_over (line_at m.vx m.x (pos t)) (line_at m.vy m.y (pos t)) points (λ i d h. over i d h t ahead)
