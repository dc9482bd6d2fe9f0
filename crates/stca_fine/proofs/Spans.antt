-- Sets of ticks at which facts hold, and the first of such ticks.
use Rattle.std.proofs.Common.{◌≡◌, ◌∙◌, ap, ℕ, ◌*◌, ℤ, pos, ◌+ℤ◌, ◌-ℤ◌, ◌*ℤ◌, neg_ℤ, ◌≤ℤ◌, ◌<ℤ◌, ◌↔◌, Some, None, unsigned_abs, arith, w64, to_z, of_z}
use Rattle.std.proofs.lemmas.Int.{ints}
use Rattle.tick_sets.specs.Inequalities.{IsLook, line_at, parabola_at}
use Rattle.tick_sets.specs.Plane.{scalar_product, squared_length}
use Rattle.tick_sets.specs.Ticks.{Has, IsProper, AreTicksWhere}
use Rattle.tick_sets.specs.declared.Ticks.{Ticks}
use Rattle.tick_sets.specs.declared.Ticks.TheVariants.{Empty, Span}
use Rattle.stca_fine.specs.Relative.{RelativeMotion, IsNear, IsWithin, is_within}
use Rattle.stca_fine.specs.Stca.{first_within}
use Rattle.stca_fine.proofs.Apart.{as_is}
use Rattle.stca_fine.proofs.Within.{within_true, within_false}
use Rattle.stca_fine.proofs.Searches.{OnlyThatIsFound}
use borrow.Author.Differences.{up, down, neg_is}

-- where the facts are the same, so are the ticks
pub where_same : (P Q : ℤ → Type 0) (l : ℤ) (ticks : Ticks) → ((t : ℤ) → P t → Q t) → ((t : ℤ) → Q t → P t) → AreTicksWhere P l ticks → AreTicksWhere Q l ticks
where_same P Q l ticks to from h = record {
  within = h.within;
  holds = λ t k. to t (h.holds t k);
  all = λ t start end k. h.all t start end (from t k);
  proper = h.proper;
}

-- where there are none, there are none of a narrower fact
pub where_none : (P Q : ℤ → Type 0) (l : ℤ) → ((t : ℤ) → Q t → P t) → AreTicksWhere P l Empty → AreTicksWhere Q l Empty
where_none P Q l from h = record {
  within = h.within;
  holds = λ t k. absurd k;
  all = λ t start end k. h.all t start end (from t k);
  proper = h.proper;
}

-- the ticks of both sets are those at which both facts hold
pub where_both : (P Q : ℤ → Type 0) (l : ℤ) (a b met : Ticks) → AreTicksWhere P l a → AreTicksWhere Q l b → ((t : ℤ) → Has met t ↔ (Has a t × Has b t)) → IsProper met → AreTicksWhere (λ t. P t × Q t) l met
where_both P Q l a b met in_a in_b members proper = record {
  within = λ t k. in_a.within t ((members t).0 k).0;
  holds = λ t k. (in_a.holds t ((members t).0 k).0, in_b.holds t ((members t).0 k).1);
  all = λ t start end k. (members t).1 (in_a.all t start end k.0, in_b.all t start end k.1);
  proper = proper;
}

-- ---- the first tick within both limits
natural : (l : ℤ) → IsLook l → pos (unsigned_abs l) ≡ l
natural l look = let low = look.low in omega (arith, ints)

pub none_within : OnlyThatIsFound → (r : RelativeMotion) (h v l : ℤ) → IsLook l → AreTicksWhere (IsWithin r h v) l Empty → first_within r h v (unsigned_abs l) ≡ None
none_within only r h v l look none = only (is_within r h v) (unsigned_abs l) None
    (λ t inside. within_false r h v t (λ holds. none.all (pos t) (omega (arith, ints)) (let same = natural l look in omega (arith, ints)) holds))

pub some_within : OnlyThatIsFound → (r : RelativeMotion) (h v l first last : ℤ) → IsLook l → AreTicksWhere (IsWithin r h v) l (Span first last) → first_within r h v (unsigned_abs l) ≡ Some (unsigned_abs first)
some_within only r h v l first last look ticks =
    let proper : first ≤ℤ last = ticks.proper in
    let member : (first ≤ℤ first) × (first ≤ℤ last) = (omega (arith, ints), proper) in
    let inside = ticks.within first member in
    let low : pos 0 ≤ℤ first = inside.0 in
    let high : first ≤ℤ l = inside.1 in
    let same : pos (unsigned_abs first) ≡ first = omega (arith, ints) in
    only (is_within r h v) (unsigned_abs l) (Some (unsigned_abs first)) (record {
      ahead = omega (arith, ints);
      passes = within_true r h v (unsigned_abs first) (rw same (ticks.holds first member));
      earlier = λ t before. within_false r h v t
          (λ holds.
          let found : (first ≤ℤ pos t) × (pos t ≤ℤ last) = ticks.all (pos t) (omega (arith, ints)) (omega (arith, ints)) holds in
          let late : first ≤ℤ pos t = found.0 in
          omega (arith, ints));
    })

-- the first of them is a tick
pub first_is : (P : ℤ → Type 0) (l first last : ℤ) → IsLook l → AreTicksWhere P l (Span first last) → to_z w64 (of_z w64 first) ≡ pos (unsigned_abs first)
first_is P l first last look ticks =
    let high = look.high in
    let proper : first ≤ℤ last = ticks.proper in
    let inside = ticks.within first (omega (arith, ints), proper) in
    let low : pos 0 ≤ℤ first = inside.0 in
    let under : first ≤ℤ l = inside.1 in
    as_is first (omega (arith, ints)) ∙ omega (arith, ints)

-- ---- the ticks of a parabola that starts lower by a square
near_below : (squared bend slope start limit : ℤ) → squared ≡ bend +ℤ slope +ℤ start → squared <ℤ limit → (bend +ℤ slope +ℤ (start -ℤ limit)) <ℤ pos 0
near_below squared bend slope start limit same near = omega (arith, ints)

below_near : (squared bend slope start limit : ℤ) → squared ≡ bend +ℤ slope +ℤ start → (bend +ℤ slope +ℤ (start -ℤ limit)) <ℤ pos 0 → squared <ℤ limit
below_near squared bend slope start limit same below = omega (arith, ints)

pub where_near : (r : RelativeMotion) (limit l : ℤ) (ticks : Ticks) → ((x y u v t : ℤ) → squared_length (line_at u x t) (line_at v y t) ≡ parabola_at (squared_length u v) (scalar_product x y u v) (squared_length x y) t) →
    AreTicksWhere (λ t. parabola_at (squared_length r.dvx r.dvy) (scalar_product r.dx r.dy r.dvx r.dvy) (squared_length r.dx r.dy -ℤ limit *ℤ limit) t <ℤ pos 0) l ticks → AreTicksWhere (IsNear r limit) l ticks
where_near r limit l ticks law = where_same _ (IsNear r limit) l ticks
    (λ t. below_near (squared_length (line_at r.dvx r.dx t) (line_at r.dvy r.dy t)) (squared_length r.dvx r.dvy *ℤ t *ℤ t) (pos 2 *ℤ scalar_product r.dx r.dy r.dvx r.dvy *ℤ t) (squared_length r.dx r.dy) (limit *ℤ limit) (law r.dx r.dy r.dvx r.dvy t))
    (λ t. near_below (squared_length (line_at r.dvx r.dx t) (line_at r.dvy r.dy t)) (squared_length r.dvx r.dvy *ℤ t *ℤ t) (pos 2 *ℤ scalar_product r.dx r.dy r.dvx r.dvy *ℤ t) (squared_length r.dx r.dy) (limit *ℤ limit) (law r.dx r.dy r.dvx r.dvy t))

-- ---- the ticks between two lines
level_from : (p x limit : ℤ) → pos 0 ≤ℤ (neg_ℤ p +ℤ (limit -ℤ pos 1 -ℤ x)) → pos 0 ≤ℤ (p +ℤ (limit -ℤ pos 1 +ℤ x)) → pos (unsigned_abs (p +ℤ x)) <ℤ limit
level_from p x limit under over = omega (arith, ints)

under_from : (p x limit : ℤ) → pos (unsigned_abs (p +ℤ x)) <ℤ limit → pos 0 ≤ℤ (neg_ℤ p +ℤ (limit -ℤ pos 1 -ℤ x))
under_from p x limit level = omega (arith, ints)

over_from : (p x limit : ℤ) → pos (unsigned_abs (p +ℤ x)) <ℤ limit → pos 0 ≤ℤ (p +ℤ (limit -ℤ pos 1 +ℤ x))
over_from p x limit level = omega (arith, ints)

neg_times : (b a : ℤ) → neg_ℤ b *ℤ a ≡ neg_ℤ (b *ℤ a)
neg_times b a = omega (arith, ints, ap (λ (x : ℕ). up a * x) (neg_is b).0, ap (λ (x : ℕ). up a * x) (neg_is b).1, ap (λ (x : ℕ). down a * x) (neg_is b).0, ap (λ (x : ℕ). down a * x) (neg_is b).1)

pub where_level : (u z limit l : ℤ) (below above met : Ticks) →
    AreTicksWhere (λ t. pos 0 ≤ℤ line_at (neg_ℤ u) (limit -ℤ pos 1 -ℤ z) t) l below →
    AreTicksWhere (λ t. pos 0 ≤ℤ line_at u (limit -ℤ pos 1 +ℤ z) t) l above →
    ((t : ℤ) → Has met t ↔ (Has below t × Has above t)) → IsProper met → AreTicksWhere (λ t. pos (unsigned_abs (line_at u z t)) <ℤ limit) l met
where_level u z limit l below above met under over members proper = where_same _ (λ t. pos (unsigned_abs (line_at u z t)) <ℤ limit) l met
    (λ t both. level_from (u *ℤ t) z limit (rw (neg_times u t) at both.0) both.1)
    (λ t level. (rw (neg_times u t) (under_from (u *ℤ t) z limit level), over_from (u *ℤ t) z limit level))
    (where_both _ _ l below above met under over members proper)
