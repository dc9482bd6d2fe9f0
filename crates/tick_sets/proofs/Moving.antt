-- The square of the length of a vector that changes evenly.
use Rattle.std.proofs.Common.{◌≡◌, ap, sym, ◌∙◌, ℤ, ◌*ℤ◌, arith}
use Rattle.std.proofs.lemmas.Int.{ints}
use lib.IntN.{*ℤ_comm}
use Rattle.tick_sets.specs.Inequalities.{line_at, parabola_at}
use Rattle.tick_sets.specs.Plane.{scalar_product, squared_length}
use Rattle.tick_sets.proofs.Products.{times_assoc, spread}

-- products of three whose factors are turned
turned : (a b c : ℤ) → a *ℤ (b *ℤ c) ≡ c *ℤ (a *ℤ b)
turned a b c = sym (times_assoc a b c) ∙ *ℤ_comm (a *ℤ b) c

drawn : (t u : ℤ) → u *ℤ (t *ℤ (u *ℤ t)) ≡ u *ℤ (u *ℤ (t *ℤ t))
drawn t u = ap (λ (z : ℤ). u *ℤ z) (*ℤ_comm t (u *ℤ t) ∙ times_assoc u t t)

pub squared_length_is : (x y u v t : ℤ) → squared_length (line_at u x t) (line_at v y t) ≡ parabola_at (squared_length u v) (scalar_product x y u v) (squared_length x y) t
squared_length_is x y u v t = simp spread (rw (drawn t u, drawn t v, turned u t x, turned v t y) (omega (arith, ints)))
