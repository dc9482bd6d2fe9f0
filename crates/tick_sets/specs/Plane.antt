-- Vectors in the plane, in whole numbers (this project's profile).
use Rattle.std.specs.Prelude.{ℤ, ◌+ℤ◌, ◌*ℤ◌}

-- the scalar product of (x, y) and (u, v)
abbrev pub scalar_product : ℤ → ℤ → ℤ → ℤ → ℤ
scalar_product x y u v = x *ℤ u +ℤ y *ℤ v

-- the square of the length of (x, y)
abbrev pub squared_length : ℤ → ℤ → ℤ
squared_length x y = scalar_product x y x y
