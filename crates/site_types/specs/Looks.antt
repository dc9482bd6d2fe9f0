-- How far a set looks ahead for a net (this project's profile).
use Rattle.std.specs.Prelude.{ℕ, unsigned_abs, slice_get, unwrap_or, pos}
use Rattle.site_types.specs.declared.site.Set.{Set}

-- the last tick that the set looks ahead to, for the net at this place in lists of four
abbrev pub look_of : ℕ → Set → ℕ
look_of net set = unsigned_abs (unwrap_or (slice_get set.look net) (pos 0))
