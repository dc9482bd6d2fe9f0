-- What a set of ticks has in it, and which set or tick each operation is to give. A tick is a whole number of 1/128 s (this project's profile).
use Rattle.std.specs.Prelude.{◌≡◌, ℕ, ◌%◌, Bool, false, ◌&&◌, List, ℤ, pos, ◌≤ℤ◌, ◌<ℤ◌, int_le, count_by, Contains}
use Rattle.tick_sets.specs.declared.Ticks.{Ticks}
use Rattle.tick_sets.specs.declared.Ticks.TheVariants.{Empty, Span}

-- t is one of the ticks
abbrev pub Has : Ticks → ℤ → Type 0
Has Empty t = ⊥
Has (Span first last) t = (first ≤ℤ t) × (t ≤ℤ last)

-- a span is never empty, so each set has one form
abbrev pub IsProper : Ticks → Type 0
IsProper Empty = Unit {0}
IsProper (Span first last) = first ≤ℤ last

-- the ticks of 0..=l at which P holds, and no other
pub record AreTicksWhere (P : ℤ → Type 0) (l : ℤ) (ticks : Ticks) : Type 0 where
  pub within : (t : ℤ) → Has ticks t → (pos 0 ≤ℤ t) × (t ≤ℤ l)
  pub holds : (t : ℤ) → Has ticks t → P t
  pub all : (t : ℤ) → pos 0 ≤ℤ t → t ≤ℤ l → P t → Has ticks t
  pub proper : IsProper ticks

-- the least tick of 0..=l at which f is least
pub record IsLeastTick (f : ℤ → ℤ) (l t : ℤ) : Type 0 where
  pub not_before : pos 0 ≤ℤ t
  pub not_after : t ≤ℤ l
  pub least : (s : ℤ) → pos 0 ≤ℤ s → s ≤ℤ l → f t ≤ℤ f s
  pub first : (s : ℤ) → pos 0 ≤ℤ s → s <ℤ t → f t <ℤ f s

-- the first of the ticks at which P holds
pub record IsFirstTick (P : ℤ → Type 0) (ticks : Ticks) (t : ℤ) : Type 0 where
  pub member : Has ticks t
  pub holds : P t
  pub first : (s : ℤ) → Has ticks s → P s → t ≤ℤ s

-- one of the sets has a tick
abbrev pub HaveSome : List Ticks → Type 0
HaveSome sets = (ticks : Ticks) × (t : ℤ) × Contains sets ticks × Has ticks t

-- whether t is one of the ticks
abbrev pub has_tick : ℤ → Ticks → Bool
has_tick t Empty = false
has_tick t (Span first last) = int_le first t && int_le t last

-- in how many of the sets t is
abbrev pub sets_with : List Ticks → ℤ → ℕ
sets_with sets t = count_by (has_tick t) sets

-- t is in an odd number of the sets
abbrev pub IsInOddNumber : List Ticks → ℤ → Type 0
IsInOddNumber sets t = sets_with sets t % 2 ≡ 1
