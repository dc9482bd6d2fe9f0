-- From stay to stay: the height under a track is the same in each.
use Rattle.std.proofs.Common.{◌≡◌, refl, sym, ap, ◌∙◌, ℕ, ℤ, pos, ◌+ℤ◌, ◌≤ℤ◌, ◌<ℤ◌, Bool, false, Option, arith, w64, to_z, of_z}
use Rattle.std.specs.Int.{int_min}
use Rattle.std.proofs.lemmas.Int.{ints, by_lt_z, clamps}
use Rattle.tick_sets.specs.Inequalities.{line_at}
use Rattle.terrain_file.specs.declared.terrain.Terrain.{Terrain}
use Rattle.track_motion.specs.declared.motion.Motion.{Motion}
use Rattle.terrain_cells.specs.Cells.{column_at, height_in, row_at}
use Rattle.terrain_cells.specs.Msaw.{is_too_low_at, is_under_at}
use Rattle.terrain_cells.specs.Stays.{AreColumns, AreRows, IsKept, IsStay, cell_of, place_at}
use Rattle.terrain_cells.specs.Walks.{FailsFrom, IsFirstFrom}
use Rattle.terrain_cells.specs.declared.axis.Axis.{Axis}
use Rattle.terrain_cells.specs.declared.axis.Stay.{Stay}
use Rattle.terrain_cells.proofs.Fits.{as_is}

-- ---- the column and the row under the track
column_is : (m : Motion) (terrain : Terrain) (axis : Axis) (t : ℤ) → AreColumns m terrain axis → cell_of axis (place_at axis t) ≡ column_at terrain (line_at m.vx m.x t)
column_is m terrain axis t are = rw (are.corner, are.side, are.count, are.place, are.speed) refl

row_is : (m : Motion) (terrain : Terrain) (axis : Axis) (t : ℤ) → AreRows m terrain axis → cell_of axis (place_at axis t) ≡ row_at terrain (line_at m.vy m.y t)
row_is m terrain axis t are = rw (are.corner, are.side, are.count, are.place, are.speed) refl

-- ---- the same test at each tick
abbrev pub AreSame : (ℤ → Bool) → (ℤ → Bool) → ℤ → ℤ → Type 0
AreSame p q from to = (t : ℤ) → from ≤ℤ t → t ≤ℤ to → p t ≡ q t

pub same_in_stays : (m : Motion) (terrain : Terrain) (columns rows : Axis) (column row : Stay) (tick look last : ℤ) → AreColumns m terrain columns → AreRows m terrain rows → IsStay columns tick look column → IsStay rows tick look row → last ≡ int_min column.last row.last → AreSame (is_too_low_at m terrain) (is_under_at m (height_in terrain column.index row.index)) tick last
same_in_stays m terrain columns rows column row tick look last are_columns are_rows in_column in_row least = λ t low high.
    let x : column_at terrain (line_at m.vx m.x t) ≡ column.index = sym (column_is m terrain columns t are_columns) ∙ in_column.kept.same t low (omega (arith, ints, clamps)) in
    let y : row_at terrain (line_at m.vy m.y t) ≡ row.index = sym (row_is m terrain rows t are_rows) ∙ in_row.kept.same t low (omega (arith, ints, clamps)) in
    ap (λ (c : Option ℕ). is_under_at m (height_in terrain c (row_at terrain (line_at m.vy m.y t))) t) x ∙ ap (λ (r : Option ℕ). is_under_at m (height_in terrain column.index r) t) y

-- ---- what is found in a stay
abbrev pub FailsBefore : (ℤ → Bool) → ℤ → ℤ → Type 0
FailsBefore p from tick = (t : ℤ) → from ≤ℤ t → t <ℤ tick → p t ≡ false

pub found_here : (p q : ℤ → Bool) (from tick last look first : ℤ) → from ≤ℤ tick → last ≤ℤ look → FailsBefore p from tick → AreSame p q tick last → IsFirstFrom q tick last first → IsFirstFrom p from look first
found_here p q from tick last look first order inside clear same is_first =
    let low = is_first.not_before in
    let high = is_first.not_after in
    record {
      not_before = omega (arith, ints);
      not_after = omega (arith, ints);
      passes = same first low high ∙ is_first.passes;
      earlier = λ s start before. by_lt_z s tick
          (λ early. clear s start early)
          (λ late. same s late (omega (arith, ints)) ∙ is_first.earlier s late before);
    }

pub none_here : (p q : ℤ → Bool) (from tick last : ℤ) → FailsBefore p from tick → AreSame p q tick last → FailsFrom q tick last → FailsBefore p from (last +ℤ pos 1)
none_here p q from tick last clear same fails = λ t start before. by_lt_z t tick
    (λ early. clear t start early)
    (λ late. same t late (omega (arith, ints)) ∙ fails t late (omega (arith, ints)))

pub none_at_all : (p : ℤ → Bool) (from tick look : ℤ) → FailsBefore p from tick → look <ℤ tick → FailsFrom p from look
none_at_all p from tick look clear over = λ t low high. clear t low (omega (arith, ints))

-- ---- from one turn to the next
pub kept_on : (axis : Axis) (tick next look : ℤ) (stay : Stay) → tick ≤ℤ next → IsStay axis tick look stay → IsKept axis next look stay
kept_on axis tick next look stay later in_stay = record {
  not_after = in_stay.kept.not_after;
  same = λ t low high. in_stay.kept.same t (omega (arith, ints)) high;
}

pub kept_at_first : (axis : Axis) (from look : ℤ) (stay : Stay) → from ≤ℤ look → stay.last <ℤ from → IsKept axis from look stay
kept_at_first axis from look stay order over = record {
  not_after = omega (arith, ints);
  same = λ t low high. absurd (omega (arith, ints));
}

-- ---- the last tick of both stays, in 64 bits
pub record IsTurn (tick look a b last : ℤ) : Type 0 where
  pub least : last ≡ int_min a b
  pub low : tick ≤ℤ last
  pub high : last ≤ℤ look
  pub kept : to_z w64 (of_z w64 last) ≡ last
  pub next : to_z w64 (of_z w64 (to_z w64 (of_z w64 last) +ℤ pos 1)) ≡ last +ℤ pos 1

least_is : (a b last : ℤ) → to_z w64 (of_z w64 a) ≡ a → to_z w64 (of_z w64 b) ≡ b → last ≡ int_min (to_z w64 (of_z w64 a)) (to_z w64 (of_z w64 b)) → last ≡ int_min a b
least_is a b last is_a is_b told = rw (is_a, is_b) at told

pub turn : (tick look a b last : ℤ) → pos 0 ≤ℤ tick → look ≤ℤ pos 65535 → tick ≤ℤ a → a ≤ℤ look → tick ≤ℤ b → b ≤ℤ look → last ≡ int_min (to_z w64 (of_z w64 a)) (to_z w64 (of_z w64 b)) → IsTurn tick look a b last
turn tick look a b last start end a_low a_high b_low b_high told =
    let least : last ≡ int_min a b = least_is a b last (as_is a (omega (arith, ints))) (as_is b (omega (arith, ints))) told in
    let low : tick ≤ℤ last = omega (arith, ints, clamps) in
    let high : last ≤ℤ look = omega (arith, ints, clamps) in
    let kept : to_z w64 (of_z w64 last) ≡ last = as_is last (omega (arith, ints)) in
    record { least = least; low = low; high = high; kept = kept; next = rw kept (as_is (last +ℤ pos 1) (omega (arith, ints))) }
