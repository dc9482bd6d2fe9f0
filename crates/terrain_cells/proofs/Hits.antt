-- From the first tick at which a track is too low to the hit.
use Rattle.std.proofs.Common.{◌≡◌, refl, ℕ, ℤ, pos, Bool, Option, Some, None, find, unsigned_abs, arith}
use Rattle.std.proofs.lemmas.Int.{ints, by_lt_z}
use Rattle.tick_sets.specs.Searches.{Finds, hit_from, ticks_to}
use Rattle.site_types.specs.Looks.{look_of}
use Rattle.site_types.specs.declared.site.Set.{Set}
use Rattle.terrain_file.specs.declared.terrain.Terrain.{Terrain}
use Rattle.track_motion.specs.declared.motion.Motion.{Motion}
use Rattle.terrain_cells.specs.Msaw.{first_too_low, is_too_low_at, msaw_hit}
use Rattle.terrain_cells.specs.Walks.{FailsFrom, FindsFrom, IsFirstFrom, IsStart}

-- ---- what is found from a tick on, where nothing is before
pub found_from : (p : ℤ → Bool) (look start : ℤ) (found : Option ℤ) → IsStart p look start → FindsFrom p start look found → FindsFrom p (pos 0) look found
found_from p look start None is_start fails = λ t low high. by_lt_z t start
    (λ early. is_start.earlier t low early)
    (λ late. fails t late high)
found_from p look start (Some first) is_start is_first =
    let low = is_start.ticks.first.low in
    let from = is_first.not_before in
    record {
      not_before = omega (arith, ints);
      not_after = is_first.not_after;
      passes = is_first.passes;
      earlier = λ s begun before. by_lt_z s start
          (λ early. is_start.earlier s begun early)
          (λ late. is_first.earlier s late before);
    }

-- ---- the search over the look-ahead
abbrev pub OnlyFirst : Type 0
OnlyFirst = (p : ℕ → Bool) (look : ℕ) (found : Option ℕ) → Finds p look found → find p (ticks_to look) ≡ found

search_none : OnlyFirst → (p : ℤ → Bool) (look : ℕ) → FailsFrom p (pos 0) (pos look) → find (λ t. p (pos t)) (ticks_to look) ≡ None
search_none only p look fails = only (λ t. p (pos t)) look None (λ t ahead. fails (pos t) (omega (arith, ints)) (omega (arith, ints)))

search_some : OnlyFirst → (p : ℤ → Bool) (look k : ℕ) → IsFirstFrom p (pos 0) (pos look) (pos k) → find (λ t. p (pos t)) (ticks_to look) ≡ Some k
search_some only p look k is_first =
    let high = is_first.not_after in
    only (λ t. p (pos t)) look (Some k) (record {
      ahead = omega (arith, ints);
      passes = is_first.passes;
      earlier = λ t before. is_first.earlier (pos t) (omega (arith, ints)) (omega (arith, ints));
    })

-- ---- the hit
abbrev pub FoundAhead : Motion → Terrain → Set → Option ℤ → Type 0
FoundAhead m terrain set found = FindsFrom (is_too_low_at m terrain) (pos 0) (pos (look_of 1 set)) found

by_none : (m : Motion) (terrain : Terrain) (set : Set) → first_too_low m terrain (look_of 1 set) ≡ None → msaw_hit m terrain set ≡ None
by_none m terrain set none = rw none refl

by_some : (m : Motion) (terrain : Terrain) (set : Set) (k : ℕ) → first_too_low m terrain (look_of 1 set) ≡ Some k → msaw_hit m terrain set ≡ Some (hit_from set.urgent (pos k))
by_some m terrain set k some = rw some refl

pub no_hit : OnlyFirst → (m : Motion) (terrain : Terrain) (set : Set) (found : Option ℤ) → found ≡ None → FoundAhead m terrain set found → msaw_hit m terrain set ≡ None
no_hit only m terrain set found none finds = by_none m terrain set (search_none only (is_too_low_at m terrain) (look_of 1 set) (rw none at finds))

pub hit_found : OnlyFirst → (m : Motion) (terrain : Terrain) (set : Set) (found : Option ℤ) (first : ℤ) → found ≡ Some first → FoundAhead m terrain set found → msaw_hit m terrain set ≡ Some (hit_from set.urgent first)
hit_found only m terrain set found first some finds =
    let is_first : IsFirstFrom (is_too_low_at m terrain) (pos 0) (pos (look_of 1 set)) first = rw some at finds in
    let low = is_first.not_before in
    let natural : first ≡ pos (unsigned_abs first) = omega (arith, ints) in
    rw natural (by_some m terrain set (unsigned_abs first) (search_some only (is_too_low_at m terrain) (look_of 1 set) (unsigned_abs first) (rw natural at is_first)))
