-- How many records a table keeps after one more was put: at most one more.
use Rattle.std.proofs.Common.{◌≡◌, ◌≢◌, ◌+◌, ◌≤◌, List, [], ◌∷◌, Some, length, refl, arith}
use Rattle.std.specs.declared.cmp.Ordering.{Ordering}
use Rattle.std.specs.declared.cmp.Ordering.TheVariants.{Less, Equal, Greater}
use Rattle.std.specs.BTreeMap.{insert_entry}
use Rattle.std.specs.Ordering.{match_ordering}
use Rattle.track_motion.specs.declared.rank.Stamped.{Stamped}
use Rattle.track_motion.specs.declared.track.TrackKey.{TrackKey}
use Rattle.track_motion.specs.Keys.{key_cmp}
use Rattle.track_table.specs.declared.table.Put.{Put}
use Rattle.track_table.specs.declared.table.Put.TheVariants.{Kept, Superseded}

pub inserted_count : {K X : Type 0} (cmp : K → K → Ordering) (es : List (K × X)) (k : K) (v : X) → length (insert_entry cmp es k v) ≤ length es + 1
inserted_count cmp [] k v = omega arith
inserted_count cmp (e ∷ es) k v =
    let rest = inserted_count cmp es k v in
    elim (cmp k e.0) as (λ (o : Ordering). length (match_ordering o ((k, v) ∷ e ∷ es) ((e.0, v) ∷ es) (e ∷ insert_entry cmp es k v)) ≤ length (e ∷ es) + 1)
    [ Less ↦ omega arith | Equal ↦ omega arith | Greater ↦ omega arith ]

pub put_over_count : (put : Put) (old new : List (TrackKey × Stamped)) (s : Stamped)
    → (Some put ≡ Some Kept → new ≡ insert_entry key_cmp old s.track.key s) → (Some put ≢ Some Kept → new ≡ old) → length new ≤ length old + 1
put_over_count Kept old new s written same = rw (written refl) (inserted_count key_cmp old s.track.key s)
put_over_count (Superseded r) old new s written same = rw (same (λ e. cc)) (omega arith)
