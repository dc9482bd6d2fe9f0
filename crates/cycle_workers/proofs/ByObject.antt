-- The hits of rows by objects: of a row, and of all rows, one by one.
use Rattle.std.proofs.Common.{◌≡◌, ◌∙◌, ℕ, ◌+◌, ◌<◌, suc, List, [], ◌∷◌, ◌++◌, length, drop, get_or, Option, Some, refl, ap, arith}
use Rattle.std.specs.List.{filter_map, range_with_len, slice_get, zip}
use Rattle.std.specs.Option.{option_map_or}
use Rattle.std.proofs.lemmas.List.{drop_more}
use Rattle.std.proofs.lemmas.List.FromFn.{get_or-range_with_len, length-range_with_len}
use Rattle.std.proofs.lemmas.Slice.Zip.{get_or-zip}
use Rattle.alert_states.specs.declared.event.Hit.{Hit}
use Rattle.site_types.specs.declared.site.Set.{Set}
use Rattle.site_types.specs.declared.site.Site.{Site}
use Rattle.cycle_workers.specs.declared.movers.Mover.{Mover}
use Rattle.cycle_workers.specs.Hits.{hits_by, numbered, row_hits}
use Rattle.cycle_workers.proofs.Pairs.{no_mover}

length_from : {O : Type 0} (a : ℕ) (objects : List O) → length (zip (range_with_len a (length objects)) objects) ≡ length objects
length_from a [] = refl
length_from a (o ∷ os) = ap suc (length_from (a + 1) os)

pub length_numbered : {O : Type 0} (objects : List O) → length (numbered objects) ≡ length objects
length_numbered objects = length_from 0 objects

pub get_numbered : {O : Type 0} (objects : List O) (i : ℕ) (d : O) → i < length objects → get_or (numbered objects) i (0, d) ≡ (i, get_or objects i d)
get_numbered objects i d before =
    let long = length-range_with_len 0 (length objects) in
    let same : 0 + i ≡ i = omega arith in
    get_or-zip (range_with_len 0 (length objects)) objects i (0, d) (omega arith) before ∙ ap (λ n. (n, get_or objects i d)) (get_or-range_with_len 0 (length objects) i 0 before ∙ same)

-- the hits of a row whose set is known
row_of_set : {O : Type 0} (site : Site) (hit : Set → Mover → ℕ × O → Option Hit) (objects : List O) (m : Mover) (set : Set) → slice_get site.sets m.set ≡ Some set → row_hits site hit objects m ≡ filter_map (hit set m) (numbered objects)
row_of_set site hit objects m set is = ap (λ (s : Option Set). option_map_or (λ set. filter_map (hit set m) (numbered objects)) s []) is

-- a row less
pub rows_left : {O : Type 0} (site : Site) (hit : Set → Mover → ℕ × O → Option Hit) (objects : List O) (movers : List Mover) (i : ℕ) (set : Set) → i < length movers → slice_get site.sets (get_or movers i no_mover).set ≡ Some set →
    hits_by site hit objects (drop i movers) ≡ filter_map (hit set (get_or movers i no_mover)) (numbered objects) ++ hits_by site hit objects (drop (i + 1) movers)
rows_left site hit objects movers i set before is =
    ap (hits_by site hit objects) (drop_more movers i no_mover before)
    ∙ ap (λ (found : List Hit). found ++ hits_by site hit objects (drop (i + 1) movers)) (row_of_set site hit objects (get_or movers i no_mover) set is)
