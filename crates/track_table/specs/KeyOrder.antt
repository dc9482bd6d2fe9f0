-- Records by their keys, in key order (this project's profile).
use Rattle.std.specs.Prelude.{◌≡◌, ℕ, ◌+◌, ◌*◌, ◌<◌, Bool, ◌&&◌, nat_eq, List, [], ◌∷◌, map, Option, Some, All, filter, slice_get}
use Rattle.std.specs.BTreeMap.{insert_entry}
use Rattle.std.specs.List.{AllByRecursion, IsDistinct, filter_map}
use Rattle.std.specs.Map.{keys_of}
use Rattle.std.specs.Ordering.{eq_by_cmp}
use Rattle.track_motion.specs.declared.rank.Stamped.{Stamped}
use Rattle.track_motion.specs.declared.track.TrackKey.{TrackKey}
use Rattle.track_motion.specs.Keys.{key_cmp}
use Rattle.track_table.specs.declared.order.RowPlace.{RowPlace}

-- keys whose fields are the same
abbrev pub key_eq : TrackKey → TrackKey → Bool
key_eq a b = nat_eq a.sac b.sac && (nat_eq a.sic b.sic && nat_eq a.number b.number)

-- the entries in key order
abbrev pub in_key_order : List (TrackKey × Stamped) → List (TrackKey × Stamped)
in_key_order [] = []
in_key_order (e ∷ es) = insert_entry key_cmp (in_key_order es) e.0 e.1

-- no two entries have the same key, and each record stands at its track's
pub record AreKeyed (es : List (TrackKey × Stamped)) : Type 0 where
  pub apart : IsDistinct (eq_by_cmp key_cmp) (keys_of es)
  pub own : AllByRecursion (λ e. e.1.track.key ≡ e.0) es

-- a key of the sizes that its fields have
pub record IsKey (key : TrackKey) : Type 0 where
  pub sac : key.sac < 256
  pub sic : key.sic < 256
  pub number : key.number < 65536

-- a key as one number
abbrev pub key_number : TrackKey → ℕ
key_number key = (key.sac * 256 + key.sic) * 65536 + key.number

-- the number that stands in a place, and the record that stands there among these
abbrev pub numbered_at : List Stamped → RowPlace → ℕ × Option Stamped
numbered_at records place = (place.number, slice_get records place.index)

-- a record with the number of its key
abbrev pub numbered : Stamped → ℕ × Option Stamped
numbered r = (key_number r.track.key, Some r)

-- at these places among records stand those, in this order, each place with the number of its record's key
pub record AreAt (records : List Stamped) (places : List RowPlace) (those : List Stamped) : Type 0 where
  pub told : map (numbered_at records) places ≡ map numbered those
  pub keys : All (λ r. IsKey r.track.key) those

-- at these places stand the records that pass a test
abbrev pub ArePlacesOf : (Stamped → Bool) → List Stamped → List RowPlace → Type 0
ArePlacesOf test records places = AreAt records places (filter test records)

-- the records at these places
abbrev pub records_at : List Stamped → List RowPlace → List Stamped
records_at records places = filter_map (λ place. slice_get records place.index) places
