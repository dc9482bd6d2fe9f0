-- The records of a body, and what is refused behind them (ASTERIX part 9; what is read of a record is this project's profile).
use Rattle.std.specs.Prelude.{◌≡◌, ◌≢◌, ℕ, zero, suc, ◌+◌, ◌-◌, List, [], ◌∷◌, ◌++◌, ◌≤◌, length, take, drop, map, Option, Some, None, Result, Ok, Err}
use Rattle.std.specs.Option.{option_map}
use Rattle.asterix_fields.specs.declared.fault.ItemFault.{ItemFault}
use Rattle.asterix_fields.specs.declared.sizes.TheConstants.{BLOCK_ROOM}
use Rattle.asterix_fields.specs.Spelling.{Spells, joined, texts_at}
use Rattle.asterix_fields.specs.Faults.{◌>>=◌, record_at, fault}
use Rattle.asterix_fields.specs.FirstFault.{IsFirstFault}
use Rattle.cat062_read.specs.declared.table.TheConstants.{CAT062, SUBS062}
use Rattle.cat062_read.specs.declared.record.Raw062.{Raw062}
use Rattle.cat062_read.specs.declared.body.TheConstants.{LAST_PLACE}
use Rattle.cat062_read.specs.declared.body.Refused.{Refused}
use Rattle.cat062_read.specs.Contents.{contents}

-- the octets spell a record of category 62 of these items
unfoldable pub Spells062 : List ℕ → List (List ℕ) → Type 0
Spells062 text items = Spells CAT062.0 SUBS062.0 text items

-- the first fault of octets that begin no record of category 62
unfoldable pub fault062 : List ℕ → Option ItemFault
fault062 bytes = fault CAT062.0 SUBS062.0 bytes

-- the first fault of octets that begin no record of category 62, over whole texts
unfoldable pub IsFirstFault062 : List ℕ → ItemFault → Type 0
IsFirstFault062 bytes found = IsFirstFault CAT062.0 SUBS062.0 bytes found

-- a record of so many octets stands at the front, and this is read of it
pub record IsFront (bytes : List ℕ) (raw : Raw062) (size : ℕ) : Type 0 where
  pub items : List (List ℕ)
  pub spelled : Spells062 (take size bytes) items
  pub read : raw ≡ contents items
  pub inside : size ≤ length bytes

-- whatever record the octets begin with, it is read: its contents, and as many octets
abbrev pub ReadsSpelled : List ℕ → Result (Raw062 × ℕ) ItemFault → Type 0
ReadsSpelled bytes read = (text rest : List ℕ) (items : List (List ℕ)) → Spells062 text items → bytes ≡ text ++ rest → read ≡ Ok (contents items, length text)

-- no record stands at the front
abbrev pub BeginsNone : List ℕ → Type 0
BeginsNone bytes = (text more : List ℕ) (items : List (List ℕ)) → Spells062 text items → bytes ≡ text ++ more → ⊥

-- each text is spelled, by the items beside it
abbrev pub AllSpelled : List (List ℕ) → List (List (List ℕ)) → Type 0
AllSpelled [] [] = Unit {0}
AllSpelled [] (items ∷ others) = ⊥
AllSpelled (text ∷ texts) [] = ⊥
AllSpelled (text ∷ texts) (items ∷ others) = Spells062 text items × AllSpelled texts others

-- A body is read so: records one after the other, and then a rest that is empty or begins no record.
pub record IsRead (body : List ℕ) (texts : List (List ℕ)) (items : List (List (List ℕ))) (rest : List ℕ) : Type 0 where
  pub whole : body ≡ joined texts ++ rest
  pub spelled : AllSpelled texts items
  pub stops : BeginsNone rest

-- the body can be read so
abbrev pub HasReading : List ℕ → Type 0
HasReading body = (texts : List (List ℕ)) × (items : List (List (List ℕ))) × (rest : List ℕ) × IsRead body texts items rest

-- What is refused of a body whose records end at this offset: nothing where nothing is left; else the rest, with its first fault.
abbrev pub IsRefusal : List ℕ → ℕ → Option (ℕ × ItemFault) → Type 0
IsRefusal [] offset refused = refused ≡ None
IsRefusal (octet ∷ more) offset refused = (found : ItemFault) × (IsFirstFault062 (octet ∷ more) found × (refused ≡ Some (offset, found)))

-- the record at the front: what is read of it, and how many octets it has, or else the first fault
unfoldable pub reading : List ℕ → Result (Raw062 × ℕ) ItemFault
reading bytes = record_at CAT062.0 SUBS062.0 bytes >>= λ found. Ok (contents (texts_at bytes found.0), found.1)

-- The records at the front of a body, at most so many, and what is left behind them. Each record has an octet, so that a body has at
-- most as many records as octets.
abbrev pub and_then : (List ℕ → List Raw062 × List ℕ) → List ℕ → Result (Raw062 × ℕ) ItemFault → List Raw062 × List ℕ
and_then others bytes (Ok found) = let read = others (drop found.1 bytes) in (found.0 ∷ read.0, read.1)
and_then others bytes (Err fault) = ([], bytes)

unfoldable pub read_up_to : ℕ → List ℕ → List Raw062 × List ℕ
read_up_to zero bytes = ([], bytes)
read_up_to (suc more) bytes = and_then (read_up_to more) bytes (reading bytes)

-- the records of a body
unfoldable pub records : List ℕ → List Raw062
records body = (read_up_to (length body) body).0

-- what is left of a body behind its records
unfoldable pub left_of : List ℕ → List ℕ
left_of body = (read_up_to (length body) body).1

-- where octets are left, the offset in the body of the first of them, and their first fault
abbrev pub refused_at : ℕ → List ℕ → Option (ℕ × ItemFault)
refused_at size [] = None
refused_at size (octet ∷ rest) = option_map (λ found. (size - length (octet ∷ rest), found)) (fault062 (octet ∷ rest))

unfoldable pub refusal : List ℕ → Option (ℕ × ItemFault)
refusal body = refused_at (length body) (left_of body)

-- the same with the offset in the feed, of a body whose first octet has this one
abbrev pub refused_from : ℕ → Option (ℕ × ItemFault) → Option Refused
refused_from offset refused = option_map (λ r. record { offset = offset + r.0; fault = r.1 }) refused

-- however the body is read, its records are those, and this is refused of it
abbrev pub HasOneReading : List ℕ → Type 0
HasOneReading body = (texts : List (List ℕ)) (items : List (List (List ℕ))) (rest : List ℕ) → IsRead body texts items rest
    → (records body ≡ map contents items) × IsRefusal rest (length (joined texts)) (refusal body)

-- a body may stand at this offset in a feed: it is no longer than a block can be, and begins no later than a body may
pub record IsBodyAt (body : List ℕ) (offset : ℕ) : Type 0 where
  pub room : length body ≤ BLOCK_ROOM
  pub early : offset ≤ LAST_PLACE

-- some of these records, from the first on, were added to a list, but not all of them
pub record AddsSome (old new all : List Raw062) : Type 0 where
  pub front : List Raw062
  pub rest : List Raw062
  pub whole : all ≡ front ++ rest
  pub added : new ≡ old ++ front
  pub not_all : rest ≢ []
