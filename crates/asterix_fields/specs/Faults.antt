-- The first fault of octets that begin no record, in this order: the FSPEC's octets, the named items by rising number, and within
-- a compound its primary octets one by one, each from bit 8 down, and then its subfields (this project's profile).
-- Each definition answers how many octets stand at the front, or the first fault there.
use Rattle.std.specs.Prelude.{◌≡◌, ℕ, zero, suc, ◌+◌, ◌-◌, ◌*◌, ◌%◌, ◌==◌, max, List, [], ◌∷◌, length, take, drop, nat_lt, if◌then◌else◌, Option, None, Some, Result, Ok, Err}
use Rattle.std.specs.Option.{option_map}
use Rattle.asterix_fields.specs.declared.sizes.TheConstants.{MOST_ITEMS, NO_SUBFIELD, PRESENCE_ROOM}
use Rattle.asterix_fields.specs.declared.tables.Form.{Form}
use Rattle.asterix_fields.specs.declared.tables.Form.TheVariants.{Spare, Fixed, Extended, Explicit, Repeat, Compound}
use Rattle.asterix_fields.specs.declared.places.Span.{Span}
use Rattle.asterix_fields.specs.declared.fault.ItemFault.{ItemFault}
use Rattle.asterix_fields.specs.declared.fault.ItemFault.TheVariants.{LongFspec, PastEnd, SpareItem, SpareSubfield, ZeroLength}
use Rattle.asterix_fields.specs.Tables.{rows_of}
use Rattle.asterix_fields.specs.Spelling.{is_named}

infixl 10 ◌>>=◌
abbrev pub ◌>>=◌ : {A B : Type 0} → Result A ItemFault → (A → Result B ItemFault) → Result B ItemFault
(Ok x) >>= f = f x
(Err e) >>= f = Err e

-- so many octets, if they are there
abbrev pub so_many : ℕ → ℕ → List ℕ → Result ℕ ItemFault
so_many frn size bytes = if nat_lt (length bytes) size then Err (PastEnd frn) else Ok size

-- the octets up to the end of the last part of an extended item, where `left` octets of a part are still to come
unfoldable pub extended_at : ℕ → ℕ → ℕ → ℕ → List ℕ → Result ℕ ItemFault
extended_at frn size left index [] = Err (PastEnd frn)
extended_at frn size left index (octet ∷ rest) =
    if left == 1
    then (if octet % 2 == 0 then Ok (index + 1) else extended_at frn size size (index + 1) rest)
    else extended_at frn size (left - 1) (index + 1) rest

abbrev pub explicit_at : ℕ → List ℕ → Result ℕ ItemFault
explicit_at frn [] = Err (PastEnd frn)
explicit_at frn (size ∷ rest) = if size == 0 then Err (ZeroLength frn) else so_many frn size (size ∷ rest)

abbrev pub repeated_at : ℕ → ℕ → List ℕ → Result ℕ ItemFault
repeated_at frn size [] = Err (PastEnd frn)
repeated_at frn size (count ∷ groups) = so_many frn (1 + size * count) (count ∷ groups)

abbrev pub simple_at : ℕ → Form → List ℕ → Result ℕ ItemFault
simple_at frn Spare bytes = Err (SpareItem frn)
simple_at frn (Fixed size) bytes = so_many frn size bytes
simple_at frn (Extended size) bytes = extended_at frn size size 0 bytes
simple_at frn Explicit bytes = explicit_at frn bytes
simple_at frn (Repeat size) bytes = repeated_at frn size bytes
simple_at frn (Compound first count) bytes = Err (SpareItem frn)

-- the first of so many numbers, from one on, that presence octets name
unfoldable pub first_named : List ℕ → ℕ → ℕ → Option ℕ
first_named octets zero number = None
first_named octets (suc count) number = if is_named octets number then Some number else first_named octets count (number + 1)

-- presence octets from number `index` (from 0) on: what an octet names comes before what its bit 1 asks for
abbrev pub unless : Option ItemFault → Result ℕ ItemFault → Result ℕ ItemFault
unless None next = next
unless (Some fault) next = Err fault

unfoldable pub presence_at : (ℕ → Option ItemFault) → ItemFault → ItemFault → ℕ → List ℕ → Result ℕ ItemFault
presence_at spare past long index [] = Err past
presence_at spare past long index (octet ∷ rest) =
    unless (spare index)
    (if octet % 2 == 0 then Ok (index + 1) else (if index + 1 == PRESENCE_ROOM then Err long else presence_at spare past long (index + 1) rest))

abbrev pub fspec_at : List ℕ → Result ℕ ItemFault
fspec_at bytes = presence_at (λ index. None) (PastEnd 0) LongFspec 0 bytes

-- the first subfield that primary octet `index`, from 0, names past the item's rows
abbrev pub spare_subfield : List ℕ → ℕ → ℕ → Option ℕ
spare_subfield bytes rows index = let from = max (7 * index + 1) (rows + 1) in first_named bytes (7 * index + 8 - from) from

abbrev pub primary_at : ℕ → ℕ → List ℕ → Result ℕ ItemFault
primary_at frn rows bytes =
    presence_at (λ index. option_map (SpareSubfield frn) (spare_subfield bytes rows index)) (PastEnd frn) (SpareSubfield frn NO_SUBFIELD) 0 bytes

-- a row that isn't named has no octet
abbrev pub named_at : (ℕ → Form → List ℕ → Result ℕ ItemFault) → List ℕ → ℕ → Form → List ℕ → Result ℕ ItemFault
named_at item_at presence number form bytes = if is_named presence number then item_at number form bytes else Ok 0

-- the places of what the presence octets name, and where they end
unfoldable pub spans_at : (ℕ → Form → List ℕ → Result ℕ ItemFault) → List ℕ → ℕ → ℕ → List Form → List ℕ → Result (List Span × ℕ) ItemFault
spans_at item_at presence number at [] bytes = Ok ([], at)
spans_at item_at presence number at (form ∷ forms) bytes = do
  size ← named_at item_at presence number form bytes
  others ← spans_at item_at presence (number + 1) (at + size) forms (drop size bytes)
  Ok (record { at = at; len = size } ∷ others.0, others.1)

abbrev pub end_of : Result (List Span × ℕ) ItemFault → Result ℕ ItemFault
end_of read = read >>= λ found. Ok found.1

-- a compound item: its primary octets, then its subfields
unfoldable pub compound_at : ℕ → List Form → List ℕ → Result ℕ ItemFault
compound_at frn rows bytes = do
  primary ← primary_at frn (length rows) bytes
  end_of (spans_at (λ number. simple_at frn) (take primary bytes) 1 primary rows (drop primary bytes))

abbrev pub item_at : List Form → ℕ → Form → List ℕ → Result ℕ ItemFault
item_at subs frn (Compound first count) bytes = compound_at frn (rows_of subs first count) bytes
item_at subs frn Spare bytes = simple_at frn Spare bytes
item_at subs frn (Fixed size) bytes = simple_at frn (Fixed size) bytes
item_at subs frn (Extended size) bytes = simple_at frn (Extended size) bytes
item_at subs frn Explicit bytes = simple_at frn Explicit bytes
item_at subs frn (Repeat size) bytes = simple_at frn (Repeat size) bytes

-- an item past the table's end is spare
abbrev pub no_more : Option ℕ → Result ℕ ItemFault
no_more None = Ok 0
no_more (Some frn) = Err (SpareItem frn)

-- the items' places, and the record's length
unfoldable pub record_at : List Form → List Form → List ℕ → Result (List Span × ℕ) ItemFault
record_at uap subs bytes = do
  fspec ← fspec_at bytes
  items ← spans_at (item_at subs) (take fspec bytes) 1 fspec uap (drop fspec bytes)
  none ← no_more (first_named (take fspec bytes) (MOST_ITEMS - length uap) (length uap + 1))
  Ok items

-- the first fault, where no record stands at the front
abbrev pub fault_of : {A : Type 0} → Result A ItemFault → Option ItemFault
fault_of (Ok x) = None
fault_of (Err fault) = Some fault

abbrev pub fault : List Form → List Form → List ℕ → Option ItemFault
fault uap subs bytes = fault_of (record_at uap subs bytes)

-- what a reader that writes places leaves and answers
abbrev pub Fills : List Span → Result ℕ ItemFault → Result (List Span × ℕ) ItemFault → Type 0
Fills spans (Ok end) read = read ≡ Ok (spans, end)
Fills spans (Err fault) read = read ≡ Err fault
