-- The first fault of octets that begin no record, over whole texts: all that stands before it is spelled, and there the grammar fails
-- (this project's profile). First come the FSPEC's octets, then the named items by rising number, and within a compound its primary
-- octets one by one, from bit 8 down, and then its subfields.
use Rattle.std.specs.Prelude.{◌≡◌, ℕ, zero, suc, ◌+◌, ◌-◌, ◌*◌, ◌/◌, ◌%◌, ◌<◌, ◌≤◌, ◌⊎◌, true, false, List, [], ◌∷◌, ◌++◌, length, take, slice_index, slice_index_or}
use Rattle.asterix_fields.specs.declared.sizes.TheConstants.{MOST_ITEMS, NO_SUBFIELD, PRESENCE_ROOM}
use Rattle.asterix_fields.specs.declared.tables.Form.{Form}
use Rattle.asterix_fields.specs.declared.tables.Form.TheVariants.{Spare, Fixed, Extended, Explicit, Repeat, Compound}
use Rattle.asterix_fields.specs.declared.fault.ItemFault.{ItemFault}
use Rattle.asterix_fields.specs.declared.fault.ItemFault.TheVariants.{LongFspec, PastEnd, SpareItem, SpareSubfield, ZeroLength}
use Rattle.asterix_fields.specs.Tables.{rows_of}
use Rattle.asterix_fields.specs.Spelling.{joined, is_named, IsPresence, IsSimple, Stands, Item}

-- each octet asks by bit 1 (FX) for another
abbrev pub AllAsk : List ℕ → Type 0
AllAsk [] = Unit {0}
AllAsk (octet ∷ rest) = (octet % 2 ≡ 1) × AllAsk rest

-- presence octets that end while the last of fewer than five asks for another
abbrev pub IsCut : List ℕ → Type 0
IsCut bytes = AllAsk bytes × (length bytes < PRESENCE_ROOM)

-- presence octets of which the fifth asks for another
abbrev pub IsLong : List ℕ → Type 0
IsLong bytes = AllAsk (take PRESENCE_ROOM bytes) × (PRESENCE_ROOM ≤ length bytes)

abbrev pub FspecFails : List ℕ → ItemFault → Type 0
FspecFails bytes fault = (IsCut bytes × (fault ≡ PastEnd 0)) ⊎ (IsLong bytes × (fault ≡ LongFspec))

-- no subfield past the item's rows is named
abbrev pub NamesRowsOnly : ℕ → List ℕ → Type 0
NamesRowsOnly rows octets = (number : ℕ) → rows < number → is_named octets number ≡ false

-- the first subfield that is named past the item's rows, in an octet that those before it ask for
pub record NamesSpare (rows : ℕ) (bytes : List ℕ) (number : ℕ) : Type 0 where
  pub named : is_named bytes number ≡ true
  pub past : rows < number
  pub first : (earlier : ℕ) → rows < earlier → earlier < number → is_named bytes earlier ≡ false
  pub few : number ≤ MOST_ITEMS
  pub asked_for : AllAsk (take ((number - 1) / 7) bytes)

abbrev pub PrimaryFails : ℕ → ℕ → List ℕ → ItemFault → Type 0
PrimaryFails frn rows bytes fault =
    ((number : ℕ) × NamesSpare rows bytes number × (fault ≡ SpareSubfield frn number))
    ⊎ ((IsCut bytes × NamesRowsOnly rows bytes × (fault ≡ PastEnd frn))
    ⊎ (IsLong bytes × NamesRowsOnly rows (take PRESENCE_ROOM bytes) × (fault ≡ SpareSubfield frn NO_SUBFIELD)))

-- whole parts that all ask for another, and then less than a part
abbrev pub ArePartsOnly : ℕ → List (List ℕ) → List ℕ → Type 0
ArePartsOnly size [] rest = length rest < size
ArePartsOnly size (part ∷ parts) rest = (length part ≡ size) × (slice_index part (size - 1) % 2 ≡ 1) × ArePartsOnly size parts rest

abbrev pub ExplicitFails : ℕ → List ℕ → ItemFault → Type 0
ExplicitFails frn [] fault = fault ≡ PastEnd frn
ExplicitFails frn (zero ∷ rest) fault = fault ≡ ZeroLength frn
ExplicitFails frn (suc more ∷ rest) fault = (length rest < more) × (fault ≡ PastEnd frn)

abbrev pub RepeatFails : ℕ → ℕ → List ℕ → ItemFault → Type 0
RepeatFails frn size [] fault = fault ≡ PastEnd frn
RepeatFails frn size (count ∷ groups) fault = (length groups < size * count) × (fault ≡ PastEnd frn)

-- where an item that isn't compound fails
abbrev pub SimpleFails : ℕ → Form → List ℕ → ItemFault → Type 0
SimpleFails frn Spare bytes fault = fault ≡ SpareItem frn
SimpleFails frn (Fixed size) bytes fault = (length bytes < size) × (fault ≡ PastEnd frn)
SimpleFails frn (Extended size) bytes fault =
    (parts : List (List ℕ)) × (rest : List ℕ) × ArePartsOnly size parts rest × (bytes ≡ joined parts ++ rest) × (fault ≡ PastEnd frn)
SimpleFails frn Explicit bytes fault = ExplicitFails frn bytes fault
SimpleFails frn (Repeat size) bytes fault = RepeatFails frn size bytes fault
SimpleFails frn (Compound first count) bytes fault = fault ≡ SpareItem frn

-- Behind presence octets each row before has its text, and the next row, which is named, fails on the rest. A row past the table is spare.
pub record RowFails (IsItem : Form → List ℕ → Type 0) (Fails : ℕ → Form → List ℕ → Type 0) (rows : List Form) (bytes : List ℕ) : Type 0 where
  pub presence : List ℕ
  pub octets : IsPresence presence
  pub before : List (List ℕ)
  pub each : (k : ℕ) → k < length before → Stands IsItem (is_named presence (k + 1)) (slice_index_or rows k Spare) (slice_index_or before k [])
  pub named : is_named presence (length before + 1) ≡ true
  pub rest : List ℕ
  pub whole : bytes ≡ presence ++ (joined before ++ rest)
  pub fails : Fails (length before + 1) (slice_index_or rows (length before) Spare) rest

-- the primary octets fail, or else a subfield does
abbrev pub CompoundFails : ℕ → List Form → List ℕ → ItemFault → Type 0
CompoundFails frn rows bytes fault =
    PrimaryFails frn (length rows) bytes fault
    ⊎ ((row : RowFails IsSimple (λ number form rest. SimpleFails frn form rest fault) rows bytes) × NamesRowsOnly (length rows) row.presence)

abbrev pub ItemFails : List Form → ℕ → Form → List ℕ → ItemFault → Type 0
ItemFails subs frn (Compound first count) bytes fault = CompoundFails frn (rows_of subs first count) bytes fault
ItemFails subs frn Spare bytes fault = SimpleFails frn Spare bytes fault
ItemFails subs frn (Fixed size) bytes fault = SimpleFails frn (Fixed size) bytes fault
ItemFails subs frn (Extended size) bytes fault = SimpleFails frn (Extended size) bytes fault
ItemFails subs frn Explicit bytes fault = SimpleFails frn Explicit bytes fault
ItemFails subs frn (Repeat size) bytes fault = SimpleFails frn (Repeat size) bytes fault

-- the FSPEC fails, or else an item does
abbrev pub IsFirstFault : List Form → List Form → List ℕ → ItemFault → Type 0
IsFirstFault uap subs bytes fault =
    FspecFails bytes fault ⊎ RowFails (Item subs) (λ frn form rest. ItemFails subs frn form rest fault) uap bytes
