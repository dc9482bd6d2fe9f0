-- What octets spell an item, and what they spell a record: by form, over whole texts (ASTERIX Part 1: data fields, FSPEC, compound data items).
use Rattle.std.specs.Prelude.{◌≡◌, ℕ, ◌+◌, ◌-◌, ◌*◌, ◌/◌, ◌%◌, ◌^◌, ◌<◌, ◌≤◌, ◌==◌, Bool, true, false, List, [], ◌∷◌, ◌++◌, length, take, drop, map, slice_index, slice_index_or}
use Rattle.asterix_fields.specs.declared.sizes.TheConstants.{PRESENCE_ROOM}
use Rattle.asterix_fields.specs.declared.tables.Form.{Form}
use Rattle.asterix_fields.specs.declared.tables.Form.TheVariants.{Spare, Fixed, Extended, Explicit, Repeat, Compound}
use Rattle.asterix_fields.specs.declared.places.Span.{Span}
use Rattle.asterix_fields.specs.Tables.{rows_of}

-- texts, one after the other
abbrev pub joined : List (List ℕ) → List ℕ
joined [] = []
joined (text ∷ texts) = text ++ joined texts

-- one octet or more; bit 1 (FX) is set in all but the last
abbrev pub IsChain : List ℕ → Type 0
IsChain [] = ⊥
IsChain (octet ∷ []) = octet % 2 ≡ 0
IsChain (octet ∷ next ∷ rest) = (octet % 2 ≡ 1) × IsChain (next ∷ rest)

-- one to five octets that tell by bits 8 to 2 what is present: an FSPEC, or a primary subfield
abbrev pub IsPresence : List ℕ → Type 0
IsPresence octets = IsChain octets × (length octets ≤ PRESENCE_ROOM)

-- whether presence octets name a number: bits 8 to 2 of octet j, from 1, are the numbers 7 * (j - 1) + 1 to 7 * j
abbrev pub is_named : List ℕ → ℕ → Bool
is_named octets number = slice_index octets ((number - 1) / 7) / 2 ^ (7 - (number - 1) % 7) % 2 == 1

-- one part or more, of so many octets each; bit 1 (FX) of a part's last octet is set in all parts but the last
abbrev pub AreParts : ℕ → List (List ℕ) → Type 0
AreParts size [] = ⊥
AreParts size (part ∷ []) = (length part ≡ size) × (slice_index part (size - 1) % 2 ≡ 0)
AreParts size (part ∷ next ∷ rest) = (length part ≡ size) × (slice_index part (size - 1) % 2 ≡ 1) × AreParts size (next ∷ rest)

-- a length octet that counts itself, and the rest
abbrev pub IsExplicit : List ℕ → Type 0
IsExplicit [] = ⊥
IsExplicit (size ∷ rest) = (1 ≤ size) × (size ≡ length (size ∷ rest))

-- a count (REP), and so many groups of so many octets
abbrev pub IsRepeated : ℕ → List ℕ → Type 0
IsRepeated size [] = ⊥
IsRepeated size (count ∷ groups) = length groups ≡ size * count

-- the text spells an item of a form that isn't compound
abbrev pub IsSimple : Form → List ℕ → Type 0
IsSimple Spare text = ⊥
IsSimple (Fixed size) text = length text ≡ size
IsSimple (Extended size) text = (parts : List (List ℕ)) × AreParts size parts × (text ≡ joined parts)
IsSimple Explicit text = IsExplicit text
IsSimple (Repeat size) text = IsRepeated size text
IsSimple (Compound first count) text = ⊥

-- where a row of the table stands: a row that is named has a spelling there, any other row no octet
abbrev pub Stands : (Form → List ℕ → Type 0) → Bool → Form → List ℕ → Type 0
Stands IsItem true form text = IsItem form text
Stands IsItem false form text = text ≡ []

-- presence octets, and then what they name, in rising order, with nothing between or behind: one text for each row of a table
pub record Lays (IsItem : Form → List ℕ → Type 0) (rows : List Form) (bytes : List ℕ) (texts : List (List ℕ)) : Type 0 where
  pub presence : List ℕ
  pub octets : IsPresence presence
  pub only_rows : (number : ℕ) → length rows < number → is_named presence number ≡ false
  pub count : length texts ≡ length rows
  pub each : (k : ℕ) → k < length rows → Stands IsItem (is_named presence (k + 1)) (slice_index_or rows k Spare) (slice_index_or texts k [])
  pub whole : bytes ≡ presence ++ joined texts

-- the text spells an item of the form
abbrev pub Item : List Form → Form → List ℕ → Type 0
Item subs (Compound first count) text = (subfields : List (List ℕ)) × Lays IsSimple (rows_of subs first count) text subfields
Item subs Spare text = ⊥
Item subs (Fixed size) text = IsSimple (Fixed size) text
Item subs (Extended size) text = IsSimple (Extended size) text
Item subs Explicit text = IsSimple Explicit text
Item subs (Repeat size) text = IsSimple (Repeat size) text

-- the octets spell a record of these items: one for each FRN of the table from 1, an absent one without octets
abbrev pub Spells : List Form → List Form → List ℕ → List (List ℕ) → Type 0
Spells uap subs bytes items = Lays (Item subs) uap bytes items

-- where texts stand, one after the other, from an offset on
abbrev pub places : ℕ → List (List ℕ) → List Span
places at [] = []
places at (text ∷ texts) = record { at = at; len = length text } ∷ places (at + length text) texts

-- the text at an offset, of so many octets, and several such texts
abbrev pub text_at : List ℕ → Span → List ℕ
text_at bytes span = take span.len (drop span.at bytes)

abbrev pub texts_at : List ℕ → List Span → List (List ℕ)
texts_at bytes spans = map (text_at bytes) spans

-- the octets begin with a record of so many octets, whose items stand at these places
pub record IsWalk (uap subs : List Form) (bytes : List ℕ) (spans : List Span) (size : ℕ) : Type 0 where
  pub inside : size ≤ length bytes
  pub spelled : Spells uap subs (take size bytes) (texts_at bytes spans)
  pub in_order : spans ≡ places (length spelled.presence) (texts_at bytes spans)

-- each item of a walk is the text at its offset: an item that the FSPEC names has a spelling there, any other one has no octet
abbrev pub HasItems : {uap subs : List Form} {bytes : List ℕ} {spans : List Span} {size : ℕ} → IsWalk uap subs bytes spans size → Type 0
HasItems {uap} {subs} {bytes} {spans} walk = (k : ℕ) (d : Span) → k < length uap
    → Stands (Item subs) (is_named walk.spelled.presence (k + 1)) (slice_index_or uap k Spare) (text_at bytes (slice_index_or spans k d))

-- no text begins with two records
abbrev pub HasOneSpelling : List Form → List Form → Type 0
HasOneSpelling uap subs = (a b x y : List ℕ) (m n : List (List ℕ)) → Spells uap subs a m → Spells uap subs b n
    → a ++ x ≡ b ++ y → (a ≡ b) × (m ≡ n)
