-- Presence octets as one number: at most five octets name 35 numbers, and the bit of worth 2^(35 - k) says whether they name k.
use Rattle.std.specs.Prelude.{◌≡◌, ℕ, ◌+◌, ◌-◌, ◌/◌, ◌%◌, ◌^◌, ◌<◌, ◌≤◌, ◌==◌, Bool, List, length, drop, Option, Result}
use Rattle.asterix_fields.specs.declared.sizes.TheConstants.{MOST_ITEMS, PRESENCE_ROOM}
use Rattle.asterix_fields.specs.declared.tables.Form.{Form}
use Rattle.asterix_fields.specs.declared.places.Span.{Span}
use Rattle.asterix_fields.specs.declared.fault.ItemFault.{ItemFault}
use Rattle.asterix_fields.specs.Spelling.{is_named}
use Rattle.asterix_fields.specs.Faults.{Fills, end_of, first_named, item_at, no_more, simple_at, spans_at}

abbrev pub has_bit : ℕ → ℕ → Bool
has_bit bits number = bits / 2 ^ (MOST_ITEMS - number) % 2 == 1

-- the bits of a number tell what presence octets name
pub record Tells (bits : ℕ) (octets : List ℕ) : Type 0 where
  pub few : length octets ≤ PRESENCE_ROOM
  pub below : bits < 2 ^ MOST_ITEMS
  pub each : (number : ℕ) → 1 ≤ number → number ≤ MOST_ITEMS → has_bit bits number ≡ is_named octets number

-- the same of the numbers behind one: bit k tells whether the octets name the k-th of these
pub record TellsBehind (from bits : ℕ) (octets : List ℕ) : Type 0 where
  pub few : length octets ≤ PRESENCE_ROOM
  pub below : bits < 2 ^ MOST_ITEMS
  pub each : (k : ℕ) → 1 ≤ k → k ≤ MOST_ITEMS → has_bit bits k ≡ is_named octets (from + k)

-- a number that presence octets can name, past so many rows
pub record IsPast (rows number : ℕ) : Type 0 where
  pub past : rows < number
  pub few : number ≤ MOST_ITEMS

-- the first number past so many rows that the bits name: whatever presence octets have these bits
abbrev pub FirstTold : ℕ → ℕ → Option ℕ → Type 0
FirstTold bits rows first = (octets : List ℕ) → Tells bits octets → first ≡ first_named octets (MOST_ITEMS - rows) (rows + 1)

-- the same of the items past a table of so many, of which the first named one is spare
abbrev pub NoMoreTold : ℕ → ℕ → Result ℕ ItemFault → Type 0
NoMoreTold bits items answer = (fspec : List ℕ) → Tells bits fspec → answer ≡ no_more (first_named fspec (MOST_ITEMS - items) (items + 1))

-- the places of the items that the bits name, the first at `start`, and where they end, or the first fault: whatever FSPEC has these bits
abbrev pub FillsTold : List Form → List Form → ℕ → ℕ → List ℕ → List Span → Result ℕ ItemFault → Type 0
FillsTold uap subs bits start bytes spans end =
    (fspec : List ℕ) → Tells bits fspec → Fills spans end (spans_at (item_at subs) fspec 1 start uap (drop start bytes))

-- the same of a compound's subfields, of which the end alone is asked for
abbrev pub EndsTold : ℕ → List Form → ℕ → ℕ → List ℕ → Result ℕ ItemFault → Type 0
EndsTold frn rows bits start bytes end =
    (presence : List ℕ) → Tells bits presence → end ≡ end_of (spans_at (λ number. simple_at frn) presence 1 start rows (drop start bytes))
