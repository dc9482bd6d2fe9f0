-- The record of an event, item by item (this project's profile after ASTERIX part 4).
use Rattle.std.specs.Prelude.{ℕ, ◌+◌, ◌-◌, ◌*◌, ◌/◌, ◌%◌, ◌^◌, ◌≤◌, ◌==◌, nat_lt, List, [], ◌∷◌, ◌++◌, length, map, take, Option, Some, None, if◌then◌else◌}
use Rattle.std.specs.List.{list_any, sum_by}
use Rattle.asterix_fields.specs.Numbers.{octets}
use Rattle.track_motion.specs.declared.track.TheConstants.{TICKS_PER_DAY}
use Rattle.site_types.specs.declared.net.Net.{Net}
use Rattle.site_types.specs.declared.net.Net.TheVariants.{Stca, Msaw, Apw, Apm}
use Rattle.alert_states.specs.declared.event.Status.{Status}
use Rattle.alert_states.specs.declared.event.Status.TheVariants.{First, Continuing, Ended}
use Rattle.alert_states.specs.declared.event.HitData.{HitData}
use Rattle.alert_states.specs.declared.event.Subject.{Subject}
use Rattle.alert_states.specs.declared.event.Event.{Event}
use Rattle.cat004_write.specs.declared.message.Message.{Message}
use Rattle.cat004_write.specs.declared.message.TheConstants.{MESSAGE_ROOM}

-- item 000, the message type
abbrev pub message_type : Net → ℕ
message_type Msaw = 4
message_type Apw = 5
message_type Stca = 7
message_type Apm = 8

-- the FRNs of the items that a message has: 010, 000, 020, 040, 045 and 030, where there is a hit 070, in STCA 035, and SP
abbrev pub conflict_frn : Option HitData → List ℕ
conflict_frn (Some hit) = 11 ∷ []
conflict_frn None = []

abbrev pub second_track_frn : Net → List ℕ
second_track_frn Stca = 16 ∷ []
second_track_frn Msaw = []
second_track_frn Apw = []
second_track_frn Apm = []

abbrev pub frns_of : Event → List ℕ
frns_of e = 1 ∷ 2 ∷ 4 ∷ 5 ∷ 6 ∷ 8 ∷ conflict_frn e.hit ++ second_track_frn e.subject.net ++ 21 ∷ []

-- the bit of an FRN, if it stands in this octet of the FSPEC: bits 8 to 2 of octet j, from 0, are FRN 7 * j + 1 to 7 * j + 7
abbrev pub bit_in : ℕ → ℕ → ℕ
bit_in octet frn = if (frn - 1) / 7 == octet then 2 ^ (7 - (frn - 1) % 7) else 0

-- an octet of the FSPEC of these FRNs; its bit 1 says that another octet follows
abbrev pub fspec_octet : List ℕ → ℕ → ℕ
fspec_octet frns octet = sum_by (bit_in octet) frns + (if list_any (λ frn. nat_lt (7 * (octet + 1)) frn) frns then 1 else 0)

-- the FSPEC of a message: three octets, the last of which has the bit of SP
abbrev pub field_specification : Event → List ℕ
field_specification e = map (fspec_octet (frns_of e)) (0 ∷ 1 ∷ 2 ∷ [])

-- item 045, the alert's status (1 first, 2 continuing, 3 ended) in bits 4 to 2
abbrev pub status_octet : Status → ℕ
status_octet First = 2
status_octet Continuing = 4
status_octet Ended = 6

-- item 070: the time to conflict alone, or in STCA all six figures
abbrev pub conflict_of : Net → HitData → List ℕ
conflict_of Stca hit = 252 ∷ octets 3 hit.first ++ octets 3 hit.closest ++ octets 3 hit.chs ++ octets 2 hit.mhs ++ octets 2 hit.cvs ++ octets 2 hit.mvs
conflict_of Msaw hit = 128 ∷ octets 3 hit.first
conflict_of Apw hit = 128 ∷ octets 3 hit.first
conflict_of Apm hit = 128 ∷ octets 3 hit.first

abbrev pub conflict : Net → Option HitData → List ℕ
conflict net None = []
conflict net (Some hit) = conflict_of net hit

-- item 035, the second track's number, in STCA
abbrev pub second_track : Subject → Net → List ℕ
second_track s Stca = octets 2 s.other.number
second_track s Msaw = []
second_track s Apw = []
second_track s Apm = []

-- the two octets of SP that name what the alert is about beside its track
abbrev pub about : Subject → Net → List ℕ
about s Stca = s.other.sac ∷ s.other.sic ∷ []
about s Msaw = 0 ∷ 0 ∷ []
about s Apw = octets 2 s.object
about s Apm = octets 2 s.object

abbrev pub flags_of : Option HitData → ℕ
flags_of None = 0
flags_of (Some hit) = hit.flags

-- SP: its length, which counts itself, and then the message type, the track's source, what it is about, the flags
abbrev pub special_contents : Event → List ℕ
special_contents e = message_type e.subject.net ∷ e.subject.key.sac ∷ e.subject.key.sic ∷ about e.subject e.subject.net ++ flags_of e.hit ∷ []

abbrev pub special : Event → List ℕ
special e = (length (special_contents e) + 1) ∷ special_contents e

-- the message of an event at a time in ticks, from a source (010, 000, 020, 040, 045, 030, 070, 035, SP)
unfoldable pub message : Event → ℕ → ℕ → ℕ → List ℕ
message e time sac sic =
    field_specification e
    ++ sac ∷ sic ∷ message_type e.subject.net ∷ octets 3 (time % TICKS_PER_DAY)
    ++ octets 2 e.id
    ++ status_octet e.status ∷ octets 2 e.subject.key.number
    ++ conflict e.subject.net e.hit
    ++ second_track e.subject e.subject.net
    ++ special e

-- the octets of a message
abbrev pub message_length : Net → Option HitData → ℕ
message_length Stca (Some hit) = 39
message_length Stca None = 23
message_length net (Some hit) = 25
message_length net None = 21

-- there is room for so many more octets of a message
abbrev pub HasPlace : List ℕ → ℕ → Type 0
HasPlace octets more = length octets + more ≤ MESSAGE_ROOM

-- the octets of a message that was written
abbrev pub written : Message → List ℕ
written m = take m.len m.bytes
