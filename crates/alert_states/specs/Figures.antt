-- Figures that messages have octets for (this project's profile).
use Rattle.std.specs.Prelude.{◌^◌, ◌<◌, List, All, IfSome}
use Rattle.alert_states.specs.declared.event.Event.{Event}
use Rattle.alert_states.specs.declared.event.Hit.{Hit}
use Rattle.alert_states.specs.declared.event.HitData.{HitData}

-- the figures of a hit that are written in three octets fit them
abbrev pub FitsOctets : HitData → Type 0
FitsOctets hit = (hit.first < 2 ^ 24) × (hit.closest < 2 ^ 24) × (hit.chs < 2 ^ 24)

-- so it is for each hit of a cycle
abbrev pub AreInRoom : List Hit → Type 0
AreInRoom hits = All (λ h. FitsOctets h.figures) hits

-- and for the hit that an event carries
abbrev pub FitsMessage : Event → Type 0
FitsMessage e = IfSome e.hit FitsOctets
