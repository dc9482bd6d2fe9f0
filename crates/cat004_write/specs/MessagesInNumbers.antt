-- Messages in plain numerals (this project's profile after ASTERIX part 4): an example of each net.
use Rattle.std.specs.Prelude.{ℕ, ◌≡◌, ◌≤◌, [], ◌∷◌, Some, None}
use Rattle.track_motion.specs.declared.track.TrackKey.{TrackKey}
use Rattle.site_types.specs.declared.net.Net.TheVariants.{Stca, Msaw, Apw, Apm}
use Rattle.alert_states.specs.declared.event.Status.TheVariants.{First, Continuing, Ended}
use Rattle.alert_states.specs.declared.event.HitData.{HitData}
use Rattle.alert_states.specs.declared.event.Event.{Event}
use Rattle.alert_states.specs.Figures.{FitsOctets}
use Rattle.cat004_write.specs.Messages.{message}

-- tracks of SAC 25 and SIC 10
abbrev pub track : ℕ → TrackKey
track number = record { sac = 25; sic = 10; number = number }

abbrev pub no_track : TrackKey
no_track = record { sac = 0; sic = 0; number = 0 }

-- STCA's first alert: 8 s to the closest approach, the separations at the most that their octets hold, the flags 1 and 2
abbrev pub pair : Event
pair = record {
  subject = record { net = Stca; key = track 257; other = track 258; object = 0 };
  status = First;
  id = 0;
  hit = Some (record { first = 0; closest = 1024; chs = 16777215; mhs = 65535; cvs = 8; mvs = 9; flags = 3 });
}

-- MSAW's alert has ended
abbrev pub low : Event
low = record {
  subject = record { net = Msaw; key = track 257; other = no_track; object = 0 };
  status = Ended;
  id = 258;
  hit = None;
}

-- APW's first alert, in the second volume
abbrev pub inside : Event
inside = record {
  subject = record { net = Apw; key = track 257; other = no_track; object = 1 };
  status = First;
  id = 0;
  hit = Some (record { first = 0; closest = 0; chs = 0; mhs = 0; cvs = 0; mvs = 0; flags = 1 });
}

-- APM's alert goes on: below (4) and left (16) of funnel 515
abbrev pub off : Event
off = record {
  subject = record { net = Apm; key = track 257; other = no_track; object = 515 };
  status = Continuing;
  id = 65534;
  hit = Some (record { first = 513; closest = 0; chs = 0; mhs = 0; cvs = 0; mvs = 0; flags = 20 });
}

-- their octets, from SAC 25 and SIC 100: FSPEC, 010, 000, 020, 040, 045 and 030, 070, 035, and SP; the last two a day later, 256 ticks after midnight
pub record AreMessagesInNumbers : Type 0 where
  pub stca : message pair 4608512 25 100
      ≡ 221 ∷ 145 ∷ 66 ∷ 25 ∷ 100 ∷ 7 ∷ 70 ∷ 82 ∷ 0 ∷ 0 ∷ 0 ∷ 2 ∷ 1 ∷ 1 ∷ 252 ∷ 0 ∷ 0 ∷ 0 ∷ 0 ∷ 4 ∷ 0 ∷ 255 ∷ 255 ∷ 255 ∷ 255 ∷ 255 ∷ 0 ∷ 8 ∷ 0 ∷ 9 ∷ 1 ∷ 2 ∷ 7 ∷ 7 ∷ 25 ∷ 10 ∷ 25 ∷ 10 ∷ 3 ∷ []
  pub apm : message off 4608512 25 100
      ≡ 221 ∷ 145 ∷ 2 ∷ 25 ∷ 100 ∷ 8 ∷ 70 ∷ 82 ∷ 0 ∷ 255 ∷ 254 ∷ 4 ∷ 1 ∷ 1 ∷ 128 ∷ 0 ∷ 2 ∷ 1 ∷ 7 ∷ 8 ∷ 25 ∷ 10 ∷ 2 ∷ 3 ∷ 20 ∷ []
  pub msaw : message low 11059456 25 100
      ≡ 221 ∷ 129 ∷ 2 ∷ 25 ∷ 100 ∷ 4 ∷ 0 ∷ 1 ∷ 0 ∷ 1 ∷ 2 ∷ 6 ∷ 1 ∷ 1 ∷ 7 ∷ 4 ∷ 25 ∷ 10 ∷ 0 ∷ 0 ∷ 0 ∷ []
  pub apw : message inside 11059456 25 100
      ≡ 221 ∷ 145 ∷ 2 ∷ 25 ∷ 100 ∷ 5 ∷ 0 ∷ 1 ∷ 0 ∷ 0 ∷ 0 ∷ 2 ∷ 1 ∷ 1 ∷ 128 ∷ 0 ∷ 0 ∷ 0 ∷ 7 ∷ 5 ∷ 25 ∷ 10 ∷ 0 ∷ 1 ∷ 1 ∷ []

-- the figures that are written in three octets fit them up to 16,777,215
abbrev pub HasLastFigures : Type 0
HasLastFigures = (hit : HitData) → hit.first ≤ 16777215 → hit.closest ≤ 16777215 → hit.chs ≤ 16777215 → FitsOctets hit
