-- The keys of movers rise, as those of their rows.
use Rattle.std.proofs.Common.{◌≡◌, pos, Bool, true, false, cond, List, map, Option, Some, None, ℤ, refl, ap, sym, ◌∙◌}
use Rattle.std.specs.List.{filter_map}
use Rattle.std.specs.List.Sorted.{IsStrictlySortedBy}
use Rattle.std.specs.Option.{option_and_then, option_map}
use Rattle.site_types.specs.declared.net.Net.{Net}
use Rattle.site_types.specs.declared.net.Net.TheVariants.{Apm, Apw, Msaw}
use Rattle.site_types.specs.declared.site.Site.{Site}
use Rattle.track_motion.specs.declared.motion.Motion.{Motion}
use Rattle.track_motion.specs.declared.rank.Stamped.{Stamped}
use Rattle.track_motion.specs.declared.track.TrackKey.{TrackKey}
use Rattle.track_motion.specs.Keys.{key_cmp}
use Rattle.track_motion.specs.Motions.{motion_at}
use Rattle.track_table.specs.declared.table.Frozen.{Frozen}
use Rattle.cycle_workers.specs.declared.movers.Mover.{Mover}
use Rattle.cycle_workers.specs.Eligible.{if_enabled, is_enabled, is_watched, mover_of, movers, set_of, watched, watched_of}
use Rattle.cycle_workers.specs.Hits.{hits_among}
use Rattle.cycle_workers.specs.Settings.{Setting}
use Rattle.cycle_workers.proofs.Found.{found_again, rise_found}

-- any row
abbrev pub no_row : Stamped
no_row = record {
  track = record {
    key = record { sac = 0; sic = 0; number = 0 };
    time = 0;
    x = pos 0;
    y = pos 0;
    vx = pos 0;
    vy = pos 0;
    level = None;
    altitude = None;
    rate = pos 0;
    code = None;
    tentative = false;
    simulated = false;
    ended = false;
  };
  feed = 0;
  place = 0;
  at = pos 0;
  window = 0;
}

-- the mover of a row with this motion
abbrev made : Site → Stamped → Motion → Mover
made site row motion = record { key = row.track.key; motion = motion; set = set_of site motion }

made_tells : (site : Site) (row : Stamped) (m : Mover) (motion : Option Motion) → option_map (made site row) motion ≡ Some m → m.key ≡ row.track.key
made_tells site row m None is = absurd (cc)
made_tells site row m (Some motion) is =
    let same : made site row motion ≡ m = cc in
    sym (ap (λ (x : Mover). x.key) same)

watched_tells_at : (site : Site) (row : Stamped) (m : Mover) (motion : Option Motion) (watched : Bool) → cond watched (option_map (made site row) motion) None ≡ Some m → m.key ≡ row.track.key
watched_tells_at site row m motion true is = made_tells site row m motion is
watched_tells_at site row m motion false is = absurd (cc)

watched_tells : (site : Site) (time : ℤ) (row : Stamped) (m : Mover) → watched_of site time row ≡ Some m → m.key ≡ row.track.key
watched_tells site time row m is = watched_tells_at site row m (motion_at row time) (is_watched site row.track) is

enabled_is : (w m : Mover) (enabled : Bool) → cond enabled (Some w) None ≡ Some m → w ≡ m
enabled_is w m true is = cc
enabled_is w m false is = absurd (cc)

mover_tells_at : (site : Site) (net : Net) (key : TrackKey) (m : Mover) (o : Option Mover) → ((w : Mover) → o ≡ Some w → w.key ≡ key) → option_and_then (if_enabled site net) o ≡ Some m → m.key ≡ key
mover_tells_at site net key m None tells is = absurd (cc)
mover_tells_at site net key m (Some w) tells is = sym (ap (λ (x : Mover). x.key) (enabled_is w m (is_enabled site net w.set) is)) ∙ tells w refl

mover_tells : (site : Site) (net : Net) (time : ℤ) (row : Stamped) (m : Mover) → mover_of site net time row ≡ Some m → m.key ≡ row.track.key
mover_tells site net time row m is = mover_tells_at site net row.track.key m (watched_of site time row) (watched_tells site time row) is

pub movers_rise : (site : Site) (net : Net) (frozen : Frozen) → IsStrictlySortedBy key_cmp (map (λ r. r.track.key) frozen.rows) → IsStrictlySortedBy key_cmp (map (λ m. m.key) (movers site net frozen))
movers_rise site net frozen up = rise_found key_cmp (λ (r : Stamped). r.track.key) (λ (m : Mover). m.key) (mover_of site net frozen.time) (mover_tells site net frozen.time) frozen.rows up

-- those of the watched rows whose set enables the net are eligible
pub eligible_are : (site : Site) (net : Net) (frozen : Frozen) → filter_map (if_enabled site net) (watched site frozen) ≡ movers site net frozen
eligible_are site net frozen = found_again (watched_of site frozen.time) (if_enabled site net) frozen.rows

pub eligible_of : (site : Site) (net : Net) (frozen : Frozen) (all found : List Mover) → all ≡ watched site frozen → found ≡ filter_map (if_enabled site net) all → found ≡ movers site net frozen
eligible_of site net frozen all found made is = is ∙ ap (filter_map (if_enabled site net)) made ∙ eligible_are site net frozen

-- hits among the same rows of each net
pub among_same : (s : Setting) (time : ℤ) (f g : Net → List Mover) → ((net : Net) → f net ≡ g net) → hits_among s time f ≡ hits_among s time g
among_same s time f g same = rw (same Msaw, same Apw, same Apm) refl
