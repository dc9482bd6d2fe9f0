-- The order of tracks' keys, and what a read past the last row would give.
use Rattle.std.proofs.Common.{false, pos, None}
use Rattle.std.specs.Cmp.{IsTotalOrder}
use Rattle.std.proofs.lemmas.Cmp.{nat_cmp_total, on_total, then_total}
use Rattle.track_motion.specs.declared.rank.Stamped.{Stamped}
use Rattle.track_motion.specs.declared.track.TrackKey.{TrackKey}
use Rattle.track_motion.specs.Keys.{key_cmp}

pub key_total : IsTotalOrder key_cmp
key_total = then_total (on_total (λ (k : TrackKey). k.sac) nat_cmp_total) (then_total (on_total (λ (k : TrackKey). k.sic) nat_cmp_total) (on_total (λ (k : TrackKey). k.number) nat_cmp_total))

abbrev pub no_row : Stamped
no_row = record {
  track = record {
    key = record { sac = 0; sic = 0; number = 0 };
    time = 0;
    x = pos 0;
    y = pos 0;
    vx = pos 0;
    vy = pos 0;
    level = None;
    altitude = None;
    rate = pos 0;
    code = None;
    tentative = false;
    simulated = false;
    ended = false;
  };
  feed = 0;
  place = 0;
  at = pos 0;
  window = 0;
}
