use Rattle.std.proofs.Common.{◌≡◌, ◌+◌, length, [], ◌∷◌, ◌++◌, ap, ◌∙◌, arith}
use Rattle.track_table.specs.Stamps.{clock_at_start, clock_of, stamp_of, stamps_of}
use Rattle.track_table.proofs.Feeds.{stamps_push}
use Rattle.track_table.proofs.laws.stamps_one_by_one.Goals as goal

pub returns-clause-stamps : goal.returns-clause-stamps
returns-clause-stamps c = λ start period feed tracks track.
    let place : 0 + length tracks ≡ length tracks = omega arith in
    stamps_push (clock_at_start start period) feed 0 tracks track
    ∙ ap (λ n. stamps_of start period feed tracks ++ stamp_of (clock_of start period tracks) feed n track ∷ []) place
