use Rattle.std.proofs.Common.{◌≡◌, ◌%◌, ◌*◌, ◌^◌, ◌<◌, arith}
use Rattle.std.proofs.lemmas.Nat.{and_mask}
use Rattle.std.proofs.Math.Pow.{pow-lt}
use Rattle.alert_states.proofs.entry.last.Goals as goal

pub returns : goal.returns
returns c =
    let below : c.args.cycles < 32 = omega (arith, c.requires) in
    let small : 2 ^ c.args.cycles < 2 ^ 32 = pow-lt below in
    let same : 1 * 2 ^ c.args.cycles % 4294967296 ≡ 2 ^ c.args.cycles = omega (arith, small) in
    rw same (and_mask c.args.hits c.args.cycles)
