use Rattle.std.proofs.Common.{◌≡◌, ap, sym, ◌∙◌, subst}
use Rattle.turn_lock.proofs.Ends.{closes}
use Rattle.turn_lock.proofs.turn.Turn.close.Goals as goal

pub unwrap-value-requires : goal.unwrap-value-requires
unwrap-value-requires g c = let r = c.requires in
    let t = closes g.T.Logged.stands g.T.Logged.setting _ _ _ _ c.seat.inside.seat.me c.args.seat _ _ _ c.seat.invariant c.seat.view_is r.first r.idle r.joined c.close_with-closed.ensures.values.2 c.take.ensures.value in rw (t.1)

pub returns-clause-stands : goal.returns-clause-stands
returns-clause-stands g c = let r = c.requires in
    let t = closes g.T.Logged.stands g.T.Logged.setting _ _ _ _ c.seat.inside.seat.me c.args.seat _ _ _ c.seat.invariant c.seat.view_is r.first r.idle r.joined c.close_with-closed.ensures.values.2 c.take.ensures.value in
    let e : t.0 ≡ c.unwrap-value.result = cc (t.1, c.unwrap-value.ensures) in subst (λ x. g.T.Logged.stands x c.args.seat.seen) e t.2

pub returns-clause-setting : goal.returns-clause-setting
returns-clause-setting g c = let r = c.requires in
    let t = closes g.T.Logged.stands g.T.Logged.setting _ _ _ _ c.seat.inside.seat.me c.args.seat _ _ _ c.seat.invariant c.seat.view_is r.first r.idle r.joined c.close_with-closed.ensures.values.2 c.take.ensures.value in
    let e : t.0 ≡ c.unwrap-value.result = cc (t.1, c.unwrap-value.ensures) in sym (ap g.T.Logged.setting e) ∙ t.3
