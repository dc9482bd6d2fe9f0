use Rattle.std.proofs.Common.{rules, ◌≡◌, ap, subst, ◌∙◌}
use Rattle.turn_lock.specs.Histories.{entries_of}
use Rattle.turn_lock.specs.Steps.{shown}
use Rattle.turn_lock.proofs.Joins.{joins, compares}
use Rattle.turn_lock.proofs.Calls.{seat_joined, last_joined}
use Rattle.turn_lock.proofs.turn.Turn.join.Goals as goal

pub join_seat-requires : goal.join_seat-requires
join_seat-requires g c =
    let idle = ap (λ s. s.holds) c.seat.view_is ∙ c.requires.idle.0 in
    let idles = ap (λ s. s.holds) c.ended.view_is ∙ c.requires.idle.1 in (
      search rules,
      search rules,
      c.ended.invariant.idle idles,
      search rules,
      joins _ _ _ _ c.seat.inside.seat.me.0 _ c.ended.inside.seat.me.0 c.seat.invariant.live c.ended.invariant.live (ap (λ s. s.actor) c.seat.view_is ∙ c.requires.first) idle idles,
    )

pub load-requires : goal.load-requires
load-requires g c = (search rules, search rules, compares _ _ _ _ _ c.join_seat.new.seat.me (ap (λ m. m.0.live) c.join_seat.ensures.2 ∙ c.seat.invariant.live))

pub invariant_of-seat : goal.invariant_of-seat
invariant_of-seat g c =
    seat_joined _ _ c.seat.inside.seat.me c.join_seat.new.seat.me c.load.new.seat.me _ c.ended.inside.seat.me.0 c.seat.invariant (ap (λ s. s.holds) c.seat.view_is ∙ c.requires.idle.0) c.join_seat.ensures.2 c.load.ensures.2.0 (c.load.ensures.2.2 _)

pub returns-clause-ended : goal.returns-clause-ended
returns-clause-ended g c =
    let seat = seat_joined _ c.load.new.seat.table_id c.seat.inside.seat.me c.join_seat.new.seat.me c.load.new.seat.me _ c.ended.inside.seat.me.0 c.seat.invariant (ap (λ s. s.holds) c.seat.view_is ∙ c.requires.idle.0) c.join_seat.ensures.2 c.load.ensures.2.0 (c.load.ensures.2.2 _) in
    let e = c.load.ensures.2.0 ∙ c.join_seat.ensures.2 in
    subst (λ s. entries_of s.actor c.load.new.seat.me.0.seen ≡ s.mine) c.ended.view_is
    (last_joined (shown c.load.new.seat.table_id c.load.new.seat.me.0) _ _ _ seat.accounts (ap (λ m. m.0.actor) e ∙ (ap (λ s. s.actor) c.seat.view_is ∙ c.requires.first)) (ap (λ m. m.0.joined) e))

pub returns-clause-accounts : goal.returns-clause-accounts
returns-clause-accounts g c =
    let seat = seat_joined _ c.load.new.seat.table_id c.seat.inside.seat.me c.join_seat.new.seat.me c.load.new.seat.me _ c.ended.inside.seat.me.0 c.seat.invariant (ap (λ s. s.holds) c.seat.view_is ∙ c.requires.idle.0) c.join_seat.ensures.2 c.load.ensures.2.0 (c.load.ensures.2.2 _) in seat.accounts
