use Rattle.std.proofs.Common.{rules, ap, ◌∙◌}
use Rattle.turn_lock.proofs.Joins.{splits}
use Rattle.turn_lock.proofs.turn.Turn.split.Goals as goal

pub split_seat-made-requires : goal.split_seat-made-requires
split_seat-made-requires g c =
    (search rules, search rules, splits _ _ _ _ c.seat.inside.seat.me.0 c.seat.invariant.live (ap (λ s. s.actor) c.seat.view_is ∙ c.requires.first))
