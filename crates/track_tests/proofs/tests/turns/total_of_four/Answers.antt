use Rattle.std.proofs.Common.{◌∷◌, [], ◌++◌, ap, ◌∙◌}
use Rattle.turn_lock.proofs.SeatSums.{sum_of_four}
use Rattle.track_tests.proofs.tests.turns.total_of_four.Goals as goal

pub returns : goal.returns
returns c =
    let n = c.requires.numbers in let i = c.join.ensures.joined in let j = c.join-2.ensures.joined in let k = c.join-3.ensures.joined in
    c.close.ensures.stands
    ∙ sum_of_four c.join-3.new.seat c.args.first.mine c.args.second.mine c.args.third.mine c.args.fourth.mine c.args.first.joined c.args.second.actor c.args.third.actor c.args.fourth.actor c.join-3.ensures.accounts
    (ap (λ x. x.actor) k ∙ ap (λ x. x.actor) j ∙ ap (λ x. x.actor) i ∙ n.0)
    (ap (λ x. x.made) k ∙ ap (λ x. x.made) j ∙ ap (λ x. x.made) i ∙ c.requires.made.0)
    (ap (λ x. x.mine) k ∙ ap (λ x. x.mine) j ∙ ap (λ x. x.mine) i)
    (c.requires.made.1) (n.1) (n.2) (n.3)
    (ap (λ x. x.joined) k ∙ ap (λ x. x.joined ++ (c.args.fourth.actor, c.args.fourth.mine) ∷ []) j ∙ ap (λ x. (x.joined ++ (c.args.second.actor, c.args.second.mine) ∷ []) ++ (c.args.fourth.actor, c.args.fourth.mine) ∷ []) i)
