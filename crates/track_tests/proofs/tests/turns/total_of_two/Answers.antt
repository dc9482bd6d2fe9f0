use Rattle.std.proofs.Common.{◌≡◌, ℕ, ap, subst, ◌∙◌, arith}
use Rattle.std.specs.List.{sum_by}
use Rattle.turn_lock.specs.Histories.{entries_of}
use Rattle.turn_lock.proofs.SeatSums.{sum_is_of_seats}
use Rattle.track_tests.proofs.tests.turns.total_of_two.Goals as goal

pub returns : goal.returns
returns c =
    let e = c.join.ensures in let s = c.join.new.seat in let n = c.requires.numbers in
    let first : s.actor ≡ 0 = ap (λ x. x.actor) e.joined ∙ n.0 in
    let made : s.made ≡ 2 = ap (λ x. x.made) e.joined ∙ c.requires.made.0 in
    let mine : entries_of 0 s.seen ≡ c.args.first.mine = subst (λ a. entries_of a s.seen ≡ s.mine) first e.accounts.own ∙ ap (λ x. x.mine) e.joined in
    let theirs : entries_of 1 s.seen ≡ c.args.second.mine = subst (λ a. entries_of a s.seen ≡ c.args.second.mine) (n.1) e.ended in
    let all = sum_is_of_seats 2 s.seen (λ a far. e.accounts.unmade first a (omega arith)) in
    let one = ap (sum_by (λ (entry : ℕ × ℕ). entry.1)) mine in
    let two = ap (sum_by (λ (entry : ℕ × ℕ). entry.1)) theirs in omega (arith, c.close.ensures.stands)
