use Rattle.std.proofs.Common.{rules, true, ◌≡◌, ◌∷◌, ◌++◌, [], Some, ap, sym, subst, ◌∙◌, length}
use Rattle.atomic_table.specs.Table.{rest}
use Rattle.turn_lock.proofs.Keeps.{gives_back}
use Rattle.turn_lock.proofs.Calls.{seat_given}
use Rattle.turn_lock.proofs.turn.Turn.give_as.Goals as goal

pub swap-requires : goal.swap-requires
swap-requires g c =
    let v = c.seat.inside.seat.me.0 in
    let view = c.seat.view_is in
    let holds : v.holds ≡ true = ap (λ s. s.holds) view ∙ c.requires.holds in
    let h = c.seat.invariant.holding holds in
    let up = c.next_word-next.ensures (length v.seen) (h.1) in (
      search rules,
      search rules,
      gives_back _ _ _ _ _ _ v g.A.Said.entry c.args.entry.now c.args.value _ (c.exchange-taken_out.ensures.3 ∙ ap (λ l. (v, (0, Some c.args.value) ∷ rest l)) h.0) c.requires.said (search rules) c.seat.invariant.live holds
          (subst (λ s. g.T.Logged.stands c.args.value (s.seen ++ (s.actor, c.args.entry.now) ∷ [])) (sym view) c.requires.stands)
          (c.requires.setting ∙ sym (ap (λ s. s.setting) view)) up,
    )

pub invariant_of-seat : goal.invariant_of-seat
invariant_of-seat g c = let t = c.swap.ensures.2 c.args.entry.now c.requires.said in
    seat_given _ _ c.seat.inside.seat.me c.exchange-taken_out.new.seat.me c.swap.new.seat.me _ _ c.args.entry.now c.seat.invariant (ap (λ m. m.0) c.exchange-taken_out.ensures.3) t.0 (t.1 _)

pub returns-clause-accounts : goal.returns-clause-accounts
returns-clause-accounts g c = let t = c.swap.ensures.2 c.args.entry.now c.requires.said in t.1 _
