use Rattle.std.proofs.Common.{rules, ◌∷◌, Some, ap, sym, refl, ◌∙◌, arith}
use Rattle.atomic_table.specs.Table.{rest}
use Rattle.turn_lock.proofs.Keeps.{loads, tries}
use Rattle.turn_lock.proofs.Calls.{seat_taken}
use Rattle.turn_lock.proofs.turn.Turn.take.Goals as goal

pub load-loaded-requires : goal.load-loaded-requires
load-loaded-requires g c = (search rules, search rules, loads _ _ _ _ _ _ c.seat.invariant.live)

pub compare_exchange-found-requires : goal.compare_exchange-found-requires
compare_exchange-found-requires g c = (
  search rules,
  search rules,
  tries _ _ _ _ _ _ _ _ (ap (λ m. m.0.live) c.load-loaded.ensures.2 ∙ c.seat.invariant.live) (omega arith) refl,
)

pub exchange-requires : goal.exchange-requires
exchange-requires g c = let t = c.compare_exchange-found.ensures.2.0 c.if-found-free.false in
    (search rules, (Some t.value, t.slot ∙ ap (λ l. (0, Some t.value) ∷ l) (sym (ap rest t.slot))))

pub invariant_of-seat-2 : goal.invariant_of-seat-2
invariant_of-seat-2 g c = let t = c.compare_exchange-found.ensures.2.0 c.if-found-free.false in
    rw (sym c.if-found-free.false) (seat_taken g.T.Logged.stands g.T.Logged.setting _ _ _ _ _ _ _ _ _ c.seat.invariant c.load-loaded.ensures.2 t c.exchange.ensures.3)

pub returns-clause-accounts : goal.returns-clause-accounts
returns-clause-accounts g c = let t = c.compare_exchange-found.ensures.2.0 c.if-found-free.false in
    let seat = seat_taken g.T.Logged.stands g.T.Logged.setting _ c.exchange.new.seat.table_id _ _ _ _ _ _ _ c.seat.invariant c.load-loaded.ensures.2 t c.exchange.ensures.3 in seat.accounts
