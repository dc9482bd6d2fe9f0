use Rattle.std.proofs.Common.{ap, ◌+◌, ◌≤◌, length, arith}
use Rattle.std.proofs.lemmas.Result.{err_from_is_err_and}
use Rattle.asterix_blocks.proofs.Framings.{Gives-found, Cuts-given, coming-none, coming-some, Cuts-all, rest_from}
use Rattle.asterix_blocks.proofs.cutting.Cutter.next.Goals as goal

pub returns-in_err-first_block-clause-memory : goal.returns-in_err-first_block-clause-memory
returns-in_err-first_block-clause-memory c =
    let p = err_from_is_err_and c.from_residual.result c.from_residual.ensures.1 in
    rw p.1 (coming-some c.args.self.now _ c.self.inside.given c.self.inside.octets.items _ c.self.view_is (rest_from _ _ c.self.inside.given c.deref.ensures.value) c.in_err-first_block.ensures.memory)

pub returns-in-None-clause-none : goal.returns-in-None-clause-none
returns-in-None-clause-none c =
    coming-none c.args.self.now _ c.self.inside.given c.self.inside.octets.items _ _ _ c.self.view_is (rest_from _ _ c.self.inside.given c.deref.ensures.value) c.in_ok-first_block.ensures.block c.in-None.is

pub returns-in-None-clause-all : goal.returns-in-None-clause-all
returns-in-None-clause-all c fed given h =
    Cuts-all c.args.self.now fed given (returns-in-None-clause-none c) h

pub returns-in-Some-clause-block : goal.returns-in-Some-clause-block
returns-in-Some-clause-block c =
    let inside : c.self.inside.given ≤ length c.self.inside.octets.items = omega (arith, c.self.invariant.0) in
    Gives-found c.args.self.now _ c.self.inside.given _ c.self.inside.octets.items _ _ c.in-Some.block c.self.view_is (rest_from _ _ c.self.inside.given c.deref.ensures.value) inside c.in_ok-first_block.ensures.block c.in-Some.is (ap (λ n. 3 + n) c.len-length.ensures)

pub returns-in-Some-clause-given : goal.returns-in-Some-clause-given
returns-in-Some-clause-given c fed given h =
    Cuts-given c.args.self.now _ c.in-Some.block fed given (returns-in-Some-clause-block c) h
