use Rattle.std.proofs.Common.{rules, pos}
use Rattle.std.proofs.lemmas.Result.{err_from_is_err_and}
use Rattle.site_fields.specs.Lists.{number_in}
use Rattle.site_fields.proofs.Each.{each-refused}
use Rattle.site_fields.proofs.lists.numbers_in.Goals as goal

pub returns-in_err-number_in-clause-fault : goal.returns-in_err-number_in-clause-fault
returns-in_err-number_in-clause-fault c =
    let p = err_from_is_err_and c.from_residual-in_err-number_in.result c.from_residual-in_err-number_in.ensures.1 in
    rw (p.1, p.2) (λ h. each-refused (number_in c.args.limits c.args.at) c.args.numbers.now c.loop-number.number-index (pos 0) c.loop-number.found.items _ c.loop-number-test.true c.loop-number.invariant.so_far (search rules))
