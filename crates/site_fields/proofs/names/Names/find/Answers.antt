use Rattle.std.specs.Str.{bytes_eq}
use Rattle.site_fields.proofs.Positions.{position-seen}
use Rattle.site_fields.proofs.names.Names.find.Goals as goal

pub returns-clause-place : goal.returns-clause-place
returns-clause-place c =
    let ks = c.self.inside.names.keys in
    rw (← c.self.view_is, position-seen (bytes_eq c.args.name.now) (λ k. k.now) ks) c.get_index_of.ensures.index
