use Rattle.asterix_blocks.proofs.Framings.{bad_length-coming, rest_from}
use Rattle.asterix_blocks.proofs.cutting.Cutter.has_bad_length.Goals as goal

pub returns-in-BadLength-clause-bad : goal.returns-in-BadLength-clause-bad
returns-in-BadLength-clause-bad c more =
    bad_length-coming c.args.self.now _ _ c.self.inside.given c.self.inside.octets.items _ more _ c.self.view_is (rest_from _ _ c.self.inside.given c.deref.ensures.value) c.end_at.ensures c.in-BadLength.is
