use Rattle.std.proofs.Common.{◌∙◌, sym, arith}
use Rattle.asterix_fields.proofs.Steps.{primary_start, primary_spare, primary_last, primary_fifth, primary_next, primary_past}
use Rattle.asterix_fields.proofs.presence.primary_length.Goals as goal

pub loop-index-init : goal.loop-index-init
loop-index-init c = record { few = omega arith; same = primary_start c.args.frn c.args.rows c.args.bytes.now }

pub returns-in-Some-clause-value : goal.returns-in-Some-clause-value
returns-in-Some-clause-value c =
    sym (primary_spare c.args.frn c.args.rows c.args.bytes.now c.loop-index.index c.in-Some.number (omega arith) (cc)) ∙ c.loop-index.invariant.same

pub returns-then-octet-eq0-clause-value : goal.returns-then-octet-eq0-clause-value
returns-then-octet-eq0-clause-value c =
    sym (primary_last c.args.frn c.args.rows c.args.bytes.now c.loop-index.index (omega arith) (cc) (omega arith)) ∙ c.loop-index.invariant.same

pub returns-then-index-eq-PRESENCE_ROOM-clause-value : goal.returns-then-index-eq-PRESENCE_ROOM-clause-value
returns-then-index-eq-PRESENCE_ROOM-clause-value c =
    sym (primary_fifth c.args.frn c.args.rows c.args.bytes.now c.loop-index.index (omega arith) (cc) c.if-octet-eq0.false c.if-index-eq-PRESENCE_ROOM.true) ∙ c.loop-index.invariant.same

pub loop-index-preserved : goal.loop-index-preserved
loop-index-preserved c = record {
  few = omega arith;
  same = sym (primary_next c.args.frn c.args.rows c.args.bytes.now c.loop-index.index (omega arith) (cc) c.if-octet-eq0.false c.if-index-eq-PRESENCE_ROOM.false) ∙ c.loop-index.invariant.same;
}

pub returns-clause-value : goal.returns-clause-value
returns-clause-value c =
    sym (primary_past c.args.frn c.args.rows c.args.bytes.now c.loop-index.index (omega arith)) ∙ c.loop-index.invariant.same
