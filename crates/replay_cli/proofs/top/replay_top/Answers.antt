use Rattle.std.proofs.Common.{ap}
use Rattle.replay_cli.specs.Endings.{Ran, change, ran}
use Rattle.replay_cli.specs.Statuses.{Sunk, sunk}
use Rattle.command_words.specs.Words.{texts}
use Rattle.replay_cli.proofs.Ends.{alone_of, headline_of, judged_of, told_of, told_unread_of, whole_of}
use Rattle.replay_cli.proofs.top.replay_top.Goals as goal

pub returns-clause-headline : goal.returns-clause-headline
returns-clause-headline g c =
    let r : Ran = ran (g.W.World.files c.args.world.now) (texts c.args.words.now) (change (g.W.World.faults c.args.world.now) (g.W.World.faults c.replay-ending.new.world))
    (sunk (g.K.Sink.taken c.args.sinks.now.out) (g.K.Sink.taken c.replay-ending.new.out) (g.K.Sink.faults c.args.sinks.now.out) (g.K.Sink.faults c.replay-ending.new.out)) in
    let report : Sunk = sunk (g.K.Sink.taken c.args.sinks.now.report) (g.K.Sink.taken c.finish.new.report) (g.K.Sink.faults c.args.sinks.now.report) (g.K.Sink.faults c.finish.new.report) in
    headline_of r c.replay-ending.result c.finish.result report c.replay-ending.ensures.ends c.finish.ensures.finished
    (λ none. ap g.K.Sink.taken (c.replay-ending.ensures.unused none))

pub returns-clause-told : goal.returns-clause-told
returns-clause-told g c =
    let r : Ran = ran (g.W.World.files c.args.world.now) (texts c.args.words.now) (change (g.W.World.faults c.args.world.now) (g.W.World.faults c.replay-ending.new.world))
    (sunk (g.K.Sink.taken c.args.sinks.now.out) (g.K.Sink.taken c.replay-ending.new.out) (g.K.Sink.faults c.args.sinks.now.out) (g.K.Sink.faults c.replay-ending.new.out)) in
    let report : Sunk = sunk (g.K.Sink.taken c.args.sinks.now.report) (g.K.Sink.taken c.finish.new.report) (g.K.Sink.faults c.args.sinks.now.report) (g.K.Sink.faults c.finish.new.report) in
    told_of r c.replay-ending.result c.finish.result report c.replay-ending.ensures.ends c.finish.ensures.finished

pub returns-clause-judged : goal.returns-clause-judged
returns-clause-judged g c =
    let r : Ran = ran (g.W.World.files c.args.world.now) (texts c.args.words.now) (change (g.W.World.faults c.args.world.now) (g.W.World.faults c.replay-ending.new.world))
    (sunk (g.K.Sink.taken c.args.sinks.now.out) (g.K.Sink.taken c.replay-ending.new.out) (g.K.Sink.faults c.args.sinks.now.out) (g.K.Sink.faults c.replay-ending.new.out)) in
    let report : Sunk = sunk (g.K.Sink.taken c.args.sinks.now.report) (g.K.Sink.taken c.finish.new.report) (g.K.Sink.faults c.args.sinks.now.report) (g.K.Sink.faults c.finish.new.report) in
    judged_of r c.replay-ending.result c.finish.result report c.replay-ending.ensures.ends c.finish.ensures.finished

pub returns-clause-unopened : goal.returns-clause-unopened
returns-clause-unopened g c =
    let r : Ran = ran (g.W.World.files c.args.world.now) (texts c.args.words.now) (change (g.W.World.faults c.args.world.now) (g.W.World.faults c.replay-ending.new.world))
    (sunk (g.K.Sink.taken c.args.sinks.now.out) (g.K.Sink.taken c.replay-ending.new.out) (g.K.Sink.faults c.args.sinks.now.out) (g.K.Sink.faults c.replay-ending.new.out)) in
    let report : Sunk = sunk (g.K.Sink.taken c.args.sinks.now.report) (g.K.Sink.taken c.finish.new.report) (g.K.Sink.faults c.args.sinks.now.report) (g.K.Sink.faults c.finish.new.report) in
    told_unread_of r c.replay-ending.result c.finish.result report c.replay-ending.ensures.ends c.finish.ensures.finished

pub returns-clause-whole : goal.returns-clause-whole
returns-clause-whole g c =
    let r : Ran = ran (g.W.World.files c.args.world.now) (texts c.args.words.now) (change (g.W.World.faults c.args.world.now) (g.W.World.faults c.replay-ending.new.world))
    (sunk (g.K.Sink.taken c.args.sinks.now.out) (g.K.Sink.taken c.replay-ending.new.out) (g.K.Sink.faults c.args.sinks.now.out) (g.K.Sink.faults c.replay-ending.new.out)) in
    let report : Sunk = sunk (g.K.Sink.taken c.args.sinks.now.report) (g.K.Sink.taken c.finish.new.report) (g.K.Sink.faults c.args.sinks.now.report) (g.K.Sink.faults c.finish.new.report) in
    whole_of r c.replay-ending.result c.finish.result report c.replay-ending.ensures.ends c.finish.ensures.finished

pub returns-clause-alone : goal.returns-clause-alone
returns-clause-alone g c =
    let report : Sunk = sunk (g.K.Sink.taken c.args.sinks.now.report) (g.K.Sink.taken c.finish.new.report) (g.K.Sink.faults c.args.sinks.now.report) (g.K.Sink.faults c.finish.new.report) in
    alone_of c.replay-ending.result c.finish.result report c.finish.ensures.finished
