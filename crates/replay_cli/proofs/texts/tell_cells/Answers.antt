use Rattle.replay_cli.proofs.texts.tell_cells.Goals as goal

pub returns-clause-bytes : goal.returns-clause-bytes
returns-clause-bytes g c = rw (c.from.ensures, c.from-2.ensures) at c.tell_counts.ensures.bytes
