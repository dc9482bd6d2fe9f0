use Rattle.std.proofs.Common.{append_assoc}
use Rattle.std.proofs.Common.{w64}
use Rattle.std.proofs.lemmas.Int.{to_z-of_z}
use Rattle.cat004_write.specs.Messages.{message}
use Rattle.cat004_write.proofs.message.write_event.Goals as goal

pub returns-clause-bytes : goal.returns-clause-bytes
unfolding message
returns-clause-bytes c =
    rw (c.finish.ensures.bytes, c.put_special.ensures, c.put_second_track.ensures, c.put_conflict.ensures, c.put-6.ensures, c.put-5.ensures, c.put-4.ensures, c.put-3.ensures, c.put-2.ensures, c.put.ensures, c.put16-2.ensures, c.put16.ensures, c.put24.ensures, c.time_of_day.ensures, to_z-of_z w64 c.args.time c.ranges.time, c.status_octet.ensures, c.message_type.ensures, c.field_specification.ensures, c.new-buffer.ensures)
    (simp append_assoc)
