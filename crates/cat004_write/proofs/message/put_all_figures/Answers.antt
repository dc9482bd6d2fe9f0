use Rattle.std.proofs.Common.{append_assoc}
use Rattle.cat004_write.proofs.message.put_all_figures.Goals as goal

pub returns : goal.returns
returns c =
    rw (c.put-7.ensures, c.put-6.ensures, c.put-5.ensures, c.put-4.ensures, c.put-3.ensures, c.put-2.ensures, c.put.ensures, c.put16-3.ensures, c.put16-2.ensures, c.put16.ensures, c.put24-3.ensures, c.put24-2.ensures, c.put24.ensures)
    (simp append_assoc)
