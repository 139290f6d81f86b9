-- `header_write::write_long_start` meets its contract: the length stands in the header, or behind it.
-- Assumes nothing.
use Rattle.objects.proofs.HeaderForms.{long_own, long_behind}
use Rattle.objects.proofs.header_write.write_long_start.Goals as goal

pub returns-then-length-lt-ESCAPE : goal.returns-then-length-lt-ESCAPE
returns-then-length-lt-ESCAPE c = let a = c.args in
    rw (long_own a.kind a.compound a.length c.if-length-lt-ESCAPE.true, ← c.start_number-x.ensures) c.write_number.ensures

pub returns : goal.returns
returns c = let a = c.args in
    rw (long_behind a.kind a.compound a.length c.if-length-lt-ESCAPE.false, ← c.start_number-x-2.ensures) c.write_lengthened.ensures
