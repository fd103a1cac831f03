use Rattle.std.proofs.Common.{arith}
use Rattle.odb_script.proofs.Lines.{next_taken}
use Rattle.odb_script.proofs.script.next_line.Goals as goal

pub returns-in-Ok-clause-line : goal.returns-in-Ok-clause-line
returns-in-Ok-clause-line g c =
    next_taken _ _ c.read_until.new.buf.items (let n = c.in-Ok.ensures.ok in let some = c.in-Ok.field-0-test.1 in let len = c.read_until.new.buf.ok.0 in grind (arith, n, some, len))
    (rw (c.new-line.ensures.items) at c.in-Ok.ensures.bytes) c.in-Ok.ensures.rest
