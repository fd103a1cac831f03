use Rattle.std.proofs.Common.{◌∙◌, sym, true, false, ◌≡◌}
use Rattle.odb_wire.proofs.Reading.{message_of-read, message_of-refused}
use Rattle.odb_wire.proofs.message.Message.read.Goals as goal

pub returns-in-Ok-clause-data : goal.returns-in-Ok-clause-data
returns-in-Ok-clause-data c = c.of.ensures.data ∙ sym (message_of-read _ _ c.in-Ok.ensures.ok.0 c.in-Ok.ensures.ok.1)

pub returns-else-is_memory-clause-data : goal.returns-else-is_memory-clause-data
returns-else-is_memory-clause-data c =
    sym (message_of-refused _ (c.in-Err.ensures.err (λ is. let is_memory : false ≡ true = c.if-is_memory.ensures.1 is in cc)))
