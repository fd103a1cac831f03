use Rattle.std.proofs.Common.{◌∙◌}
use Rattle.odb_monitor.proofs.Pieces.{object_begun}
use Rattle.odb_monitor.proofs.joining.Joining.new.Goals as goal

pub returns : goal.returns
returns c = λ n first. c.in_ok-text.ensures.items ∙ object_begun
