use Rattle.std.proofs.Common.{sym, ap, ◌∙◌}
use Rattle.std.specs.List.{list_any}
use Rattle.serde_json.specs.View.{view}
use Rattle.odb_front.specs.Writes.{is_write}
use Rattle.odb_front.proofs.Lists.{any_of}
use Rattle.odb_front.proofs.writes.has_writes.Goals as goal

pub returns : goal.returns
returns c = c.any_writes.ensures ∙ sym (any_of is_write view c.operations.result.now) ∙ ap (list_any is_write) c.operations.ensures
