use Rattle.std.proofs.Common.{◌≡◌, ◌++◌, flat_map, map, take}
use Rattle.odb_monitor.specs.Represented.Form.{column_tokens, named_by}
use Rattle.odb_request.specs.Represented.Parts.{monitored_as}
use Rattle.odb_monitor.proofs.form.put_columns.Given as goal

abbrev pub invariant-loop-column : goal.invariant-loop-column
invariant-loop-column l = l.out ≡ l.initial.out ++ flat_map (column_tokens (named_by l.form)) (map (monitored_as l.columns) (take l.column-index l.named))
