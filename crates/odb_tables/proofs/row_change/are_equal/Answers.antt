use Rattle.std.proofs.Common.{◌∙◌}
use Rattle.odb_tables.proofs.SameValues.{same_one_by_one}
use Rattle.odb_tables.proofs.row_change.are_equal.Goals as goal

pub returns : goal.returns
returns c = c.eq.ensures ∙ same_one_by_one c.args.old.now c.args.new.now
