use Rattle.std.proofs.Common.{rules, ◌≡◌, sym, ◌∙◌}
use Rattle.odb_atoms.specs.Row.{declared}
use Rattle.odb_cond.specs.Condition.{equal}
use Rattle.odb_cond.proofs.Pins.{equal_there}
use Rattle.odb_tables.proofs.row_test.required.Goals as goal

pub returns-in-Equal : goal.returns-in-Equal
returns-in-Equal c u r h =
    let on : c.args.condition.now.column ≡ declared c.args.place = search rules in
    let is : c.args.condition.now.function ≡ equal = search rules in
    equal_there c.args.condition.now (declared c.args.place) on is u r h ∙ sym c.value.ensures
