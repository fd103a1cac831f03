use mathlib.Core.Path.{◌∙◌}
use Rattle.odb_cond.specs.Represented.Clause.{test_of}
use Rattle.odb_cond.proofs.Relations.{compares-listed}
use Rattle.odb_cond.proofs.clause.Function.compares.Goals as goal

pub returns-in-Set-Set : goal.returns-in-Set-Set
returns-in-Set-Set c =
    let here = c.in-Set-Set in
    c.holds_of_some.ensures ∙ compares-listed (test_of c.args.self) here.atoms here.others _ _ here.ensures.listed here.ensures'.listed
