use Rattle.std.proofs.Common.{rules, ◌≡◌}
use mathlib.Core.Path.{ap, sym, ◌∙◌}
use Rattle.odb_atoms.specs.Row.{declared}
use Rattle.odb_cond.specs.Condition as model
use Rattle.odb_cond.proofs.Pins.{equal_there}
use Rattle.odb_cond.proofs.clause.Clause.required.Goals as goal

pub returns : goal.returns
returns c =
    let asks : (c.args.self.now.column ≡ declared c.args.place) × (c.args.self.now.function ≡ model.equal) = search rules in
    λ u r holds. equal_there c.args.self.now (declared c.args.place) asks.0 asks.1 u r holds ∙ ap (λ k. k.value) (sym c.self.view_is)
