use Rattle.std.proofs.Common.{◌≡◌, drop, find, map}
use Rattle.odb_atoms.specs.Row.{same_selector}
use Rattle.odb_cond.specs.Represented.Clause.{selector_of}
use Rattle.odb_json.specs.Represented.Row.{cell_of}
use Rattle.odb_ops.proofs.wait.given_for.Given as goal

abbrev pub invariant-loop-selector : goal.invariant-loop-selector
invariant-loop-selector l = find (λ e. same_selector e.0 (selector_of l.column)) (map cell_of l.given) ≡ find (λ e. same_selector e.0 (selector_of l.column)) (map cell_of (drop l.selector-index l.given))
