use mathlib.Core.Path.{sym, ap, ◌∙◌}
use Rattle.odb_atoms.specs.First.{◌>>=◌}
use Rattle.std.proofs.Common.{map}
use Rattle.odb_atoms.specs.Represented.Atom.{atom_of}
use Rattle.odb_mutate.specs.Mutation.{set_of_results}
use Rattle.odb_mutate.specs.Represented.Mutation.{answered}
use Rattle.odb_mutate.proofs.Listed.{are_integers, calculated_set, lone_integer}
use Rattle.odb_mutate.proofs.mutation.calculate.Goals as goal

pub calculate_each-requires-clause-elements : goal.calculate_each-requires-clause-elements
calculate_each-requires-clause-elements c = are_integers c.of.result c.args.value.now c.of.ensures c.requires.integers

pub calculate_each-requires-clause-operand : goal.calculate_each-requires-clause-operand
calculate_each-requires-clause-operand c = lone_integer c.args.operand.now c.lone-operand.result.now c.lone-operand.ensures c.requires.integer

pub returns-in-Ok : goal.returns-in-Ok
returns-in-Ok c =
    c.set_of_results.ensures
    ∙ ap (λ r. ◌>>=◌ r set_of_results) (ap (answered (λ v. map atom_of v.items)) (sym c.in-Ok.is) ∙ c.in_ok-results.ensures.results)
    ∙ calculated_set c.args.operator c.of.result c.args.value.now c.args.operand.now c.lone-operand.result.now c.requires.integers.0 c.requires.integer.0 c.of.ensures c.lone-operand.ensures

pub returns-in-Err : goal.returns-in-Err
returns-in-Err c =
    ap (λ r. ◌>>=◌ r set_of_results) (ap (answered (λ v. map atom_of v.items)) (sym c.in-Err.is) ∙ c.in_ok-results.ensures.results)
    ∙ calculated_set c.args.operator c.of.result c.args.value.now c.args.operand.now c.lone-operand.result.now c.requires.integers.0 c.requires.integer.0 c.of.ensures c.lone-operand.ensures
