use mathlib.Core.Path.{ap, ◌∙◌}
use Rattle.std.proofs.Common.{map, Ok}
use Rattle.std.proofs.lemmas.List.Folds.{list_all-map}
use Rattle.odb_atoms.specs.Atom.{integers}
use Rattle.odb_atoms.specs.ColType.{is_a}
use Rattle.odb_atoms.specs.Represented.Atom.{atom_of}
use Rattle.odb_mutate.proofs.Results.{distinct_results, equal_results}
use Rattle.odb_mutate.proofs.mutation.set_of_results.Goals as goal

pub returns-in-Ok : goal.returns-in-Ok
returns-in-Ok c =
    let of = list_all-map (is_a integers) atom_of c.args.results.items ∙ c.requires in
    ap Ok c.in-Ok.ensures.value ∙ distinct_results (map atom_of c.args.results.items) of c.in-Ok.ensures.fault

pub returns : goal.returns
returns c =
    let of = list_all-map (is_a integers) atom_of c.args.results.items ∙ c.requires in
    equal_results (map atom_of c.args.results.items) _ of c.in-Err.ensures.fault
