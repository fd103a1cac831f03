use mathlib.Core.Path.{◌∙◌}
use Rattle.odb_atoms.proofs.Represented.Types.{has_kind-map_in, has_kind-set_in}
use Rattle.odb_atoms.proofs.value.Value.is_of_kind.Goals as goal

pub returns-in-Set-None : goal.returns-in-Set-None
returns-in-Set-None c =
    let here = c.in-Set-None in
    c.are_within.ensures ∙ has_kind-set_in c.args.column.now here.elements c.args.self.now here.is-1 here.ensures.in_order here.ensures.value

pub returns-in-Map-Some : goal.returns-in-Map-Some
returns-in-Map-Some c =
    let here = c.in-Map-Some in
    c.are_all_pairs_of.ensures ∙ has_kind-map_in c.args.column.now here.value here.pairs c.args.self.now here.is-1 here.ensures.in_order here.ensures.value
