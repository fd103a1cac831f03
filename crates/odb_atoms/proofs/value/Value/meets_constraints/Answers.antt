use mathlib.Core.Path.{refl, ◌∙◌}
use Rattle.odb_atoms.proofs.Represented.Types.{meets_constraints-map_in, meets_constraints-set_in}
use Rattle.odb_atoms.proofs.value.Value.meets_constraints.Goals as goal

pub returns-in-Set : goal.returns-in-Set
returns-in-Set c = c.all_meet.ensures ∙ meets_constraints-set_in c.args.column.now c.in-Set.elements c.args.self.now c.in-Set.ensures.in_order c.in-Set.ensures.value

pub returns-in-Map : goal.returns-in-Map
returns-in-Map c =
    c.all_pairs_meet.ensures
    ∙ meets_constraints-map_in c.args.column.now c.as_ref.result _ c.unwrap_or-value.result c.in-Map.pairs c.args.self.now c.as_ref.ensures.value refl c.unwrap_or-value.ensures c.in-Map.ensures.in_order c.in-Map.ensures.value
