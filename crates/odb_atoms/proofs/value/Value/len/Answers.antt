use mathlib.Core.Path.{sym, ap, ◌∙◌}
use Rattle.odb_atoms.specs.Value.{size}
use Rattle.odb_atoms.proofs.Represented.Values.{size-map_in, size-set_in}
use Rattle.odb_atoms.proofs.value.Value.len.Goals as goal

pub returns-in-Set : goal.returns-in-Set
returns-in-Set c = c.len.ensures ∙ sym (size-set_in _ c.in-Set.ensures.in_order) ∙ ap size c.in-Set.ensures.value

pub returns-in-Map : goal.returns-in-Map
returns-in-Map c = c.len-in-Map.ensures ∙ sym (size-map_in _ c.in-Map.ensures.in_order) ∙ ap size c.in-Map.ensures.value
