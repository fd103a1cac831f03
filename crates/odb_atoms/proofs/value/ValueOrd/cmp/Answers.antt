use mathlib.Core.Path.{◌∙◌}
use Rattle.odb_atoms.proofs.Represented.Orders.{value_cmp-map_in, value_cmp-set_in}
use Rattle.odb_atoms.proofs.value.ValueOrd.cmp.Goals as goal

pub returns-in-Set-Set : goal.returns-in-Set-Set
returns-in-Set-Set c =
    let here = c.in-Set-Set in
    c.compare.ensures ∙ value_cmp-set_in here.left here.right _ _ here.ensures.in_order here.ensures'.in_order here.ensures.value here.ensures'.value

pub returns-in-Map-Map : goal.returns-in-Map-Map
returns-in-Map-Map c =
    let here = c.in-Map-Map in
    c.compare-in-Map-Map.ensures ∙ value_cmp-map_in here.left here.right _ _ here.ensures.in_order here.ensures'.in_order here.ensures.value here.ensures'.value
