use mathlib.Core.Path.{◌∙◌}
use Rattle.odb_atoms.proofs.Represented.Entries.{elements_rise, excludes_all-map_in, excludes_all-set_in, pairs_rise}
use Rattle.odb_atoms.proofs.value.Value.excludes.Goals as goal

pub excludes-requires : goal.excludes-requires
excludes-requires c =
    let here = c.in-Set-Set in
    record { rising = elements_rise here.all here.ensures.in_order; unwanted_rising = elements_rise here.unwanted here.ensures'.in_order }

pub excludes-requires-in-Map-Map : goal.excludes-requires-in-Map-Map
excludes-requires-in-Map-Map c =
    let here = c.in-Map-Map in
    record { rising = pairs_rise here.all here.ensures.in_order; unwanted_rising = pairs_rise here.unwanted here.ensures'.in_order }

pub returns-in-Set-Set : goal.returns-in-Set-Set
returns-in-Set-Set c =
    let here = c.in-Set-Set in
    c.excludes.ensures ∙ excludes_all-set_in here.all here.unwanted _ _ here.ensures.in_order here.ensures'.in_order here.ensures.value here.ensures'.value

pub returns-in-Map-Map : goal.returns-in-Map-Map
returns-in-Map-Map c =
    let here = c.in-Map-Map in
    c.excludes-in-Map-Map.ensures ∙ excludes_all-map_in here.all here.unwanted _ _ here.ensures.in_order here.ensures'.in_order here.ensures.value here.ensures'.value
