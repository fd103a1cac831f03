use mathlib.Core.Path.{◌∙◌}
use Rattle.odb_atoms.proofs.Represented.Entries.{elements_rise, includes_all-map_in, includes_all-set_in, pairs_rise}
use Rattle.odb_atoms.proofs.value.Value.includes.Goals as goal

pub includes-requires : goal.includes-requires
includes-requires c =
    let here = c.in-Set-Set in
    record { rising = elements_rise here.all here.ensures.in_order; wanted_rising = elements_rise here.wanted here.ensures'.in_order }

pub includes-requires-in-Map-Map : goal.includes-requires-in-Map-Map
includes-requires-in-Map-Map c =
    let here = c.in-Map-Map in
    record { rising = pairs_rise here.all here.ensures.in_order; wanted_rising = pairs_rise here.wanted here.ensures'.in_order }

pub returns-in-Set-Set : goal.returns-in-Set-Set
returns-in-Set-Set c =
    let here = c.in-Set-Set in
    c.includes.ensures ∙ includes_all-set_in here.all here.wanted _ _ here.ensures.in_order here.ensures'.in_order here.ensures.value here.ensures'.value

pub returns-in-Map-Map : goal.returns-in-Map-Map
returns-in-Map-Map c =
    let here = c.in-Map-Map in
    c.includes-in-Map-Map.ensures ∙ includes_all-map_in here.all here.wanted _ _ here.ensures.in_order here.ensures'.in_order here.ensures.value here.ensures'.value
