use mathlib.Core.Path.{◌∙◌}
use Rattle.odb_cond.proofs.Searches.{found, none_in_map}
use Rattle.odb_cond.proofs.keyed.Keyed.holds_of.Goals as goal

pub returns-in-Set : goal.returns-in-Set
returns-in-Set c = c.is_found_in.ensures ∙ found c.args.self.now.is_equality c.args.self.now.atoms c.in-Set.elements c.args.value.now c.in-Set.ensures.listed

pub returns-in-Map : goal.returns-in-Map
returns-in-Map c = none_in_map c.args.self.now.is_equality c.args.self.now.atoms c.in-Map.field-0 c.args.value.now c.in-Map.ensures.listed
