use mathlib.Core.Path.{sym, ap, ◌∙◌}
use Rattle.std.specs.Prelude.{is_some}
use Rattle.odb_atoms.specs.Represented.Atom.{atom_of}
use Rattle.odb_atoms.proofs.Represented.Entries.{elements_rise, has-map_in, has-set_in, is_some-option_map, pairs_rise}
use Rattle.odb_atoms.proofs.value.Value.contains.Goals as goal

pub find-requires : goal.find-requires
find-requires c = elements_rise c.in-Set.elements c.in-Set.ensures.in_order

pub find-requires-in-Map : goal.find-requires-in-Map
find-requires-in-Map c = pairs_rise c.in-Map.pairs c.in-Map.ensures.in_order

pub returns-in-Set : goal.returns-in-Set
returns-in-Set c =
    c.is_some.ensures ∙ sym (is_some-option_map _ _) ∙ ap is_some c.find.ensures
    ∙ has-set_in c.in-Set.elements c.args.self.now (atom_of c.args.atom.now) c.in-Set.ensures.in_order c.in-Set.ensures.value

pub returns-in-Map : goal.returns-in-Map
returns-in-Map c =
    c.is_some-in-Map.ensures ∙ sym (is_some-option_map _ _) ∙ ap is_some c.find-in-Map.ensures
    ∙ has-map_in c.in-Map.pairs c.args.self.now (atom_of c.args.atom.now) c.in-Map.ensures.in_order c.in-Map.ensures.value
