use mathlib.Core.Path.{sym, ap, subst, ◌∙◌}
use Rattle.std.specs.Prelude.{[], ◌∷◌, map}
use Rattle.odb_atoms.specs.Value.{atoms, set_of}
use Rattle.odb_atoms.specs.Represented.Atom.{atom_of}
use Rattle.odb_atoms.specs.Represented.Value.{ascends, content_of}
use Rattle.odb_atoms.proofs.Represented.Entries.{as_element, as_pair, AreAscending-same, HaveAscendingKeys-same, map_in-same, set_in-same}
use Rattle.odb_atoms.proofs.Represented.Values.{one_in}
use Rattle.odb_atoms.proofs.value.Value.try_copy.Goals as goal

pub of_elements-requires : goal.of_elements-requires
of_elements-requires c = AreAscending-same c.in-Set.elements.items c.in_ok-elements-in-Set.elements.items (c.in_ok-elements-in-Set.ensures ∙ ap (map as_element) (c.of.ensures ∙ c.as_slice.ensures.value)) (subst ascends c.in-Set.is c.self.invariant)

pub of_pairs-requires : goal.of_pairs-requires
of_pairs-requires c = HaveAscendingKeys-same c.in-Map.pairs.items c.in_ok-pairs-in-Map.pairs.items (c.in_ok-pairs-in-Map.ensures ∙ ap (map as_pair) (c.of-in-Map.ensures ∙ c.as_slice-in-Map.ensures.value)) (subst ascends c.in-Map.is c.self.invariant)

pub returns-in_ok-try_copy-in-One : goal.returns-in_ok-try_copy-in-One
returns-in_ok-try_copy-in-One c =
    c.one.ensures ∙ ap (λ a. set_of (atoms (a ∷ []))) c.in_ok-try_copy-in-One.ensures
    ∙ sym (one_in (atom_of c.in-One.atom)) ∙ ap content_of (sym c.in-One.is) ∙ c.self.view_is

pub returns-in_ok-elements-in-Set : goal.returns-in_ok-elements-in-Set
returns-in_ok-elements-in-Set c =
    c.of_elements.ensures ∙ set_in-same _ c.in-Set.elements.items (c.in_ok-elements-in-Set.ensures ∙ ap (map as_element) (c.of.ensures ∙ c.as_slice.ensures.value))
    ∙ ap content_of (sym c.in-Set.is) ∙ c.self.view_is

pub returns-in_ok-pairs-in-Map : goal.returns-in_ok-pairs-in-Map
returns-in_ok-pairs-in-Map c =
    c.of_pairs.ensures ∙ map_in-same _ c.in-Map.pairs.items (c.in_ok-pairs-in-Map.ensures ∙ ap (map as_pair) (c.of-in-Map.ensures ∙ c.as_slice-in-Map.ensures.value))
    ∙ ap content_of (sym c.in-Map.is) ∙ c.self.view_is
