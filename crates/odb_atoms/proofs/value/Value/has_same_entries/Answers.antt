use mathlib.Core.Path.{refl, ap, ◌∙◌}
use Rattle.std.specs.Ordering.{is_eq}
use Rattle.std.specs.Cmp.{both_tied}
use Rattle.std.specs.Cmp.Lexicographic.{lists_ties}
use Rattle.odb_atoms.specs.Atom.{atom_cmp}
use Rattle.odb_atoms.specs.Members.{pair_cmp}
use Rattle.odb_atoms.specs.Represented.Atom.{atom_of}
use Rattle.odb_atoms.specs.Represented.Value.{pair_of}
use Rattle.odb_atoms.proofs.Represented.Orders.{eq_by_cmp-value_cmp, value_cmp-map_in, value_cmp-set_in}
use Rattle.odb_atoms.proofs.value.Value.has_same_entries.Goals as goal

pub returns-in-Set-Set-clause-value : goal.returns-in-Set-Set-clause-value
returns-in-Set-Set-clause-value c =
    let here = c.in-Set-Set in
    c.is_same.ensures
    ∙ lists_ties (λ a b. atom_cmp (atom_of a) (atom_of b)) (λ x y. refl) here.left here.right
    ∙ ap is_eq (value_cmp-set_in here.left here.right _ _ here.ensures.in_order here.ensures'.in_order here.ensures.value here.ensures'.value)

pub returns-in-Set-Set-clause-same : goal.returns-in-Set-Set-clause-same
returns-in-Set-Set-clause-same c =
    let here = c.in-Set-Set in
    c.is_same.ensures
    ∙ lists_ties (λ a b. atom_cmp (atom_of a) (atom_of b)) (λ x y. refl) here.left here.right
    ∙ ap is_eq (value_cmp-set_in here.left here.right _ _ here.ensures.in_order here.ensures'.in_order here.ensures.value here.ensures'.value)
    ∙ eq_by_cmp-value_cmp c.args.self.now c.args.other.now

pub returns-in-Map-Map-clause-value : goal.returns-in-Map-Map-clause-value
returns-in-Map-Map-clause-value c =
    let here = c.in-Map-Map in
    c.is_same-in-Map-Map.ensures
    ∙ lists_ties (λ p q. pair_cmp (pair_of p) (pair_of q)) (λ x y. both_tied _ _ (atom_cmp (atom_of x.0) (atom_of y.0)) (atom_cmp (atom_of x.1) (atom_of y.1)) refl refl) here.left here.right
    ∙ ap is_eq (value_cmp-map_in here.left here.right _ _ here.ensures.in_order here.ensures'.in_order here.ensures.value here.ensures'.value)

pub returns-in-Map-Map-clause-same : goal.returns-in-Map-Map-clause-same
returns-in-Map-Map-clause-same c =
    let here = c.in-Map-Map in
    c.is_same-in-Map-Map.ensures
    ∙ lists_ties (λ p q. pair_cmp (pair_of p) (pair_of q)) (λ x y. both_tied _ _ (atom_cmp (atom_of x.0) (atom_of y.0)) (atom_cmp (atom_of x.1) (atom_of y.1)) refl refl) here.left here.right
    ∙ ap is_eq (value_cmp-map_in here.left here.right _ _ here.ensures.in_order here.ensures'.in_order here.ensures.value here.ensures'.value)
    ∙ eq_by_cmp-value_cmp c.args.self.now c.args.other.now
