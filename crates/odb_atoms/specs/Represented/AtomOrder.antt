-- The laws of the order of atoms, which the impls of the comparisons state.
use Rattle.std.specs.Prelude.{◌≡◌, Some, refl}
use mathlib.Core.Path.{subst}
use Rattle.std.specs.declared.cmp.Ordering.{Ordering}
use Rattle.std.specs.declared.cmp.Ordering.TheVariants.{Less, Equal, Greater}
use Rattle.std.specs.Ordering.{nat_cmp, int_cmp, bool_cmp, on, then_cmp, ordering_then}
use Rattle.std.specs.Cmp.{IsEquivalence, IsPartialEquivalence, IsPartialOrder, IsTotalOrder, bool_cmp_total, eq_by_cmp_equiv, int_cmp_total, nat_cmp_total, on_total, partial_equiv_from_equiv, po, then_total}
use Rattle.std.specs.Cmp.Lexicographic.{nat_list_cmp_total}
use Rattle.odb_atoms.specs.Atom as model
use Rattle.odb_atoms.specs.Atom.{atom_cmp, same_atom, to_parts}
use Rattle.odb_atoms.specs.Text.{text_cmp}
use Rattle.odb_atoms.specs.Uuid.{uuid_cmp}
use Rattle.odb_atoms.specs.Represented.Atom.{atom_of}
use Rattle.odb_atoms.specs.declared.atom.Atom.{Atom}

-- by the kind's number, and then by each field of the parts
abbrev by_parts : model.Atom → model.Atom → Ordering
by_parts = then_cmp (on (λ a. (to_parts a).0) nat_cmp) (then_cmp (on (λ a. (to_parts a).1.0) int_cmp) (then_cmp (on (λ a. (to_parts a).1.1.0) bool_cmp) (then_cmp (on (λ a. (to_parts a).1.1.1.0) text_cmp) (on (λ a. (to_parts a).1.1.1.1) uuid_cmp))))

by_parts_total : IsTotalOrder by_parts
by_parts_total = then_total (on_total (λ a. (to_parts a).0) nat_cmp_total) (then_total (on_total (λ a. (to_parts a).1.0) int_cmp_total) (then_total (on_total (λ a. (to_parts a).1.1.0) bool_cmp_total) (then_total (on_total (λ a. (to_parts a).1.1.1.0) nat_list_cmp_total) (on_total (λ a. (to_parts a).1.1.1.1.number) nat_cmp_total))))

pub then_equal : (r : Ordering) → ordering_then r Equal ≡ r
then_equal Less = refl
then_equal Equal = refl
then_equal Greater = refl

as_parts : (a b : model.Atom) → by_parts a b ≡ atom_cmp a b
as_parts (model.integer x) (model.integer y) = then_equal (int_cmp x y)
as_parts (model.boolean x) (model.boolean y) = then_equal (bool_cmp x y)
as_parts (model.text x) (model.text y) = then_equal (text_cmp x y)
as_parts (model.uuid x) (model.uuid y) = refl
as_parts a b = refl

pub atom_cmp_total : IsTotalOrder atom_cmp
atom_cmp_total = subst IsTotalOrder (λ i a b. as_parts a b i) by_parts_total

pub atoms_total : IsTotalOrder {K = Atom} (λ a b. atom_cmp (atom_of a) (atom_of b))
atoms_total = on_total atom_of atom_cmp_total

pub atoms_partial : IsPartialOrder {K = Atom} (λ a b. same_atom (atom_of a) (atom_of b)) (λ a b. Some (atom_cmp (atom_of a) (atom_of b)))
atoms_partial = po atoms_total (λ _ _. refl)

pub atoms_equivalent : IsEquivalence {K = Atom} (λ a b. same_atom (atom_of a) (atom_of b))
atoms_equivalent = eq_by_cmp_equiv atoms_total

pub atoms_partially_equivalent : IsPartialEquivalence {K = Atom} (λ a b. same_atom (atom_of a) (atom_of b))
atoms_partially_equivalent = partial_equiv_from_equiv atoms_equivalent
