-- The laws of the order of values, which the impls of the comparisons state.
use Rattle.std.specs.Prelude.{◌≡◌, List, [], Some, refl}
use mathlib.Core.Path.{subst}
use Rattle.std.specs.declared.cmp.Ordering.{Ordering}
use Rattle.std.specs.Ordering.{bool_cmp, eq_by_cmp, on, then_cmp}
use Rattle.std.specs.Cmp.{IsEquivalence, IsPartialEquivalence, IsPartialOrder, IsTotalOrder, bool_cmp_total, eq_by_cmp_equiv, on_total, partial_equiv_from_equiv, po, then_total}
use Rattle.std.specs.Cmp.Lexicographic.{lists_total, slice_cmp}
use Rattle.odb_atoms.specs.FinSet as set
use Rattle.odb_atoms.specs.Atom.{Atom, atom_cmp}
use Rattle.odb_atoms.specs.Members.{pair_cmp, value_cmp}
use Rattle.odb_atoms.specs.Value.{Value, is_map, map_of, set_of}
use Rattle.odb_atoms.specs.Represented.AtomOrder.{atom_cmp_total, then_equal}

abbrev elements : Value → List Atom
elements (set_of s) = set.items s
elements (map_of m) = []

abbrev pairs : Value → List (Atom × Atom)
pairs (set_of s) = []
pairs (map_of m) = m.entries

-- by what kind of value it is, then by its elements, then by its pairs
abbrev by_parts : Value → Value → Ordering
by_parts = then_cmp (on is_map bool_cmp) (then_cmp (on elements (slice_cmp atom_cmp)) (on pairs (slice_cmp pair_cmp)))

pair_cmp_total : IsTotalOrder pair_cmp
pair_cmp_total = then_total (on_total (λ p. p.0) atom_cmp_total) (on_total (λ p. p.1) atom_cmp_total)

by_parts_total : IsTotalOrder by_parts
by_parts_total = then_total (on_total is_map bool_cmp_total) (then_total (on_total elements (lists_total atom_cmp_total)) (on_total pairs (lists_total pair_cmp_total)))

as_parts : (v w : Value) → by_parts v w ≡ value_cmp v w
as_parts (set_of s) (set_of t) = then_equal (slice_cmp atom_cmp (set.items s) (set.items t))
as_parts (set_of s) (map_of n) = refl
as_parts (map_of m) (set_of t) = refl
as_parts (map_of m) (map_of n) = refl

pub values_total : IsTotalOrder value_cmp
values_total = subst IsTotalOrder (λ i v w. as_parts v w i) by_parts_total

pub values_partial : IsPartialOrder (eq_by_cmp value_cmp) (λ v w. Some (value_cmp v w))
values_partial = po values_total (λ _ _. refl)

pub values_equivalent : IsEquivalence (eq_by_cmp value_cmp)
values_equivalent = eq_by_cmp_equiv values_total

pub values_partially_equivalent : IsPartialEquivalence (eq_by_cmp value_cmp)
values_partially_equivalent = partial_equiv_from_equiv values_equivalent
