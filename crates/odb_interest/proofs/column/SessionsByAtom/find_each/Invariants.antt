use Rattle.std.proofs.Common.{◌≡◌, ◌||◌, ℕ}
use Rattle.std.specs.BTreeSet.{contains}
use Rattle.std.specs.List.{list_any}
use Rattle.std.specs.Ordering.{nat_cmp}
use Rattle.odb_atoms.specs.Represented.Atom.{atom_of}
use Rattle.odb_interest.specs.Represented.SessionsByAtom.{names}
use Rattle.odb_interest.proofs.column.SessionsByAtom.find_each.Given as goal

abbrev pub invariant-loop-atom : goal.invariant-loop-atom
invariant-loop-atom l = (s : ℕ) → (contains nat_cmp l.found s || list_any (λ a. names l.self (atom_of a) s) l.atom-iterator) ≡ (contains nat_cmp l.fn.found s || list_any (λ a. names l.self (atom_of a) s) l.atoms)
