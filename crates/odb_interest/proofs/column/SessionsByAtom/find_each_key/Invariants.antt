use Rattle.std.proofs.Common.{◌≡◌, ◌||◌, ℕ}
use Rattle.std.specs.BTreeSet.{contains}
use Rattle.std.specs.List.{list_any}
use Rattle.std.specs.Ordering.{nat_cmp}
use Rattle.odb_atoms.specs.Represented.Atom.{atom_of}
use Rattle.odb_interest.specs.Represented.SessionsByAtom.{names}
use Rattle.odb_interest.proofs.column.SessionsByAtom.find_each_key.Given as goal

abbrev pub invariant-loop-pair : goal.invariant-loop-pair
invariant-loop-pair l = (s : ℕ) → (contains nat_cmp l.found s || list_any (λ p. names l.self (atom_of p.0) s) l.pair-iterator) ≡ (contains nat_cmp l.fn.found s || list_any (λ p. names l.self (atom_of p.0) s) l.pairs)
