use Rattle.std.proofs.Common.{◌≡◌, ◌++◌, filter_map, map, Some}
use Rattle.odb_atoms.specs.Represented.Atom.{atom_of}
use Rattle.odb_integrity.specs.Represented.PairSide.{atom_at}
use Rattle.odb_integrity.specs.Settlement.{referent}
use Rattle.odb_integrity.proofs.references.append_side.Given as goal

abbrev pub invariant-loop-pair : goal.invariant-loop-pair
invariant-loop-pair l = l.rows.items ++ filter_map (referent (Some l.table)) (map (λ pair. atom_of (atom_at l.side pair)) l.pair-iterator) ≡ l.fn.rows.items ++ filter_map (referent (Some l.table)) (map (λ pair. atom_of (atom_at l.side pair)) l.pairs)
