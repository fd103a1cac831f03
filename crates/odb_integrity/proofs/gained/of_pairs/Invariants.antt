use Rattle.std.proofs.Common.{◌≡◌, ◌++◌, flat_map}
use Rattle.odb_atoms.specs.Represented.Value.{pair_of}
use Rattle.odb_integrity.specs.Gained.{gained_of_pair}
use Rattle.odb_integrity.proofs.gained.of_pairs.Given as goal

abbrev pub invariant-loop-pair : goal.invariant-loop-pair
invariant-loop-pair l = l.rows.items ++ flat_map (λ p. gained_of_pair l.targets.keys l.targets.values l.now (pair_of p)) l.pair-iterator ≡ flat_map (λ p. gained_of_pair l.targets.keys l.targets.values l.now (pair_of p)) l.pairs
