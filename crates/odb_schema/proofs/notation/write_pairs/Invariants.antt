use Rattle.std.proofs.Common.{◌≡◌, ◌++◌, map}
use Rattle.serde_json.specs.View.{view}
use Rattle.odb_atoms.specs.Represented.Value.{pair_of}
use Rattle.odb_schema.specs.Notation.{write_pair}
use Rattle.odb_schema.proofs.notation.write_pairs.Given as goal

abbrev pub invariant-loop-pair : goal.invariant-loop-pair
invariant-loop-pair l = map view l.items.items ++ map write_pair (map pair_of l.pair-iterator) ≡ map write_pair (map pair_of l.pairs)
