use Rattle.std.proofs.Common.{◌≡◌, map}
use Rattle.odb_atoms.specs.Represented.Value.{pair_of}
use Rattle.odb_tables.specs.Represented.Digest.{after_pairs}
use Rattle.odb_tables.proofs.digest.feed_pairs.Given as goal

abbrev pub invariant-loop-pair : goal.invariant-loop-pair
invariant-loop-pair l = after_pairs l.state (map pair_of l.pair-iterator) ≡ after_pairs l.initial.state (map pair_of l.pairs)
