use Rattle.std.proofs.Common.{◌≡◌, ◌++◌, flat_map, map}
use Rattle.odb_atoms.specs.Represented.Value.{pair_of}
use Rattle.odb_print.specs.Tokens.{tokens_of}
use Rattle.odb_schema.specs.Notation.{write_pair}
use Rattle.odb_print.proofs.value.put_pairs.Given as goal

abbrev pub invariant-loop-pair : goal.invariant-loop-pair
invariant-loop-pair l = l.out ++ flat_map (λ e. tokens_of (write_pair e)) (map pair_of l.pair-iterator) ≡ l.fn.out ++ flat_map (λ e. tokens_of (write_pair e)) (map pair_of l.fn.pairs)
