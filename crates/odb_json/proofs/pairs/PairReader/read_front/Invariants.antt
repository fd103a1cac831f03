use Rattle.std.proofs.Common.{map, option_map}
use Rattle.odb_atoms.specs.Represented.Atom.{kind_in}
use Rattle.odb_atoms.specs.Represented.Value.{pair_of}
use Rattle.odb_json.specs.Represented.Parts.{pair_front}
use Rattle.odb_json.proofs.Fronts.{Stands}
use Rattle.odb_json.proofs.pairs.PairReader.read_front.Given as goal

abbrev pub invariant-loop-item : goal.invariant-loop-item
invariant-loop-item l = Stands (pair_front (option_map (λ n. n.now) l.self.names) (kind_in l.self.kinds.key) (kind_in l.self.kinds.value)) l.items l.item-index (map pair_of l.pairs.items)
