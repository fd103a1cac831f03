-- Which mutations a column of a type has, and with which operands (RFC 7047, <mutation>). [P 3.2]
use Rattle.std.specs.Prelude.{Bool, not, ◌&&◌, ◌||◌, ◌==◌, is_some}
use Rattle.odb_atoms.specs.Atom.{Kind, integers, same_kind}
use Rattle.odb_atoms.specs.ColType.{ColType, has_kind, is_a, is_scalar}
use Rattle.odb_atoms.specs.Value.{Value, each_atom, is_map, size}
use Rattle.odb_mutate.specs.Mutation.{Mutator, delete, insert}

abbrev pub is_set_of : Kind → Value → Bool
is_set_of k v = not (is_map v) && each_atom (is_a k) (is_a k) v

-- `insert` and `delete` are for sets and maps; `insert` takes a value of the column's kind, `delete` also a set of a map's keys. Arithmetic is for integers that are no map, and takes one integer
abbrev pub takes : ColType → Mutator → Value → Bool
takes t insert v = not (is_scalar t) && has_kind t v
takes t delete v = not (is_scalar t) && (has_kind t v || is_set_of t.key.kind v)
takes t m v = (same_kind t.key.kind integers && not (is_some t.value)) && (is_set_of integers v && (size v == 1))
