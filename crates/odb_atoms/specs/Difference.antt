-- Differences of values (ovsdb-server(7), update2): what turns one value of a column into another. [P 9.2]
use Rattle.std.specs.Prelude.{cond, Option, Some, None}
use Rattle.odb_atoms.specs.FinSet as set
use Rattle.odb_atoms.specs.FinMap as map
use Rattle.odb_atoms.specs.Atom.{Atom, same_atom}
use Rattle.odb_atoms.specs.ColType.{ColType, is_single}
use Rattle.odb_atoms.specs.Value.{Pairs, Value, map_of, set_of}

-- of what two maps have at a key: what one alone has; nothing where both have the same; and where they differ the second's
abbrev pub changed_pair : Option Atom → Option Atom → Option Atom
changed_pair None y = y
changed_pair (Some a) None = Some a
changed_pair (Some a) (Some b) = cond (same_atom a b) None (Some b)

abbrev pub changed_pairs : Pairs → Pairs → Pairs
changed_pairs = map.combine changed_pair

-- the elements in exactly one of two sets, the pairs by which two maps differ
abbrev pub changed : Value → Value → Value
changed (set_of s) (set_of t) = set_of (set.symmetric_difference s t)
changed (map_of m) (map_of n) = map_of (changed_pairs m n)
changed (set_of s) (map_of n) = map_of n
changed (map_of m) (set_of t) = set_of t

-- what leads from the old value to the new one: with `max` 1 the new value itself
abbrev pub difference : Value → Value → ColType → Value
difference old new t = cond (is_single t) new (changed old new)

-- what the difference d makes of the old value: an element is in the result where it is in one of the two alone, and a pair of d with another value than the old one's replaces it
abbrev pub apply : Value → Value → ColType → Value
apply old d t = cond (is_single t) d (changed old d)
