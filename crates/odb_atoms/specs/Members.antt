-- What a value has, how two values stand to each other, and which lists make a value.
use Rattle.std.specs.Prelude.{Bool, true, false, not, ◌&&◌, List, [], ◌∷◌, length, map as map_list, nat_lt, Option, Some, None, cond}
use Rattle.std.specs.declared.cmp.Ordering.{Ordering}
use Rattle.std.specs.declared.cmp.Ordering.TheVariants.{Less, Greater}
use Rattle.std.specs.List.{list_all}
use Rattle.std.specs.Ordering.{ordering_then}
use Rattle.std.specs.Cmp.Lexicographic.{slice_cmp}
use Rattle.odb_atoms.specs.FinSet as set
use Rattle.odb_atoms.specs.FinMap as map
use Rattle.odb_atoms.specs.Atom.{Atom, atom_cmp, kind_of, same_kind}
use Rattle.odb_atoms.specs.Value.{Value, atoms, has_pair, map_of, set_of}

-- an element of the set, or a key of the map
abbrev pub has : Value → Atom → Bool
has (set_of s) a = set.contains s a
has (map_of m) a = map.contains_key m a

-- the value that a map has at the key; a set has none
abbrev pub value_at : Value → Atom → Option Atom
value_at (set_of s) k = None
value_at (map_of m) k = map.get m k

-- no element or pair of v is in c
abbrev pub excludes_all : Value → Value → Bool
excludes_all (set_of c) (set_of v) = list_all (λ a. not (set.contains c a)) (set.items v)
excludes_all (map_of c) (map_of v) = list_all (λ e. not (has_pair c e)) v.entries
excludes_all c v = false

-- pairs by their keys, then by their values
abbrev pub pair_cmp : Atom × Atom → Atom × Atom → Ordering
pair_cmp p q = ordering_then (atom_cmp p.0 q.0) (atom_cmp p.1 q.1)

-- sets before maps, and each kind as its ascending entries in lexicographic order
abbrev pub value_cmp : Value → Value → Ordering
value_cmp (set_of s) (set_of t) = slice_cmp atom_cmp (set.items s) (set.items t)
value_cmp (set_of s) (map_of n) = Less
value_cmp (map_of m) (set_of t) = Greater
value_cmp (map_of m) (map_of n) = slice_cmp pair_cmp m.entries n.entries

-- some atom stands twice: there are fewer atoms than places
abbrev pub repeats : List Atom → Bool
repeats list = nat_lt (set.len (atoms list)) (length list)

-- all are of the first one's kind
abbrev pub are_of_one_kind : List Atom → Bool
are_of_one_kind [] = true
are_of_one_kind (a ∷ rest) = list_all (λ b. same_kind (kind_of b) (kind_of a)) rest

-- why a list is not what makes a value
pub data ListFault : Type 0 where
  mixed_kinds repeated : ListFault

-- a set's elements are of one kind, and none stands twice
abbrev pub set_fault : List Atom → Option ListFault
set_fault elements =
    cond (not (are_of_one_kind elements)) (Some mixed_kinds)
    (cond (repeats elements) (Some repeated) None)

abbrev pub keys : List (Atom × Atom) → List Atom
keys = map_list (λ p. p.0)

abbrev pub values : List (Atom × Atom) → List Atom
values = map_list (λ p. p.1)

-- the keys are of one kind, and the values are of one kind
abbrev pub have_one_kind_each : List (Atom × Atom) → Bool
have_one_kind_each pairs = are_of_one_kind (keys pairs) && are_of_one_kind (values pairs)

-- a map's pairs have one kind each, and no key stands twice
abbrev pub map_fault : List (Atom × Atom) → Option ListFault
map_fault pairs =
    cond (not (have_one_kind_each pairs)) (Some mixed_kinds)
    (cond (repeats (keys pairs)) (Some repeated) None)
