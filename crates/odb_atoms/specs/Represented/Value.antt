-- What a value of the code stands for: the set or the map of its entries, whose keys ascend.
use Rattle.std.specs.Prelude.{◌≡◌, Bool, ◌&&◌, T, List, [], ◌∷◌, map}
use Rattle.std.specs.FinMap.Entries.{is_sorted}
use Rattle.std.specs.Arc.{arc_value}
use Rattle.std.specs.List.{list_all}
use Rattle.odb_atoms.specs.Atom as model
use Rattle.odb_atoms.specs.Atom.{atom_cmp}
use Rattle.odb_atoms.specs.Value.{Value, set_of, map_of}
use Rattle.odb_atoms.specs.FinSet as set
use Rattle.odb_atoms.specs.FinMap as finite
use Rattle.odb_atoms.specs.Represented.Atom.{atom_of}
use Rattle.odb_atoms.specs.declared.atom.Atom.{Atom}
use Rattle.odb_atoms.specs.declared.value.Content.{Content}
use Rattle.odb_atoms.specs.declared.value.Content.TheVariants.{One, Set, Map, SharedSet, SharedMap, ChunkedSet, ChunkedMap}
use Rattle.odb_atoms.specs.declared.value.Entries.{Entries}
use Rattle.odb_atoms.specs.declared.value.Entries.TheVariants as entries
use Rattle.odb_atoms.specs.declared.value.Value.TheInside.{Inside}

abbrev pub key_of : Atom → model.Atom × Unit {0}
key_of a = (atom_of a, tt)

abbrev pub pair_of : Atom × Atom → model.Atom × model.Atom
pair_of p = (atom_of p.0, atom_of p.1)

-- the set of ascending elements
abbrev pub set_in : List Atom → Value
set_in elements = set_of (finite.from_sorted (map key_of elements))

-- the map of pairs whose keys ascend
abbrev pub map_in : List (Atom × Atom) → Value
map_in pairs = map_of (finite.from_sorted (map pair_of pairs))

abbrev pub AreAscending : List Atom → Type 0
AreAscending elements = T (is_sorted atom_cmp (map key_of elements))

abbrev pub HaveAscendingKeys : List (Atom × Atom) → Type 0
HaveAscendingKeys pairs = T (is_sorted atom_cmp (map pair_of pairs))

-- p holds of each
abbrev pub each_element : (model.Atom → Bool) → List Atom → Bool
each_element p = list_all (λ a. p (atom_of a))

-- p holds of each key, and q of each value
abbrev pub each_pair : (model.Atom → Bool) → (model.Atom → Bool) → List (Atom × Atom) → Bool
each_pair p q = list_all (λ x. p (atom_of x.0) && q (atom_of x.1))

abbrev pub content_of : Content → Value
content_of (One a) = set_in (a ∷ [])
content_of (Set v) = set_in v.items
content_of (Map v) = map_in v.items
content_of (SharedSet v) = set_in (arc_value v).items
content_of (SharedMap v) = map_in (arc_value v).items
content_of (ChunkedSet v) = set_in (arc_value v)
content_of (ChunkedMap v) = map_in (arc_value v)

abbrev pub ascends : Content → Type 0
ascends (One a) = AreAscending (a ∷ [])
ascends (Set v) = AreAscending v.items
ascends (Map v) = HaveAscendingKeys v.items
ascends (SharedSet v) = AreAscending (arc_value v).items
ascends (SharedMap v) = HaveAscendingKeys (arc_value v).items
ascends (ChunkedSet v) = AreAscending (arc_value v)
ascends (ChunkedMap v) = HaveAscendingKeys (arc_value v)

abbrev pub value_of : Inside → Value
value_of a = content_of a.content

abbrev pub IsAscending : Inside → Type 0
IsAscending a = ascends a.content

abbrev pub value_in : Entries → Value
value_in (entries.Set s) = set_in s
value_in (entries.Map s) = map_in s

abbrev pub AreInOrder : Entries → Type 0
AreInOrder (entries.Set s) = AreAscending s
AreInOrder (entries.Map s) = HaveAscendingKeys s

-- the entries are those of the value, one by one in ascending order
abbrev pub Lists : Entries → Value → Type 0
Lists (entries.Set s) (set_of elements) = map atom_of s ≡ set.items elements
Lists (entries.Map s) (map_of pairs) = map pair_of s ≡ pairs.entries
Lists (entries.Set s) (map_of pairs) = ⊥
Lists (entries.Map s) (set_of elements) = ⊥

-- the elements in the chunks are those of the set, in order
abbrev pub HasElements : List Atom → Value → Type 0
HasElements elements v = (set_in elements ≡ v) × AreAscending elements

-- the pairs in the chunks are those of the map, in the order of their keys
abbrev pub HasPairs : List (Atom × Atom) → Value → Type 0
HasPairs pairs v = (map_in pairs ≡ v) × HaveAscendingKeys pairs
