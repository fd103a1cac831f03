-- Which rows of a table have the same in the columns of an index, and which mention a row: what is asked of a table without a walk over it. [P 5]
use Rattle.std.specs.Prelude.{◌≡◌, ◌⊎◌, ℕ, Bool, true, false, not, ◌&&◌, ◌||◌, List, map as map_list, Some, option_map, unwrap_or}
use Rattle.std.specs.List.{list_any}
use Rattle.odb_atoms.specs.Atom.{same_atom, uuid}
use Rattle.odb_atoms.specs.FinMap as map
use Rattle.odb_atoms.specs.FinSet as set
use Rattle.odb_atoms.specs.Row.{Row, cell, declared}
use Rattle.odb_atoms.specs.Uuid.{Uuid, same_uuid, zero_uuid}
use Rattle.odb_atoms.specs.Value.{Value, map_of, same_values, set_of}
use Rattle.odb_tables.specs.Database.{Table}

-- what a row has in the columns at these places
abbrev pub cells_at : List ℕ → Row → List Value
cells_at places r = map_list (λ i. cell zero_uuid r (declared i)) places

-- the row of an entry is another one, and has the same there
abbrev pub is_twin : List ℕ → Uuid → Row → Uuid × Row → Bool
is_twin places u r e = not (same_uuid u e.0) && same_values (cells_at places r) (cells_at places e.1)

-- the table has the row, and another with the same in the columns at these places
abbrev pub has_twin : List ℕ → Table → Uuid → Bool
has_twin places t u = unwrap_or (option_map (λ r. list_any (is_twin places u r) (map.entries_of t)) (map.get t u)) false

-- a row of the table has one
abbrev pub HasTwins : List ℕ → Table → Type 0
HasTwins places t = (u : Uuid) × (has_twin places t u ≡ true)

-- a row that is there was there before, and f is of it what it was
abbrev pub AlikeAt : (Row → List Value) → Table → Table → Uuid → Type 0
AlikeAt f old now u = (r : Row) → map.get now u ≡ Some r → (q : Row) × (map.get old u ≡ Some q) × (f r ≡ f q)

-- a row that has the same at the places as another one had the same there before
abbrev pub StaysApart : List ℕ → Table → Table → Uuid → Type 0
StaysApart places old now u = AlikeAt (cells_at places) old now u ⊎ (has_twin places now u ≡ false)

-- the identifier is an element of the value, or a key or a value of one of its pairs
abbrev pub mentions : Uuid → Value → Bool
mentions u (set_of s) = set.contains s (uuid u)
mentions u (map_of m) = list_any (λ e. same_atom e.0 (uuid u) || same_atom e.1 (uuid u)) (map.entries_of m)

-- the table has the row v, and what that has in the column at the place mentions u
abbrev pub refers_at : ℕ → Uuid → Table → Uuid → Bool
refers_at place u t v = unwrap_or (option_map (λ r. mentions u (cell zero_uuid r (declared place))) (map.get t v)) false
