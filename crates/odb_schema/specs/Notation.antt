-- The JSON notation of atoms and values (RFC 7047, <atom>, <set>, <map>), with the first fault where a text has none. [P 2.2, 2.3, 2.5]
use Rattle.std.specs.Prelude.{ℕ, ◌^◌, ◌&&◌, pos, neg_ℤ, int_le, int_lt, Bool, true, cond, not, ◌==◌, List, [], ◌∷◌, codes, is_some, Option, Some, None, option_map, map as map_list}
use Rattle.std.specs.List.{list_any}
use Rattle.odb_atoms.specs.FinMap as map
use Rattle.odb_atoms.specs.FinSet as set
use Rattle.odb_schema.specs.Json as json
use Rattle.odb_atoms.specs.Atom.{Atom, Kind, boolean, booleans, integer, integers, strings, text, uuid, uuids}
use Rattle.odb_atoms.specs.ColType.{ColType, value_base}
use Rattle.odb_atoms.specs.Error.{Error, syntax_error, unknown_uuid_name}
use Rattle.odb_atoms.specs.First.{Err, Ok, Result, demand, ok_or, ◌>>=◌, ◌>>◌}
use Rattle.odb_atoms.specs.Text.{is_id, same_text, text_cmp}
use Rattle.odb_atoms.specs.Uuid.{Uuid, uuid_of_text, uuid_text}
use Rattle.odb_atoms.specs.Value.{Atoms, Pairs, Value, map_of, set_of}
use Rattle.odb_schema.specs.Json.{Data, Items, array, array_of, item, no_items, string}

-- the UUID that each uuid-name of a transaction stands for
abbrev pub Names : Type 0
Names = map.FinMap text_cmp Uuid

-- what stands in `[tag, content]`
abbrev pub tagged : List ℕ → Data → Option Data
tagged tag (array (item (string s) (item content no_items))) = cond (same_text s tag) (Some content) None
tagged tag d = None

-- the content of `["set", content]`, and of `["map", content]`
abbrev pub set_content : Data → Option Data
set_content = tagged (codes "set")

abbrev pub map_content : Data → Option Data
map_content = tagged (codes "map")

abbrev pub is_map_notation : Data → Bool
is_map_notation d = is_some (map_content d)

-- the UUID that a name stands for. Outside a transaction there are no names, and no notation of them
abbrev pub named_uuid : Option Names → List ℕ → Result Uuid Error
named_uuid None name = Err syntax_error
named_uuid (Some names) name = do
  demand (is_id name) syntax_error
  ok_or (map.get names name) unknown_uuid_name

-- `["uuid", text]` or `["named-uuid", name]`
abbrev pub read_uuid : Option Names → Data → Result Uuid Error
read_uuid names (array (item (string tag) (item (string s) no_items))) =
    cond (same_text tag (codes "uuid")) (ok_or (uuid_of_text s) syntax_error)
    (cond (same_text tag (codes "named-uuid")) (named_uuid names s) (Err syntax_error))
read_uuid names d = Err syntax_error

-- a string without U+0000
abbrev pub read_string : Data → Result (List ℕ) Error
read_string d = do
  s ← ok_or (json.as_str d) syntax_error
  demand (not (list_any (λ c. c == 0) s)) syntax_error
  Ok s

abbrev pub read_atom : Option Names → Kind → Data → Result Atom Error
read_atom names integers d = ok_or (option_map integer (json.as_integer d)) syntax_error
read_atom names booleans d = ok_or (option_map boolean (json.as_bool d)) syntax_error
read_atom names strings d = do
  s ← read_string d
  Ok (text s)
read_atom names uuids d = do
  u ← read_uuid names d
  Ok (uuid u)

-- the elements from the front, none of them twice; `seen` are those in front of these
abbrev pub read_elements : Option Names → Kind → Atoms → Items → Result Atoms Error
read_elements names k seen no_items = Ok seen
read_elements names k seen (item d ds) = do
  a ← read_atom names k d
  demand (not (set.contains seen a)) syntax_error
  read_elements names k (set.insert seen a) ds

abbrev pub pair_of : Data → Option (Data × Data)
pair_of (array (item k (item v no_items))) = Some (k, v)
pair_of d = None

-- the pairs `[key, value]` from the front, no key twice
abbrev pub read_pairs : Option Names → Kind → Kind → Pairs → Items → Result Pairs Error
read_pairs names k l seen no_items = Ok seen
read_pairs names k l seen (item d ds) = do
  pair ← ok_or (pair_of d) syntax_error
  key ← read_atom names k pair.0
  demand (not (map.contains_key seen key)) syntax_error
  value ← read_atom names l pair.1
  read_pairs names k l (map.insert seen key value) ds

-- a set, or an atom alone for one element
abbrev pub read_set : Option Names → Kind → Data → Result Atoms Error
read_set names k d = read (set_content d)
  where
    read : Option Data → Result Atoms Error
    read None = do
      a ← read_atom names k d
      Ok (set.insert set.empty a)
    read (Some content) = do
      items ← ok_or (json.as_array content) syntax_error
      read_elements names k set.empty items

abbrev pub read_map : Option Names → Kind → Kind → Data → Result Pairs Error
read_map names k l d = do
  content ← ok_or (map_content d) syntax_error
  items ← ok_or (json.as_array content) syntax_error
  read_pairs names k l map.empty items

-- a value of the type's kind, of any size
abbrev pub read_any : Option Names → ColType → Data → Result Value Error
read_any names t d =
    cond (is_some t.value)
    (do
      m ← read_map names t.key.kind (value_base t).kind d
      Ok (map_of m))
    (do
      s ← read_set names t.key.kind d
      Ok (set_of s))

-- ---- writing

abbrev tag : List ℕ → Data → Data
tag name content = array_of (string name ∷ content ∷ [])

abbrev pub write_uuid : Uuid → Data
write_uuid u = tag (codes "uuid") (string (uuid_text u))

abbrev pub write_atom : Atom → Data
write_atom (integer z) = json.of_integer z
write_atom (boolean b) = json.boolean b
write_atom (text s) = string s
write_atom (uuid u) = write_uuid u

-- a set of exactly one element as the atom
abbrev pub write_atoms : List Atom → Data
write_atoms (a ∷ []) = write_atom a
write_atoms xs = tag (codes "set") (array_of (map_list write_atom xs))

abbrev pub write_pair : Atom × Atom → Data
write_pair e = array_of (write_atom e.0 ∷ write_atom e.1 ∷ [])

abbrev pub write_value : Value → Data
write_value (set_of s) = write_atoms (set.items s)
write_value (map_of m) = tag (codes "map") (array_of (map_list write_pair m.entries))

-- the atoms that the notation has: integers of 64 bits, strings without U+0000, all booleans and UUIDs
abbrev pub has_notation : Atom → Bool
has_notation (integer z) = int_le (neg_ℤ (pos (2 ^ 63))) z && int_lt z (pos (2 ^ 63))
has_notation (boolean b) = true
has_notation (text s) = not (list_any (λ c. c == 0) s)
has_notation (uuid u) = true
