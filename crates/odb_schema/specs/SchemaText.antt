-- The JSON of schemas (RFC 7047, <database-schema>): reading, with the first fault where a text has one, and printing. [P 1.1, 1.2, 1.4, 1.5, 1.6, 14, 16]
use Rattle.std.specs.Prelude.{◌≡◌, ℕ, ℤ, pos, negsuc, Bool, true, false, cond, not, ◌&&◌, ◌||◌, ◌==◌, List, [], ◌∷◌, ◌++◌, map as map_list, length, codes, nat_lt, nat_le, int_le, slice_index, is_some, is_none, unwrap_or, Option, Some, None, option_map, option_and_then, find}
use Rattle.std.specs.List.{list_any, list_all, slice_split}
use Rattle.std.specs.Str.{is_utf8}
use Rattle.serde_json.specs.Read.{read}
use Rattle.odb_atoms.specs.FinSet as set
use Rattle.odb_schema.specs.Json as json
use Rattle.odb_atoms.specs.Atom.{Kind, booleans, integers, same_kind, strings, uuids}
use Rattle.odb_atoms.specs.ColType.{Base, ColType, Reference, is_scalar, plain, scalar}
use Rattle.odb_atoms.specs.Error.{Error}
use Rattle.odb_atoms.specs.First.{Err, Ok, Result, demand, each, ok_or, ◌>>=◌, ◌>>◌}
use Rattle.odb_atoms.specs.Text.{is_digit, is_id, same_text}
use Rattle.odb_atoms.specs.Value.{Atoms, set_of}
use Rattle.odb_schema.specs.Json.{Data, Members, array_of, boolean, get_member, given_or, if_given, items_list, members_list, needed, object_of, present, string}
use Rattle.odb_schema.specs.Notation.{read_set, write_value}
use Rattle.odb_schema.specs.Schema.{Column, Schema, TableSchema}

pub data SchemaFault : Type 0 where
  syntax bad_id bad_type unknown_ref_table bad_index too_large : SchemaFault

abbrev pub read_string : Data → Result (List ℕ) SchemaFault
read_string d = ok_or (json.as_str d) syntax

abbrev pub read_bool : Data → Result Bool SchemaFault
read_bool d = ok_or (json.as_bool d) syntax

abbrev pub read_integer : Data → Result ℤ SchemaFault
read_integer d = ok_or (json.as_integer d) syntax

abbrev pub read_object : Data → Result Members SchemaFault
read_object d = ok_or (json.as_object d) syntax

abbrev pub read_list : {A : Type 0} → (Data → Result A SchemaFault) → Data → Result (List A) SchemaFault
read_list read d = do
  items ← ok_or (json.as_array d) syntax
  each read (items_list items)

-- n, if it is in the range from low to high
abbrev pub within : ℕ → Option ℕ → ℤ → Result ℕ SchemaFault
within low high (pos n) = do
  demand (nat_le low n && unwrap_or (option_map (nat_le n) high) true) bad_type
  Ok n
within low high (negsuc n) = Err bad_type

-- an integer in the range from low to high
abbrev pub read_between : ℕ → Option ℕ → Data → Result ℕ SchemaFault
read_between low high d = do
  z ← read_integer d
  within low high z

-- a name of a database, a table or a column: an id that doesn't begin with `_`
abbrev pub is_name : List ℕ → Bool
is_name s = is_id s && not (slice_index s 0 == 95)

-- three decimal numbers joined by dots
abbrev pub is_version : List ℕ → Bool
is_version s =
    let parts = slice_split (λ c. c == 46) s in
    (length parts == 3) && list_all (λ part. nat_lt 0 (length part) && list_all is_digit part) parts

-- ---- types

abbrev pub kind_name : Kind → List ℕ
kind_name integers = codes "integer"
kind_name booleans = codes "boolean"
kind_name strings = codes "string"
kind_name uuids = codes "uuid"

abbrev pub read_kind : List ℕ → Result Kind SchemaFault
read_kind s = ok_or (find (λ k. same_text (kind_name k) s) (integers ∷ booleans ∷ strings ∷ uuids ∷ [])) bad_type

abbrev pub bad_as : {A : Type 0} → Result A Error → Result A SchemaFault
bad_as (Ok x) = Ok x
bad_as (Err e) = Err bad_type

-- the JSON kinds that a value has
abbrev pub is_value_json : Data → Bool
is_value_json json.null = false
is_value_json (boolean b) = true
is_value_json (json.number n) = is_some (json.as_integer (json.number n))
is_value_json (string s) = true
is_value_json (json.array ds) = true
is_value_json (json.object ms) = false

-- at least one atom of the kind
abbrev pub read_enum : Kind → Data → Result Atoms SchemaFault
read_enum k d = do
  demand (is_value_json d) syntax
  s ← bad_as (read_set None k d)
  demand (nat_lt 0 (set.len s)) bad_type
  Ok s

-- a constraint that stands with one kind alone
abbrev pub read_with : {A : Type 0} → Bool → (Data → Result A SchemaFault) → Data → Result A SchemaFault
read_with stands read d = do
  x ← read d
  demand stands bad_type
  Ok x

-- no lower bound is above its upper bound
abbrev pub in_order : {A : Type 0} → (A → A → Bool) → Option A → Option A → Bool
in_order le None high = true
in_order le (Some l) None = true
in_order le (Some l) (Some h) = le l h

abbrev pub read_ref_table : List (List ℕ) → Kind → Data → Result (List ℕ) SchemaFault
read_ref_table tables kind d = do
  name ← read_string d
  demand (same_kind kind uuids) bad_type
  demand (list_any (same_text name) tables) unknown_ref_table
  Ok name

-- whether the reference is weak
abbrev pub read_ref_type : Data → Result Bool SchemaFault
read_ref_type d = do
  s ← read_string d
  demand (same_text s (codes "strong") || same_text s (codes "weak")) bad_type
  Ok (same_text s (codes "weak"))

-- tables are the names of the schema's tables
abbrev pub read_constraints : List (List ℕ) → Members → Result Base SchemaFault
read_constraints tables ms = do
  t ← needed syntax (codes "type") ms
  name ← read_string t
  kind ← read_kind name
  enum ← if_given (read_enum kind) (get_member (codes "enum") ms)
  min_integer ← if_given (read_with (same_kind kind integers) read_integer) (get_member (codes "minInteger") ms)
  max_integer ← if_given (read_with (same_kind kind integers) read_integer) (get_member (codes "maxInteger") ms)
  demand (in_order int_le min_integer max_integer) bad_type
  min_length ← if_given (read_with (same_kind kind strings) read_integer) (get_member (codes "minLength") ms)
  max_length ← if_given (read_with (same_kind kind strings) read_integer) (get_member (codes "maxLength") ms)
  demand (in_order int_le min_length max_length) bad_type
  table ← if_given (read_ref_table tables kind) (get_member (codes "refTable") ms)
  weak ← given_or false (read_with (is_some table) read_ref_type) (get_member (codes "refType") ms)
  Ok (record { kind = kind; enum = enum; min_integer = min_integer; max_integer = max_integer; min_length = min_length; max_length = max_length; reference = option_map (λ t. record { table = t; weak = weak }) table })

abbrev pub read_base : List (List ℕ) → Data → Result Base SchemaFault
read_base tables (string s) = do
  k ← read_kind s
  Ok (plain k)
read_base tables d = do
  ms ← read_object d
  read_constraints tables ms

-- None where it is "unlimited"
abbrev pub read_max : Data → Result (Option ℕ) SchemaFault
read_max (string s) = do
  demand (same_text s (codes "unlimited")) bad_type
  Ok None
read_max d = do
  n ← read_between 1 (Some 4294967295) d
  Ok (Some n)

abbrev pub read_type : List (List ℕ) → Data → Result ColType SchemaFault
read_type tables (string s) = do
  k ← read_kind s
  Ok (scalar k)
read_type tables d = do
  ms ← read_object d
  k ← needed syntax (codes "key") ms
  key ← read_base tables k
  value ← if_given (read_base tables) (get_member (codes "value") ms)
  min ← given_or 1 (read_between 0 (Some 1)) (get_member (codes "min") ms)
  max ← given_or (Some 1) read_max (get_member (codes "max") ms)
  Ok (record { key = key; value = value; min = min; max = max })

-- ---- tables

abbrev pub read_column : List (List ℕ) → List ℕ × Data → Result Column SchemaFault
read_column tables m = do
  demand (is_name m.0) bad_id
  ms ← read_object m.1
  t ← needed syntax (codes "type") ms
  type ← read_type tables t
  ephemeral ← given_or false read_bool (get_member (codes "ephemeral") ms)
  mutable ← given_or true read_bool (get_member (codes "mutable") ms)
  Ok (record { name = m.0; type = type; ephemeral = ephemeral; mutable = mutable })

-- a declared column that isn't ephemeral
abbrev pub is_indexable : List Column → List ℕ → Bool
is_indexable cs name = list_any (λ c. same_text c.name name && not c.ephemeral) cs

-- the names of an index from the front; `seen` are those in front of these
abbrev pub distinct_names : List Column → List (List ℕ) → List Data → Result (List (List ℕ)) SchemaFault
distinct_names cs seen [] = Ok []
distinct_names cs seen (d ∷ ds) = do
  name ← read_string d
  demand (is_indexable cs name && not (list_any (same_text name) seen)) bad_index
  names ← distinct_names cs (name ∷ seen) ds
  Ok (name ∷ names)

abbrev pub read_index : List Column → Data → Result (List (List ℕ)) SchemaFault
read_index cs d = do
  items ← ok_or (json.as_array d) syntax
  names ← distinct_names cs [] (items_list items)
  demand (nat_lt 0 (length names)) bad_index
  Ok names

abbrev pub read_table : List (List ℕ) → List ℕ × Data → Result TableSchema SchemaFault
read_table tables m = do
  demand (is_name m.0) bad_id
  ms ← read_object m.1
  cs ← needed syntax (codes "columns") ms
  columns ← read_object cs
  cols ← each (read_column tables) (members_list columns)
  max_rows ← if_given (read_between 1 None) (get_member (codes "maxRows") ms)
  is_root ← given_or false read_bool (get_member (codes "isRoot") ms)
  indexes ← given_or [] (read_list (read_index cols)) (get_member (codes "indexes") ms)
  Ok (record { name = m.0; columns = cols; max_rows = max_rows; is_root = is_root; indexes = indexes })

-- ---- schemas

-- the members of the object at k, if there is one
abbrev pub members_at : List ℕ → Data → List (List ℕ × Data)
members_at k d = unwrap_or (option_map members_list (option_and_then json.as_object (option_and_then (get_member k) (json.as_object d)))) []

abbrev pub max_tables : ℕ
max_tables = 256

abbrev pub max_columns : ℕ
max_columns = 256

-- more than 256 tables, or more than 256 columns in one
abbrev pub is_too_large : Data → Bool
is_too_large d =
    nat_lt max_tables (length (members_at (codes "tables") d))
    || list_any (λ m. nat_lt max_columns (length (members_at (codes "columns") m.1))) (members_at (codes "tables") d)

-- The size first, then the schema's members in this order, its tables by ascending name, in each the columns by ascending name, and then its other members.
unfoldable pub read_schema : Data → Result Schema SchemaFault
read_schema d = do
  demand (not (is_too_large d)) too_large
  ms ← read_object d
  n ← needed syntax (codes "name") ms
  name ← read_string n
  demand (is_name name) bad_id
  v ← needed syntax (codes "version") ms
  version ← read_string v
  demand (is_version version) syntax
  cksum ← if_given read_string (get_member (codes "cksum") ms)
  t ← needed syntax (codes "tables") ms
  tables ← read_object t
  described ← each (read_table (map_list (λ m. m.0) (members_list tables))) (members_list tables)
  Ok (record { name = name; version = version; cksum = cksum; tables = described })

abbrev pub max_file : ℕ
max_file = 16777216

-- the schema that a file's text is
abbrev pub schema_of_text : List ℕ → Result Schema SchemaFault
schema_of_text text = do
  demand (nat_le (length text) max_file) too_large
  d ← ok_or (read text) syntax
  read_schema d

-- the schema that a file's bytes are, which have to be UTF-8
abbrev pub schema_of_file : List ℕ → Result Schema SchemaFault
schema_of_file bytes = do
  demand (nat_le (length bytes) max_file) too_large
  demand (is_utf8 bytes) syntax
  schema_of_text bytes

-- ---- printing

abbrev pub is_plain : Base → Bool
is_plain b = is_none b.enum && is_none b.min_integer && is_none b.max_integer && is_none b.min_length && is_none b.max_length && is_none b.reference

abbrev pub of_natural : ℕ → Data
of_natural n = json.of_integer (pos n)

-- the member k, unless the test holds of its default
abbrev pub unless : Bool → List ℕ → Data → List (List ℕ × Data)
unless true k d = []
unless false k d = (k, d) ∷ []

abbrev pub write_reference : Reference → List (List ℕ × Data)
write_reference r = (codes "refTable", string r.table) ∷ unless (not r.weak) (codes "refType") (string (codes "weak"))

-- a base type without constraints is its name
abbrev pub write_base : Base → Data
write_base b =
    cond (is_plain b) (string (kind_name b.kind))
    (object_of (
    (codes "type", string (kind_name b.kind))
    ∷ present (codes "enum") (option_map (λ s. write_value (set_of s)) b.enum)
    ++ present (codes "minInteger") (option_map json.of_integer b.min_integer)
    ++ present (codes "maxInteger") (option_map json.of_integer b.max_integer)
    ++ present (codes "minLength") (option_map json.of_integer b.min_length)
    ++ present (codes "maxLength") (option_map json.of_integer b.max_length)
    ++ unwrap_or (option_map write_reference b.reference) []))

abbrev pub write_max : Option ℕ → List (List ℕ × Data)
write_max None = (codes "max", string (codes "unlimited")) ∷ []
write_max (Some n) = unless (n == 1) (codes "max") (of_natural n)

-- a scalar without constraints is its name
abbrev pub write_type : ColType → Data
write_type t =
    cond (is_scalar t && is_plain t.key) (string (kind_name t.key.kind))
    (object_of ((codes "key", write_base t.key) ∷ present (codes "value") (option_map write_base t.value) ++ unless (t.min == 1) (codes "min") (of_natural t.min) ++ write_max t.max))

abbrev pub write_column : Column → Data
write_column c =
    object_of ((codes "type", write_type c.type) ∷ unless (not c.ephemeral) (codes "ephemeral") (boolean true) ++ unless c.mutable (codes "mutable") (boolean false))

abbrev pub write_index : List (List ℕ) → Data
write_index names = array_of (map_list string names)

abbrev pub write_table : TableSchema → Data
write_table t =
    object_of (
    (codes "columns", object_of (map_list (λ c. (c.name, write_column c)) t.columns))
    ∷ present (codes "maxRows") (option_map of_natural t.max_rows)
    ++ unless (not t.is_root) (codes "isRoot") (boolean true)
    ++ unless (length t.indexes == 0) (codes "indexes") (array_of (map_list write_index t.indexes)))

-- Members equal to their defaults are left out.
unfoldable pub write_schema : Schema → Data
write_schema s =
    object_of (
    (codes "name", string s.name)
    ∷ (codes "version", string s.version)
    ∷ (codes "tables", object_of (map_list (λ t. (t.name, write_table t)) s.tables))
    ∷ present (codes "cksum") (option_map string s.cksum))

-- what is printed of the schema is read as the same schema
abbrev pub IsReadBack : Schema → Type 0
IsReadBack s = read_schema (write_schema s) ≡ Ok s
