-- The parts of the reading of schemas that the code reads in functions of their own.
use Rattle.std.specs.Prelude.{ℕ, ℤ, Bool, true, false, List, [], codes, int_le, is_some, length, nat_lt, Option, Some, None, option_map, map as map_list}
use Rattle.std.specs.List.{list_any}
use Rattle.odb_atoms.specs.Atom.{Atom, Kind, integers, same_kind, strings}
use Rattle.std.specs.Str.{is_utf8}
use Rattle.serde_json.specs.Read.{read}
use Rattle.odb_atoms.specs.FinSet as set
use Rattle.odb_atoms.specs.Value.{Atoms, Value, set_of}
use Rattle.odb_atoms.specs.Uuid.{Uuid}
use Rattle.odb_schema.specs.Notation as notation
use Rattle.odb_schema.specs.Notation.{read_atom, read_elements, read_set, read_uuid}
use Rattle.odb_atoms.specs.ColType.{Base, ColType, Reference}
use Rattle.odb_atoms.specs.First.{Err, Ok, Result, demand, each, ok_or, ◌>>=◌, ◌>>◌}
use Rattle.odb_schema.specs.Json as json
use Rattle.odb_schema.specs.Json.{Data, Items, Members, get_member, given_or, if_given, items_list, members_list, needed}
use Rattle.odb_schema.specs.Schema.{Column, Schema, TableSchema}
use Rattle.odb_schema.specs.SchemaText.{SchemaFault, bad_as, bad_id, bad_type, distinct_names, in_order, is_name, is_version, max_columns, members_at, read_base, read_between, read_bool, read_column, read_enum, read_index, read_integer, read_kind, read_list, read_max, read_object, read_ref_table, read_ref_type, read_string, read_table, read_type, read_with, syntax}

-- the member `min` of a type, and `max`
abbrev pub min_of : Members → Result ℕ SchemaFault
min_of ms = given_or 1 (read_between 0 (Some 1)) (get_member (codes "min") ms)

abbrev pub max_of : Members → Result (Option ℕ) SchemaFault
max_of ms = given_or (Some 1) read_max (get_member (codes "max") ms)

-- the two bounds at two keys
abbrev pub bounds_of : List ℕ → List ℕ → Bool → Members → Result (Option ℤ × Option ℤ) SchemaFault
bounds_of low high stands ms = do
  l ← if_given (read_with stands read_integer) (get_member low ms)
  h ← if_given (read_with stands read_integer) (get_member high ms)
  demand (in_order int_le l h) bad_type
  Ok (l, h)

abbrev pub flag_of : List ℕ → Bool → Members → Result Bool SchemaFault
flag_of k default ms = given_or default read_bool (get_member k ms)

abbrev pub max_rows_of : Members → Result (Option ℕ) SchemaFault
max_rows_of ms = if_given (read_between 1 None) (get_member (codes "maxRows") ms)

-- the names of members
abbrev pub names_in : Members → List (List ℕ)
names_in ms = map_list (λ m. m.0) (json.members_list ms)

abbrev pub reference_in : List (List ℕ) → Kind → Members → Result (Option Reference) SchemaFault
reference_in tables kind ms = do
  table ← if_given (read_ref_table tables kind) (get_member (codes "refTable") ms)
  weak ← given_or false (read_with (is_some table) read_ref_type) (get_member (codes "refType") ms)
  Ok (option_map (λ t. record { table = t; weak = weak }) table)

abbrev pub uuid_in : Data → Result Uuid SchemaFault
uuid_in d = bad_as (read_uuid None d)

abbrev pub text_in : Data → Result (List ℕ) SchemaFault
text_in d = bad_as (notation.read_string d)

abbrev pub atom_in : Kind → Data → Result Atom SchemaFault
atom_in k d = bad_as (read_atom None k d)

-- the atoms of an array, in its order
abbrev pub atoms_in : Kind → Items → Result (List Atom) SchemaFault
atoms_in k ds = each (atom_in k) (json.items_list ds)

abbrev pub elements_in : Kind → Items → Result Atoms SchemaFault
elements_in k ds = bad_as (read_elements None k set.empty ds)

abbrev pub set_in : Kind → Data → Result Atoms SchemaFault
set_in k d = bad_as (read_set None k d)

-- the value that a set is
abbrev pub as_value : Result Atoms SchemaFault → Result Value SchemaFault
as_value (Ok s) = Ok (set_of s)
as_value (Err f) = Err f

-- ---- base types and types

-- the member `type` of a base type
abbrev pub kind_of : Members → Result Kind SchemaFault
kind_of ms = do
  t ← needed syntax (codes "type") ms
  name ← read_string t
  read_kind name

abbrev pub enum_of : Kind → Members → Result (Option Atoms) SchemaFault
enum_of kind ms = if_given (read_enum kind) (get_member (codes "enum") ms)

-- a base type with its constraints
abbrev pub base_in : List (List ℕ) → Members → Result Base SchemaFault
base_in tables ms = do
  kind ← kind_of ms
  enum ← enum_of kind ms
  integer_bounds ← bounds_of (codes "minInteger") (codes "maxInteger") (same_kind kind integers) ms
  length_bounds ← bounds_of (codes "minLength") (codes "maxLength") (same_kind kind strings) ms
  reference ← reference_in tables kind ms
  Ok (record { kind = kind; enum = enum; min_integer = integer_bounds.0; max_integer = integer_bounds.1; min_length = length_bounds.0; max_length = length_bounds.1; reference = reference })

abbrev pub key_of : List (List ℕ) → Members → Result Base SchemaFault
key_of tables ms = do
  k ← needed syntax (codes "key") ms
  read_base tables k

abbrev pub value_of : List (List ℕ) → Members → Result (Option Base) SchemaFault
value_of tables ms = if_given (read_base tables) (get_member (codes "value") ms)

abbrev pub type_in : List (List ℕ) → Members → Result ColType SchemaFault
type_in tables ms = do
  key ← key_of tables ms
  value ← value_of tables ms
  min ← min_of ms
  max ← max_of ms
  Ok (record { key = key; value = value; min = min; max = max })

-- ---- columns

abbrev pub column_type_of : List (List ℕ) → Members → Result ColType SchemaFault
column_type_of tables ms = do
  t ← needed syntax (codes "type") ms
  read_type tables t

abbrev pub column_in : List (List ℕ) → List ℕ → Members → Result Column SchemaFault
column_in tables name ms = do
  type ← column_type_of tables ms
  ephemeral ← flag_of (codes "ephemeral") false ms
  mutable ← flag_of (codes "mutable") true ms
  Ok (record { name = name; type = type; ephemeral = ephemeral; mutable = mutable })

-- the columns of the members of `columns`
abbrev pub columns_in : List (List ℕ) → Members → Result (List Column) SchemaFault
columns_in tables ms = each (read_column tables) (members_list ms)

abbrev pub columns_of : List (List ℕ) → Members → Result (List Column) SchemaFault
columns_of tables ms = do
  cs ← needed syntax (codes "columns") ms
  columns ← read_object cs
  columns_in tables columns

-- ---- indexes

abbrev pub index_names : List Column → Items → Result (List (List ℕ)) SchemaFault
index_names cs ds = distinct_names cs [] (items_list ds)

abbrev pub indexes_in : List Column → Items → Result (List (List (List ℕ))) SchemaFault
indexes_in cs ds = each (read_index cs) (items_list ds)

abbrev pub indexes_of : List Column → Members → Result (List (List (List ℕ))) SchemaFault
indexes_of cs ms = given_or [] (read_list (read_index cs)) (get_member (codes "indexes") ms)

-- ---- tables and schemas

abbrev pub table_in : List (List ℕ) → List ℕ → Members → Result TableSchema SchemaFault
table_in tables name ms = do
  columns ← columns_of tables ms
  max_rows ← max_rows_of ms
  is_root ← flag_of (codes "isRoot") false ms
  indexes ← indexes_of columns ms
  Ok (record { name = name; columns = columns; max_rows = max_rows; is_root = is_root; indexes = indexes })

-- the tables of the members of `tables`
abbrev pub tables_in : Members → Result (List TableSchema) SchemaFault
tables_in ms = each (read_table (names_in ms)) (members_list ms)

abbrev pub tables_of : Members → Result (List TableSchema) SchemaFault
tables_of ms = do
  t ← needed syntax (codes "tables") ms
  tables ← read_object t
  tables_in tables

abbrev pub name_of : Members → Result (List ℕ) SchemaFault
name_of ms = do
  n ← needed syntax (codes "name") ms
  name ← read_string n
  demand (is_name name) bad_id
  Ok name

abbrev pub version_of : Members → Result (List ℕ) SchemaFault
version_of ms = do
  v ← needed syntax (codes "version") ms
  version ← read_string v
  demand (is_version version) syntax
  Ok version

abbrev pub cksum_of : Members → Result (Option (List ℕ)) SchemaFault
cksum_of ms = if_given read_string (get_member (codes "cksum") ms)

abbrev pub schema_in : Members → Result Schema SchemaFault
schema_in ms = do
  name ← name_of ms
  version ← version_of ms
  cksum ← cksum_of ms
  tables ← tables_of ms
  Ok (record { name = name; version = version; cksum = cksum; tables = tables })

-- ---- sizes

abbrev pub is_too_wide : Data → Bool
is_too_wide d = nat_lt max_columns (length (members_at (codes "columns") d))

abbrev pub has_too_wide : List (List ℕ × Data) → Bool
has_too_wide ms = list_any (λ m. is_too_wide m.1) ms

-- the JSON that a text is
abbrev pub json_of : List ℕ → Result Data SchemaFault
json_of text = do
  demand (is_utf8 text) syntax
  ok_or (read text) syntax
