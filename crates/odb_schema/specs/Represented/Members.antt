-- The members of objects that are written, put in from the last to the first.
use Rattle.std.specs.Prelude.{ℕ, ◌==◌, List, [], ◌∷◌, length, codes, map as map_list, Option, option_map, unwrap_or}
use Rattle.serde_json.specs.Data.{put}
use Rattle.odb_atoms.specs.ColType.{Base, ColType, Reference}
use Rattle.odb_atoms.specs.Value.{Atoms, set_of}
use Rattle.odb_schema.specs.Json as json
use Rattle.odb_schema.specs.Json.{Data, Members, array_of, no_members, object, object_of, present, string}
use Rattle.odb_schema.specs.Notation.{write_value}
use Rattle.odb_schema.specs.Schema.{Column, TableSchema}
use Rattle.odb_schema.specs.SchemaText.{kind_name, of_natural, unless, write_base, write_column, write_index, write_max, write_reference, write_table}

-- the members, put in from the last to the first
abbrev pub onto : List (List ℕ × Data) → Members → Members
onto [] ms = ms
onto (m ∷ rest) ms = put m.0 m.1 (onto rest ms)

abbrev pub reference_members : Option Reference → List (List ℕ × Data)
reference_members r = unwrap_or (option_map write_reference r) []

abbrev pub enum_members : Option Atoms → List (List ℕ × Data)
enum_members enum = present (codes "enum") (option_map (λ s. write_value (set_of s)) enum)

abbrev pub with_bounds : Base → Members → Members
with_bounds b ms =
    onto (present (codes "minInteger") (option_map json.of_integer b.min_integer))
    (onto (present (codes "maxInteger") (option_map json.of_integer b.max_integer))
    (onto (present (codes "minLength") (option_map json.of_integer b.min_length))
    (onto (present (codes "maxLength") (option_map json.of_integer b.max_length)) ms)))

-- a base type that has constraints
abbrev pub base_object : Base → Data
base_object b = object (put (codes "type") (string (kind_name b.kind)) (onto (enum_members b.enum) (with_bounds b (onto (reference_members b.reference) no_members))))

abbrev pub value_members : Option Base → List (List ℕ × Data)
value_members value = present (codes "value") (option_map write_base value)

-- a type that isn't a plain scalar
abbrev pub type_object : ColType → Data
type_object t = object (put (codes "key") (write_base t.key) (onto (value_members t.value) (onto (unless (t.min == 1) (codes "min") (of_natural t.min)) (onto (write_max t.max) no_members))))

abbrev pub column_member : Column → List ℕ × Data
column_member c = (c.name, write_column c)

abbrev pub columns_object : List Column → Data
columns_object cs = object_of (map_list column_member cs)

abbrev pub table_member : TableSchema → List ℕ × Data
table_member t = (t.name, write_table t)

abbrev pub tables_object : List TableSchema → Data
tables_object ts = object_of (map_list table_member ts)

abbrev pub indexes_members : List (List (List ℕ)) → List (List ℕ × Data)
indexes_members indexes = unless (length indexes == 0) (codes "indexes") (array_of (map_list write_index indexes))

abbrev pub max_rows_members : Option ℕ → List (List ℕ × Data)
max_rows_members n = present (codes "maxRows") (option_map of_natural n)

abbrev pub cksum_members : Option (List ℕ) → List (List ℕ × Data)
cksum_members cksum = present (codes "cksum") (option_map string cksum)
