-- What a schema of the code stands for: its tables ascend by name, and what is printed of it is read back.
use Rattle.std.specs.Prelude.{◌≡◌, option_map, string_bytes}
use Rattle.std.specs.List.{list_any}
use Rattle.odb_schema.specs.Schema.{Schema}
use Rattle.odb_schema.specs.SchemaText.{IsReadBack}
use Rattle.odb_schema.specs.Represented.Names.{TablesAscend}
use Rattle.odb_schema.specs.declared.schema.Schema.TheInside.{Inside}

abbrev pub schema_of : Inside → Schema
schema_of a = record { name = string_bytes a.name; version = string_bytes a.version; cksum = option_map string_bytes a.cksum; tables = a.tables.items }

-- the flag says whether a table is marked as a root table
pub record IsInOrder (a : Inside) : Type 0 where
  pub ascending : TablesAscend a.tables.items
  pub marks : a.marks_roots ≡ list_any (λ t. t.is_root) a.tables.items
  pub read_back : IsReadBack (schema_of a)
