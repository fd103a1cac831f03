-- What a table of the code stands for: its columns ascend by name.
use Rattle.std.specs.Prelude.{map, string_bytes}
use Rattle.odb_schema.specs.Schema.{TableSchema}
use Rattle.odb_schema.specs.Represented.Names.{ColumnsAscend, names_of}
use Rattle.odb_schema.specs.declared.schema.TableSchema.TheInside.{Inside}

abbrev pub table_of : Inside → TableSchema
table_of a = record { name = string_bytes a.name; columns = a.columns.items; max_rows = a.max_rows; is_root = a.is_marked_root; indexes = map names_of a.indexes.items }

abbrev pub HasAscendingColumns : Inside → Type 0
HasAscendingColumns a = ColumnsAscend a.columns.items
