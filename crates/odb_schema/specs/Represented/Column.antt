-- What a column of the code stands for.
use Rattle.std.specs.Prelude.{string_bytes}
use Rattle.odb_atoms.specs.Represented.ColType.{type_of}
use Rattle.odb_schema.specs.Schema.{Column}
use Rattle.odb_schema.specs.declared.schema.Column.TheInside.{Inside}

abbrev pub column_of : Inside → Column
column_of a = record { name = string_bytes a.name; type = type_of a.column_type; ephemeral = a.is_ephemeral; mutable = a.is_mutable }
