-- The tables that a reference may name, by what the parts of a schema are read with.
use Rattle.std.specs.Prelude.{ℕ, List}
use Rattle.serde_json.specs.View.{members_view}
use Rattle.odb_schema.specs.Represented.Parts.{names_in}
use Rattle.odb_schema.specs.declared.read.reader.Reader.{Reader}

abbrev pub known_to : Reader → List (List ℕ)
known_to r = names_in (members_view r.tables.now.entries)
