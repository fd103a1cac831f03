use Rattle.std.proofs.Common.{◌≡◌}
use Rattle.serde_json.specs.View.{members_view}
use Rattle.odb_atoms.specs.First.{each}
use Rattle.odb_schema.specs.Json.{members_list}
use Rattle.odb_schema.specs.SchemaText.{read_table}
use Rattle.odb_schema.specs.Represented.Parts.{tables_in}
use Rattle.odb_schema.specs.Represented.Reader.{known_to}
use Rattle.odb_schema.proofs.Eachs.{after}
use Rattle.odb_schema.proofs.read.reader.Reader.read_tables.Given as goal

abbrev pub invariant-loop-name : goal.invariant-loop-name
invariant-loop-name l = tables_in (members_view l.self.tables.now.entries) ≡ after l.read.items (each (read_table (known_to l.self)) (members_list (members_view l.name-iterator)))
