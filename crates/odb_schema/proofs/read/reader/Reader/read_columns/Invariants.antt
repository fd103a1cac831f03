use Rattle.std.proofs.Common.{◌≡◌}
use Rattle.serde_json.specs.View.{members_view}
use Rattle.odb_schema.specs.Represented.Parts.{columns_in}
use Rattle.odb_schema.specs.Represented.Reader.{known_to}
use Rattle.odb_schema.proofs.Eachs.{after}
use Rattle.odb_schema.proofs.read.reader.Reader.read_columns.Given as goal

abbrev pub invariant-loop-name : goal.invariant-loop-name
invariant-loop-name l = columns_in (known_to l.self) (members_view l.columns.entries) ≡ after l.read.items (columns_in (known_to l.self) (members_view l.name-iterator))
