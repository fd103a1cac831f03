use Rattle.std.proofs.Common.{rules}
use Rattle.std.specs.Prelude.{option_map, string_bytes}
use Rattle.serde_json.specs.View.{members_view}
use Rattle.odb_schema.proofs.RoundTrip.Texts.{members_read_back}
use Rattle.odb_schema.proofs.read.database.read_members.Goals as goal

pub new-requires-clause-read_back : goal.new-requires-clause-read_back
new-requires-clause-read_back c =
    members_read_back (members_view c.args.members.now.entries) (record { name = string_bytes c.in_ok-name-2.name; version = string_bytes c.in_ok-version-2.version; cksum = option_map string_bytes c.match-cksum.cksum; tables = c.in_ok-tables.tables.items }) c.requires.sound c.requires.small (search rules)
