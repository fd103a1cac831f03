-- The request by which a peer that says nothing is asked whether it is there (RFC 7047, 4.1.11). [P 15.2]
use Rattle.std.specs.Prelude.{ℕ, List, [], codes}
use Rattle.serde_json.specs.Data.{Data, string}
use Rattle.serde_json.specs.Written.{compact_text}
use Rattle.odb_schema.specs.Json.{array_of, member, no_members, object}

abbrev pub probe : Data
probe = object (member (codes "id") (string (codes "echo")) (member (codes "method") (string (codes "echo")) (member (codes "params") (array_of []) no_members)))

abbrev pub probe_text : List ℕ
probe_text = compact_text probe
