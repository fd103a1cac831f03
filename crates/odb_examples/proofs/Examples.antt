-- What an example unfolds to compute the definitions.
use Rattle.std.specs.Prelude.{⊤, ℕ, List, unwrap_or}
use Rattle.std.specs.Str.{chars}
use Rattle.std.specs.Fmt.{digits}
use Rattle.serde_json.specs.Read.{read}
use Rattle.serde_json.specs.Data.{Data, null}
use Rattle.serde_json.proofs.OnLiterals.{serde_json_on_literals}
use Rattle.uuid.proofs.OnLiterals.{uuid_on_literals}
use Rattle.odb_atoms.specs.FinMap as map
use Rattle.odb_commit.specs.Transaction.{transact}
use Rattle.odb_integrity.specs.Settlement.{is_kept, settle}
use Rattle.odb_json.specs.Operation.{read_op}
use Rattle.odb_ops.specs.Execution.{perform, run}
use Rattle.odb_atoms.specs.Uuid.{uuid_from}
use Rattle.odb_schema.specs.SchemaText.{read_schema, write_schema}

unfoldable pub computes : ⊤
unfolding uuid_from map.empty map.get map.checked map.insert map.from_sorted map.keys map.len map.retain_keys serde_json_on_literals uuid_on_literals chars digits read_schema write_schema read_op perform run is_kept settle transact
computes = tt

-- the data of a JSON text
abbrev pub parsed : List ℕ → Data
parsed s = unwrap_or (read s) null
