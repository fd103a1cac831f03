-- What the machine takes from the data: transactions, the requests of monitors, the text of JSON; and which methods it serves. [P 14]
use Rattle.std.specs.Prelude.{ℕ, Bool, true, cond, List, Option, Some, None, Result}
use Rattle.serde_json.specs.Written.{compact_text}
use Rattle.odb_atoms.specs.Error.{Error}
use Rattle.odb_commit.specs.Transaction as transaction
use Rattle.odb_cond.specs.Filter.{Filter}
use Rattle.odb_ops.specs.Execution.{Context}
use Rattle.odb_request.specs.Request.{Notation, Request}
use Rattle.odb_request.specs.Requests.{read_changes, read_requests}
use Rattle.odb_schema.specs.Json.{Data, array_of}
use Rattle.odb_schema.specs.Schema.{Schema}
use Rattle.odb_schema.specs.SchemaText.{write_schema}
use Rattle.odb_tables.specs.Change.{is_changed}
use Rattle.odb_tables.specs.Database.{Db}

-- results, with the new database where a row changed; or a wait that holds until a deadline, if it has one
pub data Outcome : Type 0 where
  ended : Data → Option Db → Outcome
  waiting : Option ℕ → Outcome

pub record Service : Type 0 where
  -- of the database, the next commit's number and the operations
  pub transact : Db → ℕ → List Data → Context → Outcome
  -- the requests of a monitor, and the filters of a change
  pub read_requests : Notation → Data → Result (List Request) Error
  pub read_filters : Data → Result (List (List ℕ × Filter)) Error
  pub printed : Data → List ℕ
  pub db_name : List ℕ
  pub schema : Data
  pub serves : List ℕ → Bool

-- the rows that a database may have
abbrev pub max_rows : ℕ
max_rows = 1000000

abbrev pub outcome_of : Db → transaction.Outcome → Outcome
outcome_of old (transaction.done results new) = ended (array_of results) (cond (is_changed old new) (Some new) None)
outcome_of old (transaction.refused results) = ended (array_of results) None
outcome_of old (transaction.waiting deadline) = waiting deadline

-- the service of a schema, with the methods that are served
abbrev pub service_of : (List ℕ → Bool) → Schema → Service
service_of serves s = record {
  transact = λ db number ops c. outcome_of db (transaction.transact s max_rows number c db ops);
  read_requests = read_requests s;
  read_filters = read_changes s;
  printed = compact_text;
  db_name = s.name;
  schema = write_schema s;
  serves = serves;
}

-- with all methods
abbrev pub service : Schema → Service
service = service_of (λ method. true)
