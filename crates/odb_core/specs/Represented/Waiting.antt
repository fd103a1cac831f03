-- What the transactions of the code stand for.
use Rattle.std.specs.Prelude.{ℕ, ◌+◌, ◌==◌, ◌&&◌, Bool, List, bytes_eq, map, Option, Some, None, Vec}
use Rattle.std.specs.declared.alloc.Global.{Global}
use Rattle.odb_commit.specs.Represented.Outcome.{Answers}
use Rattle.odb_commit.specs.declared.transaction.Outcome.{Outcome}
use Rattle.odb_commit.specs.declared.transaction.Outcome.TheVariants as outcome
use Rattle.odb_tables.specs.Change.{Changes}
use Rattle.serde_json.specs.Written.{compact_text}
use Rattle.odb_atoms.specs.Represented.Atom.{uuid_of}
use Rattle.odb_commit.specs.Transaction as transaction
use Rattle.odb_commit.specs.Transaction.{transact}
use Rattle.odb_locks.specs.Locks.{Locks, owns}
use Rattle.odb_ops.specs.Execution.{Context}
use Rattle.odb_rpc.specs.Message.{operations_of, reply}
use Rattle.odb_ops.specs.Represented.Ran.{results_of}
use Rattle.odb_schema.specs.Json.{Data, array_of}
use Rattle.odb_schema.specs.Schema.{Schema}
use Rattle.odb_tables.specs.Database.{Db}
use Rattle.odb_wire.specs.Message.{id_of}
use Rattle.odb_wire.specs.Shown.{request_data}
use Rattle.odb_service.specs.Server.{Server}
use Rattle.odb_service.specs.Service.{Service, max_rows}
use Rattle.odb_service.specs.Session.{Item, say, to}
use Rattle.odb_service.specs.World as model
use Rattle.odb_service.specs.World.{World, end_transaction, run_transaction}
use Rattle.odb_core.specs.declared.submitted.Submitted.{Submitted}
use Rattle.odb_core.specs.declared.waiting.Tried.{Tried}
use Rattle.odb_core.specs.declared.waiting.Tried.TheVariants as tried

-- a transaction that waits until this deadline, tried at this number of commits
abbrev pub waiting_as : Submitted → Option ℕ → ℕ → model.Waiting
waiting_as a deadline tried = record { session = a.session; request = request_data a.request; operations = operations_of (request_data a.request); fresh = map uuid_of a.fresh.items; arrival = a.arrival; deadline = deadline; tried = tried }

-- it is the session's, and its request has the id of this text
abbrev pub is_named : ℕ → List ℕ → model.Waiting → Bool
is_named s text p = (p.session == s) && bytes_eq text (compact_text (id_of p.request))

-- the reply of a transaction with these results
abbrev pub reply_with : Submitted → Vec Data Global → Item
reply_with a results = say (to (request_data a.request)) (reply (id_of (request_data a.request)) (array_of (results_of results)))

-- what the world gives a transaction
abbrev pub context_in : World → Submitted → Context
context_in w a = record { fresh = map uuid_of a.fresh.items; arrival = a.arrival; now = w.now; owns = owns w.locks a.session }

-- what the transaction comes to with these locks, at this moment, after so many commits, on the database
abbrev pub outcome_with : Schema → Locks → ℕ → ℕ → Db → Submitted → transaction.Outcome
outcome_with s locks now commits db a = transact s max_rows (commits + 1) (record { fresh = map uuid_of a.fresh.items; arrival = a.arrival; now = now; owns = owns locks a.session }) db (operations_of (request_data a.request))

-- what the transaction comes to in the world, for the schema
abbrev pub outcome_in : Schema → World → Submitted → transaction.Outcome
outcome_in s w a = transact s max_rows (w.commits + 1) (context_in w a) w.db (operations_of (request_data a.request))

-- the transaction that waits after a try
abbrev pub left_waiting : Tried → Submitted → ℕ → Option model.Waiting
left_waiting tried.Ended a commits = None
left_waiting (tried.Waiting deadline) a commits = Some (waiting_as a deadline commits)

-- the transaction comes to this in the server
abbrev pub IsOutcome : Server → Submitted → Outcome → Type 0
IsOutcome v a o = Answers v.schema v.world.db o (outcome_in v.schema v.world a)

-- it goes through with these results and this change
abbrev pub IsDone : Server → Submitted → Vec Data Global → List Changes → Type 0
IsDone v a results change = IsOutcome v a (outcome.Done results change)

-- how a service ends it, with these results and this database, or with the database left
abbrev pub ends : Submitted → Vec Data Global → Option Db → Service → World → World
ends a results db h w = end_transaction h a.session (request_data a.request) (array_of (results_of results)) db w

-- how a service runs it
abbrev pub runs : Submitted → Service → World → World
runs a h w = run_transaction h (waiting_as a None w.commits) w
