-- Transactions (RFC 7047, transact): the operations, settlement, and the versions of changed rows. [P 6.1]
use Rattle.std.specs.Prelude.{ℕ, List, [], ◌∷◌, ◌++◌, Option}
use Rattle.odb_atoms.specs.Error.{Error}
use Rattle.odb_atoms.specs.First.{Err, Ok, Result}
use Rattle.odb_atoms.specs.Uuid.{uuid_from}
use Rattle.odb_integrity.specs.Settlement.{settle}
use Rattle.odb_ops.specs.Execution as execution
use Rattle.odb_ops.specs.Execution.{draft_of, Context, Ran, error_result, failed, finished, run}
use Rattle.odb_schema.specs.Json.{Data}
use Rattle.odb_schema.specs.Schema.{Schema}
use Rattle.odb_tables.specs.Database.{Db}
use Rattle.odb_tables.specs.Stamped.{stamped}

pub data Outcome : Type 0 where
  done : List Data → Db → Outcome
  refused : List Data → Outcome
  waiting : Option ℕ → Outcome

abbrev pub settled : ℕ → Db → List Data → Result Db Error → Outcome
settled number old results (Ok new) = done results (stamped (uuid_from number) old new)
settled number old results (Err e) = refused (results ++ error_result e ∷ [])

abbrev pub outcome : Schema → ℕ → ℕ → Db → Ran → Outcome
outcome s max_rows number old (finished d results) = settled number old results (settle s max_rows d.db)
outcome s max_rows number old (failed results) = refused results
outcome s max_rows number old (execution.waiting moment) = waiting moment

-- A transaction on the database, as the commit of this number. Unless it is done it leaves the database as it is.
unfoldable pub transact : Schema → ℕ → ℕ → Context → Db → List Data → Outcome
transact s max_rows number c db ops = outcome s max_rows number db (run s c (draft_of db) ops)
