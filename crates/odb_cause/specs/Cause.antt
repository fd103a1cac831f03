-- Where a transaction failed, and why. [P 15.2]
use Rattle.std.specs.Prelude.{◌≡◌, ℕ, List, map as map_list, codes, slice_get, Option, Some, option_and_then, option_map}
use Rattle.serde_json.specs.Written.{compact_text}
use Rattle.odb_atoms.specs.Error.{Error}
use Rattle.odb_atoms.specs.First.{Err}
use Rattle.odb_atoms.specs.Represented.Error.{error_of}
use Rattle.odb_cause.specs.declared.cause.Cause.{Cause}
use Rattle.odb_cause.specs.declared.cause.Stage.{Stage}
use Rattle.odb_cause.specs.declared.cause.Stage.TheVariants as stage
use Rattle.odb_integrity.specs.Settlement.{settle}
use Rattle.odb_ops.specs.Execution.{Context, Ran, draft_of, error_result, failed, finished, run, waiting}
use Rattle.odb_schema.specs.Json.{Data, string_member}
use Rattle.odb_schema.specs.Schema.{Schema, table_place}
use Rattle.odb_tables.specs.Database.{Db}

-- the place of the table that an operation names, if the schema has it
abbrev pub table_named_by : Schema → Data → Option ℕ
table_named_by s operation = option_and_then (table_place s) (string_member (codes "table") operation)

-- the result at this place is the error, as it is sent
abbrev pub IsErrorAt : List Data → ℕ → Error → Type 0
IsErrorAt results k e = option_map compact_text (slice_get results k) ≡ Some (compact_text (error_result e))

-- of these operations with these results the one at the cause's place failed with its error, and its table is the one that the operation names
abbrev pub FailedIn : Schema → List Data → List Data → Stage → Option ℕ → Error → Type 0
FailedIn s operations results (stage.Operation k) table e = IsErrorAt results k e × (table ≡ option_and_then (table_named_by s) (slice_get operations k))
FailedIn s operations results stage.Commit table e = ⊥

abbrev pub FailedAt : Schema → List Data → List Data → Cause → Type 0
FailedAt s operations results cause = FailedIn s operations results cause.stage cause.table (error_of cause.error)

-- what all operations left can't be settled, for this error
abbrev pub SettlesIn : Schema → ℕ → Db → Stage → Error → Type 0
SettlesIn s max_rows db (stage.Operation k) e = ⊥
SettlesIn s max_rows db stage.Commit e = settle s max_rows db ≡ Err e

abbrev pub SettlesTo : Schema → ℕ → Db → Cause → Type 0
SettlesTo s max_rows db cause = SettlesIn s max_rows db cause.stage (error_of cause.error)

-- the operations came to this, for that cause
abbrev pub IsOf : Schema → ℕ → List Data → Cause → Ran → Type 0
IsOf s max_rows operations cause (finished d results) = SettlesTo s max_rows d.db cause
IsOf s max_rows operations cause (failed results) = FailedAt s operations results cause
IsOf s max_rows operations cause (waiting moment) = ⊥

-- The transaction fails on the database, for this cause: in its commit where all operations go through, else in the one whose result is the error. There is no cause of one that goes through or waits.
abbrev pub IsCauseOf : Schema → ℕ → Context → Db → List Data → Cause → Type 0
IsCauseOf s max_rows c db operations cause = IsOf s max_rows operations cause (run s c (draft_of db) operations)
