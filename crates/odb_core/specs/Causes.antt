-- Why transactions fail on a server as it is. [P 15.2]
use Rattle.std.specs.Prelude.{ℕ, List}
use Rattle.odb_cause.specs.Cause.{IsCauseOf}
use Rattle.odb_cause.specs.declared.cause.Cause.{Cause}
use Rattle.odb_locks.specs.Locks.{Locks, owns}
use Rattle.odb_ops.specs.Execution.{Context}
use Rattle.odb_schema.specs.Schema.{Schema}
use Rattle.odb_service.specs.Server.{Server}
use Rattle.odb_service.specs.Service.{max_rows}
use Rattle.odb_service.specs.World.{Waiting}
use Rattle.odb_tables.specs.Database.{Db}

-- what a transaction is given with these locks, at this moment
abbrev pub given_with : Locks → ℕ → Waiting → Context
given_with locks now p = record { fresh = p.fresh; arrival = p.arrival; now = now; owns = owns locks p.session }

-- it fails with these locks, at this moment, on this database, for this cause
abbrev pub FailsWith : Schema → Locks → ℕ → Db → Waiting → Cause → Type 0
FailsWith s locks now db p cause = IsCauseOf s max_rows (given_with locks now p) db p.operations cause

-- it fails on the server as it is, for this cause
abbrev pub FailsFor : Server → Waiting → Cause → Type 0
FailsFor v p cause = FailsWith v.schema v.world.locks v.world.now v.world.db p cause
