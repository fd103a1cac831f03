-- What a run's end says of the cause.
use Rattle.std.specs.Prelude.{◌≡◌, ℕ, List, Option, IfSome, Vec}
use Rattle.std.specs.declared.alloc.Global.{Global}
use Rattle.std.proofs.lemmas.Option.{IfSome_then}
use mathlib.Core.Path.{sym, subst}
use Rattle.odb_cause.specs.Cause.{FailedAt, IsOf, SettlesTo}
use Rattle.odb_cause.specs.declared.cause.Cause.{Cause}
use Rattle.odb_ops.specs.Execution as ops
use Rattle.odb_ops.specs.Represented.Ran as answered
use Rattle.odb_ops.specs.Represented.Ran.{results_of}
use Rattle.odb_ops.specs.declared.execution.Ran.TheVariants as ran
use Rattle.odb_schema.specs.Json.{Data}
use Rattle.odb_schema.specs.Schema.{Schema}
use Rattle.odb_tables.specs.Database.{Db}

module _ (s : Schema) (max_rows : ℕ) (operations : List Data) (now : Db) where
  -- all operations went through
  pub finished_for : (results : Vec Data Global) (r : ops.Ran) (o : Option Cause) → answered.Answers (ran.Finished results) now r → IfSome o (SettlesTo s max_rows now) → IfSome o (λ cause. IsOf s max_rows operations cause r)
  finished_for results (ops.finished d rs) o h k = IfSome_then o k (λ cause here. subst (λ db. SettlesTo s max_rows db cause) (sym h.0) here)
  finished_for results (ops.failed rs) o h k = absurd h
  finished_for results (ops.waiting moment) o h k = absurd h

  -- one failed
  pub failed_for : (results : Vec Data Global) (r : ops.Ran) (o : Option Cause) → answered.Answers (ran.Failed results) now r → IfSome o (FailedAt s operations (results_of results)) → IfSome o (λ cause. IsOf s max_rows operations cause r)
  failed_for results (ops.finished d rs) o h k = absurd h
  failed_for results (ops.failed rs) o h k = IfSome_then o k (λ cause here. subst (λ found. FailedAt s operations found cause) (sym h) here)
  failed_for results (ops.waiting moment) o h k = absurd h
