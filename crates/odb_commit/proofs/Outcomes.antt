-- What operations and their settlement come to.
use Rattle.std.specs.Prelude.{◌≡◌, ℕ, List, Option, Ok, Vec}
use Rattle.std.specs.declared.alloc.Global.{Global}
use mathlib.Core.Path.{refl, sym, subst}
use Rattle.odb_atoms.specs.Uuid.{uuid_from}
use Rattle.odb_commit.specs.Transaction as model
use Rattle.odb_commit.specs.Represented.Outcome.{Answers}
use Rattle.odb_commit.specs.declared.transaction.Outcome.TheVariants as outcome
use Rattle.odb_commit.proofs.Sound.{settled_sound}
use Rattle.odb_commit.specs.Sound.{IsSound}
use Rattle.odb_integrity.specs.Settlement.{settle}
use Rattle.odb_ops.specs.Execution as ops
use Rattle.odb_ops.specs.Represented.Ran as answered
use Rattle.odb_ops.specs.Represented.Ran.{results_of}
use Rattle.odb_ops.specs.declared.execution.Ran.TheVariants as ran
use Rattle.odb_ops.proofs.Typed.{EndsTyped}
use Rattle.odb_schema.specs.Json.{Data}
use Rattle.odb_schema.specs.Schema.{Schema}
use Rattle.odb_tables.specs.Change.{Changes, all_changed_by, change_between}
use Rattle.odb_tables.specs.Database.{Db}
use Rattle.odb_tables.specs.Installing.{IsChangeOf}
use Rattle.odb_tables.specs.Stamped.{stamped}
use Rattle.odb_tables.specs.Typed.{IsTyped}

module _ (s : Schema) (max_rows number : ℕ) (old now : Db) where
  -- it was settled
  pub done : (results : Vec Data Global) (change : List Changes) (new : Db) → IsSound s old → IsTyped s now → settle s max_rows now ≡ Ok new
      → change ≡ change_between old (stamped (uuid_from number) old new) → IsChangeOf old change → all_changed_by old change ≡ stamped (uuid_from number) old new
      → Answers s old (outcome.Done results change) (model.settled number old (results_of results) (settle s max_rows now))
  done results change new h g e is of leads =
      subst (λ r. Answers s old (outcome.Done results change) (model.settled number old (results_of results) r)) (sym e)
      (refl, is, of, leads, settled_sound s max_rows (uuid_from number) old now new h g e)

  -- all operations went through
  pub went_typed : (results : Vec Data Global) (r : ops.Ran) → answered.Answers (ran.Finished results) now r → EndsTyped s r → IsTyped s now
  went_typed results (ops.finished d rs) h typed = subst (IsTyped s) h.0 typed
  went_typed results (ops.failed rs) h typed = absurd h
  went_typed results (ops.waiting moment) h typed = absurd h

  pub went : (results : Vec Data Global) (r : ops.Ran) → answered.Answers (ran.Finished results) now r → model.outcome s max_rows number old r ≡ model.settled number old (results_of results) (settle s max_rows now)
  went results (ops.finished d rs) h = λ i. model.settled number old (h.1 i) (settle s max_rows (h.0 i))
  went results (ops.failed rs) h = absurd h
  went results (ops.waiting moment) h = absurd h

  -- one failed, or a `wait` has to wait
  pub failed : (results : Vec Data Global) (r : ops.Ran) → answered.Answers (ran.Failed results) now r → Answers s old (outcome.Failed results) (model.outcome s max_rows number old r)
  failed results (ops.finished d rs) h = absurd h
  failed results (ops.failed rs) h = h
  failed results (ops.waiting moment) h = absurd h

  pub waiting : (deadline : Option ℕ) (r : ops.Ran) → answered.Answers (ran.Waiting deadline) now r → Answers s old (outcome.Waiting deadline) (model.outcome s max_rows number old r)
  waiting deadline (ops.finished d rs) h = absurd h
  waiting deadline (ops.failed rs) h = absurd h
  waiting deadline (ops.waiting moment) h = h

-- a transaction in its two parts
pub in_parts : (s : Schema) (max_rows number : ℕ) (c : ops.Context) (db : Db) (operations : List Data) → model.transact s max_rows number c db operations ≡ model.outcome s max_rows number db (ops.run s c (ops.draft_of db) operations)
unfolding model.transact
in_parts s max_rows number c db operations = refl
