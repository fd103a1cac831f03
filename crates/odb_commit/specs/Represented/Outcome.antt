-- When the code's outcome is the one of the definitions.
use Rattle.std.specs.Prelude.{◌≡◌}
use Rattle.odb_commit.specs.Sound.{IsSound}
use Rattle.odb_commit.specs.Transaction as model
use Rattle.odb_commit.specs.declared.transaction.Outcome.{Outcome}
use Rattle.odb_commit.specs.declared.transaction.Outcome.TheVariants as outcome
use Rattle.odb_ops.specs.Represented.Ran.{results_of}
use Rattle.odb_schema.specs.Schema.{Schema}
use Rattle.odb_tables.specs.Change.{all_changed_by, change_between}
use Rattle.odb_tables.specs.Database.{Db}
use Rattle.odb_tables.specs.Installing.{IsChangeOf}

-- the same results, and where it is done the change that leads from the old database to the new one, which is sound too
abbrev pub Answers : Schema → Db → Outcome → model.Outcome → Type 0
Answers s old (outcome.Done results change) (model.done answer new) = (answer ≡ results_of results) × (change ≡ change_between old new) × IsChangeOf old change × (all_changed_by old change ≡ new) × IsSound s new
Answers s old (outcome.Failed results) (model.refused answer) = answer ≡ results_of results
Answers s old (outcome.Waiting deadline) (model.waiting moment) = moment ≡ deadline
Answers s old o answer = ⊥
