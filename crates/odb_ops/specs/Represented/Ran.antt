-- When the code's answer is the one of the definitions.
use Rattle.std.specs.Prelude.{◌≡◌, ℕ, List, ◌∷◌, ◌++◌, replicate, Option, Some, Vec}
use Rattle.std.specs.declared.alloc.Global.{Global}
use Rattle.odb_ops.specs.Execution as model
use Rattle.odb_ops.specs.Execution.{error_result}
use Rattle.odb_ops.specs.declared.execution.Ran.{Ran}
use Rattle.odb_ops.specs.declared.execution.Ran.TheVariants as ran
use Rattle.odb_schema.specs.Json.{Data, null}
use Rattle.odb_tables.specs.Database.{Db}

abbrev pub results_of : Vec Data Global → List Data
results_of results = results.items

-- the same results, and where all went through the database as the operations left it
abbrev pub Answers : Ran → Db → model.Ran → Type 0
Answers (ran.Finished results) db (model.finished d answer) = (d.db ≡ db) × (answer ≡ results_of results)
Answers (ran.Failed results) db (model.failed answer) = answer ≡ results_of results
Answers (ran.Waiting moment) db (model.waiting answer) = answer ≡ moment
Answers r db answer = ⊥

-- what was answered where an operation stopped with so many after it
abbrev pub Ends : Ran → List Data → Option model.Stop → ℕ → Type 0
Ends (ran.Failed results) before (Some (model.fails e)) later = results_of results ≡ before ++ (error_result e ∷ replicate later null)
Ends (ran.Waiting moment) before (Some (model.must_wait answer)) later = moment ≡ answer
Ends r before stop later = ⊥
