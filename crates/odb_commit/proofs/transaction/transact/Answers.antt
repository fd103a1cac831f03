use Rattle.std.proofs.Common.{rules, ◌≡◌, List, map, sym, ap, subst, ◌∙◌}
use Rattle.std.proofs.lemmas.Result.{IfOk-weaker}
use Rattle.serde_json.specs.View.{view}
use Rattle.odb_commit.specs.Represented.Outcome.{Answers}
use Rattle.odb_commit.proofs.Sound.{sound_typed}
use Rattle.odb_commit.proofs.Outcomes.{failed, in_parts, waiting, went, went_typed}
use Rattle.odb_commit.proofs.transaction.transact.Goals as goal
use Rattle.odb_integrity.specs.Settlement.{settle}
use Rattle.odb_commit.specs.Transaction as model
use Rattle.odb_commit.specs.declared.transaction.Outcome.TheVariants as outcome
use Rattle.odb_ops.specs.Execution as ops
use Rattle.odb_ops.specs.Execution.{Ran}
use Rattle.odb_ops.specs.Represented.Ran as answered
use Rattle.odb_ops.specs.Represented.Ran.{results_of}
use Rattle.odb_ops.specs.declared.execution.Ran.TheVariants as code
use Rattle.odb_tables.specs.Database.{Db}
use Rattle.odb_ops.specs.Represented.Context.{context_of}
use Rattle.odb_ops.specs.Represented.Draft.{begun}
use Rattle.odb_ops.proofs.Typed.{run_typed}
use Rattle.odb_schema.specs.Json.{Data}
use Rattle.odb_tables.specs.Draft.{Draft, draft_of}
use Rattle.odb_tables.specs.Typed.{IsTyped}

pub finish-requires-clause-now : goal.finish-requires-clause-now
finish-requires-clause-now c =
    let operations : List Data = map view c.args.operations.now in
    let draft : Draft = c.args.draft in
    let begins : draft ≡ draft_of c.args.draft.old = c.requires.fresh in
    let typed : IsTyped c.args.schema.now draft.now = subst (λ (d : Draft). IsTyped c.args.schema.now d.now) (sym begins) (sound_typed c.args.schema.now c.args.draft.old c.requires.sound) in
    went_typed c.args.schema.now c.args.max_rows c.args.number c.args.draft.old c.run.new.draft.now c.in-Finished.results
    (ops.run c.args.schema.now (context_of c.args.context.now) (begun draft) operations) (search rules)
    (run_typed c.args.schema.now (context_of c.args.context.now) (begun draft) operations typed)

pub returns-in-Finished : goal.returns-in-Finished
returns-in-Finished c =
    let operations : List Data = map view c.args.operations.now in
    let draft : Draft = c.args.draft in
    let begins : draft ≡ draft_of c.args.draft.old = c.requires.fresh in
    let ran : Ran = ops.run c.args.schema.now (context_of c.args.context.now) (begun draft) operations in
    let answers : answered.Answers (code.Finished c.in-Finished.results) c.run.new.draft.now ran = search rules in
    let base : c.run.new.draft.old ≡ c.args.draft.old = c.in_ok-results.ensures.base in
    let is : model.transact c.args.schema.now c.args.max_rows c.args.number (context_of c.args.context.now) c.args.draft.old operations ≡ model.settled c.args.number c.args.draft.old (results_of c.in-Finished.results) (settle c.args.schema.now c.args.max_rows c.run.new.draft.now) =
    in_parts c.args.schema.now c.args.max_rows c.args.number (context_of c.args.context.now) c.args.draft.old operations
    ∙ ap (λ (d : Draft). model.outcome c.args.schema.now c.args.max_rows c.args.number c.args.draft.old (ops.run c.args.schema.now (context_of c.args.context.now) (begun d) operations)) (sym begins)
    ∙ went c.args.schema.now c.args.max_rows c.args.number c.args.draft.old c.run.new.draft.now c.in-Finished.results ran answers in
    record {
      outcome = IfOk-weaker c.finish.result _ _ (λ o h.
          subst (Answers c.args.schema.now c.args.draft.old o) (sym is)
          (subst (λ (db : Db). Answers c.args.schema.now db o (model.settled c.args.number db (results_of c.in-Finished.results) (settle c.args.schema.now c.args.max_rows c.run.new.draft.now))) base h)) c.finish.ensures;
    }

pub returns-in-Failed : goal.returns-in-Failed
returns-in-Failed c =
    let operations : List Data = map view c.args.operations.now in
    let draft : Draft = c.args.draft in
    let begins : draft ≡ draft_of c.args.draft.old = c.requires.fresh in
    let ran : Ran = ops.run c.args.schema.now (context_of c.args.context.now) (begun draft) operations in
    let answers : answered.Answers (code.Failed c.in-Failed.results) c.run.new.draft.now ran = search rules in
    record {
      outcome =
          subst (Answers c.args.schema.now c.args.draft.old (outcome.Failed c.in-Failed.results))
          (sym (in_parts c.args.schema.now c.args.max_rows c.args.number (context_of c.args.context.now) c.args.draft.old operations
          ∙ ap (λ (d : Draft). model.outcome c.args.schema.now c.args.max_rows c.args.number c.args.draft.old (ops.run c.args.schema.now (context_of c.args.context.now) (begun d) operations)) (sym begins)))
          (failed c.args.schema.now c.args.max_rows c.args.number c.args.draft.old c.run.new.draft.now c.in-Failed.results ran answers);
    }

pub returns-in-Waiting : goal.returns-in-Waiting
returns-in-Waiting c =
    let operations : List Data = map view c.args.operations.now in
    let draft : Draft = c.args.draft in
    let begins : draft ≡ draft_of c.args.draft.old = c.requires.fresh in
    let ran : Ran = ops.run c.args.schema.now (context_of c.args.context.now) (begun draft) operations in
    let answers : answered.Answers (code.Waiting c.in-Waiting.deadline) c.run.new.draft.now ran = search rules in
    record {
      outcome =
          subst (Answers c.args.schema.now c.args.draft.old (outcome.Waiting c.in-Waiting.deadline))
          (sym (in_parts c.args.schema.now c.args.max_rows c.args.number (context_of c.args.context.now) c.args.draft.old operations
          ∙ ap (λ (d : Draft). model.outcome c.args.schema.now c.args.max_rows c.args.number c.args.draft.old (ops.run c.args.schema.now (context_of c.args.context.now) (begun d) operations)) (sym begins)))
          (waiting c.args.schema.now c.args.max_rows c.args.number c.args.draft.old c.run.new.draft.now c.in-Waiting.deadline ran answers);
    }
