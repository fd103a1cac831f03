use Rattle.std.proofs.Common.{rules, ◌≡◌, List, map, sym, ap, subst, ◌∙◌, IfSome}
use Rattle.std.proofs.lemmas.Result.{IfOk-weaker}
use Rattle.serde_json.specs.View.{view}
use Rattle.odb_cause.specs.Cause.{FailedAt, IsOf}
use Rattle.odb_cause.proofs.Ends.{failed_for, finished_for}
use Rattle.odb_cause.proofs.explanation.explain.Goals as goal
use Rattle.odb_commit.proofs.Outcomes.{went_typed}
use Rattle.odb_commit.proofs.Sound.{sound_settled, sound_typed}
use Rattle.odb_integrity.specs.Settled.{IsSettled}
use Rattle.odb_ops.specs.Execution as ops
use Rattle.odb_ops.specs.Execution.{Ran}
use Rattle.odb_ops.specs.Represented.Ran as answered
use Rattle.odb_ops.specs.declared.execution.Ran.TheVariants as code
use Rattle.odb_ops.specs.Represented.Context.{context_of}
use Rattle.odb_ops.specs.Represented.Draft.{begun}
use Rattle.odb_ops.proofs.Typed.{run_typed}
use Rattle.odb_schema.specs.Json.{Data}
use Rattle.odb_tables.specs.Database.{Db}
use Rattle.odb_tables.specs.Draft.{Draft, draft_of}
use Rattle.odb_tables.specs.Typed.{IsTyped}

pub in_commit-requires-clause-typed : goal.in_commit-requires-clause-typed
in_commit-requires-clause-typed c =
    let operations : List Data = map view c.args.operations.now in
    let draft : Draft = c.args.draft in
    let begins : draft ≡ draft_of c.args.draft.old = c.requires.fresh in
    let typed : IsTyped c.args.schema.now draft.now = subst (λ (d : Draft). IsTyped c.args.schema.now d.now) (sym begins) (sound_typed c.args.schema.now c.args.draft.old c.requires.sound) in
    went_typed c.args.schema.now c.args.max_rows 0 c.args.draft.old c.run.new.draft.now c.in-Finished.field-0
    (ops.run c.args.schema.now (context_of c.args.context.now) (begun draft) operations) (search rules)
    (run_typed c.args.schema.now (context_of c.args.context.now) (begun draft) operations typed)

pub in_commit-requires-clause-base : goal.in_commit-requires-clause-base
in_commit-requires-clause-base c = search rules

pub returns-in-Finished : goal.returns-in-Finished
returns-in-Finished c =
    let operations : List Data = map view c.args.operations.now in
    let draft : Draft = c.args.draft in
    let begins : draft ≡ draft_of c.args.draft.old = c.requires.fresh in
    let ran : Ran = ops.run c.args.schema.now (context_of c.args.context.now) (begun draft) operations in
    let answers : answered.Answers (code.Finished c.in-Finished.field-0) c.run.new.draft.now ran = search rules in
    IfOk-weaker c.in_commit.result _ _ (λ o h.
    subst (λ (d : Draft). IfSome o (λ cause. IsOf c.args.schema.now c.args.max_rows operations cause (ops.run c.args.schema.now (context_of c.args.context.now) (begun d) operations))) begins
    (finished_for c.args.schema.now c.args.max_rows operations c.run.new.draft.now c.in-Finished.field-0 ran o answers h)) c.in_commit.ensures

pub returns-in-Failed : goal.returns-in-Failed
returns-in-Failed c =
    let operations : List Data = map view c.args.operations.now in
    let draft : Draft = c.args.draft in
    let begins : draft ≡ draft_of c.args.draft.old = c.requires.fresh in
    let ran : Ran = ops.run c.args.schema.now (context_of c.args.context.now) (begun draft) operations in
    let answers : answered.Answers (code.Failed c.in-Failed.results) c.run.new.draft.now ran = search rules in
    let lent : c.as_slice.result.now ≡ c.in-Failed.results.items = search rules in
    IfOk-weaker c.in_operation.result _ _ (λ o h.
    subst (λ (d : Draft). IfSome o (λ cause. IsOf c.args.schema.now c.args.max_rows operations cause (ops.run c.args.schema.now (context_of c.args.context.now) (begun d) operations))) begins
    (failed_for c.args.schema.now c.args.max_rows operations c.run.new.draft.now c.in-Failed.results ran o answers
    (subst (λ found. IfSome o (FailedAt c.args.schema.now operations found)) lent h))) c.in_operation.ensures
