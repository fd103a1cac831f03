use Rattle.std.proofs.Common.{rules, ◌≡◌, ◌+◌, ◌-◌, ◌<◌, ◌≤◌, arith, ℕ, List, [], ◌∷◌, ◌++◌, drop, get_or, length, map, Ok, Err, refl, sym, ap, subst, ◌∙◌}
use Rattle.std.proofs.lemmas.List.{drop_all, drop_more, length-drop, length-map}
use Rattle.std.proofs.lemmas.Result.{IfOk-weaker}
use Rattle.serde_json.specs.View.{view}
use Rattle.serde_json.specs.declared.value.Value.{Value}
use Rattle.odb_atoms.specs.Represented.Atom.{uuid_of}
use Rattle.odb_atoms.specs.Uuid.{Uuid}
use Rattle.odb_ops.specs.Execution as model
use Rattle.odb_ops.specs.Execution.{Context, Ran}
use Rattle.odb_ops.specs.Represented.Context.{context_of}
use Rattle.odb_ops.specs.Represented.Draft.{begun, naming}
use Rattle.odb_ops.specs.Represented.Parts.{AreTaken}
use Rattle.odb_ops.specs.Represented.Ran.{Ends}
use Rattle.odb_ops.specs.Represented.Stop.{Carried, stop_of}
use Rattle.odb_ops.proofs.Runs.{Going, answers_finished, answers_stopped, begins, finishes, goes_on, stops}
use Rattle.odb_schema.specs.Json.{Data}
use Rattle.odb_schema.specs.Notation.{Names}
use Rattle.odb_schema.specs.Schema.{Schema}
use Rattle.odb_tables.specs.Draft.{Draft}
use Rattle.odb_ops.proofs.execution.run_all.Goals as goal

pub loop-place-init : goal.loop-place-init
loop-place-init c =
    let s : Schema = c.args.setting.now.schema.now in
    let ctx : Context = context_of c.args.setting.now.context.now in
    let names : Names = c.args.setting.now.names.now in
    let fresh : List Uuid = map uuid_of c.args.setting.now.context.now.fresh.now in
    let d : Draft = c.args.draft.now in
    let ops : List Data = map view c.args.operations.now in
    let taken : Names = c.new-taken.result in
    let whole : Ran = model.run_from s ctx names fresh (begun d) ops in
    let none : c.in_ok-results.results.items ≡ [] = search rules in
    record {
      base = refl;
      typed = c.requires.typed;
      going = subst (λ (vs : List Data). Going s ctx names whole vs fresh taken d ops) (sym none) (begins s ctx names fresh taken d ops c.new-taken.ensures);
    }

pub loop-place-preserved : goal.loop-place-preserved
loop-place-preserved c =
    let s : Schema = c.args.setting.now.schema.now in
    let ctx : Context = context_of c.args.setting.now.context.now in
    let names : Names = c.args.setting.now.names.now in
    let ops : List Value = c.args.operations.now in
    let i = c.loop-place.place in
    let op : Value = c.index-operations-place.result in
    let d : Draft = c.loop-place.draft in
    let new : Draft = c.read_and_perform.new.draft in
    let taken : Names = c.loop-place.taken in
    let after : Names = c.read_and_perform.new.taken in
    let left : List Uuid = map uuid_of c.loop-place.left.now in
    let results : List Data = c.loop-place.results.items in
    let v : Data = c.in-Ok.result in
    let whole : Ran = model.run_from s ctx names (map uuid_of c.args.setting.now.context.now.fresh.now) (begun c.args.draft.now) (map view ops) in
    let rest : List Data = map view (drop (i + 1) ops) in
    let inside : i < length ops = search rules in
    let here : op ≡ get_or ops i op = search rules in
    let split : map view (drop i ops) ≡ view op ∷ rest = ap (map view) (drop_more ops i op inside ∙ ap (λ x. x ∷ drop (i + 1) ops) (sym here)) in
    let first : uuid_of c.next_uuid-uuid.result ≡ model.first_fresh left = search rules in
    let behind : map uuid_of c.remaining_uuids-left.result.now ≡ model.fresh_after (view op) left = search rules in
    let pushed : c.push.new.self.items ≡ c.loop-place.results.items ++ v ∷ [] = search rules in
    let going : Going s ctx names whole results left taken d (view op ∷ rest) = subst (Going s ctx names whole results left taken d) split c.loop-place.invariant.going in
    let ran : (named : List (List ℕ)) → AreTaken taken named → Carried s (Ok v) after new (model.read_and_perform s ctx names (model.first_fresh left) (naming named d) (view op))
    = λ named h. subst (λ (u : Uuid). Carried s (Ok v) after new (model.read_and_perform s ctx names u (naming named d) (view op))) first (c.in-Ok.ensures.ran named h) in
    let more : Going s ctx names whole (results ++ v ∷ []) (model.fresh_after (view op) left) after new rest = goes_on s ctx names whole results left taken after d new (view op) rest v going ran in
    record {
      base = c.in-Ok.ensures.base ∙ c.loop-place.invariant.base;
      typed = (ran going.0 going.1).0;
      going = subst (λ (us : List Uuid). Going s ctx names whole c.push.new.self.items us after new rest) (sym behind)
          (subst (λ (rs : List Data). Going s ctx names whole rs (model.fresh_after (view op) left) after new rest) (sym pushed) more);
    }

pub returns-in-Err-clause-ran : goal.returns-in-Err-clause-ran
returns-in-Err-clause-ran c =
    let s : Schema = c.args.setting.now.schema.now in
    let ctx : Context = context_of c.args.setting.now.context.now in
    let names : Names = c.args.setting.now.names.now in
    let ops : List Value = c.args.operations.now in
    let i = c.loop-place.place in
    let op : Value = c.index-operations-place.result in
    let d : Draft = c.loop-place.draft in
    let new : Draft = c.read_and_perform.new.draft in
    let taken : Names = c.loop-place.taken in
    let after : Names = c.read_and_perform.new.taken in
    let left : List Uuid = map uuid_of c.loop-place.left.now in
    let results : List Data = c.loop-place.results.items in
    let stop = c.in-Err.stop in
    let whole : Ran = model.run_from s ctx names (map uuid_of c.args.setting.now.context.now.fresh.now) (begun c.args.draft.now) (map view ops) in
    let rest : List Data = map view (drop (i + 1) ops) in
    let inside : i < length ops = search rules in
    let here : op ≡ get_or ops i op = search rules in
    let split : map view (drop i ops) ≡ view op ∷ rest = ap (map view) (drop_more ops i op inside ∙ ap (λ x. x ∷ drop (i + 1) ops) (sym here)) in
    let first : uuid_of c.next_uuid-uuid.result ≡ model.first_fresh left = search rules in
    let going : Going s ctx names whole results left taken d (view op ∷ rest) = subst (Going s ctx names whole results left taken d) split c.loop-place.invariant.going in
    let ran : (named : List (List ℕ)) → AreTaken taken named → Carried s (Err stop) after new (model.read_and_perform s ctx names (model.first_fresh left) (naming named d) (view op))
    = λ named h. subst (λ (u : Uuid). Carried s (Err stop) after new (model.read_and_perform s ctx names u (naming named d) (view op))) first (c.in-Err.ensures.ran named h) in
    let later : (length ops - 1) - i ≡ length rest = omega (arith, length-map (drop (i + 1) ops) view, length-drop (i + 1) ops) in
    IfOk-weaker c.stopped.result _ _ (λ answer ends.
    answers_stopped answer new.now whole results (stop_of stop) (length rest) (subst (Ends answer results (stop_of stop)) later ends)
    (λ x is. stops s ctx names whole results left taken after d new (view op) rest stop x going ran is)) c.stopped.ensures

pub returns-clause-ran : goal.returns-clause-ran
returns-clause-ran c =
    let s : Schema = c.args.setting.now.schema.now in
    let ctx : Context = context_of c.args.setting.now.context.now in
    let names : Names = c.args.setting.now.names.now in
    let ops : List Value = c.args.operations.now in
    let i = c.loop-place.place in
    let d : Draft = c.loop-place.draft in
    let taken : Names = c.loop-place.taken in
    let left : List Uuid = map uuid_of c.loop-place.left.now in
    let results : List Data = c.loop-place.results.items in
    let whole : Ran = model.run_from s ctx names (map uuid_of c.args.setting.now.context.now.fresh.now) (begun c.args.draft.now) (map view ops) in
    let past : length ops ≤ i = search rules in
    let done : map view (drop i ops) ≡ [] = ap (map view) (drop_all i ops past) in
    answers_finished c.loop-place.results d whole (finishes s ctx names whole results left taken d (subst (Going s ctx names whole results left taken d) done c.loop-place.invariant.going))
