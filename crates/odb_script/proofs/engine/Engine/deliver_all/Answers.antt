use Rattle.std.proofs.Common.{rules, ◌≡◌, ◌∷◌, [], length, map, List, refl, ap, sym, subst, ◌∙◌}
use Rattle.std.proofs.lemmas.List.{nil_from_length}
use Rattle.odb_service.specs.Server.{served_by}
use Rattle.odb_schema.specs.Schema.{Schema}
use Rattle.odb_wire.specs.Shown.{message_data}
use Rattle.odb_wire.specs.declared.message.Message.{Message}
use Rattle.odb_script.specs.Script.{drain_all, dispatch}
use Rattle.odb_script.specs.Represented.Steps.{Does}
use Rattle.odb_script.proofs.CommandSteps.{delivered_from, delivers_next, delivers_none}
use Rattle.odb_script.proofs.engine.Engine.deliver_all.Goals as goal

pub loop-message-init : goal.loop-message-init
loop-message-init c =
    let all : c.into_iter-message-iterator.result.rest.items ≡ c.args.messages.items = search rules in
    (ap (λ (ms : List Message). delivered_from (served_by c.args.self.now.schema) c.args.name.now c.args.session (map message_data ms) c.args.self.now.script c.args.text.now.items) (sym all), refl)

pub loop-message-preserved : goal.loop-message-preserved
loop-message-preserved c =
    let old = c.loop-message in
    let h = served_by c.args.self.now.schema in
    let step : old.message-iterator.rest.items ≡ c.in-Some.message ∷ c.next.new.self.rest.items = search rules in
    let does : Does (λ p. drain_all (served_by old.self.schema) (dispatch (served_by old.self.schema) c.args.name.now c.args.session (message_data c.in-Some.message) p)) old.self.script old.text.items c.deliver.new.self.script c.deliver.new.text.items = search rules in
    let same : c.deliver.new.self.schema ≡ old.self.schema = search rules in
    let here : Does (λ p. drain_all h (dispatch h c.args.name.now c.args.session (message_data c.in-Some.message) p)) old.self.script old.text.items c.deliver.new.self.script c.deliver.new.text.items =
    subst (λ (s : Schema). Does (λ p. drain_all (served_by s) (dispatch (served_by s) c.args.name.now c.args.session (message_data c.in-Some.message) p)) old.self.script old.text.items c.deliver.new.self.script c.deliver.new.text.items) old.invariant.1 does in (
      old.invariant.0 ∙ ap (λ (ms : List Message). delivered_from h c.args.name.now c.args.session (map message_data ms) old.self.script old.text.items) step
          ∙ delivers_next h c.args.name.now c.args.session (message_data c.in-Some.message) (map message_data c.next.new.self.rest.items) _ _ _ _ here,
      same ∙ old.invariant.1,
    )

pub returns-clause-done : goal.returns-clause-done
returns-clause-done c =
    let old = c.loop-message in
    let h = served_by c.args.self.now.schema in
    let long : length old.message-iterator.rest.items ≡ old.message-iterator.rest.len = search rules in
    let none : old.message-iterator.rest.items ≡ [] = nil_from_length old.message-iterator.rest.items (long ∙ c.in-None.ensures.steps.0) in
    let all : delivered_from h c.args.name.now c.args.session (map message_data c.args.messages.items) c.args.self.now.script c.args.text.now.items ≡ (old.self.script, old.text.items) =
    old.invariant.0 ∙ ap (λ (ms : List Message). delivered_from h c.args.name.now c.args.session (map message_data ms) old.self.script old.text.items) none ∙ delivers_none h c.args.name.now c.args.session old.self.script old.text.items in
    (ap (λ r. r.0) all, ap (λ r. r.1) all)

pub returns-clause-schema : goal.returns-clause-schema
returns-clause-schema c = c.loop-message.invariant.1
