use Rattle.std.proofs.Common.{rules, ◌≡◌, [], ◌∷◌, Some, None, option_map, sym, ap, ◌∙◌}
use Rattle.std.proofs.lemmas.Result.{IfOk-weaker}
use Rattle.serde_json.specs.Written.{compact_text}
use Rattle.odb_atoms.specs.Represented.Atom.{uuid_of}
use Rattle.odb_request.specs.Represented.Notation.{notation_of}
use Rattle.odb_rpc.specs.Message.{notification}
use Rattle.odb_request.specs.Request.{update_method}
use Rattle.odb_rpc.specs.Since.{update3}
use Rattle.odb_sessions.specs.Composed.{notified_text}
use Rattle.odb_sessions.specs.Marked.{MarkedMonitor}
use Rattle.odb_sessions.proofs.monitor.Monitor.before_updates.Goals as goal

pub returns-in-None : goal.returns-in-None
returns-in-None c =
    let x : MarkedMonitor = c.args.self.now in
    let number = uuid_of c.args.number in
    let none : c.self.inside.since ≡ None = search rules in
    let since : None ≡ x.since = ap (option_map uuid_of) (sym none) ∙ ap (λ (y : MarkedMonitor). y.since) c.self.view_is in
    let id : c.deref.result.now ≡ x.id = search rules in
    let notation : notation_of c.self.inside.notation ≡ x.notation = ap (λ (y : MarkedMonitor). y.notation) c.self.view_is in
    IfOk-weaker c.before_updates.result _ _
    (λ text e. λ d. e x.id d (c.text.ensures ∙ ap compact_text id)
    ∙ (λ j. compact_text (notification (update_method (notation j)) (x.id ∷ d ∷ [])))
    ∙ ap (λ o. notified_text number (record x { since = o }) d) since)
    c.before_updates.ensures

pub returns-in-Some : goal.returns-in-Some
returns-in-Some c =
    let x : MarkedMonitor = c.args.self.now in
    let number = uuid_of c.args.number in
    let v = c.in-Some.field-0 in
    let some : c.self.inside.since ≡ Some v = search rules in
    let since : Some (uuid_of v) ≡ x.since = ap (option_map uuid_of) (sym some) ∙ ap (λ (y : MarkedMonitor). y.since) c.self.view_is in
    let id : c.deref-in-Some.result.now ≡ x.id = search rules in
    IfOk-weaker c.before_update3.result _ _
    (λ text e. λ d. e x.id d (c.text-in-Some.ensures ∙ ap compact_text id)
    ∙ ap (λ o. notified_text number (record x { since = o }) d) since)
    c.before_update3.ensures
