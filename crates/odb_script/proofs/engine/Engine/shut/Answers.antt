use Rattle.std.proofs.Common.{rules, ◌≡◌, Bool, List, bytes_eq, not, filter, ap, sym, subst, ◌∙◌}
use Rattle.std.proofs.lemmas.Fn.{filter_same}
use Rattle.odb_service.specs.Run.{closed}
use Rattle.odb_service.specs.Server.{served_by}
use Rattle.odb_script.specs.Running.{Running}
use Rattle.odb_script.specs.Script.{ScriptSession, Script, in_world, shut, world_after}
use Rattle.odb_script.specs.Represented.Names.{AreOpened}
use Rattle.odb_script.proofs.NumberedSessions.{as_opened, below_filter, order_filter}
use Rattle.odb_script.proofs.OpenedSessions.{script_of}
use Rattle.odb_script.proofs.NamePlaces.{apart_filter}
use Rattle.odb_script.proofs.engine.Engine.shut.Goals as goal

pub invariant_of-self : goal.invariant_of-self
invariant_of-self c =
    let same : c.close_if_open.new.core.opened ≡ c.self.inside.core.opened = search rules in
    as_opened c.self.inside.core.opened c.close_if_open.new.core.opened c.self.inside.sessions.items same c.self.invariant

pub invariant_of-self-2 : goal.invariant_of-self-2
invariant_of-self-2 c =
    let same : c.close_if_open.new.core.opened ≡ c.self.inside.core.opened = search rules in
    let left : c.retain.new.self.items ≡ filter (λ (y : ScriptSession). not (bytes_eq y.name c.args.name.now)) c.self.inside.sessions.items = filter_same _ _ _ (λ x b f' k. search rules) _ _ c.retain.ensures.filtered in
    let others : ScriptSession → Bool = λ y. not (bytes_eq y.name c.args.name.now) in
    let xs : List ScriptSession = c.self.inside.sessions.items in
    let n = c.self.inside.core.opened in
    as_opened n c.close_if_open.new.core.opened c.retain.new.self.items same
    (subst (AreOpened n) (sym left) (apart_filter others xs c.self.invariant.0, (order_filter others xs c.self.invariant.1.0, below_filter n others xs c.self.invariant.1.1)))

pub returns-clause-done : goal.returns-clause-done
returns-clause-done c =
    let old = c.self.inside in
    let q = c.close_if_open.new.core in
    let left : c.retain.new.self.items ≡ filter (λ (y : ScriptSession). not (bytes_eq y.name c.args.name.now)) old.sessions.items = filter_same _ _ _ (λ x b f' k. search rules) _ _ c.retain.ensures.filtered in
    let p : Script = script_of old.core old.sessions.items old.inserts old.moment in
    let ended : in_world (served_by old.core.schema) (world_after (served_by old.core.schema) (closed c.args.session) p) p ≡ record p { world = q.world } = search rules in
    let number : q.opened ≡ old.core.opened = search rules in
    (λ i. let r : Script = record { world = q.world; sessions = left i; opened_so_far = number i; inserts = old.inserts; moment = old.moment } in r)
    ∙ ap (λ (r : Script). let s : Script = record r { sessions = filter (λ (y : ScriptSession). not (bytes_eq y.name c.args.name.now)) old.sessions.items } in s) (sym ended)
    ∙ ap (λ (v : Running). shut (served_by v.schema) c.args.name.now c.args.session v.script) c.self.view_is
