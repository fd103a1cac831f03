use Rattle.std.proofs.Common.{rules, ◌≡◌, ◌++◌, OnOk, List, ℕ, Some, None, codes, ap, slice_index_or, slice_set, subst, true}
use Rattle.std.proofs.lemmas.Result.{on_ok_weaker}
use Rattle.odb_service.specs.Server.{served_by}
use Rattle.odb_script.specs.Running.{Running}
use Rattle.odb_script.specs.Script.{ScriptSession, Script, hold_named, line_of, with_held}
use Rattle.odb_script.specs.Represented.Steps.{Does}
use Rattle.odb_script.proofs.HeldSessions.{holds, holds_none}
use Rattle.odb_script.proofs.OpenedSessions.{IsPlaceOf, script_of, standing}
use Rattle.odb_script.proofs.NamePlaces.{apart_set}
use Rattle.odb_script.proofs.NumberedSessions.{below_set, order_set}
use Rattle.odb_script.proofs.engine.Engine.hold_named.Goals as goal

pub returns-in_default-clause-done : goal.returns-in_default-clause-done
returns-in_default-clause-done c =
    let h = served_by c.args.self.now.schema in
    let n = c.args.name.now in
    let p : Script = c.args.self.now.script in
    let t : List ℕ = c.args.text.now.items in
    let u : List ℕ = c.print_line.new.text.items in
    let none : IsPlaceOf n p.sessions None = search rules in
    let text : OnOk c.print_line.result (u ≡ t ++ line_of n (codes "!gone")) = search rules in
    on_ok_weaker c.print_line.result (λ e. holds_none h n p t u none e) text

pub invariant_of-self : goal.invariant_of-self
invariant_of-self c =
    let xs : List ScriptSession = c.self.inside.sessions.items in
    let place : IsPlaceOf c.args.name.now xs (Some c.in-Some.place) = search rules in
    let at : c.index_mut.result.now ≡ slice_index_or xs c.in-Some.place c.index_mut.result.now = search rules in
    let held : c.set_held.new.self ≡ with_held true c.index_mut.result.now = search rules in
    let there = (standing c.args.name.now xs c.in-Some.place c.index_mut.result.now place at).0 in
    let k = c.in-Some.place in
    let x = c.index_mut.result.now in
    let y = c.set_held.new.self in
    (apart_set xs k x y there (ap (λ (y : ScriptSession). y.name) held) c.self.invariant.0, (order_set xs k x y there (ap (λ (y : ScriptSession). y.session) held) c.self.invariant.1.0, below_set c.self.inside.core.opened xs k x y there (ap (λ (y : ScriptSession). y.session) held) c.self.invariant.1.1))

pub returns-clause-done : goal.returns-clause-done
returns-clause-done c =
    let old = c.self.inside in
    let xs : List ScriptSession = old.sessions.items in
    let x : ScriptSession = c.index_mut.result.now in
    let n = c.args.name.now in
    let k = c.in-Some.place in
    let t = c.args.text.now.items in
    let place : IsPlaceOf n xs (Some k) = search rules in
    let at : x ≡ slice_index_or xs k x = search rules in
    let held : c.set_held.new.self ≡ with_held true x = search rules in
    subst (λ (v : Running). Does (hold_named (served_by v.schema) n) v.script t (script_of old.core (slice_set xs k c.set_held.new.self) old.inserts old.moment) t) c.self.view_is
    (holds n (script_of old.core xs old.inserts old.moment) k x place at c.self.invariant.0 (served_by old.core.schema) (slice_set xs k c.set_held.new.self) t (ap (slice_set xs k) held))
