use Rattle.std.proofs.Common.{rules, ◌≡◌, ◌++◌, OnOk, List, ℕ, Some, None, codes, ap, slice_index_or, slice_set, subst, sym, ◌∙◌, false}
use Rattle.std.proofs.lemmas.Option.{same_Some}
use Rattle.std.proofs.lemmas.Result.{on_ok_weaker}
use Rattle.odb_service.specs.Server.{Server, served_by}
use Rattle.odb_script.specs.Running.{Running}
use Rattle.odb_script.specs.Script.{ScriptSession, Script, line_of, take_named, with_held}
use Rattle.odb_script.specs.Represented.Draining.{drained_session}
use Rattle.odb_script.specs.Represented.Steps.{Does}
use Rattle.odb_script.proofs.HeldSessions.{takes, takes_none}
use Rattle.odb_script.proofs.OpenedSessions.{IsPlaceOf, script_of, standing}
use Rattle.odb_script.proofs.NamePlaces.{apart_set}
use Rattle.odb_script.proofs.NumberedSessions.{as_opened, below_set, order_set}
use Rattle.odb_script.proofs.engine.Engine.take_named.Goals as goal

pub returns-in_default-clause-done : goal.returns-in_default-clause-done
returns-in_default-clause-done c =
    let h = served_by c.args.self.now.schema in
    let n = c.args.name.now in
    let p : Script = c.args.self.now.script in
    let t : List ℕ = c.args.text.now.items in
    let u : List ℕ = c.print_line.new.text.items in
    let none : IsPlaceOf n p.sessions None = search rules in
    let text : OnOk c.print_line.result (u ≡ t ++ line_of n (codes "!gone")) = search rules in
    on_ok_weaker c.print_line.result (λ e. takes_none h n p t u none e) text

pub invariant_of-self : goal.invariant_of-self
invariant_of-self c =
    let same : c.drain.new.core.opened ≡ c.self.inside.core.opened = search rules in
    as_opened c.self.inside.core.opened c.drain.new.core.opened c.self.inside.sessions.items same c.self.invariant

pub invariant_of-self-2 : goal.invariant_of-self-2
invariant_of-self-2 c =
    let xs : List ScriptSession = c.self.inside.sessions.items in
    let place : IsPlaceOf c.args.name.now xs (Some c.in-Some.place) = search rules in
    let at : c.index_mut.result.now ≡ slice_index_or xs c.in-Some.place c.index_mut.result.now = search rules in
    let held : c.set_held.new.self ≡ with_held false c.index_mut.result.now = search rules in
    let there = (standing c.args.name.now xs c.in-Some.place c.index_mut.result.now place at).0 in
    let k = c.in-Some.place in
    let x = c.index_mut.result.now in
    let y = c.set_held.new.self in
    let same : c.drain.new.core.opened ≡ c.self.inside.core.opened = search rules in
    as_opened c.self.inside.core.opened c.drain.new.core.opened (slice_set xs k y) same
    (apart_set xs k x y there (ap (λ (y : ScriptSession). y.name) held) c.self.invariant.0, (order_set xs k x y there (ap (λ (y : ScriptSession). y.session) held) c.self.invariant.1.0, below_set c.self.inside.core.opened xs k x y there (ap (λ (y : ScriptSession). y.session) held) c.self.invariant.1.1))

pub returns-clause-done : goal.returns-clause-done
returns-clause-done c =
    let old = c.self.inside in
    let xs : List ScriptSession = old.sessions.items in
    let x : ScriptSession = c.index_mut.result.now in
    let n = c.args.name.now in
    let k = c.in-Some.place in
    let s = c.behind-self.inside.session in
    let t : List ℕ = c.args.text.now.items in
    let q : Server = c.drain.new.core in
    let u : List ℕ = c.drain.new.text.items in
    let ys : List ScriptSession = slice_set xs k c.set_held.new.self in
    let place : IsPlaceOf n xs (Some k) = search rules in
    let at : x ≡ slice_index_or xs k x = search rules in
    let at-first : c.index.result.now ≡ slice_index_or xs k c.index.result.now = search rules in
    let one : c.index.result.now ≡ x = same_Some _ _ (sym (standing n xs k c.index.result.now place at-first).0 ∙ (standing n xs k x place at).0) in
    let number : s ≡ x.session = ap (λ (y : ScriptSession). y.session) (c.behind-self.view_is ∙ one) in
    let held : c.set_held.new.self ≡ with_held false x = search rules in
    let given : drained_session n s (old.core, t) ≡ (q, u) = search rules in
    subst (λ (v : Running). Does (take_named (served_by v.schema) n) v.script t (script_of q ys old.inserts old.moment) u) c.self.view_is
    (takes n (script_of old.core xs old.inserts old.moment) k x place at c.self.invariant.0 old.core.schema s q ys t u number (ap (slice_set xs k) held) given).0

pub returns-clause-schema : goal.returns-clause-schema
returns-clause-schema c =
    let old = c.self.inside in
    let xs : List ScriptSession = old.sessions.items in
    let x : ScriptSession = c.index_mut.result.now in
    let n = c.args.name.now in
    let k = c.in-Some.place in
    let s = c.behind-self.inside.session in
    let t : List ℕ = c.args.text.now.items in
    let q : Server = c.drain.new.core in
    let u : List ℕ = c.drain.new.text.items in
    let ys : List ScriptSession = slice_set xs k c.set_held.new.self in
    let place : IsPlaceOf n xs (Some k) = search rules in
    let at : x ≡ slice_index_or xs k x = search rules in
    let at-first : c.index.result.now ≡ slice_index_or xs k c.index.result.now = search rules in
    let one : c.index.result.now ≡ x = same_Some _ _ (sym (standing n xs k c.index.result.now place at-first).0 ∙ (standing n xs k x place at).0) in
    let number : s ≡ x.session = ap (λ (y : ScriptSession). y.session) (c.behind-self.view_is ∙ one) in
    let held : c.set_held.new.self ≡ with_held false x = search rules in
    let given : drained_session n s (old.core, t) ≡ (q, u) = search rules in
    subst (λ (v : Running). q.schema ≡ v.schema) c.self.view_is
    (takes n (script_of old.core xs old.inserts old.moment) k x place at c.self.invariant.0 old.core.schema s q ys t u number (ap (slice_set xs k) held) given).1
