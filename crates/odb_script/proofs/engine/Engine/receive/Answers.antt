use Rattle.std.proofs.Common.{rules, ◌≡◌, ◌++◌, OnOk, List, ap, sym, subst, ◌∙◌, Some, None, codes, drop, map, slice_index_or, slice_set}
use Rattle.odb_service.specs.Server.{served_by}
use Rattle.odb_wire.specs.Shown.{message_data}
use Rattle.odb_schema.specs.Schema.{Schema}
use Rattle.odb_wire.specs.Feeding.{fault_of}
use Rattle.odb_wire.specs.Stream.{Ending, max_message, messages}
use Rattle.std.proofs.lemmas.Option.{same_Some}
use Rattle.odb_script.specs.Running.{Running}
use Rattle.odb_script.specs.Script.{ScriptSession, Script, at_ending, deliver_all, line_of, perform, piece, receive, with_bytes}
use Rattle.odb_script.specs.Represented.Steps.{Does}
use Rattle.odb_script.proofs.OpenedSessions.{IsPlaceOf, acts, gone_away, script_of, standing}
use Rattle.odb_script.proofs.NamePlaces.{apart_set}
use Rattle.odb_script.proofs.NumberedSessions.{below_set, order_set}
use Rattle.std.proofs.lemmas.Result.{on_ok_weaker}
use Rattle.odb_script.proofs.ReceivedBytes.{received}
use Rattle.odb_script.proofs.engine.Engine.receive.Goals as goal

pub returns-in_default-clause-done : goal.returns-in_default-clause-done
returns-in_default-clause-done c =
    let none : IsPlaceOf c.args.name.now c.args.self.now.script.sessions None = search rules in
    let text : OnOk c.print_line.result (c.print_line.new.text.items ≡ c.args.text.now.items ++ line_of c.args.name.now (codes "!gone")) = search rules in
    on_ok_weaker c.print_line.result (λ e. gone_away (served_by c.args.self.now.schema) c.args.name.now (λ (x : ScriptSession) q. receive (served_by c.args.self.now.schema) x c.args.bytes.now q) c.args.self.now.script c.args.text.now.items c.print_line.new.text.items none e) text

pub invariant_of-self : goal.invariant_of-self
invariant_of-self c =
    let xs : List ScriptSession = c.self.inside.sessions.items in
    let place : IsPlaceOf c.args.name.now xs (Some c.in-Some.place) = search rules in
    let at : c.index_mut.result.now ≡ slice_index_or xs c.in-Some.place c.index_mut.result.now = search rules in
    let name : c.feed.new.self.name ≡ c.index_mut.result.now.name = search rules in
    let number : c.feed.new.self.session ≡ c.index_mut.result.now.session = search rules in
    let there = (standing c.args.name.now xs c.in-Some.place c.index_mut.result.now place at).0 in
    let k = c.in-Some.place in
    let x = c.index_mut.result.now in
    let y = c.feed.new.self in
    (apart_set xs k x y there name c.self.invariant.0, (order_set xs k x y there number c.self.invariant.1.0, below_set c.self.inside.core.opened xs k x y there number c.self.invariant.1.1))

pub invariant_of-self-2 : goal.invariant_of-self-2
invariant_of-self-2 c =
    let xs : List ScriptSession = c.self.inside.sessions.items in
    let place : IsPlaceOf c.args.name.now xs (Some c.in-Some.place) = search rules in
    let at : c.index_mut.result.now ≡ slice_index_or xs c.in-Some.place c.index_mut.result.now = search rules in
    let name : c.feed.new.self.name ≡ c.index_mut.result.now.name = search rules in
    let number : c.feed.new.self.session ≡ c.index_mut.result.now.session = search rules in
    let there = (standing c.args.name.now xs c.in-Some.place c.index_mut.result.now place at).0 in
    let k = c.in-Some.place in
    let x = c.index_mut.result.now in
    let y = c.feed.new.self in
    (apart_set xs k x y there name c.self.invariant.0, (order_set xs k x y there number c.self.invariant.1.0, below_set c.self.inside.core.opened xs k x y there number c.self.invariant.1.1))

pub returns-clause-done : goal.returns-clause-done
returns-clause-done c =
    let old = c.self.inside in
    let xs : List ScriptSession = old.sessions.items in
    let x : ScriptSession = c.index_mut.result.now in
    let n = c.args.name.now in
    let bytes = c.args.bytes.now in
    let k = c.in-Some.place in
    let s = c.behind-self.inside.session in
    let p : Script = script_of old.core xs old.inserts old.moment in
    let h = served_by old.core.schema in
    let place : IsPlaceOf n xs (Some k) = search rules in
    let at : x ≡ slice_index_or xs k x = search rules in
    let st = standing n xs k x place at in
    let fed : c.feed.new.self ≡ with_bytes bytes x = search rules in
    let at-first : c.index.result.now ≡ slice_index_or xs k c.index.result.now = search rules in
    let one : c.index.result.now ≡ x = same_Some _ _ (sym (standing n xs k c.index.result.now place at-first).0 ∙ st.0) in
    let number : s ≡ x.session = ap (λ (y : ScriptSession). y.session) (c.behind-self.view_is ∙ one) in
    let new : map message_data c.in_ok-fed.fed.messages.items ≡ drop x.delivered (messages max_message c.feed.new.self.bytes).0 = search rules in
    let found : map message_data c.in_ok-fed.fed.messages.items ≡ drop x.delivered (messages max_message (x.bytes ++ bytes)).0 = new ∙ ap (λ (y : ScriptSession). drop x.delivered (messages max_message y.bytes).0) fed in
    let does : Does (deliver_all h n s (map message_data c.in_ok-fed.fed.messages.items)) (script_of old.core (slice_set xs k c.feed.new.self) old.inserts old.moment) c.args.text.now.items c.deliver_all.new.self.script c.deliver_all.new.text.items = search rules in
    let schema : c.deliver_all.new.self.schema ≡ old.core.schema = search rules in
    let fault_new : fault_of (messages max_message c.feed.new.self.bytes).1 ≡ c.in_ok-fed.fed.fault = search rules in
    let fault : fault_of (messages max_message (x.bytes ++ bytes)).1 ≡ c.in_ok-fed.fed.fault = ap (λ (y : ScriptSession). fault_of (messages max_message y.bytes).1) (sym fed) ∙ fault_new in
    let any : OnOk c.end.result ((e : Ending) → fault_of e ≡ c.in_ok-fed.fed.fault → at_ending (served_by c.deliver_all.new.self.schema) n s e (c.deliver_all.new.self.script, c.deliver_all.new.text.items) ≡ (c.end.new.self.script, c.end.new.text.items)) = search rules in
    let ended : OnOk c.end.result (at_ending h n s (messages max_message (x.bytes ++ bytes)).1 (c.deliver_all.new.self.script, c.deliver_all.new.text.items) ≡ (c.end.new.self.script, c.end.new.text.items)) =
    subst (λ (a : Schema). OnOk c.end.result (at_ending (served_by a) n s (messages max_message (x.bytes ++ bytes)).1 (c.deliver_all.new.self.script, c.deliver_all.new.text.items) ≡ (c.end.new.self.script, c.end.new.text.items))) schema
    (on_ok_weaker c.end.result (λ f. f (messages max_message (x.bytes ++ bytes)).1 fault) any) in
    let a = acts h n (λ y q. receive h y bytes q) p k x place at in
    subst (λ (v : Running). OnOk c.end.result (Does (perform (served_by v.schema) (piece n bytes)) v.script c.args.text.now.items c.end.new.self.script c.end.new.text.items)) c.self.view_is
    (on_ok_weaker c.end.result (λ e.
    let done : Does (receive h x bytes) p c.args.text.now.items c.end.new.self.script c.end.new.text.items =
    received h x n bytes s k p c.deliver_all.new.self.script c.end.new.self.script (slice_set xs k c.feed.new.self) c.args.text.now.items c.deliver_all.new.text.items c.end.new.text.items (map message_data c.in_ok-fed.fed.messages.items)
    c.self.invariant.0 st.2 number st.1 st.0 (ap (slice_set xs k) fed) found does e in
    (ap (λ (r : Script × _). r.0) a.1 ∙ done.0, ap (λ (r : Script × _). c.args.text.now.items ++ r.1) a.1 ∙ done.1)) ended)
