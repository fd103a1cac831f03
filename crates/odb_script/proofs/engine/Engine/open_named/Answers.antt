use Rattle.std.proofs.Common.{rules, arith, ◌≡◌, ◌≤◌, ◌+◌, ◌++◌, ◌∷◌, [], OnOk, Ok, true, false, codes, ap, sym, subst, ◌∙◌, is_some}
use Rattle.odb_atoms.specs.FinMap.{len}
use Rattle.odb_service.specs.Run.{max_sessions, opened}
use Rattle.odb_service.specs.Server.{serve, served_by}
use Rattle.odb_script.specs.Running.{Running}
use Rattle.odb_script.specs.Script.{ScriptSession, Script, line_of, open_named}
use Rattle.odb_script.specs.Represented.Names.{AreOpened}
use Rattle.odb_script.specs.Represented.Steps.{Does}
use Rattle.odb_script.proofs.OpenedSessions.{IsPlaceOf, absent, opens_full, opens_new, opens_there, script_of}
use Rattle.odb_script.proofs.NamePlaces.{apart_end}
use Rattle.odb_script.proofs.NumberedSessions.{AreBelow, below_end, below_later, later_opened, next_number, order_end}
use Rattle.odb_script.proofs.ServerInScript.{took}
use Rattle.std.proofs.lemmas.Result.{on_ok_weaker}
use Rattle.odb_script.proofs.engine.Engine.open_named.Goals as goal

pub returns-then-is_some-clause-done : goal.returns-then-is_some-clause-done
returns-then-is_some-clause-done c =
    let old = c.self.inside in
    let p : Script = script_of old.core old.sessions.items old.inserts old.moment in
    let there : IsPlaceOf c.args.name.now old.sessions.items c.place_of.result = search rules in
    let some : is_some c.place_of.result ≡ true = search rules in
    let text : OnOk c.print_line.result (c.print_line.new.text.items ≡ c.args.text.now.items ++ line_of c.args.name.now (codes "!open")) = search rules in
    subst (λ (v : Running). OnOk c.print_line.result (Does (open_named (served_by v.schema) c.args.name.now) v.script c.args.text.now.items v.script c.print_line.new.text.items)) c.self.view_is
    (on_ok_weaker c.print_line.result (λ e. opens_there (served_by old.core.schema) c.args.name.now p c.place_of.result _ _ there some e) text)

pub invariant_of-self : goal.invariant_of-self
invariant_of-self c =
    let old = c.self.inside in
    let s = c.in-Ok.session in
    let served : serve (opened s) old.core ≡ Ok (c.open.new.self, []) = search rules in
    later_opened old.core.opened c.open.new.self.opened old.sessions.items (took (opened s) old.core c.open.new.self [] served).opened c.self.invariant

pub invariant_of-self-in_err-push-in-Ok : goal.invariant_of-self-in_err-push-in-Ok
invariant_of-self-in_err-push-in-Ok c =
    let old = c.self.inside in
    let s = c.in-Ok.session in
    let served : serve (opened s) old.core ≡ Ok (c.open.new.self, []) = search rules in
    let kept : c.push.new.self.items ≡ old.sessions.items = search rules in
    later_opened old.core.opened c.open.new.self.opened c.push.new.self.items (took (opened s) old.core c.open.new.self [] served).opened
    (subst (AreOpened old.core.opened) (sym kept) c.self.invariant)

pub invariant_of-self-in-Ok : goal.invariant_of-self-in-Ok
invariant_of-self-in-Ok c =
    let old = c.self.inside in
    let x : ScriptSession = record { name = c.args.name.now; session = c.in-Ok.session; bytes = []; delivered = 0; held = false } in
    let there : IsPlaceOf c.args.name.now old.sessions.items c.place_of.result = search rules in
    let none : is_some c.place_of.result ≡ false = search rules in
    let grown : c.push.new.self.items ≡ old.sessions.items ++ x ∷ [] = search rules in
    let xs = old.sessions.items in
    let s = c.in-Ok.session in
    let number : s ≡ old.core.opened = search rules in
    let served : serve (opened s) old.core ≡ Ok (c.open.new.self, []) = search rules in
    let next = c.open.new.self.opened in
    let is : next ≡ s + 1 = (took (opened s) old.core c.open.new.self [] served).opened ∙ ap (λ n. n + 1) (sym number) in
    let below : AreBelow s xs = subst (λ n. AreBelow n xs) (sym number) c.self.invariant.1.1 in
    subst (AreOpened next) (sym grown)
    (apart_end xs x (absent c.args.name.now xs c.place_of.result there none) c.self.invariant.0, (order_end xs x c.self.invariant.1.0 below, below_end next xs x (below_later s next (omega (arith, is)) xs below) (next_number s next is)))

pub returns-in_ok-push-in-Ok-clause-done : goal.returns-in_ok-push-in-Ok-clause-done
returns-in_ok-push-in-Ok-clause-done c =
    let old = c.self.inside in
    let x : ScriptSession = record { name = c.args.name.now; session = c.in-Ok.session; bytes = []; delivered = 0; held = false } in
    let there : IsPlaceOf c.args.name.now old.sessions.items c.place_of.result = search rules in
    let none : is_some c.place_of.result ≡ false = search rules in
    let grown : c.push.new.self.items ≡ old.sessions.items ++ x ∷ [] = search rules in
    let number : c.in-Ok.session ≡ old.core.opened = search rules in
    let served : serve (opened c.in-Ok.session) old.core ≡ Ok (c.open.new.self, []) = search rules in
    subst (λ (v : Running). Does (open_named (served_by v.schema) c.args.name.now) v.script c.args.text.now.items (script_of c.open.new.self c.push.new.self.items old.inserts old.moment) c.args.text.now.items) c.self.view_is
    (opens_new old.core old.sessions.items old.inserts old.moment c.args.name.now c.place_of.result c.open.new.self [] c.in-Ok.session c.push.new.self.items c.args.text.now.items there none number served grown)

pub returns-in-Err-TooMany-clause-done : goal.returns-in-Err-TooMany-clause-done
returns-in-Err-TooMany-clause-done c =
    let old = c.self.inside in
    let there : IsPlaceOf c.args.name.now old.sessions.items c.place_of.result = search rules in
    let none : is_some c.place_of.result ≡ false = search rules in
    let full : max_sessions ≤ len old.core.world.sessions = search rules in
    let same : c.open.new.self ≡ old.core = search rules in
    let text : OnOk c.print_line-in-Err-TooMany.result (c.print_line-in-Err-TooMany.new.text.items ≡ c.args.text.now.items ++ line_of c.args.name.now (codes "!toomany")) = search rules in
    subst (λ (v : Running). OnOk c.print_line-in-Err-TooMany.result (Does (open_named (served_by v.schema) c.args.name.now) v.script c.args.text.now.items (script_of c.open.new.self old.sessions.items old.inserts old.moment) c.print_line-in-Err-TooMany.new.text.items)) c.self.view_is
    (on_ok_weaker c.print_line-in-Err-TooMany.result (λ e. subst (λ q. Does (open_named (served_by old.core.schema) c.args.name.now) (script_of old.core old.sessions.items old.inserts old.moment) c.args.text.now.items (script_of q old.sessions.items old.inserts old.moment) c.print_line-in-Err-TooMany.new.text.items) (sym same)
    (opens_full old.core old.sessions.items old.inserts old.moment c.args.name.now c.place_of.result c.args.text.now.items c.print_line-in-Err-TooMany.new.text.items there none full e)) text)
