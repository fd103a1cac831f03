use Rattle.std.proofs.Common.{rules, ◌≡◌, true, false, Option, None, Some, sym, ap, ◌∙◌}
use Rattle.std.specs.Prelude.{option_map}
use Rattle.std.proofs.lemmas.Result.{IfOk-weaker}
use Rattle.serde_json.specs.View.{view}
use Rattle.odb_atoms.specs.FinMap.{get}
use Rattle.odb_request.specs.Requests.{read_changes}
use Rattle.odb_rpc.specs.Represented.Printable.{printable_data}
use Rattle.odb_service.specs.Server.{Server, served_by}
use Rattle.odb_request.specs.Request.{is_conditional}
use Rattle.odb_service.specs.World.{asked_of, watched}
use Rattle.odb_sessions.specs.Named.{Named, named}
use Rattle.odb_core.specs.Represented.Monitors.{filters_for, is_taken}
use Rattle.odb_core.proofs.AskedMonitors.{goes_by_filters, new_taken, not_conditional, not_found}
use Rattle.odb_core.proofs.server.Core.read_change.Goals as goal

pub returns-in_default : goal.returns-in_default
returns-in_default c =
    let s = c.args.self.now.schema in
    let h = served_by s in
    let x = get c.args.self.now.world.sessions c.args.session in
    let old = printable_data c.args.asked.old in
    let o : Option Named = option_map named (watched h old (asked_of h x)) in
    let none : None ≡ o = search rules in
    not_found h (is_taken h old (printable_data c.args.asked.new) x) (read_changes s (view c.args.asked.filters.now)) o none

pub returns-then-not-is_conditional : goal.returns-then-not-is_conditional
returns-then-not-is_conditional c =
    let s = c.args.self.now.schema in
    let h = served_by s in
    let x = get c.args.self.now.world.sessions c.args.session in
    let old = printable_data c.args.asked.old in
    let o : Option Named = option_map named (watched h old (asked_of h x)) in
    let k : Named = c.in-Some.monitor in
    let found : Some k ≡ o = search rules in
    let flag : c.is_conditional.result ≡ false = search rules in
    let plain : is_conditional k.notation ≡ false = ap is_conditional (sym c.notation.ensures) ∙ sym c.is_conditional.ensures ∙ flag in
    not_conditional h (is_taken h old (printable_data c.args.asked.new) x) (read_changes s (view c.args.asked.filters.now)) o k found plain

pub returns-then-branch : goal.returns-then-branch
returns-then-branch c =
    let s = c.args.self.now.schema in
    let h = served_by s in
    let x = get c.args.self.now.world.sessions c.args.session in
    let old = printable_data c.args.asked.old in
    let new = printable_data c.args.asked.new in
    let o : Option Named = option_map named (watched h old (asked_of h x)) in
    let k : Named = c.in-Some.monitor in
    let found : Some k ≡ o = search rules in
    let flag : c.is_conditional.result ≡ true = search rules in
    let conditional : is_conditional k.notation ≡ true = ap is_conditional (sym c.notation.ensures) ∙ sym c.is_conditional.ensures ∙ flag in
    let taken : is_taken h old new x ≡ true = search rules in
    new_taken h (is_taken h old new x) (read_changes s (view c.args.asked.filters.now)) o k found conditional taken

pub returns : goal.returns
returns c =
    let s = c.args.self.now.schema in
    let h = served_by s in
    let x = get c.args.self.now.world.sessions c.args.session in
    let old = printable_data c.args.asked.old in
    let new = printable_data c.args.asked.new in
    let o : Option Named = option_map named (watched h old (asked_of h x)) in
    let k : Named = c.in-Some.monitor in
    let found : Some k ≡ o = search rules in
    let flag : c.is_conditional.result ≡ true = search rules in
    let conditional : is_conditional k.notation ≡ true = ap is_conditional (sym c.notation.ensures) ∙ sym c.is_conditional.ensures ∙ flag in
    let free : is_taken h old new x ≡ false = search rules in
    IfOk-weaker c.filters_for.result _ _ (λ r e. e ∙ ap (λ (v : Server). filters_for k.shapes (read_changes v.schema (view c.args.asked.filters.now))) c.self.view_is ∙ goes_by_filters h (is_taken h old new x) (read_changes s (view c.args.asked.filters.now)) o k found conditional free) c.filters_for.ensures
