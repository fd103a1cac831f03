use Rattle.std.proofs.Common.{rules, ◌≡◌, [], ◌∷◌, true, false, List, is_some, sym, ap, ◌∙◌, subst}
use Rattle.std.proofs.lemmas.Result.{on_ok_weaker}
use Rattle.odb_atoms.specs.FinMap.{get}
use Rattle.odb_rpc.specs.Represented.Printable.{printable_data}
use Rattle.odb_wire.specs.Shown.{request_data}
use Rattle.odb_service.specs.Server.{served_by}
use Rattle.odb_service.specs.Session.{Item, stopped, sync}
use Rattle.odb_service.specs.World.{World, asked_of, push, watched}
use Rattle.odb_sessions.specs.Posts.{at_number}
use Rattle.odb_core.proofs.AskedMonitors.{cancels_none, cancels_one}
use Rattle.odb_core.proofs.Attempts.{post_as}
use Rattle.odb_core.proofs.ServerSteps.{placed}
use Rattle.odb_core.proofs.ValidSteps.{whole_posted}
use Rattle.odb_core.specs.Represented.Core.{IsWhole}
use Rattle.odb_sessions.specs.Book.{Book}
use Rattle.odb_core.proofs.server.Core.cancel_monitor.Goals as goal

pub returns-then-not-branch-clause-ok : goal.returns-then-not-branch-clause-ok
returns-then-not-branch-clause-ok c =
    let w : World = c.args.self.now.world in
    let n = c.args.session in
    let d = request_data c.args.request.now in
    let i = printable_data c.args.id in
    let s = c.args.self.now.schema in
    let none : c.in_ok-is_used.field-0 ≡ false = search rules in
    let used : c.in_ok-is_used.field-0 ≡ is_some (watched (served_by s) i (asked_of (served_by s) (get w.sessions n))) = c.in_ok-is_used.ensures s in
    on_ok_weaker c.fail.result (λ e. ap (placed c.args.self.now) (cancels_none (served_by s) n d i w (watched (served_by s) i (asked_of (served_by s) (get w.sessions n))) (sym used ∙ none)) ∙ e) c.fail.ensures.ok

pub returns-clause-ok : goal.returns-clause-ok
returns-clause-ok c =
    let s = c.args.self.now.schema in
    let w : World = c.args.self.now.world in
    let n = c.args.session in
    let d = request_data c.args.request.now in
    let i = printable_data c.args.id in
    let is : List Item = sync i ∷ stopped d i ∷ [] in
    let one : c.in_ok-is_used.field-0 ≡ true = search rules in
    let used : c.in_ok-is_used.field-0 ≡ is_some (watched (served_by s) i (asked_of (served_by s) (get w.sessions n))) = c.in_ok-is_used.ensures s in
    let told : c.stop.new.self ≡ record { db = w.db; commits = w.commits; earlier = w.earlier; sessions = at_number (push is) w.sessions n } = search rules in
    ap (placed c.args.self.now) (cancels_one (served_by s) n d i w (watched (served_by s) i (asked_of (served_by s) (get w.sessions n))) (sym used ∙ one) ∙ post_as n is w)
    ∙ (λ j. record {
      schema = (sym c.self.view_is j).schema;
      world = record { db = (sym told j).db; commits = (sym told j).commits; earlier = (sym told j).earlier; now = (sym c.self.view_is j).world.now; waiting = (sym c.self.view_is j).world.waiting; locks = (sym c.self.view_is j).world.locks; sessions = (sym told j).sessions };
      opened = (sym c.self.view_is j).opened;
    })

pub invariant_of-self : goal.invariant_of-self
invariant_of-self c = subst (λ (b : Book). IsWhole c.self.inside.served b c.self.inside.waiting c.self.inside.locks c.self.inside.moment c.self.inside.opened) (sym c.in_err-stop.ensures.err) c.self.invariant

pub invariant_of-self-2 : goal.invariant_of-self-2
invariant_of-self-2 c =
    let i = c.self.inside in
    let is : List Item = sync (printable_data c.args.id) ∷ stopped (request_data c.args.request.now) (printable_data c.args.id) ∷ [] in
    let told : c.stop.new.self ≡ record (i.sessions) { sessions = at_number (push is) i.sessions.sessions c.args.session } = search rules in
    whole_posted i.served i.sessions i.waiting i.locks i.moment i.opened c.args.session is c.stop.new.self (tt, (tt, tt)) told c.self.invariant
