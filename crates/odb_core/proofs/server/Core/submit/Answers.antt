use Rattle.std.proofs.Common.{rules, ◌≡◌, Bool, true, false, not, nat_lt, ◌&&◌, [], map, Some, None, Ok, is_ok, sym, ap, ◌∙◌}
use Rattle.odb_atoms.specs.FinMap.{get}
use Rattle.odb_atoms.specs.Represented.Atom.{uuid_of}
use Rattle.odb_rpc.specs.Message.{has_reply}
use Rattle.odb_wire.specs.Shown.{request_data}
use Rattle.odb_service.specs.Run.{max_owed, submitted}
use Rattle.odb_service.specs.Server.{Server, serve, served_by}
use Rattle.odb_service.specs.Session.{Session}
use Rattle.odb_service.specs.World.{at_moment, handle, owed_replies}
use Rattle.odb_queue.specs.Represented.Answer.{call_at}
use Rattle.odb_core.specs.Represented.Reason.{IsReason}
use Rattle.odb_core.specs.Represented.Steps.{by_service}
use Rattle.odb_core.proofs.ServerSteps.{Served, submit-busy, submit-gone, submit-ok}
use Rattle.odb_core.proofs.SessionNumbers.{found_none, found_some}
use Rattle.odb_core.proofs.server.Core.submit.Goals as goal

pub returns-in-None-clause-why : goal.returns-in-None-clause-why
returns-in-None-clause-why c =
    let v : Server = c.args.self.now in
    let s = v.schema in
    let h = served_by s in
    let n = c.args.session in
    let d = request_data c.args.request in
    let fresh = map uuid_of c.args.fresh.now in
    let busy : Session → Bool = λ x. has_reply (call_at s d) && not (nat_lt (owed_replies h n x v.world) max_owed) in
    let absent : get v.world.sessions n ≡ None = found_none busy (get v.world.sessions n) (sym (c.is_busy.ensures h s) ∙ c.in-None.is) in
    submit-gone v n d fresh c.args.now absent

pub returns-in-Some-true-clause-why : goal.returns-in-Some-true-clause-why
returns-in-Some-true-clause-why c =
    let v : Server = c.args.self.now in
    let s = v.schema in
    let h = served_by s in
    let n = c.args.session in
    let d = request_data c.args.request in
    let fresh = map uuid_of c.args.fresh.now in
    let busy : Session → Bool = λ x. has_reply (call_at s d) && not (nat_lt (owed_replies h n x v.world) max_owed) in
    let is : c.is_busy.result ≡ Some true = search rules in
    let one : (x : Session) × (get v.world.sessions n ≡ Some x) × (busy x ≡ true) = found_some busy (get v.world.sessions n) true (sym (c.is_busy.ensures h s) ∙ is) in
    submit-busy v n d fresh c.args.now one.0 one.1 one.2

pub returns-in-Ok-clause-ok : goal.returns-in-Ok-clause-ok
returns-in-Ok-clause-ok c =
    let v : Server = c.args.self.now in
    let s = v.schema in
    let h = served_by s in
    let n = c.args.session in
    let d = request_data c.args.request in
    let fresh = map uuid_of c.args.fresh.now in
    let busy : Session → Bool = λ x. has_reply (call_at s d) && not (nat_lt (owed_replies h n x v.world) max_owed) in
    let is : c.is_busy.result ≡ Some false = search rules in
    let one : (x : Session) × (get v.world.sessions n ≡ Some x) × (busy x ≡ false) = found_some busy (get v.world.sessions n) false (sym (c.is_busy.ensures h s) ∙ is) in
    submit-ok v n d fresh c.args.now one.0 one.1 one.2
    ∙ ap (λ (x : Server). let r : Served = Ok (x, []) in r) c.in-Ok.ensures.ok

pub returns-in-Err-clause-why : goal.returns-in-Err-clause-why
returns-in-Err-clause-why c =
    let v : Server = c.args.self.now in
    let s = v.schema in
    let h = served_by s in
    let n = c.args.session in
    let d = request_data c.args.request in
    let fresh = map uuid_of c.args.fresh.now in
    let busy : Session → Bool = λ x. has_reply (call_at s d) && not (nat_lt (owed_replies h n x v.world) max_owed) in
    let is : c.is_busy.result ≡ Some false = search rules in
    let one : (x : Session) × (get v.world.sessions n ≡ Some x) × (busy x ≡ false) = found_some busy (get v.world.sessions n) false (sym (c.is_busy.ensures h s) ∙ is) in
    let served : serve (submitted n d fresh c.args.now) c.args.self.now ≡ Ok (by_service (λ k w. handle k n d fresh (call_at s d) (at_moment k c.args.now w)) v, []) =
    submit-ok v n d fresh c.args.now one.0 one.1 one.2
    in
    ap is_ok served
