use Rattle.std.proofs.Common.{rules, ◌≡◌, ◌+◌, ◌&&◌, not, nat_lt, Bool, Some, None, option_map, sym, ap, ◌∙◌}
use Rattle.odb_atoms.specs.FinMap as finite
use Rattle.odb_queue.specs.Represented.Answer.{call_at}
use Rattle.odb_rpc.specs.Message.{has_reply}
use Rattle.odb_service.specs.Run.{max_owed}
use Rattle.odb_service.specs.Session.{Session, replies_in}
use Rattle.odb_wire.specs.Shown.{request_data}
use Rattle.odb_sessions.specs.Book.{Book}
use Rattle.odb_sessions.specs.Marked.{MarkedSession, Sessions, all_seen, seen}
use Rattle.odb_sessions.proofs.Ties.{get-seen}
use Rattle.odb_sessions.proofs.sessions.Sessions.owes_too_many.Goals as goal

pub returns-in_err-of : goal.returns-in_err-of
returns-in_err-of c = λ schema.
    let m : Sessions = c.self.inside.sessions in
    let owes : Session → Bool = λ x. has_reply (call_at schema (request_data c.args.request.now)) && not (nat_lt (replies_in x.queue + c.args.waiting) max_owed) in
    let none : finite.get m c.args.session ≡ None = search rules in
    let seen_none : finite.get (all_seen m) c.args.session ≡ None = get-seen m c.args.session ∙ ap (option_map seen) none in
    c.from_residual.ensures ∙ ap (option_map owes) (sym seen_none) ∙ ap (λ (b : Book). option_map owes (finite.get b.sessions c.args.session)) c.self.view_is

pub returns : goal.returns
returns c = λ schema.
    let m : Sessions = c.self.inside.sessions in
    let owes : Session → Bool = λ x. has_reply (call_at schema (request_data c.args.request.now)) && not (nat_lt (replies_in x.queue + c.args.waiting) max_owed) in
    let x : MarkedSession = c.in_ok-of.of.now in
    let there : finite.get m c.args.session ≡ Some x = search rules in
    let seen_there : finite.get (all_seen m) c.args.session ≡ Some (seen x) = get-seen m c.args.session ∙ ap (option_map seen) there in
    ap Some (c.owes_too_many.ensures schema) ∙ ap (option_map owes) (sym seen_there) ∙ ap (λ (b : Book). option_map owes (finite.get b.sessions c.args.session)) c.self.view_is
