use Rattle.std.proofs.Common.{rules, ◌≡◌, ℕ, ◌+◌, ◌==◌, ◌&&◌, not, nat_lt, ap, ◌∙◌}
use Rattle.std.specs.Prelude.{count_by, option_map}
use Rattle.odb_atoms.specs.FinMap.{get}
use Rattle.odb_queue.specs.Represented.Answer.{call_at}
use Rattle.odb_rpc.specs.Message.{has_reply}
use Rattle.odb_service.specs.Run.{max_owed}
use Rattle.odb_service.specs.Session.{Session, replies_in}
use Rattle.odb_service.specs.Server.{Server}
use Rattle.odb_wire.specs.Shown.{request_data}
use Rattle.odb_core.proofs.server.Core.is_busy.Goals as goal

pub returns : goal.returns
returns c = λ h s.
    let n = c.args.session in
    let d = request_data c.args.request.now in
    let count : c.waiting_of-waiting.result ≡ count_by (λ p. p.session == n) c.args.self.now.world.waiting = search rules in
    c.owes_too_many.ensures s
    ∙ ap (λ (k : ℕ). option_map (λ (x : Session). has_reply (call_at s d) && not (nat_lt (replies_in x.queue + k) max_owed)) (get c.self.inside.sessions.sessions n)) count
    ∙ ap (λ (u : Server). option_map (λ (x : Session). has_reply (call_at s d) && not (nat_lt (replies_in x.queue + count_by (λ p. p.session == n) c.args.self.now.world.waiting) max_owed)) (get u.world.sessions n)) c.self.view_is
