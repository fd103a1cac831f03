use Rattle.std.proofs.Common.{◌≡◌, true, sym, ap, ◌∙◌}
use Rattle.std.proofs.lemmas.Result.{on_ok_weaker}
use Rattle.odb_core.proofs.DoneCalls.{done_says, done_whole}
use Rattle.odb_rpc.specs.Message as message
use Rattle.odb_rpc.specs.Message.{reply_id}
use Rattle.odb_rpc.specs.Represented.Call.{called}
use Rattle.odb_rpc.specs.Represented.Monitor.{monitor_called}
use Rattle.odb_rpc.specs.Represented.Printable.{printable_data}
use Rattle.odb_schema.specs.SchemaText.{write_schema}
use Rattle.odb_wire.specs.Message.{id_of}
use Rattle.odb_wire.specs.Shown.{request_data}
use Rattle.odb_service.specs.Server.{Server}
use Rattle.odb_service.specs.World.{handle, untried}
use Rattle.odb_queue.specs.Represented.Answer.{call_at}
use Rattle.odb_core.specs.Represented.Requests.{asks_transaction}
use Rattle.odb_core.specs.Represented.Steps.{by_service}
use Rattle.odb_core.proofs.HandledRequests.{lock_own, monitor_own, steal_own, unlock_own}
use Rattle.odb_core.proofs.PlainCalls.{is_left, is_plain, plain_as}
use Rattle.odb_core.proofs.server.Core.carry_out.Goals as goal

pub claim-requires : goal.claim-requires
claim-requires c =
    let s = c.args.self.now.schema in
    let d = request_data c.args.request.now in
    let is : call_at s d ≡ message.lock (reply_id (id_of d)) c.in-Lock.name.now = sym c.requires.call ∙ ap (called s.name (write_schema s) (reply_id (id_of d))) c.in-Lock.is in
    lock_own s d (reply_id (id_of d)) c.in-Lock.name.now is

pub claim-requires-in-Steal : goal.claim-requires-in-Steal
claim-requires-in-Steal c =
    let s = c.args.self.now.schema in
    let d = request_data c.args.request.now in
    let is : call_at s d ≡ message.steal (reply_id (id_of d)) c.in-Steal.name.now = sym c.requires.call ∙ ap (called s.name (write_schema s) (reply_id (id_of d))) c.in-Steal.is in
    steal_own s d (reply_id (id_of d)) c.in-Steal.name.now is

pub unlock-requires : goal.unlock-requires
unlock-requires c =
    let s = c.args.self.now.schema in
    let d = request_data c.args.request.now in
    let is : call_at s d ≡ message.unlock (reply_id (id_of d)) c.in-Unlock.name.now = sym c.requires.call ∙ ap (called s.name (write_schema s) (reply_id (id_of d))) c.in-Unlock.is in
    unlock_own s d (reply_id (id_of d)) c.in-Unlock.name.now is

pub returns-in-Lock-clause-done : goal.returns-in-Lock-clause-done
returns-in-Lock-clause-done c =
    let s = c.args.self.now.schema in
    let n = c.args.session in
    let d = request_data c.args.request.now in
    let is : call_at s d ≡ message.lock (reply_id (id_of d)) c.in-Lock.name.now = sym c.requires.call ∙ ap (called s.name (write_schema s) (reply_id (id_of d))) c.in-Lock.is in
    done_says _ c.done.result c.claim.result c.done.ensures.ok (on_ok_weaker c.claim.result (λ p fresh. ap (λ k. by_service (λ h. handle h n d fresh k) c.args.self.now) is ∙ p) c.claim.ensures.ok)

pub returns-in-Lock-clause-transaction : goal.returns-in-Lock-clause-transaction
returns-in-Lock-clause-transaction c = done_whole _ c.done.result c.done.ensures.done

pub returns-in-Lock-clause-untouched : goal.returns-in-Lock-clause-untouched
returns-in-Lock-clause-untouched c = done_whole _ c.done.result c.done.ensures.done

pub returns-in-Steal-clause-done : goal.returns-in-Steal-clause-done
returns-in-Steal-clause-done c =
    let s = c.args.self.now.schema in
    let n = c.args.session in
    let d = request_data c.args.request.now in
    let is : call_at s d ≡ message.steal (reply_id (id_of d)) c.in-Steal.name.now = sym c.requires.call ∙ ap (called s.name (write_schema s) (reply_id (id_of d))) c.in-Steal.is in
    done_says _ c.done-in-Steal.result c.claim-in-Steal.result c.done-in-Steal.ensures.ok (on_ok_weaker c.claim-in-Steal.result (λ p fresh. ap (λ k. by_service (λ h. handle h n d fresh k) c.args.self.now) is ∙ p) c.claim-in-Steal.ensures.ok)

pub returns-in-Steal-clause-transaction : goal.returns-in-Steal-clause-transaction
returns-in-Steal-clause-transaction c = done_whole _ c.done-in-Steal.result c.done-in-Steal.ensures.done

pub returns-in-Steal-clause-untouched : goal.returns-in-Steal-clause-untouched
returns-in-Steal-clause-untouched c = done_whole _ c.done-in-Steal.result c.done-in-Steal.ensures.done

pub returns-in-Unlock-clause-done : goal.returns-in-Unlock-clause-done
returns-in-Unlock-clause-done c =
    let s = c.args.self.now.schema in
    let n = c.args.session in
    let d = request_data c.args.request.now in
    let is : call_at s d ≡ message.unlock (reply_id (id_of d)) c.in-Unlock.name.now = sym c.requires.call ∙ ap (called s.name (write_schema s) (reply_id (id_of d))) c.in-Unlock.is in
    done_says _ c.done-in-Unlock.result c.unlock.result c.done-in-Unlock.ensures.ok (on_ok_weaker c.unlock.result (λ p fresh. ap (λ k. by_service (λ h. handle h n d fresh k) c.args.self.now) is ∙ p) c.unlock.ensures.ok)

pub returns-in-Unlock-clause-transaction : goal.returns-in-Unlock-clause-transaction
returns-in-Unlock-clause-transaction c = done_whole _ c.done-in-Unlock.result c.done-in-Unlock.ensures.done

pub returns-in-Unlock-clause-untouched : goal.returns-in-Unlock-clause-untouched
returns-in-Unlock-clause-untouched c = done_whole _ c.done-in-Unlock.result c.done-in-Unlock.ensures.done

pub returns-in-Cancel-clause-done : goal.returns-in-Cancel-clause-done
returns-in-Cancel-clause-done c =
    let s = c.args.self.now.schema in
    let n = c.args.session in
    let d = request_data c.args.request.now in
    let is : call_at s d ≡ message.cancel (printable_data c.in-Cancel.id) = sym c.requires.call ∙ ap (called s.name (write_schema s) (reply_id (id_of d))) c.in-Cancel.is in
    done_says _ c.done-in-Cancel.result c.cancel.result c.done-in-Cancel.ensures.ok (on_ok_weaker c.cancel.result (λ p fresh. ap (λ k. by_service (λ h. handle h n d fresh k) c.args.self.now) is ∙ p) c.cancel.ensures.ok)

pub returns-in-Cancel-clause-transaction : goal.returns-in-Cancel-clause-transaction
returns-in-Cancel-clause-transaction c = done_whole _ c.done-in-Cancel.result c.done-in-Cancel.ensures.done

pub returns-in-Cancel-clause-untouched : goal.returns-in-Cancel-clause-untouched
returns-in-Cancel-clause-untouched c = done_whole _ c.done-in-Cancel.result c.done-in-Cancel.ensures.done

pub monitor-requires : goal.monitor-requires
monitor-requires c =
    let s = c.args.self.now.schema in
    let d = request_data c.args.request.now in
    record { own = monitor_own s d (reply_id (id_of d)) c.in-Monitor.call (sym c.requires.call ∙ ap (called s.name (write_schema s) (reply_id (id_of d))) c.in-Monitor.is) }

pub returns-in-Monitor-clause-done : goal.returns-in-Monitor-clause-done
returns-in-Monitor-clause-done c =
    let s = c.args.self.now.schema in
    let n = c.args.session in
    let d = request_data c.args.request.now in
    let is : call_at s d ≡ monitor_called (reply_id (id_of d)) c.in-Monitor.call = sym c.requires.call ∙ ap (called s.name (write_schema s) (reply_id (id_of d))) c.in-Monitor.is in
    done_says _ c.done-in-Monitor.result c.monitor.result c.done-in-Monitor.ensures.ok (on_ok_weaker c.monitor.result (λ p fresh. ap (λ k. by_service (λ h. handle h n d fresh k) c.args.self.now) is ∙ p (reply_id (id_of d)) fresh) c.monitor.ensures.ok)

pub returns-in-Monitor-clause-transaction : goal.returns-in-Monitor-clause-transaction
returns-in-Monitor-clause-transaction c = done_whole _ c.done-in-Monitor.result c.done-in-Monitor.ensures.done

pub returns-in-Monitor-clause-untouched : goal.returns-in-Monitor-clause-untouched
returns-in-Monitor-clause-untouched c = done_whole _ c.done-in-Monitor.result c.done-in-Monitor.ensures.done

pub returns-in_default-clause-done : goal.returns-in_default-clause-done
returns-in_default-clause-done c =
    let s = c.args.self.now.schema in
    let n = c.args.session in
    let d = request_data c.args.request.now in
    let plain : is_plain (call_at s d) ≡ true = ap is_plain (sym c.requires.call) ∙ is_left s.name (write_schema s) (reply_id (id_of d)) c.args.call c.in_default.not-Transact c.in_default.not-Lock c.in_default.not-Steal c.in_default.not-Unlock c.in_default.not-Cancel c.in_default.not-Monitor in
    done_says _ c.done-in_default.result c.answer.result c.done-in_default.ensures.ok (on_ok_weaker c.answer.result (λ p fresh. plain_as n d fresh c.args.self.now c.answer.new.self (call_at s d) plain p) c.answer.ensures.ok)

pub returns-in_default-clause-transaction : goal.returns-in_default-clause-transaction
returns-in_default-clause-transaction c = done_whole _ c.done-in_default.result c.done-in_default.ensures.done

pub returns-in_default-clause-untouched : goal.returns-in_default-clause-untouched
returns-in_default-clause-untouched c = done_whole _ c.done-in_default.result c.done-in_default.ensures.done

pub returns-in-Transact-clause-transaction : goal.returns-in-Transact-clause-transaction
returns-in-Transact-clause-transaction c = λ e. ap asks_transaction (sym c.requires.call ∙ ap (called c.args.self.now.schema.name (write_schema c.args.self.now.schema) (reply_id (id_of (request_data c.args.request.now)))) c.in-Transact.is)
