use Rattle.std.proofs.Common.{◌≡◌, ◌∙◌, sym, ap}
use Rattle.std.proofs.lemmas.Result.{on_ok_weaker}
use Rattle.odb_core.proofs.DoneCalls.{done_says, done_whole}
use Rattle.odb_rpc.specs.Represented.Call.{failure_by}
use Rattle.odb_rpc.specs.Message.{call_of, fault, reply_id}
use Rattle.odb_rpc.specs.Served.{served}
use Rattle.odb_schema.specs.Schema.{Schema}
use Rattle.odb_schema.specs.SchemaText.{write_schema}
use Rattle.odb_service.specs.Server.{Server}
use Rattle.odb_wire.specs.Message.{id_of}
use Rattle.odb_wire.specs.Shown.{request_data}
use Rattle.odb_queue.specs.Represented.Answer.{call_at}
use Rattle.odb_core.proofs.PlainCalls.{is_plain, plain_as}
use Rattle.odb_core.proofs.server.Core.handle_call.Goals as goal

pub returns-in-Err-clause-done : goal.returns-in-Err-clause-done
returns-in-Err-clause-done c =
    let s = c.args.self.now.schema in
    let d = request_data c.args.request.now in
    let lent : c.schema.result.now ≡ s = c.schema.ensures ∙ ap (λ (v : Server). v.schema) c.self.view_is in
    let is : call_at s d ≡ fault (reply_id (id_of d)) (failure_by c.in-Err.fault) = ap (λ (t : Schema). call_of t.name (write_schema s) served d) (sym lent) ∙ sym (c.in-Err.ensures.reads (write_schema s)) in
    done_says _ c.done.result c.answer.result c.done.ensures.ok (on_ok_weaker c.answer.result (λ p fresh. plain_as c.args.session d fresh c.args.self.now c.answer.new.self (call_at s d) (ap is_plain is) p) c.answer.ensures.ok)

pub returns-in-Err-clause-transaction : goal.returns-in-Err-clause-transaction
returns-in-Err-clause-transaction c = done_whole _ c.done.result c.done.ensures.done

pub returns-in-Err-clause-untouched : goal.returns-in-Err-clause-untouched
returns-in-Err-clause-untouched c = done_whole _ c.done.result c.done.ensures.done

pub answer-requires : goal.answer-requires
answer-requires c =
    let s = c.args.self.now.schema in
    let d = request_data c.args.request.now in
    let lent : c.schema.result.now ≡ s = c.schema.ensures ∙ ap (λ (v : Server). v.schema) c.self.view_is in
    let is : call_at s d ≡ fault (reply_id (id_of d)) (failure_by c.in-Err.fault) = ap (λ (t : Schema). call_of t.name (write_schema s) served d) (sym lent) ∙ sym (c.in-Err.ensures.reads (write_schema s)) in
    sym is
