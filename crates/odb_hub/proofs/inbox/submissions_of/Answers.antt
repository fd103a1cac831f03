use Rattle.std.proofs.Common.{rules, ◌≡◌, ◌++◌, ◌∷◌, [], List, length, map, option_map, Some, None, refl, sym, ap, subst, ◌∙◌, append-nil}
use Rattle.std.specs.Prelude.{All, option_to_list, reverse}
use Rattle.std.proofs.lemmas.List.{map-append, nil_from_length}
use Rattle.std.proofs.lemmas.List.Elements.{All-rest}
use Rattle.serde_json.specs.Data.{Data}
use Rattle.odb_wire.specs.Shown.{IsOfItsKind, message_data, request_data}
use Rattle.odb_wire.specs.declared.message.Message.{Message}
use Rattle.odb_wire.specs.declared.message.Request.{Request}
use Rattle.odb_hub.specs.Represented.Inbox.{pending_in, pending_of}
use Rattle.odb_hub.specs.Inbox.{Pending, messages_of, requests_in}
use Rattle.odb_hub.specs.declared.submission.Submission.{Submission}
use Rattle.odb_hub.proofs.Inboxes.{joined, looked_at, pushed}
use Rattle.odb_hub.proofs.inbox.submissions_of.Goals as goal

pub loop-message-init : goal.loop-message-init
loop-message-init g c =
    let none : c.in_ok-all.all.items ≡ [] = search rules in
    let same : c.into_iter-message-iterator.result.rest.items ≡ c.args.messages.items = search rules in
    (ap (λ (xs : List Submission). messages_of (map pending_in xs) ++ requests_in (map message_data c.into_iter-message-iterator.result.rest.items)) (sym none), subst (All IsOfItsKind) (sym same) c.requires)

pub loop-message-preserved-in_ok-push : goal.loop-message-preserved-in_ok-push
loop-message-preserved-in_ok-push g c =
    let m : Message = c.in-Some.message in
    let rest : List Message = c.next.new.self.rest.items in
    let x : Submission = c.in_ok-submission_of.field-0 in
    let all : List Data = requests_in (map message_data c.into_iter-message-iterator.result.rest.items) in
    let found : List Data = messages_of (map pending_in c.loop-message.all.items) in
    let step : c.loop-message.message-iterator.rest.items ≡ m ∷ rest = search rules in
    let one : request_data x.request ∷ [] ≡ requests_in (message_data m ∷ []) =
    ap (λ (r : Request). request_data r ∷ []) c.in_ok-submission_of.ensures ∙ c.in-Some-request_in.ensures in
    let looked : all ≡ found ++ request_data x.request ∷ [] ++ requests_in (map message_data rest) =
    looked_at all found (message_data m) (map message_data rest) (request_data x.request ∷ []) (c.loop-message.invariant.0 ∙ ap (λ ms. found ++ requests_in (map message_data ms)) step) one in
    let more : c.push.new.self.items ≡ c.loop-message.all.items ++ x ∷ [] = search rules in (
      looked ∙ ap (λ ds. ds ++ requests_in (map message_data rest)) (sym (ap (λ xs. messages_of (map pending_in xs)) more ∙ pushed c.loop-message.all.items x)),
      All-rest IsOfItsKind m rest c.loop-message.message-iterator.rest.items step c.loop-message.invariant.1,
    )

pub loop-message-preserved : goal.loop-message-preserved
loop-message-preserved g c =
    let m : Message = c.in-Some.message in
    let rest : List Message = c.next.new.self.rest.items in
    let all : List Data = requests_in (map message_data c.into_iter-message-iterator.result.rest.items) in
    let found : List Data = messages_of (map pending_in c.loop-message.all.items) in
    let step : c.loop-message.message-iterator.rest.items ≡ m ∷ rest = search rules in
    let none : [] ≡ requests_in (message_data m ∷ []) = c.in_default.ensures in
    let looked : all ≡ found ++ [] ++ requests_in (map message_data rest) =
    looked_at all found (message_data m) (map message_data rest) [] (c.loop-message.invariant.0 ∙ ap (λ ms. found ++ requests_in (map message_data ms)) step) none in (
      looked ∙ ap (λ ds. ds ++ requests_in (map message_data rest)) (append-nil found),
      All-rest IsOfItsKind m rest c.loop-message.message-iterator.rest.items step c.loop-message.invariant.1,
    )

pub returns : goal.returns
returns g c =
    let new : List Submission = c.loop-message.all.items in
    let old : List Submission = c.args.pending.now.items in
    let rest : List Message = c.loop-message.message-iterator.rest.items in
    let long : length rest ≡ 0 = search rules in
    let none : rest ≡ [] = nil_from_length rest long in
    let same : c.into_iter-message-iterator.result.rest.items ≡ c.args.messages.items = search rules in
    let all : requests_in (map message_data c.args.messages.items) ≡ messages_of (map pending_in new) =
    ap (λ (ms : List Message). requests_in (map message_data ms)) (sym same) ∙ c.loop-message.invariant.0 ∙ ap (λ (ms : List Message). messages_of (map pending_in new) ++ requests_in (map message_data ms)) none ∙ append-nil (messages_of (map pending_in new)) in
    let put : c.append.new.self.items ≡ reverse new ++ old = c.in_ok-append.ensures.items ∙ ap (λ xs. xs ++ old) c.reverse.ensures.items in
    ap (λ xs. messages_of (pending_of xs)) put ∙ ap messages_of (joined new old) ∙ map-append (λ (p : Pending). p.message) (pending_of old) (map pending_in new)
    ∙ ap (λ ds. messages_of (pending_of old) ++ ds) (sym all)
