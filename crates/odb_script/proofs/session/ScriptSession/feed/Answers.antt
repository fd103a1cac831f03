use Rattle.std.proofs.Common.{ℕ, List, drop, length, map, sym, ap, subst, ◌∙◌}
use Rattle.std.proofs.Math.Seq.{drop-append_seam}
use Rattle.std.proofs.lemmas.Result.{IfOk-weaker}
use Rattle.serde_json.specs.Data.{Data}
use Rattle.odb_wire.specs.Feeding.{Adds, fault_of}
use Rattle.odb_wire.specs.Shown.{message_data}
use Rattle.odb_wire.specs.Stream.{max_message, messages}
use Rattle.odb_script.specs.Script.{ScriptSession, with_bytes}
use Rattle.odb_script.proofs.session.ScriptSession.feed.Goals as goal

pub invariant_of-self : goal.invariant_of-self
invariant_of-self c = c.feed.ensures.limit ∙ c.self.invariant

pub returns-clause-session : goal.returns-clause-session
returns-clause-session c =
    let i = c.self.inside in
    IfOk-weaker c.feed.result _ _
    (λ fed grown.
    (λ j. let x : ScriptSession = record { name = i.name.items; session = i.session; bytes = grown.bytes j; delivered = length (messages max_message (grown.bytes j)).0; held = i.held } in x)
    ∙ ap (with_bytes c.args.bytes.now) c.self.view_is)
    c.feed.ensures.ok

pub returns-clause-messages : goal.returns-clause-messages
returns-clause-messages c =
    let old : List Data = (messages max_message c.self.inside.framer.bytes).0 in
    IfOk-weaker c.feed.result _ _
    (λ fed grown.
    let here : Adds max_message c.self.inside.framer.bytes c.args.bytes.now c.feed.new.self.bytes (map message_data fed.messages.items) =
    subst (λ (most : ℕ). Adds most c.self.inside.framer.bytes c.args.bytes.now c.feed.new.self.bytes (map message_data fed.messages.items)) c.self.invariant grown in
    sym (drop-append_seam old (map message_data fed.messages.items)) ∙ ap (drop (length old)) (sym here.messages)
    ∙ ap (λ (x : ScriptSession). drop x.delivered (messages max_message c.feed.new.self.bytes).0) c.self.view_is)
    c.feed.ensures.ok

pub returns-clause-fault : goal.returns-clause-fault
returns-clause-fault c =
    IfOk-weaker c.feed.result _ _ (λ fed is. ap (λ (most : ℕ). fault_of (messages most c.feed.new.self.bytes).1) (sym (c.feed.ensures.limit ∙ c.self.invariant)) ∙ sym is) c.feed.ensures.fault
