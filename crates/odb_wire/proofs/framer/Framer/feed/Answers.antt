use Rattle.std.proofs.Common.{◌≡◌, ◌∙◌, [], None, sym, ap, subst, map, ℕ}
use Rattle.odb_wire.specs.Feeding.{Adds, fault_of}
use Rattle.odb_wire.specs.Framed.{Framed}
use Rattle.odb_wire.specs.Shown.{message_data}
use Rattle.odb_wire.specs.Standing.{Follows, TakesIn, messages_after}
use Rattle.odb_wire.specs.declared.split.StreamState.{StreamState}
use Rattle.odb_wire.proofs.Feeds.{ending_is, adds, follows-next, refused_going, stays_at_fault}
use Rattle.odb_wire.proofs.framer.Framer.feed.Goals as goal

pub invariant_of-self : goal.invariant_of-self
invariant_of-self c =
    let most : ℕ = c.self.inside.most in
    let takes : TakesIn most c.self.inside.state c.args.piece.now (map message_data c.in-Ok.field-0.messages.items) c.in-Ok.field-0.state =
    subst (λ (s : StreamState). TakesIn most s c.args.piece.now (map message_data c.in-Ok.field-0.messages.items) c.in-Ok.field-0.state) c.replace-state.ensures.value c.in-Ok.ensures.ok in
    follows-next most _ _ _ _ _ _ c.self.invariant takes c.add.ensures

pub returns-in-Ok-clause-ok : goal.returns-in-Ok-clause-ok
returns-in-Ok-clause-ok c =
    let most : ℕ = c.self.inside.most in
    let takes : TakesIn most c.self.inside.state c.args.piece.now (map message_data c.in-Ok.field-0.messages.items) c.in-Ok.field-0.state =
    subst (λ (s : StreamState). TakesIn most s c.args.piece.now (map message_data c.in-Ok.field-0.messages.items) c.in-Ok.field-0.state) c.replace-state.ensures.value c.in-Ok.ensures.ok in
    subst (λ (old : Framed). Adds old.most old.bytes c.args.piece.now c.add.new.self.bytes (map message_data c.in-Ok.field-0.messages.items)) c.self.view_is
    (adds most _ _ _ _ _ _ c.self.invariant takes c.add.ensures)

pub returns-in-Ok-clause-fault : goal.returns-in-Ok-clause-fault
returns-in-Ok-clause-fault c =
    let most : ℕ = c.self.inside.most in
    let takes : TakesIn most c.self.inside.state c.args.piece.now (map message_data c.in-Ok.field-0.messages.items) c.in-Ok.field-0.state =
    subst (λ (s : StreamState). TakesIn most s c.args.piece.now (map message_data c.in-Ok.field-0.messages.items) c.in-Ok.field-0.state) c.replace-state.ensures.value c.in-Ok.ensures.ok in
    let next : Follows most c.add.new.self.bytes c.in-Ok.field-0.state = follows-next most _ _ _ _ _ _ c.self.invariant takes c.add.ensures in
    c.fault-fault.ensures most takes.stands ∙ ap fault_of (sym (ending_is most _ _ next))

pub returns-in-Ok-clause-for_good : goal.returns-in-Ok-clause-for_good
returns-in-Ok-clause-for_good c =
    let most : ℕ = c.args.self.now.most in
    let here : TakesIn c.self.inside.most c.self.inside.state c.args.piece.now (map message_data c.in-Ok.field-0.messages.items) c.in-Ok.field-0.state =
    subst (λ (s : StreamState). TakesIn c.self.inside.most s c.args.piece.now (map message_data c.in-Ok.field-0.messages.items) c.in-Ok.field-0.state) c.replace-state.ensures.value c.in-Ok.ensures.ok in
    let takes : TakesIn most c.self.inside.state c.args.piece.now (map message_data c.in-Ok.field-0.messages.items) c.in-Ok.field-0.state =
    subst (λ (old : Framed). TakesIn old.most c.self.inside.state c.args.piece.now (map message_data c.in-Ok.field-0.messages.items) c.in-Ok.field-0.state) c.self.view_is here in
    let follows : Follows most c.args.self.now.bytes c.self.inside.state = subst (λ (old : Framed). Follows old.most old.bytes c.self.inside.state) c.self.view_is c.self.invariant in
    stays_at_fault most c.args.self.now.bytes _ _ _ (record { messages = c.in-Ok.field-0.messages; fault = c.fault-fault.result }) follows takes (c.fault-fault.ensures most takes.stands)

pub returns-in-Err-clause-for_good : goal.returns-in-Err-clause-for_good
returns-in-Err-clause-for_good c =
    let most : ℕ = c.args.self.now.most in
    let follows : Follows most c.args.self.now.bytes c.self.inside.state = subst (λ (old : Framed). Follows old.most old.bytes c.self.inside.state) c.self.view_is c.self.invariant in
    let here : fault_of (messages_after c.self.inside.most c.self.inside.state []).1 ≡ None =
    subst (λ (s : StreamState). fault_of (messages_after c.self.inside.most s []).1 ≡ None) c.replace-state.ensures.value c.in-Err.ensures.only_going in
    let none : fault_of (messages_after most c.self.inside.state []).1 ≡ None = subst (λ (old : Framed). fault_of (messages_after old.most c.self.inside.state []).1 ≡ None) c.self.view_is here in
    refused_going most c.args.self.now.bytes c.self.inside.state _ follows none
