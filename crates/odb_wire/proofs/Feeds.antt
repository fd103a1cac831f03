-- A framer's state follows the bytes that it took in.
use Rattle.std.proofs.Common.{◌≡◌, ℕ, ◌++◌, List, [], ◌∷◌, Option, Some, None, IfSome, map, refl, ap, subst, append_assoc, ◌∙◌, sym}
use Rattle.std.proofs.lemmas.List.{append-nil}
use Rattle.serde_json.specs.Data.{Data}
use Rattle.odb_wire.specs.Stream.{messages}
use Rattle.odb_wire.specs.Feeding.{Adds, fault_of}
use Rattle.odb_wire.specs.declared.framer.Fed.{Fed}
use Rattle.odb_wire.specs.Standing.{prepended}
use Rattle.odb_wire.specs.Shown.{message_data}
use Rattle.odb_wire.specs.Standing.{IsStanding, TakesIn, Follows, messages_after}
use Rattle.odb_wire.specs.declared.fault.WireFault.{WireFault}
use Rattle.odb_wire.specs.declared.message.Message.{Message}
use Rattle.odb_wire.specs.declared.split.StreamState.{StreamState}
use Rattle.odb_wire.specs.declared.split.StreamState.TheVariants.{Going, Stopped}
use Rattle.odb_wire.proofs.Rests.{messages-rest}

-- before the first byte
pub follows-start : (most : ℕ) (bytes : List ℕ) (s : StreamState) → bytes ≡ [] → IsStanding most s → ((more : List ℕ) → messages_after most s more ≡ messages most more) → Follows most bytes s
follows-start most bytes s e stands fresh = subst (λ (u : List ℕ). Follows most u s) (sym e) (record { stands = stands; further = λ more. sym (fresh more) })

-- no message waits
none_waits : (most : ℕ) (s : StreamState) → IsStanding most s → (messages_after most s []).0 ≡ []
none_waits most (Going rest) stands = ap (λ x. x.0) (messages-rest most rest.text.items rest.scan stands)
none_waits most (Stopped stop) stands = refl

-- how the stream stands is how the state stands
pub ending_is : (most : ℕ) (bytes : List ℕ) (s : StreamState) → Follows most bytes s → (messages most bytes).1 ≡ (messages_after most s []).1
ending_is most bytes s follows = ap (λ u. (messages most u).1) (sym (append-nil bytes)) ∙ ap (λ x. x.1) (follows.further [])

-- what a piece makes of the messages
messages_with : (most : ℕ) (bytes piece : List ℕ) (old new : StreamState) (found : List Data) → Follows most bytes old → TakesIn most old piece found new → (more : List ℕ)
    → messages most ((bytes ++ piece) ++ more) ≡ prepended ((messages most bytes).0 ++ found) (messages_after most new more)
messages_with most bytes piece old new found follows takes more =
    ap (messages most) (append_assoc bytes piece more) ∙ follows.further (piece ++ more) ∙ ap (prepended (messages most bytes).0) (takes.further more)
    ∙ ap (λ ds. (ds, (messages_after most new more).1)) (sym (append_assoc (messages most bytes).0 found (messages_after most new more).0))

pub adds : (most : ℕ) (bytes piece taken : List ℕ) (old new : StreamState) (found : List Data) → Follows most bytes old → TakesIn most old piece found new → taken ≡ bytes ++ piece → Adds most bytes piece taken found
adds most bytes piece taken old new found follows takes e =
    record {
      bytes = e;
      messages = ap (λ u. (messages most u).0) (e ∙ sym (append-nil (bytes ++ piece))) ∙ ap (λ x. x.0) (messages_with most bytes piece old new found follows takes [])
          ∙ ap (λ ds. ((messages most bytes).0 ++ found) ++ ds) (none_waits most new takes.stands) ∙ append-nil ((messages most bytes).0 ++ found);
    }

pub follows-next : (most : ℕ) (bytes piece taken : List ℕ) (old new : StreamState) (found : List Data) → Follows most bytes old → TakesIn most old piece found new → taken ≡ bytes ++ piece → Follows most taken new
follows-next most bytes piece taken old new found follows takes e =
    let here : Adds most bytes piece taken found = adds most bytes piece taken old new found follows takes e in
    record {
      stands = takes.stands;
      further = λ more. ap (λ u. messages most (u ++ more)) e ∙ messages_with most bytes piece old new found follows takes more ∙ ap (λ ds. prepended ds (messages_after most new more)) (sym here.messages);
    }

-- ---- where the stream was at a fault already, nothing comes any more

none_mapped : (ms : List Message) (rest : List Data) → [] ≡ map message_data ms ++ rest → ms ≡ []
none_mapped [] rest e = refl
none_mapped (m ∷ ms) rest e = absurd (apart e)
  where
    apart : [] ≡ message_data m ∷ (map message_data ms ++ rest) → ⊥
    apart h = cc

pub stays_at_fault : (most : ℕ) (bytes piece : List ℕ) (old new : StreamState) (fed : Fed) → Follows most bytes old → TakesIn most old piece (map message_data fed.messages.items) new
    → fed.fault ≡ fault_of (messages_after most new []).1 → IfSome (fault_of (messages most bytes).1) (λ f. (fed.messages.items ≡ []) × (fed.fault ≡ Some f))
stays_at_fault most bytes piece old new fed follows takes at = at_old old follows takes
  where
    Again : Option WireFault → Type 0
    Again o = IfSome o (λ f. (fed.messages.items ≡ []) × (fed.fault ≡ Some f))

    at_some : (o : Option WireFault) → fed.messages.items ≡ [] → fed.fault ≡ o → Again o
    at_some None empty e = tt
    at_some (Some f) empty e = (empty, e)

    at_old : (s : StreamState) → Follows most bytes s → TakesIn most s piece (map message_data fed.messages.items) new → Again (fault_of (messages most bytes).1)
    at_old (Going rest) f t =
        let none : None ≡ fault_of (messages most bytes).1 = sym (ap fault_of (ending_is most bytes (Going rest) f ∙ ap (λ x. x.1) (messages-rest most rest.text.items rest.scan f.stands))) in
        subst Again none tt
    at_old (Stopped stop) f t =
        at_some (fault_of (messages most bytes).1) (none_mapped fed.messages.items (messages_after most new []).0 (ap (λ x. x.0) (t.further [])))
        (at ∙ ap (λ x. fault_of x.1) (sym (t.further [])) ∙ ap fault_of (sym (ending_is most bytes (Stopped stop) f)))

-- memory is refused to a stream alone that isn't at a fault
pub refused_going : (most : ℕ) (bytes : List ℕ) (s : StreamState) (P : WireFault → Type 0) → Follows most bytes s → fault_of (messages_after most s []).1 ≡ None → IfSome (fault_of (messages most bytes).1) P
refused_going most bytes s P follows none = subst (λ (o : Option WireFault). IfSome o P) (sym (ap fault_of (ending_is most bytes s follows) ∙ none)) tt
