-- What a server took and sent: the lists of which the law of texts speaks. [P 9.7, 13.1]
use Rattle.std.proofs.Common.{◌≡◌, ℕ, Bool, true, false, true≢false, ap, List, [], ◌∷◌, Option, Some, None, Result, Ok, Err, codes, refl, length, subst}
use Rattle.odb_core.specs.Represented.Core.{new_server}
use Rattle.odb_examples.proofs.OfLaw.{sub, turn}
use Rattle.odb_examples.proofs.TestSchemas.{net, quoted}
use Rattle.odb_examples.proofs.Transcripts.{shows}
use Rattle.odb_law.specs.Sent.{AreServed, Taken, Text, events, first_server, server_after, texts_since}
use Rattle.odb_schema.specs.Schema.{Schema}
use Rattle.odb_schema.specs.SchemaText.{schema_of_text}
use Rattle.odb_service.specs.Run.{Event, Refusal, closed, opened, round, ticked}
use Rattle.odb_service.specs.Server.{Server, serve}

-- what the contract of a new core says
pub the_first_is_a_new_server : (schema : Schema) (word most : ℕ) → first_server schema word most ≡ new_server word most schema
the_first_is_a_new_server schema word most = refl

abbrev took : Event → Server → List (ℕ × Text) → Taken
took e server sent = record { event = e; server = server; sent = sent }

-- A core that is made, opens a session, takes an event and gives a round: what the contracts of these calls say is such a list.
pub calls_of_a_core : (schema : Schema) (word most : ℕ) (new opened_one told after : Server) (e : Event) (outs : List (ℕ × Text)) → new ≡ new_server word most schema → serve (opened 0) new ≡ Ok (opened_one, []) → serve e opened_one ≡ Ok (told, []) → serve (round (0 ∷ [])) told ≡ Ok (after, outs)
    → AreServed schema word most (took (round (0 ∷ [])) after outs ∷ took e told [] ∷ took (opened 0) opened_one [] ∷ [])
calls_of_a_core schema word most new opened_one told after e outs made opens takes gives = (gives, (takes, (subst (λ (s : Server). serve (opened 0) s ≡ Ok (opened_one, [])) made opens, tt)))

-- what a server takes of these events, the newest first: those that it refuses are left out
abbrev taken_after : Schema → List Event → List Taken → List Taken
taken_after schema [] ts = ts
taken_after schema (e ∷ es) ts = elim (serve e (server_after schema 0 100 ts)) [ Ok p ↦ taken_after schema es (took e p.0 p.1 ∷ ts) | Err r ↦ taken_after schema es ts ]

abbrev of_net : {A : Type 0} → (Schema → A) → Option A
of_net f = elim (schema_of_text net) [ Ok n ↦ Some (f n) | Err e ↦ None ]

abbrev some_events : List Event
some_events =
    (opened 0) ∷
    (sub 0 0 ((quoted (codes "{'method':'echo','params':[1],'id':1}")))) ∷
    (turn 0) ∷
    (opened 0) ∷
    (opened 1) ∷
    (sub 1 0 ((quoted (codes "{'method':'lock','params':['L'],'id':1}")))) ∷
    (sub 0 0 ((quoted (codes "{'method':'steal','params':['L'],'id':2}")))) ∷
    (round (1 ∷ 0 ∷ [])) ∷
    (sub 0 0 ((quoted (codes "{'method':'echo','params':[2],'id':3}")))) ∷
    (turn 1) ∷
    (turn 0) ∷
    []

-- what a session was sent since it was opened
abbrev told_by : ℕ → List Event → Option (List Text)
told_by s es = of_net (λ n. texts_since (taken_after n es []) s)

pub told_in_order : told_by 0 some_events ≡ Some (quoted (codes "{'error':null,'id':1,'result':[1]}") ∷ quoted (codes "{'error':null,'id':2,'result':{'locked':true}}") ∷ quoted (codes "{'error':null,'id':3,'result':[2]}") ∷ [])
unfolding shows
told_in_order = refl

pub told_its_own : told_by 1 some_events ≡ Some (quoted (codes "{'error':null,'id':1,'result':{'locked':true}}") ∷ quoted (codes "{'id':null,'method':'stolen','params':['L']}") ∷ [])
unfolding shows
told_its_own = refl

-- what was told before a session was opened again isn't of it
pub told_since_it_was_opened : told_by 0 ((opened 0) ∷ (sub 0 0 ((quoted (codes "{'method':'echo','params':[1],'id':1}")))) ∷ (turn 0) ∷ (closed 0) ∷ (opened 0) ∷ (sub 0 0 ((quoted (codes "{'method':'echo','params':[2],'id':2}")))) ∷ (turn 0) ∷ [])
    ≡ Some (quoted (codes "{'error':null,'id':2,'result':[2]}") ∷ [])
unfolding shows
told_since_it_was_opened = refl

-- the events, the oldest first, without the one that was refused
pub events_in_order : of_net (λ n. length (events (taken_after n some_events []))) ≡ Some 10
unfolding shows
events_in_order = refl

pub oldest_first : (n : Schema) (a b : Server) → events (took (ticked 2) b [] ∷ took (ticked 1) a [] ∷ []) ≡ ticked 1 ∷ ticked 2 ∷ []
oldest_first n a b = refl

-- a text that the service doesn't send was not served
abbrev Answer : Type 0
Answer = Result (Server × List (ℕ × Text)) Refusal

abbrev is_silent : List (ℕ × Text) → Bool
is_silent [] = true
is_silent (o ∷ os) = false

abbrev answers_silently : Answer → Bool
answers_silently (Ok p) = is_silent p.1
answers_silently (Err r) = true

not_empty : (s t : Server) (o : ℕ × Text) (os : List (ℕ × Text)) → (let a : Answer = Ok (s, []) in a) ≡ Ok (t, o ∷ os) → ⊥
not_empty s t o os e = true≢false (ap answers_silently e)

pub an_invented_text_is_not_served : (schema : Schema) (word most : ℕ) (after : Server) → AreServed schema word most (took (ticked 5) after ((0, []) ∷ []) ∷ []) → ⊥
an_invented_text_is_not_served schema word most after a = not_empty _ after (0, []) [] a.0

-- all that was taken was served
pub what_is_taken_was_served : (schema : Schema) (es : List Event) (ts : List Taken) → AreServed schema 0 100 ts → AreServed schema 0 100 (taken_after schema es ts)
what_is_taken_was_served schema [] ts a = a
what_is_taken_was_served schema (e ∷ es) ts a =
    elim (serve e (server_after schema 0 100 ts)) as (λ r. serve e (server_after schema 0 100 ts) ≡ r → AreServed schema 0 100 (elim r [ Ok p ↦ taken_after schema es (took e p.0 p.1 ∷ ts) | Err r ↦ taken_after schema es ts ])) [
      | Ok p ↦ λ is. what_is_taken_was_served schema es (took e p.0 p.1 ∷ ts) (is, a)
      | Err r ↦ λ _. what_is_taken_was_served schema es ts a
    ] refl
