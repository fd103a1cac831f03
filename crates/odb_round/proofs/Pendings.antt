-- Takings that are planned, with the bodies of their messages.
use Rattle.std.proofs.Common.{◌≡◌, ◌++◌, suc, slice_get, Option, Some, None, List, [], ◌∷◌, length, map, refl, sym, ap, append_assoc, ◌∙◌}
use Rattle.std.specs.Prelude.{option_and_then, option_map}
use Rattle.std.proofs.lemmas.List.{map-append}
use Rattle.std.proofs.lemmas.Option.{none-some, same_Some}
use Rattle.serde_json.specs.Written.{compact_text}
use Rattle.odb_atoms.specs.FinMap.{get}
use Rattle.odb_monitor.specs.Job.{Job, updates_of}
use Rattle.odb_schema.specs.Json.{Data}
use Rattle.odb_schema.specs.Schema.{Schema}
use Rattle.odb_service.specs.Server.{served_by}
use Rattle.odb_service.specs.Session.{Item, Revision, Session}
use Rattle.odb_sessions.specs.Book.{Book, revision_in}
use Rattle.odb_round.specs.Jobs.{AreMadeOf, IsOfJob}
use Rattle.odb_sessions.specs.Composed.{composition}
use Rattle.odb_round.specs.Planned.{Due, plan}
use Rattle.odb_round.specs.Represented.Sending.{framing}
use Rattle.odb_round.specs.Represented.Taking.{coming_sending, pending_by, pending_of, text_around, text_planned}
use Rattle.odb_round.specs.Sending.{Framed, Sending, due_sending, framed_due, sent_with}
use Rattle.odb_round.specs.Taken.{Pending, sessions_in}
use Rattle.odb_sessions.specs.declared.composing.Envelope.{Envelope}
use Rattle.odb_round.specs.declared.jobs.Planned.{Planned}
use Rattle.odb_round.specs.declared.taking.Coming.{Coming}
use Rattle.odb_round.specs.declared.taking.Coming.TheVariants.{Composed, Queued}
use Rattle.odb_sessions.proofs.Loops.{mapped_twice}

pub sessions_by : (js : List Job) (ps : List Planned) → sessions_in (map (pending_by js) ps) ≡ map (λ (p : Planned). p.session) ps
sessions_by js ps = mapped_twice (λ (p : Pending). p.0) (pending_by js) ps

-- one more is ready
pub one_ready : (js : List Job) (done new : List Planned) (r : Planned) (p : Planned) (ps : List Planned) → new ≡ done ++ r ∷ [] → pending_of r ≡ pending_by js p
    → map pending_of new ++ map (pending_by js) ps ≡ map pending_of done ++ map (pending_by js) (p ∷ ps)
one_ready js done new r p ps grown same =
    ap (λ (rs : List Planned). map pending_of rs ++ map (pending_by js) ps) grown
    ∙ ap (λ (qs : List Pending). qs ++ map (pending_by js) ps) (map-append pending_of done (r ∷ []))
    ∙ append_assoc (map pending_of done) (pending_of r ∷ []) (map (pending_by js) ps)
    ∙ (λ i. map pending_of done ++ same i ∷ map (pending_by js) ps)

length_mapped : {A B : Type 0} (f : A → B) (xs : List A) → length (map f xs) ≡ length xs
length_mapped f [] = refl
length_mapped f (x ∷ xs) = ap suc (length_mapped f xs)

-- as many are ready as were planned
pub as_many_ready : (js : List Job) (rs : List Planned) (ps : List Planned) → map pending_of rs ≡ map (pending_by js) ps → length rs ≡ length ps
as_many_ready js rs ps same = sym (length_mapped pending_of rs) ∙ ap length same ∙ length_mapped (pending_by js) ps

-- ---- what is composed is what is due

module _ (s : Schema) (revision : Revision) (js : List Job) (x : Session) (m : Envelope) where
  abbrev due_out : Option Due
  due_out = (plan (served_by s) revision.db x).out

  -- what is due is composed so
  framed_is : (o : Option Due) (f : Framed) (d : Data) → Some (sent_with f d) ≡ option_map (due_sending (served_by s) revision) o → option_and_then (framed_due (served_by s) revision) o ≡ Some f
  framed_is None f d e = absurd (none-some (sent_with f d) (sym e))
  framed_is (Some due) f d e = sym (ap (λ (y : Sending). y.framed) (same_Some (sent_with f d) (due_sending (served_by s) revision due) e))

  of_updates : (j : Job) (o : Option Data) → slice_get js m.place ≡ Some j → updates_of j ≡ o → option_map (sent_with (framing m j)) o ≡ option_map (due_sending (served_by s) revision) due_out
      → IsOfJob s revision js (Some x) (text_around m.before.items (option_map compact_text o) m.after.items)
  of_updates j None at is e = tt
  of_updates j (Some d) at is e = (m.place, j, at, ap (option_map compact_text) is, framed_is due_out (framing m j) d e)

  of_message : (o : Option Job) → slice_get js m.place ≡ o
      → option_and_then (λ (j : Job). option_map (sent_with (framing m j)) (updates_of j)) o ≡ option_map (due_sending (served_by s) revision) due_out
      → IsOfJob s revision js (Some x) (text_around m.before.items (option_and_then composition o) m.after.items)
  of_message None at e = tt
  of_message (Some j) at e = of_updates j (updates_of j) at refl e

-- what comes to a session, where what is sent is what is due to it
pub made_of : (s : Schema) (revision : Revision) (js : List Job) (x : Session) (c : Option Coming) (last : Option Item)
    → coming_sending js c last ≡ option_map (due_sending (served_by s) revision) (plan (served_by s) revision.db x).out → IsOfJob s revision js (Some x) (text_planned js c)
made_of s revision js x None last e = tt
made_of s revision js x (Some Queued) last e = tt
made_of s revision js x (Some (Composed m)) last e = of_message s revision js x m (slice_get js m.place) refl e

-- one more is composed so
pub made-append : (s : Schema) (b : Book) (js : List Job) (ps : List Pending) (p : Pending) → AreMadeOf s b js ps → IsOfJob s (revision_in b) js (get b.sessions p.0) p.1.text → AreMadeOf s b js (ps ++ p ∷ [])
made-append s b js [] p h k = (k, tt)
made-append s b js (q ∷ ps) p h k = (h.0, made-append s b js ps p h.1 k)
