-- What a server that takes an event did, and the history that is one event longer.
use Rattle.std.proofs.Common.{◌≡◌, ℕ, ◌==◌, ◌&&◌, Bool, true, false, cond, not, List, [], ◌∷◌, ◌++◌, map, Option, Some, None, Result, Ok, Err, is_some, refl, sym, ap, subst, ◌∙◌, append-nil, append_assoc}
use Rattle.std.specs.Prelude.{nat_lt}
use Rattle.std.specs.Ordering.{eq_by_cmp, nat_cmp}
use Rattle.std.proofs.lemmas.List.{map-append}
use borrow.Author.Tests.{eq-eqb}
use Rattle.serde_json.specs.Data.{Data}
use Rattle.odb_atoms.specs.FinMap.{get, insert, len, remove}
use Rattle.odb_atoms.specs.Uuid.{Uuid}
use Rattle.odb_rpc.specs.Message.{call_of, has_reply}
use Rattle.odb_hub.specs.Guarded.{AreOpen, AreSent, AreTold, EndsWith, text_of}
use Rattle.odb_hub.specs.Rings.{Ring, Rings, Text, texts, texts_to}
use Rattle.odb_hub.proofs.Takings.{texts_printed}
use Rattle.odb_service.proofs.OnlyPosts.{Rest, takes_each}
use Rattle.odb_service.proofs.Results.{err_ok}
use Rattle.odb_service.proofs.SessionMaps.{get-insert, get-remove, other, same_key}
use Rattle.odb_service.proofs.WhoIsOpen.{closes, handles, ticks}
use Rattle.odb_service.specs.History.{IsHistory}
use Rattle.odb_service.specs.Run.{Event, Refusal, Sent, State, after, busy, closed, given_after, gone, if_ok, in_use, max_owed, max_sessions, next, once, opened, opens, requests_after, round, run, sent_to, step, submit, submitted, take_each, ticked, too_many}
use Rattle.odb_service.specs.Server.{Server, opened_after, printed, serve, served_by}
use Rattle.odb_service.specs.Service.{Service}
use Rattle.odb_service.specs.Session.{Out, Session}
use Rattle.odb_service.specs.World.{World, at_moment, close, handle, owed_replies, tick}

pub ok_is : {A E : Type 0} (x y : A) → (let a : Result A E = Ok x in a) ≡ Ok y → x ≡ y
ok_is x y e = cc

if_ok_is : {A B E : Type 0} (f : A → Result B E) (r : Result A E) (y : B) → if_ok f r ≡ Ok y → (x : A) × (r ≡ Ok x) × (f x ≡ Ok y)
if_ok_is f (Ok x) y e = (x, refl, e)
if_ok_is f (Err x) y e = absurd (err_ok x y e)

abbrev Answer : Type 0
Answer = Server × List (ℕ × List ℕ)

abbrev pub served_with : Event → Server → World × List Sent → Answer
served_with e s r = (record { schema = s.schema; world = r.0; opened = opened_after e s.opened }, map printed r.1)

-- the machine's step that a server makes
pub step_of : (e : Event) (s t : Server) (outs : List (ℕ × List ℕ)) → serve e s ≡ Ok (t, outs)
    → (r : World × List Sent) × (step (served_by s.schema) e s.world ≡ Ok r) × (served_with e s r ≡ (t, outs))
step_of e s t outs is =
    let y : Answer = (t, outs) in
    let m : (r : World × List Sent) × (step (served_by s.schema) e s.world ≡ Ok r) × (Ok (served_with e s r) ≡ Ok y) = if_ok_is (λ r. Ok (served_with e s r)) (step (served_by s.schema) e s.world) y is in
    (m.0, m.1, ok_is (served_with e s m.0) y m.2)

-- ---- one event more

run-more : (h : Service) (es : List Event) (e : Event) (st : State) → run h (es ++ e ∷ []) st ≡ if_ok (run h (e ∷ [])) (run h es st)
run-more h [] e st = refl
run-more h (x ∷ es) e st = by (next h x st) (run-more h es e)
  where
    by : (r : Result State Refusal) → ((now : State) → run h (es ++ e ∷ []) now ≡ if_ok (run h (e ∷ [])) (run h es now)) → if_ok (run h (es ++ e ∷ [])) r ≡ if_ok (run h (e ∷ [])) (if_ok (run h es) r)
    by (Ok now) more = more now
    by (Err why) more = refl

abbrev start : World → State
start base = record { world = base; given = λ s. []; requests = λ s. [] }

abbrev ended : World → (ℕ → List Out) → (ℕ → List Data) → State
ended w given requests = record { world = w; given = given; requests = requests }

pub history_on : (h : Service) (base w : World) (es : List Event) (given : ℕ → List Out) (e : Event) (r : World × List Sent)
    → IsHistory h base es w given → step h e w ≡ Ok r → IsHistory h base (es ++ e ∷ []) r.0 (given_after e r.1 given)
history_on h base w es given e r is went =
    let st : State = ended w given is.0 in (
      requests_after e is.0,
      run-more h es e (start base) ∙ ap (if_ok (run h (e ∷ []))) is.1 ∙ ap (λ (x : Result (World × List Sent) Refusal). if_ok (run h []) (if_ok (λ r. Ok (after h e st r)) x)) went,
    )

pub history_begins : (h : Service) (base : World) → IsHistory h base [] base (λ s. [])
history_begins h base = (λ s. [], refl)

-- ---- what the rings were sent

ends_on : (a b more : List Text) → EndsWith a b → EndsWith (a ++ more) (b ++ more)
ends_on a b more is = (is.0, ap (λ ts. ts ++ more) is.1 ∙ append_assoc is.0 b more)

pub ends_nothing : (a : List Text) → EndsWith a []
ends_nothing a = (a, sym (append-nil a))

-- the ring of a session after an event: it was opened just now, or its ring was sent this beside
abbrev pub IsTold : Bool → List Text → Option Ring → Ring → Type 0
IsTold true outs o new = texts new ≡ []
IsTold false outs o new = (old : Ring) × (o ≡ Some old) × (texts new ≡ texts old ++ outs)

pub told_on : (old new : Rings) (given : ℕ → List Out) (e : Event) (outs : List Sent) → AreTold old given
    → ((s : ℕ) (r : Ring) → get new s ≡ Some r → IsTold (opens e s) (texts_to s (map printed outs)) (get old s) r)
    → AreTold new (given_after e outs given)
told_on old new given e outs told is s r there = by (opens e s) (is s r there)
  where
    by : (b : Bool) → IsTold b (texts_to s (map printed outs)) (get old s) r → EndsWith (texts r) (map text_of (cond b [] (given s ++ sent_to s outs)))
    by true k = ends_nothing (texts r)
    by false k =
        let more : List Text = texts_to s (map printed outs) in
        subst (λ ts. EndsWith ts (map text_of (given s ++ sent_to s outs))) (sym k.2)
        (subst (λ ts. EndsWith (texts k.0 ++ more) ts) (sym (map-append text_of (given s) (sent_to s outs) ∙ ap (λ ts. map text_of (given s) ++ ts) (sym (texts_printed s outs))))
        (ends_on (texts k.0) (map text_of (given s)) more (told s k.0 k.1)))

-- the same of just what they were sent
pub sent_on : (old new : Rings) (given : ℕ → List Out) (e : Event) (outs : List Sent) → AreSent old given
    → ((s : ℕ) (r : Ring) → get new s ≡ Some r → IsTold (opens e s) (texts_to s (map printed outs)) (get old s) r)
    → AreSent new (given_after e outs given)
sent_on old new given e outs sent is s r there = by (opens e s) (is s r there)
  where
    by : (b : Bool) → IsTold b (texts_to s (map printed outs)) (get old s) r → texts r ≡ map text_of (cond b [] (given s ++ sent_to s outs))
    by true k = k
    by false k =
        k.2 ∙ ap (λ ts. ts ++ texts_to s (map printed outs)) (sent s k.0 k.1) ∙ ap (λ ts. map text_of (given s) ++ ts) (texts_printed s outs)
        ∙ sym (map-append text_of (given s) (sent_to s outs))

-- ---- who is opens_so

module _ (h : Service) where
  abbrev opened_world : ℕ → World → World
  opened_world s w = record w { sessions = insert w.sessions s (record { queue = []; monitors = [] }) }

  opening : (b c : Bool) (v r : World × List Sent) → cond b (Err too_many) (cond c (Err in_use) (Ok v)) ≡ Ok r → v ≡ r
  opening true c v r e = absurd (err_ok too_many r e)
  opening false true v r e = absurd (err_ok in_use r e)
  opening false false v r e = ok_is v r e

  pub opened_is : (s : ℕ) (w : World) (r : World × List Sent) → step h (opened s) w ≡ Ok r → (opened_world s w, []) ≡ r
  opened_is s w r e = opening (not (nat_lt (len w.sessions) max_sessions)) (is_some (get w.sessions s)) (opened_world s w, []) r e

  accepting : (b : Bool) (v w : World) → cond b (Err busy) (Ok v) ≡ Ok w → v ≡ w
  accepting true v w e = absurd (err_ok busy w e)
  accepting false v w e = ok_is v w e

  submitting : (s : ℕ) (o : Option Session) (d : Data) (fresh : List Uuid) (now : ℕ) (w v : World) → submit h s o d fresh now w ≡ Ok v
      → handle h s d fresh (call_of h.db_name h.schema h.serves d) (at_moment h now w) ≡ v
  submitting s None d fresh now w v e = absurd (err_ok gone v e)
  submitting s (Some x) d fresh now w v e =
      accepting (has_reply (call_of h.db_name h.schema h.serves d) && not (nat_lt (owed_replies h s x w) max_owed)) (handle h s d fresh (call_of h.db_name h.schema h.serves d) (at_moment h now w)) v e

  pub submitted_is : (s : ℕ) (d : Data) (fresh : List Uuid) (now : ℕ) (w : World) (r : World × List Sent) → step h (submitted s d fresh now) w ≡ Ok r
      → (handle h s d fresh (call_of h.db_name h.schema h.serves d) (at_moment h now w), []) ≡ r
  submitted_is s d fresh now w r e =
      let m : (v : World) × (submit h s (get w.sessions s) d fresh now w ≡ Ok v) × (Ok (v, []) ≡ Ok r) = if_ok_is (λ v. Ok (let p : World × List Sent = (v, []) in p)) (submit h s (get w.sessions s) d fresh now w) r e in
      ap (λ v. let p : World × List Sent = (v, []) in p) (submitting s (get w.sessions s) d fresh now w m.0 m.1) ∙ ok_is _ r m.2

  closing : (b : Bool) (v r : World × List Sent) → cond b (Ok v) (Err gone) ≡ Ok r → v ≡ r
  closing true v r e = ok_is v r e
  closing false v r e = absurd (err_ok gone r e)

  pub closed_is : (s : ℕ) (w : World) (r : World × List Sent) → step h (closed s) w ≡ Ok r → (close h s w, []) ≡ r
  closed_is s w r e = closing (is_some (get w.sessions s)) (close h s w, []) r e

  open_on : (rings : Rings) (w v : World) → AreOpen rings w → ((s : ℕ) → is_some (get v.sessions s) ≡ is_some (get w.sessions s)) → AreOpen rings v
  open_on rings w v opens_so same s = opens_so s ∙ sym (same s)

  pub open_submitted : (rings : Rings) (w : World) (s : ℕ) (d : Data) (fresh : List Uuid) (now : ℕ) (r : World × List Sent) → step h (submitted s d fresh now) w ≡ Ok r → AreOpen rings w → AreOpen rings r.0
  open_submitted rings w s d fresh now r is opens_so =
      let c = call_of h.db_name h.schema h.serves d in
      subst (λ (p : World × List Sent). AreOpen rings p.0) (submitted_is s d fresh now w r is) (open_on rings w (handle h s d fresh c (at_moment h now w)) opens_so (λ t. handles h s d fresh c (at_moment h now w) t))

  pub open_ticked : (rings : Rings) (w : World) (now : ℕ) (r : World × List Sent) → step h (ticked now) w ≡ Ok r → AreOpen rings w → AreOpen rings r.0
  open_ticked rings w now r is opens_so = subst (λ (p : World × List Sent). AreOpen rings p.0) (ok_is (tick h now w, []) r is) (open_on rings w (tick h now w) opens_so (ticks h now w))

  pub open_round : (rings : Rings) (w : World) (ss : List ℕ) (r : World × List Sent) → step h (round ss) w ≡ Ok r → AreOpen rings w → AreOpen rings r.0
  open_round rings w ss r is opens_so = subst (λ (p : World × List Sent). AreOpen rings p.0) (ok_is (take_each h (once ss) w) r is) (open_on rings w (take_each h (once ss) w).0 opens_so (λ t. ap (λ (q : Rest). q.3 t) (takes_each h (once ss) w)))

  pub open_opened : (rings : Rings) (x : Ring) (w : World) (s : ℕ) (r : World × List Sent) → step h (opened s) w ≡ Ok r → AreOpen rings w → AreOpen (insert rings s x) r.0
  open_opened rings x w s r is opens_so = subst (λ (p : World × List Sent). AreOpen (insert rings s x) p.0) (opened_is s w r is) (λ t.
      ap is_some (get-insert rings s x t) ∙ by t (eq_by_cmp nat_cmp t s) ∙ sym (ap is_some (get-insert w.sessions s (record { queue = []; monitors = [] }) t)))
    where
      by : (t : ℕ) (b : Bool) → is_some (cond b (Some x) (get rings t)) ≡ is_some (cond b (Some (let x : Session = record { queue = []; monitors = [] } in x)) (get w.sessions t))
      by t true = refl
      by t false = opens_so t

  pub open_closed : (rings : Rings) (w : World) (s : ℕ) (r : World × List Sent) → step h (closed s) w ≡ Ok r → AreOpen rings w → AreOpen (remove rings s) r.0
  open_closed rings w s r is opens_so = subst (λ (p : World × List Sent). AreOpen (remove rings s) p.0) (closed_is s w r is) (λ t. ap is_some (get-remove rings s t) ∙ by t (eq_by_cmp nat_cmp t s) refl ∙ sym (closes h s w t))
    where
      by : (t : ℕ) (b : Bool) → eq_by_cmp nat_cmp t s ≡ b → is_some (cond b None (get rings t)) ≡ (not (s == t) && is_some (get w.sessions t))
      by t true tie = ap (λ c. not c && is_some (get w.sessions t)) (sym (eq-eqb s t (sym (same_key t s tie))))
      by t false apart = opens_so t ∙ ap (λ c. not c && is_some (get w.sessions t)) (sym (other t s apart))
