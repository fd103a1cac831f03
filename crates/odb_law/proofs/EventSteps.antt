-- What an event does, where it isn't refused; and how a fact is carried through a run.
use Rattle.std.proofs.Common.{◌≡◌, ℕ, Bool, true, false, cond, List, [], ◌∷◌, ◌++◌, Option, Some, None, Result, Ok, Err, refl, ◌∙◌, ap, subst, not, ◌&&◌, is_some, true≢false}
use Rattle.std.specs.Prelude.{nat_lt}
use Rattle.serde_json.specs.Data.{Data}
use Rattle.odb_atoms.specs.FinMap.{get, insert, len}
use Rattle.odb_service.proofs.Results.{err_ok}
use Rattle.odb_law.specs.Headline.{IsReached}
use Rattle.odb_service.specs.Run.{Event, Sent, State, after, beginning, busy, closed, gone, if_ok, in_use, max_owed, max_sessions, next, once, opened, round, run, step, submit, submitted, take_each, ticked, too_many}
use Rattle.odb_service.specs.Service.{Service}
use Rattle.odb_service.specs.Session.{Session}
use Rattle.odb_service.specs.World.{World, at_moment, close, handle, owed_replies, tick}
use Rattle.odb_rpc.specs.Message.{call_of, has_reply}
use Rattle.odb_atoms.specs.Uuid.{Uuid}

pub ok_is : {A E : Type 0} (x y : A) → (let a : Result A E = Ok x in a) ≡ Ok y → x ≡ y
ok_is x y e = cc

-- what a result that is fine was made of
pub if_ok_is : {A B E : Type 0} (f : A → Result B E) (r : Result A E) (y : B) → if_ok f r ≡ Ok y → (x : A) × (r ≡ Ok x) × (f x ≡ Ok y)
if_ok_is f (Ok x) y e = (x, refl, e)
if_ok_is f (Err x) y e = absurd (err_ok x y e)

not_some : {A : Type 0} (o : Option A) → is_some o ≡ false → o ≡ None
not_some None e = refl
not_some (Some x) e = absurd (true≢false e)

module _ (h : Service) where
  abbrev pub Accepted : ℕ → Data → World → Session → Type 0
  Accepted s d w x = (get w.sessions s ≡ Some x) × ((has_reply (call_of h.db_name h.schema h.serves d) && not (nat_lt (owed_replies h s x w) max_owed)) ≡ false)

  abbrev pub opened_world : ℕ → World → World
  opened_world s w = record w { sessions = insert w.sessions s (record { queue = []; monitors = [] }) }

  abbrev pub Stepped : Event → World → World × List Sent → Type 0
  Stepped (opened s) w r = (get w.sessions s ≡ None) × ((opened_world s w, []) ≡ r)
  Stepped (submitted s d fresh now) w r = (x : Session) × Accepted s d w x × ((handle h s d fresh (call_of h.db_name h.schema h.serves d) (at_moment h now w), []) ≡ r)
  Stepped (ticked now) w r = (tick h now w, []) ≡ r
  Stepped (closed s) w r = (close h s w, []) ≡ r
  Stepped (round ss) w r = take_each h (once ss) w ≡ r

  opening : (b c : Bool) (o : Option Session) → is_some o ≡ c → (v r : World × List Sent) → cond b (Err too_many) (cond c (Err in_use) (Ok v)) ≡ Ok r → (o ≡ None) × (v ≡ r)
  opening true c o is v r e = absurd (err_ok too_many r e)
  opening false true o is v r e = absurd (err_ok in_use r e)
  opening false false o is v r e = (not_some o is, ok_is v r e)

  accepting : (b : Bool) (v w : World) → cond b (Err busy) (Ok v) ≡ Ok w → (b ≡ false) × (v ≡ w)
  accepting true v w e = absurd (err_ok busy w e)
  accepting false v w e = (refl, ok_is v w e)

  submitting : (s : ℕ) (o : Option Session) (d : Data) (fresh : List Uuid) (now : ℕ) (w v : World) → submit h s o d fresh now w ≡ Ok v
      → (x : Session) × (o ≡ Some x) × ((has_reply (call_of h.db_name h.schema h.serves d) && not (nat_lt (owed_replies h s x w) max_owed)) ≡ false) × (handle h s d fresh (call_of h.db_name h.schema h.serves d) (at_moment h now w) ≡ v)
  submitting s None d fresh now w v e = absurd (err_ok gone v e)
  submitting s (Some x) d fresh now w v e =
      let a : ((has_reply (call_of h.db_name h.schema h.serves d) && not (nat_lt (owed_replies h s x w) max_owed)) ≡ false) × (handle h s d fresh (call_of h.db_name h.schema h.serves d) (at_moment h now w) ≡ v) =
      accepting (has_reply (call_of h.db_name h.schema h.serves d) && not (nat_lt (owed_replies h s x w) max_owed)) (handle h s d fresh (call_of h.db_name h.schema h.serves d) (at_moment h now w)) v e in
      (x, refl, a.0, a.1)

  closing : (b : Bool) (v r : World × List Sent) → cond b (Ok v) (Err gone) ≡ Ok r → v ≡ r
  closing true v r e = ok_is v r e
  closing false v r e = absurd (err_ok gone r e)

  pub stepped : (e : Event) (w : World) (r : World × List Sent) → step h e w ≡ Ok r → Stepped e w r
  stepped (opened s) w r e = opening (not (nat_lt (len w.sessions) max_sessions)) (is_some (get w.sessions s)) (get w.sessions s) refl (opened_world s w, []) r e
  stepped (submitted s d fresh now) w r e =
      let m : (v : World) × (submit h s (get w.sessions s) d fresh now w ≡ Ok v) × (Ok (v, []) ≡ Ok r) = if_ok_is (λ v. Ok (let p : World × List Sent = (v, []) in p)) (submit h s (get w.sessions s) d fresh now w) r e in
      let x : (x : Session) × (get w.sessions s ≡ Some x) × ((has_reply (call_of h.db_name h.schema h.serves d) && not (nat_lt (owed_replies h s x w) max_owed)) ≡ false) × (handle h s d fresh (call_of h.db_name h.schema h.serves d) (at_moment h now w) ≡ m.0) =
      submitting s (get w.sessions s) d fresh now w m.0 m.1 in
      (x.0, (x.1, x.2), ap (λ v. let p : World × List Sent = (v, []) in p) x.3 ∙ ok_is _ r m.2)
  stepped (ticked now) w r e = ok_is _ r e
  stepped (closed s) w r e = closing (is_some (get w.sessions s)) (close h s w, []) r e
  stepped (round ss) w r e = ok_is _ r e

  -- a step, and the state after it
  pub next_is : (e : Event) (st now : State) → next h e st ≡ Ok now → (r : World × List Sent) × Stepped e st.world r × (after h e st r ≡ now)
  next_is e st now is =
      let x : (r : World × List Sent) × (step h e st.world ≡ Ok r) × (Ok (after h e st r) ≡ Ok now) = if_ok_is (λ r. Ok (after h e st r)) (step h e st.world) now is in
      (x.0, stepped e st.world x.0 x.1, ok_is (after h e st x.0) now x.2)

  pub run_carries : (P : State → Type 0) → ((e : Event) (st : State) (r : World × List Sent) → P st → Stepped e st.world r → P (after h e st r)) → (es : List Event) (st last : State) → P st → run h es st ≡ Ok last → P last
  run_carries P goes [] st last k e = subst P (ok_is st last e) k
  run_carries P goes (e ∷ es) st last k is =
      let x : (mid : State) × (next h e st ≡ Ok mid) × (run h es mid ≡ Ok last) = if_ok_is (run h es) (next h e st) last is in
      let n : (r : World × List Sent) × Stepped e st.world r × (after h e st r ≡ x.0) = next_is e st x.0 x.1 in
      run_carries P goes es x.0 last (subst P n.2 (goes e st n.0 k n.1)) x.2

  -- a fact of the beginning that each event keeps holds of every state that is reached
  pub reached_has : (P : State → Type 0) → ((word most tables : ℕ) → P (beginning word most tables)) → ((e : Event) (st : State) (r : World × List Sent) → P st → Stepped e st.world r → P (after h e st r)) → (st : State) → IsReached h st → P st
  reached_has P begins goes st r = run_carries P goes r.3 (beginning r.0 r.1 r.2) st (begins r.0 r.1 r.2) r.4

  -- a run that goes on
  pub run_on : (es : List Event) (st mid now : State) (e : Event) → run h es st ≡ Ok mid → next h e mid ≡ Ok now → run h (es ++ e ∷ []) st ≡ Ok now
  run_on [] st mid now e is goes = ap (if_ok (run h [])) (ap (next h e) (ok_is st mid is) ∙ goes)
  run_on (f ∷ es) st mid now e is goes =
      let x : (m : State) × (next h f st ≡ Ok m) × (run h es m ≡ Ok mid) = if_ok_is (run h es) (next h f st) mid is in
      ap (if_ok (run h (es ++ e ∷ []))) x.1 ∙ run_on es x.0 mid now e x.2 goes

  pub next_reached : (st now : State) (e : Event) → IsReached h st → next h e st ≡ Ok now → IsReached h now
  next_reached st now e r goes = (r.0, r.1, r.2, r.3 ++ e ∷ [], run_on r.3 (beginning r.0 r.1 r.2) st now e r.4 goes)
