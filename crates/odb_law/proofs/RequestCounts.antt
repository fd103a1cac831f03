-- Requests that were submitted are those that were answered, those whose answers are queued, and those that wait, each once.
use Rattle.std.proofs.Common.{◌≡◌, ℕ, zero, suc, ◌+◌, ◌*◌, ◌==◌, length, Bool, true, false, cond, not, ◌&&◌, List, [], ◌∷◌, ◌++◌, map, Option, Some, None, Result, Ok, Err, is_some, refl, sym, ◌∙◌, ap, subst, true≢false, arith, append-nil, append_assoc}
use Rattle.std.specs.Prelude.{option_and_then, option_to_list, filter, filter_map, find}
use Rattle.std.specs.List.{count_by, cons_option}
use Rattle.std.proofs.lemmas.List.Recursion.{is_count_by}
use Rattle.std.specs.Ordering.{nat_cmp, eq_by_cmp}
use borrow.Author.Tests.{eqb-true, eq-eqb}
use Rattle.serde_json.specs.Data.{Data}
use Rattle.odb_rpc.specs.Message as message
use Rattle.odb_atoms.specs.FinMap.{FinMap, get, insert, remove}
use Rattle.odb_cond.specs.Filter.{Filter}
use Rattle.odb_law.proofs.Calls.{reads, replies}
use Rattle.odb_law.proofs.HeadlineRuns.{sent_to-append, sent_to_itself, sent_to_other}
use Rattle.odb_service.proofs.SessionMaps.{get-empty, get-insert, get-remove, same_key}
use Rattle.odb_service.proofs.Splits.{Split, split_parts}
use Rattle.odb_law.proofs.EventSteps.{Stepped, opened_world, reached_has}
use Rattle.odb_service.proofs.WhatIsOwed.{change_to, message_of}
use Rattle.odb_law.proofs.WaitingTried.{IsSettled, begins_settled, open_of, step_settles}
use Rattle.odb_law.specs.Headline.{IsReached}
use Rattle.odb_law.specs.Law.{answers_one}
use Rattle.odb_service.specs.Run.{Event, Sent, State, after, beginning, closed, given_after, once, opened, requests_after, round, sent, sent_to, submitted, take_each, take_of, ticked}
use Rattle.odb_wire.specs.Message.{is_request}
use Rattle.odb_service.specs.Service.{Outcome, Service, ended, waiting}
use Rattle.odb_service.specs.Session.{Answers, Item, Monitor, Out, Revision, Session, Watch, gives, has_id, label, leaves, no_request, no_result, owed_from, refilter, renamed, same_id, say, shift, start, stop_at, stopped, sync, take, take_from, take_rest, to, update_to, with_content}
use Rattle.odb_wire.specs.Message.{id_of}
use Rattle.odb_service.specs.World.{Waiting, World, answer, are_monitored, asked_of, at_moment, attempt, cancel_one, change_of, close, end_transaction, fail, handle, is_due, is_of, is_untried, locked, notice_of, on_cancel_monitor, on_lock, on_monitor, on_outcome, post, post_notices, post_to, push, retry, retry_all, revision_of, run_transaction, shift_with, split_first, start_with, succeed, tick, try_due, try_one, untried, watched, with_waiting}
use Rattle.odb_locks.specs.Locks.{Answered, Notice, drop_session, lock, steal, unlock}
use Rattle.odb_monitor.proofs.Views.{some_is}
use Rattle.odb_monitor.specs.View.{is_none}
use Rattle.odb_request.specs.Request.{Notation, Request, is_conditional}
use Rattle.odb_rpc.specs.Message.{Call, call_of, failure, has_reply, reply}
use Rattle.odb_tables.specs.Database.{Db}
use Rattle.odb_service.specs.World.{lock_error}
use Rattle.odb_atoms.specs.Uuid.{Uuid}
use Rattle.odb_atoms.specs.Error.{Error, syntax_error}
use Rattle.odb_rpc.specs.Message.{Failure, failed, unknown_monitor, canceled}
use Rattle.odb_service.proofs.Each.{Each}
use Rattle.odb_service.proofs.OnlyPosts.{answers, cancels, changes, fails, locks, monitors, notes, rest}
use Rattle.odb_service.proofs.SessionMaps.{other}

-- ---- counting

abbrev pub bit : Bool → ℕ
bit b = cond b 1 0

abbrev pub count : {A : Type 0} → (A → Bool) → List A → ℕ
count p [] = 0
count p (x ∷ xs) = bit (p x) + count p xs

pub bit_more : (b : Bool) (n : ℕ) → bit b + n ≡ cond b (1 + n) n
bit_more true n = refl
bit_more false n = omega arith

pub count-is : {A : Type 0} (p : A → Bool) (xs : List A) → count p xs ≡ count_by p xs
count-is p xs = is_count_by (count p) p refl (λ x xs. bit_more (p x) (count p xs)) xs

pub count-append : {A : Type 0} (p : A → Bool) (xs ys : List A) → count p (xs ++ ys) ≡ count p xs + count p ys
count-append p [] ys = omega arith
count-append p (x ∷ xs) ys =
    let ih : count p (xs ++ ys) ≡ count p xs + count p ys = count-append p xs ys in
    omega (arith, ih)

pub count-alike : {A : Type 0} (p q : A → Bool) → ((x : A) → p x ≡ q x) → (xs : List A) → count p xs ≡ count q xs
count-alike p q e [] = refl
count-alike p q e (x ∷ xs) = λ i. bit (e x i) + count-alike p q e xs i

pub count-all : {A : Type 0} (xs : List A) → count (λ x. true) xs ≡ length xs
count-all [] = refl
count-all (x ∷ xs) = let ih : count (λ x. true) xs ≡ length xs = count-all xs in omega (arith, ih)

bit_and : (a b : Bool) → bit (a && b) ≡ cond a (bit b) 0
bit_and true b = refl
bit_and false b = refl

both_true : (a b : Bool) → (a && b) ≡ true → (a ≡ true) × (b ≡ true)
both_true true b e = (refl, e)
both_true false b e = absurd (true≢false (sym e))

none_if : (b : Bool) → (let n : ℕ = cond b 0 0 in n) ≡ 0
none_if true = refl
none_if false = refl

module _ (h : Service) (q : Data → Bool) where
  abbrev pub in_label : Answers → Bool
  in_label no_request = false
  in_label (to d) = q d

  abbrev pub queued : List Item → ℕ
  queued is = count (λ i. in_label (label i)) is

  abbrev pub outs : List Out → ℕ
  outs os = count (answers_one h q) os

  abbrev pub count_waiting : ℕ → List Waiting → ℕ
  count_waiting s ps = count (λ p. (p.session == s) && q p.request) ps

  -- what a session is owed
  abbrev pub load : ℕ → Session → World → ℕ
  load s x w = queued x.queue + count_waiting s w.waiting

  -- each open session's queue, or what it is owed, grows by n
  abbrev pub Grows : (ℕ → ℕ) → World → World → Type 0
  Grows n w v = (s : ℕ) (y : Session) → get v.sessions s ≡ Some y → (x : Session) × (get w.sessions s ≡ Some x) × (queued y.queue ≡ queued x.queue + n s)

  abbrev pub Raises : (ℕ → ℕ) → World → World → Type 0
  Raises n w v = (s : ℕ) (y : Session) → get v.sessions s ≡ Some y → (x : Session) × (get w.sessions s ≡ Some x) × (load s y v ≡ load s x w + n s)

  abbrev pub to_one : ℕ → ℕ → ℕ → ℕ
  to_one t n s = cond (t == s) n 0

  -- ---- posting

  put_grows : (ss : FinMap nat_cmp Session) (t : ℕ) (x : Session) (is : List Item) → get ss t ≡ Some x → (s : ℕ) (y : Session) → get (insert ss t (push is x)) s ≡ Some y → (z : Session) × (get ss s ≡ Some z) × (queued y.queue ≡ queued z.queue + to_one t (queued is) s)
  put_grows ss t x is e s y found =
      elim (eq_by_cmp nat_cmp s t) as (λ b. eq_by_cmp nat_cmp s t ≡ b → cond b (Some (push is x)) (get ss s) ≡ Some y → (z : Session) × (get ss s ≡ Some z) × (queued y.queue ≡ queued z.queue + to_one t (queued is) s)) [
        | true ↦ λ tie f. (
          x,
          ap (get ss) (same_key s t tie) ∙ e,
          ap (λ (z : Session). queued z.queue) (sym (some_is (push is x) y f)) ∙ count-append (λ i. in_label (label i)) x.queue is
              ∙ ap (λ b. queued x.queue + cond b (queued is) 0) (sym (eq-eqb t s (sym (same_key s t tie)))),
        )
        | false ↦ λ apart f. (y, f, let z : queued y.queue ≡ queued y.queue + 0 = omega arith in z ∙ ap (λ b. queued y.queue + cond b (queued is) 0) (sym (other s t apart)))
      ] refl (sym (get-insert ss t (push is x) s) ∙ found)

  stays_grown : (t n : ℕ) (w : World) → get w.sessions t ≡ None → Grows (to_one t n) w w
  stays_grown t n w e s y found =
      elim (t == s) as (λ b. (t == s) ≡ b → (x : Session) × (get w.sessions s ≡ Some x) × (queued y.queue ≡ queued x.queue + cond b n 0)) [
        | true ↦ λ is. absurd (true≢false (ap is_some (sym found ∙ ap (get w.sessions) (sym (eqb-true t s is)) ∙ e)))
        | false ↦ λ _. (y, found, omega arith)
      ] refl

  post_grows : (t : ℕ) (is : List Item) (w : World) → Grows (to_one t (queued is)) w (post t is w)
  post_grows t is w = by (get w.sessions t) refl
    where
      by : (o : Option Session) → get w.sessions t ≡ o → Grows (to_one t (queued is)) w (post_to t is o w)
      by None e = stays_grown t (queued is) w e
      by (Some x) e = put_grows w.sessions t x is e

  grows_as : (n m : ℕ → ℕ) (w v : World) → ((s : ℕ) → n s ≡ m s) → Grows n w v → Grows m w v
  grows_as n m w v e g s y found = let x : (x : Session) × (get w.sessions s ≡ Some x) × (queued y.queue ≡ queued x.queue + n s) = g s y found in (x.0, x.1, x.2 ∙ ap (λ k. queued x.0.queue + k) (e s))

  grows_then : (n : ℕ → ℕ) (u v w : World) → Grows (λ s. 0) u v → Grows n v w → Grows n u w
  grows_then n u v w f g s z found =
      let y : (y : Session) × (get v.sessions s ≡ Some y) × (queued z.queue ≡ queued y.queue + n s) = g s z found in
      let x : (x : Session) × (get u.sessions s ≡ Some x) × (queued y.0.queue ≡ queued x.queue + 0) = f s y.0 y.1 in
      (x.0, x.1, let a : queued z.queue ≡ queued y.0.queue + n s = y.2 in let b : queued y.0.queue ≡ queued x.0.queue + 0 = x.2 in omega (arith, a, b))

  grows_raises : (n : ℕ → ℕ) (w v : World) → rest v ≡ rest w → Grows n w v → Raises n w v
  grows_raises n w v same g s y found =
      let x : (x : Session) × (get w.sessions s ≡ Some x) × (queued y.queue ≡ queued x.queue + n s) = g s y found in
      let p : count_waiting s v.waiting ≡ count_waiting s w.waiting = ap (λ r. count_waiting s r.4) same in
      let e : queued y.queue ≡ queued x.0.queue + n s = x.2 in
      (x.0, x.1, omega (arith, p, e))

  -- an answer to d
  abbrev own : ℕ → Data → ℕ → ℕ
  own t d s = to_one t (bit (q d)) s

  single : (b : Bool) → bit b + 0 ≡ bit b
  single b = omega arith

  item_grows : (t : ℕ) (is : List Item) (d : Data) (w : World) → queued is ≡ bit (q d) → Grows (own t d) w (post t is w)
  item_grows t is d w e = grows_as (to_one t (queued is)) (own t d) w (post t is w) (λ s. ap (λ n. to_one t n s) e) (post_grows t is w)

  answer_grows : (t : ℕ) (d m : Data) (w : World) → Grows (own t d) w (answer t d m w)
  answer_grows t d m w = item_grows t (say (to d) m ∷ []) d w (single (q d))

  notes_grow : (ns : List Notice) (w : World) → Grows (λ s. 0) w (post_notices ns w)
  notes_grow [] w = λ s y found. (y, found, omega arith)
  notes_grow (n ∷ ns) w =
      let v : World = post n.session (say no_request (notice_of n) ∷ []) w in
      grows_then (λ s. 0) w v (post_notices ns v) (grows_as (to_one n.session (queued (say no_request (notice_of n) ∷ []))) (λ s. 0) w v (λ s. none_if (n.session == s)) (post_grows n.session (say no_request (notice_of n) ∷ []) w)) (notes_grow ns v)

  -- ---- transactions

  syncs_queued : (all : List Watch) (d m : Data) → queued (map (λ k. sync k.id) all ++ say (to d) m ∷ []) ≡ bit (q d)
  syncs_queued [] d m = single (q d)
  syncs_queued (k ∷ all) d m = let ih : queued (map (λ k. sync k.id) all ++ say (to d) m ∷ []) ≡ bit (q d) = syncs_queued all d m in omega (arith, ih)

  end_grows : (t : ℕ) (d results : Data) (o : Option Db) (w : World) → Grows (own t d) w (end_transaction h t d results o w)
  end_grows t d results None w = answer_grows t d (reply (id_of d) results) w
  end_grows t d results (Some db) w =
      let is : List Item = map (λ k. sync k.id) (asked_of h (get w.sessions t)) ++ say (to d) (reply (id_of d) results) ∷ [] in
      item_grows t is d (record w { db = db; commits = w.commits + 1; earlier = with_content w.db w.earlier }) (syncs_queued (asked_of h (get w.sessions t)) d (reply (id_of d) results))

  -- a try moves what waits into the queue, or leaves it
  abbrev Moves : Waiting → World → World × Option Waiting → Type 0
  Moves p w r = (s : ℕ) (y : Session) → get r.0.sessions s ≡ Some y → (x : Session) × (get w.sessions s ≡ Some x) × (queued y.queue + count_waiting s (option_to_list r.1) ≡ queued x.queue + count_waiting s (p ∷ []))

  outcome_moves : (p : Waiting) (o : Outcome) (w : World) → Moves p w (on_outcome h p o w)
  outcome_moves p (ended results changed) w s y found =
      let x : (x : Session) × (get w.sessions s ≡ Some x) × (queued y.queue ≡ queued x.queue + own p.session p.request s) = end_grows p.session p.request results changed w s y found in
      let e : queued y.queue ≡ queued x.0.queue + own p.session p.request s = x.2 in
      let f : bit ((p.session == s) && q p.request) ≡ own p.session p.request s = bit_and (p.session == s) (q p.request) in
      (x.0, x.1, omega (arith, e, f))
  outcome_moves p (waiting deadline) w s y found = (y, found, refl)

  attempt_moves : (p : Waiting) (w : World) → Moves p w (attempt h p w)
  attempt_moves p w = outcome_moves p _ w

  try_one_raises : (t : Split Waiting) (w : World) → w.waiting ≡ t.0 ++ t.1 ∷ t.2 → Raises (λ s. 0) w (try_one h t w)
  try_one_raises t w is s y found =
      let test : Waiting → Bool = λ p. (p.session == s) && q p.request in
      let o : List Waiting = option_to_list (attempt h t.1 w).1 in
      let x : (x : Session) × (get w.sessions s ≡ Some x) × (queued y.queue + count_waiting s o ≡ queued x.queue + count_waiting s (t.1 ∷ [])) = attempt_moves t.1 w s y found in
      let e : queued y.queue + count_waiting s o ≡ queued x.0.queue + count_waiting s (t.1 ∷ []) = x.2 in
      let a : count_waiting s w.waiting ≡ count_waiting s (t.0 ++ t.1 ∷ t.2) = ap (count_waiting s) is in
      let b : count_waiting s (t.0 ++ t.1 ∷ t.2) ≡ count_waiting s t.0 + count_waiting s (t.1 ∷ t.2) = count-append test t.0 (t.1 ∷ t.2) in
      let c : count_waiting s ((t.0 ++ o) ++ t.2) ≡ count_waiting s (t.0 ++ o) + count_waiting s t.2 = count-append test (t.0 ++ o) t.2 in
      let d : count_waiting s (t.0 ++ o) ≡ count_waiting s t.0 + count_waiting s o = count-append test t.0 o in
      (x.0, x.1, omega (arith, e, a, b, c, d))

  raises_then : (n m : ℕ → ℕ) (u v w : World) → Raises n u v → Raises m v w → Raises (λ s. n s + m s) u w
  raises_then n m u v w f g s z found =
      let y : (y : Session) × (get v.sessions s ≡ Some y) × (load s z w ≡ load s y v + m s) = g s z found in
      let x : (x : Session) × (get u.sessions s ≡ Some x) × (load s y.0 v ≡ load s x u + n s) = f s y.0 y.1 in
      let a : load s z w ≡ load s y.0 v + m s = y.2 in
      let b : load s y.0 v ≡ load s x.0 u + n s = x.2 in
      (x.0, x.1, omega (arith, a, b))

  raises_as : (n m : ℕ → ℕ) (w v : World) → ((s : ℕ) → n s ≡ m s) → Raises n w v → Raises m w v
  raises_as n m w v e g s y found = let x : (x : Session) × (get w.sessions s ≡ Some x) × (load s y v ≡ load s x w + n s) = g s y found in (x.0, x.1, x.2 ∙ ap (λ k. load s x.0 w + k) (e s))

  stays_raised : (w : World) → Raises (λ s. 0) w w
  stays_raised w s y found = (y, found, omega arith)

  retry_raises : (n : ℕ) (w : World) → Raises (λ s. 0) w (retry h n w)
  retry_raises zero w = stays_raised w
  retry_raises (suc n) w =
      elim (untried h w) as (λ o. untried h w ≡ o → Raises (λ s. 0) w (elim o as (λ _. World) [ None ↦ w | Some t ↦ retry h n (try_one h t w) ])) [
        | None ↦ λ _. stays_raised w
        | Some t ↦ λ e. raises_then (λ s. 0) (λ s. 0) w (try_one h t w) (retry h n (try_one h t w)) (try_one_raises t w (split_parts (is_untried w.commits) w.waiting t e).0) (retry_raises n (try_one h t w))
      ] refl

  retry_all_raises : (n : ℕ → ℕ) (w v : World) → Raises n w v → Raises n w (retry_all h v)
  retry_all_raises n w v r =
      raises_as (λ s. n s + 0) n w (retry_all h v) (λ s. omega arith) (raises_then n (λ s. 0) w v (retry_all h v) r (retry_raises ((length v.waiting + 1) * (length v.waiting + 1)) v))

  -- one more is tried, and waits after the others if it has to
  one_more_raises : (p : Waiting) (w : World) → Raises (λ s. count_waiting s (p ∷ [])) w (with_waiting h (λ ps o. ps ++ option_to_list o) w.waiting (attempt h p w))
  one_more_raises p w s y found =
      let o : List Waiting = option_to_list (attempt h p w).1 in
      let x : (x : Session) × (get w.sessions s ≡ Some x) × (queued y.queue + count_waiting s o ≡ queued x.queue + count_waiting s (p ∷ [])) = attempt_moves p w s y found in
      let e : queued y.queue + count_waiting s o ≡ queued x.0.queue + count_waiting s (p ∷ []) = x.2 in
      let a : count_waiting s (w.waiting ++ o) ≡ count_waiting s w.waiting + count_waiting s o = count-append (λ p. (p.session == s) && q p.request) w.waiting o in
      (x.0, x.1, omega (arith, e, a))

  more_wait : (p : Waiting) (w : World) → Raises (λ s. count_waiting s (p ∷ [])) w (record w { waiting = w.waiting ++ p ∷ [] })
  more_wait p w s y found =
      let a : count_waiting s (w.waiting ++ p ∷ []) ≡ count_waiting s w.waiting + count_waiting s (p ∷ []) = count-append (λ p. (p.session == s) && q p.request) w.waiting (p ∷ []) in
      (y, found, omega (arith, a))

  due_raises : (ps : List Waiting) (w : World) → Raises (λ s. count_waiting s ps) w (try_due h ps w)
  due_raises [] w = stays_raised w
  due_raises (p ∷ ps) w =
      elim (is_due w.now p.deadline) as (λ b. Raises (λ s. count_waiting s (p ∷ ps)) w (try_due h ps (cond b (with_waiting h (λ ps o. ps ++ option_to_list o) w.waiting (attempt h p w)) (record w { waiting = w.waiting ++ p ∷ [] })))) [
        | true ↦ first (with_waiting h (λ ps o. ps ++ option_to_list o) w.waiting (attempt h p w)) (one_more_raises p w) (due_raises ps (with_waiting h (λ ps o. ps ++ option_to_list o) w.waiting (attempt h p w)))
        | false ↦ first (record w { waiting = w.waiting ++ p ∷ [] }) (more_wait p w) (due_raises ps (record w { waiting = w.waiting ++ p ∷ [] }))
      ]
    where
      first : (v : World) → Raises (λ s. count_waiting s (p ∷ [])) w v → Raises (λ s. count_waiting s ps) v (try_due h ps v) → Raises (λ s. count_waiting s (p ∷ ps)) w (try_due h ps v)
      first v f g = raises_as (λ s. count_waiting s (p ∷ []) + count_waiting s ps) (λ s. count_waiting s (p ∷ ps)) w (try_due h ps v) (λ s. omega arith) (raises_then (λ s. count_waiting s (p ∷ [])) (λ s. count_waiting s ps) w v (try_due h ps v) f g)

  pub tick_raises : (now : ℕ) (w : World) → Raises (λ s. 0) w (tick h now w)
  tick_raises now w =
      let w0 : World = record (at_moment h now w) { waiting = [] } in
      retry_all_raises (λ s. 0) w (try_due h w.waiting w0) (λ s y found.
      let x : (x : Session) × (get w.sessions s ≡ Some x) × (load s y (try_due h w.waiting w0) ≡ (queued x.queue + 0) + count_waiting s w.waiting) = due_raises w.waiting w0 s y found in
      let e : load s y (try_due h w.waiting w0) ≡ (queued x.0.queue + 0) + count_waiting s w.waiting = x.2 in
      (x.0, x.1, omega (arith, e)))

  cancel_raises : (t : ℕ) (id : Data) (o : Option (Split Waiting)) (w : World) → split_first (is_of h t id) w.waiting ≡ o → Raises (λ s. 0) w (cancel_one h t o w)
  cancel_raises t id None w e s y found = stays_raised w s y found
  cancel_raises t id (Some c) w e s y found =
      let test : Waiting → Bool = λ p. (p.session == s) && q p.request in
      let w0 : World = record w { waiting = c.0 ++ c.2 } in
      let k : (w.waiting ≡ c.0 ++ c.1 ∷ c.2) × (is_of h t id c.1 ≡ true) = split_parts (is_of h t id) w.waiting c e in
      let v : World = fail t c.1.request canceled w0 in
      let x : (x : Session) × (get w.sessions s ≡ Some x) × (load s y v ≡ (queued x.queue + count_waiting s (c.0 ++ c.2)) + own t c.1.request s) =
      grows_raises (own t c.1.request) w0 v (fails h t c.1.request canceled w0) (answer_grows t c.1.request (failure (id_of c.1.request) canceled) w0) s y found in
      let same : c.1.session ≡ t = eqb-true c.1.session t (both_true (c.1.session == t) (same_id h id (id_of c.1.request)) k.1).0 in
      let l : load s y v ≡ (queued x.0.queue + count_waiting s (c.0 ++ c.2)) + own t c.1.request s = x.2 in
      let a : count_waiting s w.waiting ≡ count_waiting s (c.0 ++ c.1 ∷ c.2) = ap (count_waiting s) k.0 in
      let b : count_waiting s (c.0 ++ c.1 ∷ c.2) ≡ count_waiting s c.0 + count_waiting s (c.1 ∷ c.2) = count-append test c.0 (c.1 ∷ c.2) in
      let d : count_waiting s (c.0 ++ c.2) ≡ count_waiting s c.0 + count_waiting s c.2 = count-append test c.0 c.2 in
      let f : bit ((c.1.session == s) && q c.1.request) ≡ own t c.1.request s = bit_and (c.1.session == s) (q c.1.request) ∙ ap (λ (n : ℕ). own n c.1.request s) same in
      (x.0, x.1, omega (arith, l, a, b, d, f))

  -- ---- requests

  either : (b : Bool) (n : ℕ → ℕ) (w x y : World) → Grows n w x → Grows n w y → Grows n w (cond b x y)
  either true n w x y f g = f
  either false n w x y f g = g

  fail_grows : (t : ℕ) (d : Data) (name : Failure) (w : World) → Grows (own t d) w (fail t d name w)
  fail_grows t d name w = answer_grows t d (failure (id_of d) name) w

  start_grows : (t : ℕ) (d : Data) (n : Notation) (i : Data) (since : Option Uuid) (r : Result (List Request) Error) (w : World) → Grows (own t d) w (start_with h t d n i since r w)
  start_grows t d n i since (Err e) w = fail_grows t d (failed e) w
  start_grows t d n i since (Ok qs) w = item_grows t (start d (record { id = i; notation = n; requests = qs; since = since }) ∷ []) d w (single (q d))

  monitor_grows : (t : ℕ) (d : Data) (n : Notation) (i : Data) (since : Option Uuid) (requests : Data) (w : World) → Grows (own t d) w (on_monitor h t d n i since requests w)
  monitor_grows t d n i since requests w =
      either (is_some (watched h i (asked_of h (get w.sessions t)))) (own t d) w (fail t d (failed syntax_error) w) (start_with h t d n i since (h.read_requests n requests) w)
      (fail_grows t d (failed syntax_error) w) (start_grows t d n i since (h.read_requests n requests) w)

  shift_grows : (t : ℕ) (d old new : Data) (k : Watch) (r : Result (List (List ℕ × Filter)) Error) (w : World) → Grows (own t d) w (shift_with h t d old new k r w)
  shift_grows t d old new k (Err e) w = fail_grows t d (failed e) w
  shift_grows t d old new k (Ok fs) w =
      either (are_monitored h fs k.requests) (own t d) w (post t (shift old fs ∷ renamed d old new fs ∷ []) w) (fail t d (failed syntax_error) w)
      (item_grows t (shift old fs ∷ renamed d old new fs ∷ []) d w (omega arith)) (fail_grows t d (failed syntax_error) w)

  change_grows : (t : ℕ) (d old new filters : Data) (o : Option Watch) (w : World) → Grows (own t d) w (change_of h t d old new filters o w)
  change_grows t d old new filters None w = fail_grows t d unknown_monitor w
  change_grows t d old new filters (Some k) w =
      let b : Bool = not (same_id h old new) && is_some (watched h new (asked_of h (get w.sessions t))) in
      let s : World = shift_with h t d old new k (h.read_filters filters) w in
      either (not (is_conditional k.notation)) (own t d) w (fail t d unknown_monitor w) (cond b (fail t d (failed syntax_error) w) s)
      (fail_grows t d unknown_monitor w)
      (either b (own t d) w (fail t d (failed syntax_error) w) s (fail_grows t d (failed syntax_error) w) (shift_grows t d old new k (h.read_filters filters) w))

  stop_grows : (t : ℕ) (d i : Data) (o : Option Watch) (w : World) → Grows (own t d) w (on_cancel_monitor h t d i o w)
  stop_grows t d i None w = fail_grows t d unknown_monitor w
  stop_grows t d i (Some k) w = item_grows t (sync i ∷ stopped d i ∷ []) d w (omega arith)

  lock_grows : (t : ℕ) (d : Data) (result : Bool → Data) (a : Answered) (w : World) → Grows (own t d) w (on_lock h t d result a w)
  lock_grows t d result (Err e) w = fail_grows t d (failed (lock_error e)) w
  lock_grows t d result (Ok l) w =
      let w0 : World = record w { locks = l.0 } in
      grows_then (own t d) w (post_notices l.1 w0) (succeed t d (result l.2) (post_notices l.1 w0)) (notes_grow l.1 w0) (answer_grows t d (reply (id_of d) (result l.2)) (post_notices l.1 w0))

  -- one more is owed to the one that asks, if the call has a reply
  abbrev pub asks_for : ℕ → Data → Bool → ℕ → ℕ
  asks_for t d b s = to_one t (cond b (bit (q d)) 0) s

  pub handle_raises : (t : ℕ) (d : Data) (fresh : List Uuid) (c : Call) (w : World) → Raises (asks_for t d (has_reply c)) w (handle h t d fresh c w)
  handle_raises t d fresh (message.answered m) w = grows_raises (own t d) w (answer t d m w) (answers h t d m w) (answer_grows t d m w)
  handle_raises t d fresh (message.transact id ops) w =
      let p : Waiting = record { session = t; request = d; operations = ops; fresh = fresh; arrival = w.now; deadline = None; tried = w.commits } in
      raises_as (λ s. count_waiting s (p ∷ [])) (own t d) w (run_transaction h p w) (λ s. let e : bit ((t == s) && q d) ≡ own t d s = bit_and (t == s) (q d) in omega (arith, e))
      (retry_all_raises (λ s. count_waiting s (p ∷ [])) w (with_waiting h (λ ps o. ps ++ option_to_list o) w.waiting (attempt h p w)) (one_more_raises p w))
  handle_raises t d fresh (message.monitor id n i requests since) w = grows_raises (own t d) w (on_monitor h t d n i since requests w) (monitors h t d n i since requests w) (monitor_grows t d n i since requests w)
  handle_raises t d fresh (message.change_filters id old new filters) w =
      let o : Option Watch = watched h old (asked_of h (get w.sessions t)) in
      grows_raises (own t d) w (change_of h t d old new filters o w) (changes h t d old new filters o w) (change_grows t d old new filters o w)
  handle_raises t d fresh (message.cancel_monitor id i) w =
      let o : Option Watch = watched h i (asked_of h (get w.sessions t)) in
      grows_raises (own t d) w (on_cancel_monitor h t d i o w) (cancels h t d i o w) (stop_grows t d i o w)
  handle_raises t d fresh (message.lock id name) w = grows_raises (own t d) w (on_lock h t d (locked h) (lock w.locks t name) w) (locks h t d (locked h) (lock w.locks t name) w) (lock_grows t d (locked h) (lock w.locks t name) w)
  handle_raises t d fresh (message.steal id name) w = grows_raises (own t d) w (on_lock h t d (locked h) (steal w.locks t name) w) (locks h t d (locked h) (steal w.locks t name) w) (lock_grows t d (locked h) (steal w.locks t name) w)
  handle_raises t d fresh (message.unlock id name) w = grows_raises (own t d) w (on_lock h t d (λ b. no_result) (unlock w.locks t name) w) (locks h t d (λ b. no_result) (unlock w.locks t name) w) (lock_grows t d (λ b. no_result) (unlock w.locks t name) w)
  handle_raises t d fresh (message.cancel id) w = raises_as (λ s. 0) (asks_for t d false) w (cancel_one h t (split_first (is_of h t id) w.waiting) w) (λ s. sym (none_if (t == s))) (cancel_raises t id (split_first (is_of h t id) w.waiting) w refl)
  handle_raises t d fresh message.passed_over w = raises_as (λ s. 0) (asks_for t d false) w w (λ s. sym (none_if (t == s))) (stays_raised w)

  -- ---- close

  others_wait : (t s : ℕ) → (t == s) ≡ false → (ps : List Waiting) → count_waiting s (filter (λ p. not (p.session == t)) ps) ≡ count_waiting s ps
  others_wait t s apart [] = refl
  others_wait t s apart (p ∷ ps) =
      let ih : count_waiting s (filter (λ p. not (p.session == t)) ps) ≡ count_waiting s ps = others_wait t s apart ps in
      elim (p.session == t) as (λ b. (p.session == t) ≡ b → count_waiting s (cond (not b) (p ∷ filter (λ p. not (p.session == t)) ps) (filter (λ p. not (p.session == t)) ps)) ≡ count_waiting s (p ∷ ps)) [
        | true ↦ λ is.
            let none : (p.session == s) ≡ false = ap (λ (n : ℕ). n == s) (eqb-true p.session t is) ∙ apart in
            let e : bit ((p.session == s) && q p.request) ≡ 0 = ap (λ b. bit (b && q p.request)) none in
            omega (arith, ih, e)
        | false ↦ λ _. ap (λ n. bit ((p.session == s) && q p.request) + n) ih
      ] refl

  pub close_raises : (t : ℕ) (w : World) → Raises (λ s. 0) w (close h t w)
  close_raises t w =
      let v : World = record w { locks = (drop_session w.locks t).0; sessions = remove w.sessions t; waiting = filter (λ p. not (p.session == t)) w.waiting } in
      raises_then (λ s. 0) (λ s. 0) w v (close h t w) removed (grows_raises (λ s. 0) v (close h t w) (notes h (drop_session w.locks t).1 v) (notes_grow (drop_session w.locks t).1 v))
    where
      removed : Raises (λ s. 0) w (record w { locks = (drop_session w.locks t).0; sessions = remove w.sessions t; waiting = filter (λ p. not (p.session == t)) w.waiting })
      removed s y found =
          elim (eq_by_cmp nat_cmp s t) as (λ b. eq_by_cmp nat_cmp s t ≡ b → cond b None (get w.sessions s) ≡ Some y → (x : Session) × (get w.sessions s ≡ Some x) × (queued y.queue + count_waiting s (filter (λ p. not (p.session == t)) w.waiting) ≡ (queued x.queue + count_waiting s w.waiting) + 0)) [
            | true ↦ λ _ e. absurd (true≢false (sym (ap is_some e)))
            | false ↦ λ apart e. (y, e, let k : count_waiting s (filter (λ p. not (p.session == t)) w.waiting) ≡ count_waiting s w.waiting = others_wait t s (other s t apart) w.waiting in omega (arith, k))
          ] refl (sym (get-remove w.sessions t s) ∙ found)

  -- ---- a taking

  module _ where
    update_unlabelled : (revision : Revision) (qs : List Request) (m : Monitor) → outs (option_to_list (update_to h revision qs m)) ≡ 0
    update_unlabelled revision qs m = by (is_none (change_to h revision.db qs m))
      where
        by : (b : Bool) → outs (option_to_list (cond b None (Some (message_of h revision qs m)))) ≡ 0
        by true = refl
        by false = refl

    found_unlabelled : (revision : Revision) (f : Monitor → List Request) (o : Option Monitor) → outs (option_to_list (option_and_then (λ m. update_to h revision (f m) m) o)) ≡ 0
    found_unlabelled revision f None = refl
    found_unlabelled revision f (Some m) = update_unlabelled revision (f m) m

    said : (a : Answers) (m : Data) → outs (record { answers = a; message = m; held = None } ∷ []) ≡ bit (in_label a)
    said no_request m = refl
    said (to d) m = single (q d)

    gives_label : (revision : Revision) (i : Item) (ms : List Monitor) → outs (option_to_list (gives h revision i ms)) ≡ bit (in_label (label i))
    gives_label revision (say a m) ms = said a m
    gives_label revision (start d k) ms = single (q d)
    gives_label revision (sync i) ms = found_unlabelled revision (λ m. m.watch.requests) (find (has_id h i) ms)
    gives_label revision (shift i fs) ms = found_unlabelled revision (λ m. refilter fs m.watch.requests) (find (has_id h i) ms)
    gives_label revision (renamed d old new fs) ms = single (q d)
    gives_label revision (stopped d i) ms = single (q d)

    stop_unlabelled : (o : Option Out) (x : List Monitor) (rest : Option Out × List Monitor) → outs (option_to_list o) ≡ 0 → outs (option_to_list rest.0) ≡ 0 → outs (option_to_list (stop_at o x rest).0) ≡ 0
    stop_unlabelled None x rest e f = f
    stop_unlabelled (Some o) x rest e f = e

    rest_unlabelled : (revision : Revision) (ms : List Monitor) → outs (option_to_list (take_rest h revision ms).0) ≡ 0
    rest_unlabelled revision [] = refl
    rest_unlabelled revision (m ∷ ms) = stop_unlabelled (update_to h revision m.watch.requests m) _ _ (update_unlabelled revision m.watch.requests m) (rest_unlabelled revision ms)

    stop_label : (n : ℕ) (o : Option Out) (is : List Item) (ms : List Monitor) (rest : Option Out × Session) → outs (option_to_list o) ≡ n → outs (option_to_list rest.0) + queued rest.1.queue ≡ queued is
        → outs (option_to_list (stop_at o (record { queue = is; monitors = ms }) rest).0) + queued (stop_at o (record { queue = is; monitors = ms }) rest).1.queue ≡ n + queued is
    stop_label n None is ms rest e f = let g : 0 ≡ n = e in omega (arith, f, g)
    stop_label n (Some o) is ms rest e f = let g : bit (answers_one h q o) + 0 ≡ n = e in omega (arith, g)

    pub from_label : (revision : Revision) (is : List Item) (ms : List Monitor) → outs (option_to_list (take_from h revision is ms).0) + queued (take_from h revision is ms).1.queue ≡ queued is
    from_label revision [] ms = let e : outs (option_to_list (take_rest h revision ms).0) ≡ 0 = rest_unlabelled revision ms in omega (arith, e)
    from_label revision (i ∷ is) ms =
        stop_label (bit (in_label (label i))) (gives h revision i ms) is (leaves h revision.db i ms) (take_from h revision is (leaves h revision.db i ms)) (gives_label revision i ms) (from_label revision is (leaves h revision.db i ms))

    all_unlabelled : (revision : Revision) (ms : List Monitor) → outs (filter_map (λ m. update_to h revision m.watch.requests m) ms) ≡ 0
    all_unlabelled revision [] = refl
    all_unlabelled revision (m ∷ ms) = by (update_to h revision m.watch.requests m) (update_unlabelled revision m.watch.requests m) (all_unlabelled revision ms)
      where
        by : (o : Option Out) → outs (option_to_list o) ≡ 0 → outs (filter_map (λ m. update_to h revision m.watch.requests m) ms) ≡ 0 → outs (cons_option o (filter_map (λ m. update_to h revision m.watch.requests m) ms)) ≡ 0
        by None e f = f
        by (Some o) e f = let g : bit (answers_one h q o) + 0 ≡ 0 = e in omega (arith, f, g)

    pub owed_label : (revision : Revision) (is : List Item) (ms : List Monitor) → outs (owed_from h revision is ms) ≡ queued is
    owed_label revision [] ms = all_unlabelled revision ms
    owed_label revision (i ∷ is) ms =
        let a : outs (option_to_list (gives h revision i ms) ++ owed_from h revision is (leaves h revision.db i ms)) ≡ outs (option_to_list (gives h revision i ms)) + outs (owed_from h revision is (leaves h revision.db i ms)) = count-append (answers_one h q) (option_to_list (gives h revision i ms)) (owed_from h revision is (leaves h revision.db i ms)) in
        let b : outs (option_to_list (gives h revision i ms)) ≡ bit (in_label (label i)) = gives_label revision i ms in
        let c : outs (owed_from h revision is (leaves h revision.db i ms)) ≡ queued is = owed_label revision is (leaves h revision.db i ms) in
        omega (arith, a, b, c)

    -- ---- events

    -- for a session: what it submitted is what it was given answers to, and what it is owed; and it isn't owed more than so many
    abbrev Balances : List Data → List Out → ℕ → Type 0
    Balances ds os n = count q ds ≡ outs os + n

    abbrev AreBalanced : World → (ℕ → List Out) → (ℕ → List Data) → Type 0
    AreBalanced w f g = (s : ℕ) (x : Session) → get w.sessions s ≡ Some x → Balances (g s) (f s) (load s x w)

    quiet_balanced : (w : World) (f : ℕ → List Out) (g : ℕ → List Data) → AreBalanced w f g → AreBalanced w (λ s. f s ++ []) g
    quiet_balanced w f g k s x found = subst (λ os. Balances (g s) os (load s x w)) (sym (append-nil (f s))) (k s x found)

    take_of_balanced : (t : ℕ) (o : Option Session) (w : World) → get w.sessions t ≡ o → (f : ℕ → List Out) (g : ℕ → List Data) → AreBalanced w f g → AreBalanced (take_of h t o w).0 (λ s. f s ++ sent_to s (take_of h t o w).1) g
    take_of_balanced t None w e f g k s y found = quiet_balanced w f g k s y found
    take_of_balanced t (Some x) w e f g k s y found =
        elim (eq_by_cmp nat_cmp s t) as (λ b. eq_by_cmp nat_cmp s t ≡ b → cond b (Some (take h (revision_of w) x).1) (get w.sessions s) ≡ Some y → Balances (g s) (f s ++ sent_to s (sent t (take h (revision_of w) x).0)) (queued y.queue + count_waiting s w.waiting)) [
          | true ↦ λ tie is. subst (λ (u : ℕ). Balances (g u) (f u ++ sent_to u (sent t (take h (revision_of w) x).0)) (queued y.queue + count_waiting u w.waiting)) (sym (same_key s t tie))
              (subst (λ (z : Session). Balances (g t) (f t ++ sent_to t (sent t (take h (revision_of w) x).0)) (queued z.queue + count_waiting t w.waiting)) (some_is (take h (revision_of w) x).1 y is)
              (subst (λ os. Balances (g t) (f t ++ os) (queued (take h (revision_of w) x).1.queue + count_waiting t w.waiting)) (sym (sent_to_itself t (take h (revision_of w) x).0)) here))
          | false ↦ λ apart is. subst (λ os. Balances (g s) (f s ++ os) (queued y.queue + count_waiting s w.waiting)) (sym (sent_to_other s t (take h (revision_of w) x).0 apart)) (subst (λ os. Balances (g s) os (queued y.queue + count_waiting s w.waiting)) (sym (append-nil (f s))) (k s y is))
        ] refl (sym (get-insert w.sessions t (take h (revision_of w) x).1 s) ∙ found)
      where
        here : Balances (g t) (f t ++ option_to_list (take h (revision_of w) x).0) (queued (take h (revision_of w) x).1.queue + count_waiting t w.waiting)
        here =
            let a : count q (g t) ≡ outs (f t) + (queued x.queue + count_waiting t w.waiting) = k t x e in
            let b : outs (option_to_list (take h (revision_of w) x).0) + queued (take h (revision_of w) x).1.queue ≡ queued x.queue = from_label (revision_of w) x.queue x.monitors in
            let c : outs (f t ++ option_to_list (take h (revision_of w) x).0) ≡ outs (f t) + outs (option_to_list (take h (revision_of w) x).0) = count-append (answers_one h q) (f t) (option_to_list (take h (revision_of w) x).0) in
            omega (arith, a, b, c)

    take_each_balanced : (ss : List ℕ) (w : World) (f : ℕ → List Out) (g : ℕ → List Data) → AreBalanced w f g → AreBalanced (take_each h ss w).0 (λ s. f s ++ sent_to s (take_each h ss w).1) g
    take_each_balanced [] w f g k s y found = quiet_balanced w f g k s y found
    take_each_balanced (t ∷ ss) w f g k s y found =
        let one : World × List Sent = take_of h t (get w.sessions t) w in
        let v : World = (take_each h ss one.0).0 in
        subst (λ os. Balances (g s) os (load s y v)) (append_assoc (f s) (sent_to s one.1) (sent_to s (take_each h ss one.0).1) ∙ ap (λ os. f s ++ os) (sym (sent_to-append s one.1 (take_each h ss one.0).1)))
        (take_each_balanced ss one.0 (λ t. f t ++ sent_to t one.1) g (take_of_balanced t (get w.sessions t) w refl f g k) s y found)

    raised_balanced : (w v : World) (f : ℕ → List Out) (g : ℕ → List Data) → Raises (λ s. 0) w v → AreBalanced w f g → AreBalanced v (λ s. f s ++ []) g
    raised_balanced w v f g r k s y found =
        let x : (x : Session) × (get w.sessions s ≡ Some x) × (load s y v ≡ load s x w + 0) = r s y found in
        let a : count q (g s) ≡ outs (f s) + load s x.0 w = k s x.0 x.1 in
        let b : load s y v ≡ load s x.0 w + 0 = x.2 in
        let c : outs (f s ++ []) ≡ outs (f s) = ap outs (append-nil (f s)) in
        omega (arith, a, b, c)

    asked_more : (b c : Bool) (ds : List Data) (d : Data) → count q (cond (b && c) (ds ++ d ∷ []) ds) ≡ count q ds + cond b (cond c (bit (q d)) 0) 0
    asked_more true true ds d = let e : count q (ds ++ d ∷ []) ≡ count q ds + count q (d ∷ []) = count-append q ds (d ∷ []) in omega (arith, e)
    asked_more true false ds d = omega arith
    asked_more false c ds d = omega arith

    submitted_balanced : (t : ℕ) (d : Data) (fresh : List Uuid) (now : ℕ) (w v : World) (f : ℕ → List Out) (g : ℕ → List Data) → Raises (asks_for t d (is_request d)) w v → AreBalanced w f g
        → AreBalanced v (λ s. f s ++ []) (requests_after (submitted t d fresh now) g)
    submitted_balanced t d fresh now w v f g r k s y found =
        let x : (x : Session) × (get w.sessions s ≡ Some x) × (load s y v ≡ load s x w + asks_for t d (is_request d) s) = r s y found in
        let a : count q (g s) ≡ outs (f s) + load s x.0 w = k s x.0 x.1 in
        let b : load s y v ≡ load s x.0 w + asks_for t d (is_request d) s = x.2 in
        let c : outs (f s ++ []) ≡ outs (f s) = ap outs (append-nil (f s)) in
        let e : count q (cond ((t == s) && is_request d) (g s ++ d ∷ []) (g s)) ≡ count q (g s) + asks_for t d (is_request d) s = asked_more (t == s) (is_request d) (g s) d in
        omega (arith, a, b, c, e)

    pub none_waits : (t : ℕ) (w : World) (ps : List Waiting) → get w.sessions t ≡ None → Each (λ p. is_some (get w.sessions p.session) ≡ true) ps → count_waiting t ps ≡ 0
    none_waits t w [] e k = refl
    none_waits t w (p ∷ ps) e k =
        let ih : count_waiting t ps ≡ 0 = none_waits t w ps e k.1 in
        elim (p.session == t) as (λ b. (p.session == t) ≡ b → bit (b && q p.request) + count_waiting t ps ≡ 0) [
          | true ↦ λ is. absurd (true≢false (sym k.0 ∙ ap (λ (n : ℕ). is_some (get w.sessions n)) (eqb-true p.session t is) ∙ ap is_some e))
          | false ↦ λ _. omega (arith, ih)
        ] refl

    opened_balanced : (t : ℕ) (w : World) (f : ℕ → List Out) (g : ℕ → List Data) → get w.sessions t ≡ None → Each (λ p. is_some (get w.sessions p.session) ≡ true) w.waiting → AreBalanced w f g
        → AreBalanced (opened_world h t w) (given_after (opened t) [] f) (requests_after (opened t) g)
    opened_balanced t w f g e o k s y found =
        elim (eq_by_cmp nat_cmp s t) as (λ b. eq_by_cmp nat_cmp s t ≡ b → cond b (Some (let x : Session = record { queue = []; monitors = [] } in x)) (get w.sessions s) ≡ Some y → Balances (cond (t == s) [] (g s)) (cond (t == s) [] (f s ++ [])) (queued y.queue + count_waiting s w.waiting)) [
          | true ↦ λ tie is. subst (λ (b : Bool). Balances (cond b [] (g s)) (cond b [] (f s ++ [])) (queued y.queue + count_waiting s w.waiting)) (sym (eq-eqb t s (sym (same_key s t tie))))
              (let a : count_waiting s w.waiting ≡ 0 = ap (λ (u : ℕ). count_waiting u w.waiting) (same_key s t tie) ∙ none_waits t w w.waiting e o in
              let b : queued y.queue ≡ 0 = ap (λ (z : Session). queued z.queue) (sym (some_is _ y is)) in
              omega (arith, a, b))
          | false ↦ λ apart is. subst (λ (b : Bool). Balances (cond b [] (g s)) (cond b [] (f s ++ [])) (queued y.queue + count_waiting s w.waiting)) (sym (other s t apart)) (quiet_balanced w f g k s y is)
        ] refl (sym (get-insert w.sessions t (record { queue = []; monitors = [] }) s) ∙ found)

    abbrev IsBalanced : State → Type 0
    IsBalanced st = IsSettled h st × AreBalanced st.world st.given st.requests

    step_balanced : (e : Event) (st : State) (r : World × List Sent) → IsBalanced st → Stepped h e st.world r → IsBalanced (after h e st r)
    step_balanced (opened t) st r k is = (
      step_settles h (opened t) st r k.0 is,
      subst (λ (p : World × List Sent). AreBalanced p.0 (given_after (opened t) p.1 st.given) (requests_after (opened t) st.requests)) is.1
          (opened_balanced t st.world st.given st.requests is.0 (open_of h st.world st.world.waiting k.0.0) k.1),
    )
    step_balanced (submitted t d fresh now) st r k is =
        let w : World = at_moment h now st.world in
        let c : Call = call_of h.db_name h.schema h.serves d in
        let up : Raises (asks_for t d (is_request d)) w (handle h t d fresh c w) = subst (λ b. Raises (asks_for t d b) w (handle h t d fresh c w)) (replies h (is_request d) d c (reads h d)) (handle_raises t d fresh c w) in (
          step_settles h (submitted t d fresh now) st r k.0 is,
          subst (λ (p : World × List Sent). AreBalanced p.0 (given_after (submitted t d fresh now) p.1 st.given) (requests_after (submitted t d fresh now) st.requests)) is.2
              (submitted_balanced t d fresh now st.world (handle h t d fresh c w) st.given st.requests up k.1),
        )
    step_balanced (ticked now) st r k is =
        (step_settles h (ticked now) st r k.0 is, subst (λ (p : World × List Sent). AreBalanced p.0 (given_after (ticked now) p.1 st.given) st.requests) is (raised_balanced st.world (tick h now st.world) st.given st.requests (tick_raises now st.world) k.1))
    step_balanced (closed t) st r k is =
        (step_settles h (closed t) st r k.0 is, subst (λ (p : World × List Sent). AreBalanced p.0 (given_after (closed t) p.1 st.given) st.requests) is (raised_balanced st.world (close h t st.world) st.given st.requests (close_raises t st.world) k.1))
    step_balanced (round ss) st r k is =
        (step_settles h (round ss) st r k.0 is, subst (λ (p : World × List Sent). AreBalanced p.0 (given_after (round ss) p.1 st.given) st.requests) is (take_each_balanced (once ss) st.world st.given st.requests k.1))

    start_balanced : (word most tables : ℕ) → IsBalanced (beginning word most tables)
    start_balanced word most tables = (begins_settled h word most tables, λ s x found. absurd (true≢false (sym (ap is_some (sym (get-empty s) ∙ found)))))

    pub reached_balanced : (st : State) → IsReached h st → AreBalanced st.world st.given st.requests
    reached_balanced st r = (reached_has h IsBalanced start_balanced step_balanced st r).1
