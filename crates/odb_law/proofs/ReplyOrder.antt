-- Replies keep their order: queues grow at their end, and are taken from their front.
use Rattle.std.proofs.Common.{◌≡◌, ℕ, zero, suc, ◌+◌, ◌*◌, ◌==◌, length, Bool, true, false, cond, not, ◌&&◌, List, [], ◌∷◌, ◌++◌, map, Option, Some, None, Result, Ok, Err, is_some, refl, sym, ◌∙◌, ap, subst, true≢false, append_assoc, append-nil}
use Rattle.std.specs.Prelude.{option_and_then, option_to_list, filter, filter_map, find}
use Rattle.std.specs.List.{cons_option}
use Rattle.std.specs.Ordering.{nat_cmp, eq_by_cmp}
use borrow.Author.Tests.{eq-eqb}
use Rattle.serde_json.specs.Data.{Data}
use Rattle.odb_rpc.specs.Message as message
use Rattle.odb_atoms.specs.Error.{Error, syntax_error}
use Rattle.odb_atoms.specs.FinMap.{get, remove}
use Rattle.odb_atoms.specs.Uuid.{Uuid}
use Rattle.odb_cond.specs.Filter.{Filter}
use Rattle.odb_law.proofs.EventSteps.{Stepped, next_is, opened_world}
use Rattle.odb_law.proofs.HeadlineRuns.{sent_to-append, sent_to_itself, sent_to_other}
use Rattle.odb_law.specs.Replies.{KeepsOrder, answered_in, with_request}
use Rattle.odb_locks.specs.Locks.{Answered, Notice, drop_session, lock, steal, unlock}
use Rattle.odb_monitor.proofs.Views.{some_is}
use Rattle.odb_monitor.specs.View.{is_none}
use Rattle.odb_request.specs.Request.{Notation, Request, is_conditional}
use Rattle.odb_rpc.specs.Message.{Call, Failure, call_of, canceled, failed, failure, reply, unknown_monitor}
use Rattle.odb_service.proofs.SessionMaps.{get-insert, get-remove, same_key}
use Rattle.odb_service.proofs.Splits.{Split}
use Rattle.odb_service.proofs.WhatIsOwed.{change_to, message_of, takes}
use Rattle.odb_service.specs.Run.{Event, Sent, State, after, closed, given_after, once, opened, opens, round, sent, sent_to, submitted, take_each, take_of, ticked}
use Rattle.odb_service.specs.Service.{Outcome, Service, ended, waiting}
use Rattle.odb_service.specs.Session.{Answers, Item, Monitor, Out, Revision, Session, Watch, has_id, label, leaves, no_request, no_result, owed, owed_from, refilter, renamed, same_id, say, shift, start, stopped, sync, take, to, update_to, with_content}
use Rattle.odb_service.specs.World.{Waiting, World, answer, are_monitored, asked_of, at_moment, attempt, cancel_one, change_of, close, end_transaction, fail, handle, is_due, is_of, lock_error, locked, notice_of, on_cancel_monitor, on_lock, on_outcome, post, post_notices, post_to, push, retry, retry_all, revision_of, shift_with, split_first, start_with, succeed, tick, try_due, try_one, untried, watched, with_waiting}
use Rattle.odb_tables.specs.Database.{Db}
use Rattle.odb_wire.specs.Message.{id_of}

-- ---- what messages answer, and what items will

with_request-append : (a : Answers) (xs ys : List Data) → with_request a (xs ++ ys) ≡ with_request a xs ++ ys
with_request-append no_request xs ys = refl
with_request-append (to d) xs ys = refl

answered-append : (xs ys : List Out) → answered_in (xs ++ ys) ≡ answered_in xs ++ answered_in ys
answered-append [] ys = refl
answered-append (x ∷ xs) ys = ap (with_request x.answers) (answered-append xs ys) ∙ with_request-append x.answers (answered_in xs) (answered_in ys)

abbrev will_answer : List Item → List Data
will_answer [] = []
will_answer (i ∷ is) = with_request (label i) (will_answer is)

will_answer-append : (xs ys : List Item) → will_answer (xs ++ ys) ≡ will_answer xs ++ will_answer ys
will_answer-append [] ys = refl
will_answer-append (x ∷ xs) ys = ap (with_request (label x)) (will_answer-append xs ys) ∙ with_request-append (label x) (will_answer xs) (will_answer ys)

-- a queue that grew at its end
abbrev Grows : World → World → Type 0
Grows w v = (s : ℕ) (y : Session) → get v.sessions s ≡ Some y → (x : Session) × (get w.sessions s ≡ Some x) × (more : List Item) × (y.queue ≡ x.queue ++ more)

stays : (w : World) → Grows w w
stays w s y found = (y, found, [], sym (append-nil y.queue))

grows_then : (u v w : World) → Grows u v → Grows v w → Grows u w
grows_then u v w a b s z found =
    let y : (y : Session) × (get v.sessions s ≡ Some y) × (more : List Item) × (z.queue ≡ y.queue ++ more) = b s z found in
    let x : (x : Session) × (get u.sessions s ≡ Some x) × (more : List Item) × (y.0.queue ≡ x.queue ++ more) = a s y.0 y.1 in
    (x.0, x.1, x.2 ++ y.2, y.3 ∙ ap (λ q. q ++ y.2) x.3 ∙ append_assoc x.0.queue x.2 y.2)

posts : (t : ℕ) (is : List Item) (w : World) → Grows w (post t is w)
posts t is w = by (get w.sessions t) refl
  where
    by : (o : Option Session) → get w.sessions t ≡ o → Grows w (post_to t is o w)
    by None e s y found = stays w s y found
    by (Some x) e s y found =
        elim (eq_by_cmp nat_cmp s t) as (λ b. eq_by_cmp nat_cmp s t ≡ b → cond b (Some (push is x)) (get w.sessions s) ≡ Some y → (z : Session) × (get w.sessions s ≡ Some z) × (more : List Item) × (y.queue ≡ z.queue ++ more)) [
          | true ↦ λ tie f. (x, ap (get w.sessions) (same_key s t tie) ∙ e, is, ap (λ (z : Session). z.queue) (sym (some_is (push is x) y f)))
          | false ↦ λ _ f. (y, f, [], sym (append-nil y.queue))
        ] refl (sym (get-insert w.sessions t (push is x) s) ∙ found)

answers : (t : ℕ) (d m : Data) (w : World) → Grows w (answer t d m w)
answers t d m w = posts t (say (to d) m ∷ []) w

fails : (t : ℕ) (d : Data) (name : Failure) (w : World) → Grows w (fail t d name w)
fails t d name w = answers t d (failure (id_of d) name) w

notes : (ns : List Notice) (w : World) → Grows w (post_notices ns w)
notes [] w = stays w
notes (n ∷ ns) w =
    let v : World = post n.session (say no_request (notice_of n) ∷ []) w in
    grows_then w v (post_notices ns v) (posts n.session (say no_request (notice_of n) ∷ []) w) (notes ns v)

either : (b : Bool) (w u v : World) → Grows w u → Grows w v → Grows w (cond b u v)
either true w u v a b = a
either false w u v a b = b

module _ (h : Service) where
  -- ---- transactions

  ends : (t : ℕ) (d results : Data) (o : Option Db) (w : World) → Grows w (end_transaction h t d results o w)
  ends t d results None w = answers t d (reply (id_of d) results) w
  ends t d results (Some db) w = posts t (map (λ k. sync k.id) (asked_of h (get w.sessions t)) ++ say (to d) (reply (id_of d) results) ∷ []) (record w { db = db; commits = w.commits + 1; earlier = with_content w.db w.earlier })

  outcomes : (p : Waiting) (o : Outcome) (w : World) → Grows w (on_outcome h p o w).0
  outcomes p (ended results changed) w = ends p.session p.request results changed w
  outcomes p (waiting deadline) w = stays w

  attempts : (p : Waiting) (w : World) → Grows w (attempt h p w).0
  attempts p w = outcomes p _ w

  retries : (n : ℕ) (w : World) → Grows w (retry h n w)
  retries zero w = stays w
  retries (suc n) w =
      elim (untried h w) as (λ o. Grows w (elim o as (λ _. World) [ None ↦ w | Some t ↦ retry h n (try_one h t w) ])) [
        | None ↦ stays w
        | Some t ↦ grows_then w (try_one h t w) (retry h n (try_one h t w)) (attempts t.1 w) (retries n (try_one h t w))
      ]

  all_retried : (w v : World) → Grows w v → Grows w (retry_all h v)
  all_retried w v a = grows_then w v (retry_all h v) a (retries ((length v.waiting + 1) * (length v.waiting + 1)) v)

  dues : (ps : List Waiting) (w : World) → Grows w (try_due h ps w)
  dues [] w = stays w
  dues (p ∷ ps) w =
      elim (is_due w.now p.deadline) as (λ b. Grows w (try_due h ps (cond b (with_waiting h (λ ps o. ps ++ option_to_list o) w.waiting (attempt h p w)) (record w { waiting = w.waiting ++ p ∷ [] })))) [
        | true ↦ let v : World = with_waiting h (λ ps o. ps ++ option_to_list o) w.waiting (attempt h p w) in grows_then w v (try_due h ps v) (attempts p w) (dues ps v)
        | false ↦ dues ps (record w { waiting = w.waiting ++ p ∷ [] })
      ]

  ticks : (now : ℕ) (w : World) → Grows w (tick h now w)
  ticks now w = all_retried w (try_due h w.waiting (record (at_moment h now w) { waiting = [] })) (dues w.waiting (record (at_moment h now w) { waiting = [] }))

  cancels : (t : ℕ) (o : Option (Split Waiting)) (w : World) → Grows w (cancel_one h t o w)
  cancels t None w = stays w
  cancels t (Some p) w = fails t p.1.request canceled (record w { waiting = p.0 ++ p.2 })

  -- ---- requests

  starts : (t : ℕ) (d : Data) (n : Notation) (i : Data) (since : Option Uuid) (r : Result (List Request) Error) (w : World) → Grows w (start_with h t d n i since r w)
  starts t d n i since (Err e) w = fails t d (failed e) w
  starts t d n i since (Ok qs) w = posts t (start d (record { id = i; notation = n; requests = qs; since = since }) ∷ []) w

  shifts : (t : ℕ) (d old new : Data) (k : Watch) (r : Result (List (List ℕ × Filter)) Error) (w : World) → Grows w (shift_with h t d old new k r w)
  shifts t d old new k (Err e) w = fails t d (failed e) w
  shifts t d old new k (Ok fs) w =
      either (are_monitored h fs k.requests) w (post t (shift old fs ∷ renamed d old new fs ∷ []) w) (fail t d (failed syntax_error) w) (posts t (shift old fs ∷ renamed d old new fs ∷ []) w) (fails t d (failed syntax_error) w)

  changes : (t : ℕ) (d old new filters : Data) (o : Option Watch) (w : World) → Grows w (change_of h t d old new filters o w)
  changes t d old new filters None w = fails t d unknown_monitor w
  changes t d old new filters (Some k) w =
      let taken : Bool = not (same_id h old new) && is_some (watched h new (asked_of h (get w.sessions t))) in
      either (not (is_conditional k.notation)) w (fail t d unknown_monitor w) (cond taken (fail t d (failed syntax_error) w) (shift_with h t d old new k (h.read_filters filters) w))
      (fails t d unknown_monitor w)
      (either taken w (fail t d (failed syntax_error) w) (shift_with h t d old new k (h.read_filters filters) w) (fails t d (failed syntax_error) w) (shifts t d old new k (h.read_filters filters) w))

  stops : (t : ℕ) (d i : Data) (o : Option Watch) (w : World) → Grows w (on_cancel_monitor h t d i o w)
  stops t d i None w = fails t d unknown_monitor w
  stops t d i (Some k) w = posts t (sync i ∷ stopped d i ∷ []) w

  locks : (t : ℕ) (d : Data) (result : Bool → Data) (a : Answered) (w : World) → Grows w (on_lock h t d result a w)
  locks t d result (Err e) w = fails t d (failed (lock_error e)) w
  locks t d result (Ok l) w =
      let v : World = post_notices l.1 (record w { locks = l.0 }) in
      grows_then w v (succeed t d (result l.2) v) (notes l.1 (record w { locks = l.0 })) (answers t d (reply (id_of d) (result l.2)) v)

  handles : (t : ℕ) (d : Data) (fresh : List Uuid) (c : Call) (w : World) → Grows w (handle h t d fresh c w)
  handles t d fresh (message.answered m) w = answers t d m w
  handles t d fresh (message.transact id ops) w =
      let p : Waiting = record { session = t; request = d; operations = ops; fresh = fresh; arrival = w.now; deadline = None; tried = w.commits } in
      all_retried w (with_waiting h (λ ps o. ps ++ option_to_list o) w.waiting (attempt h p w)) (attempts p w)
  handles t d fresh (message.monitor id n i requests since) w =
      either (is_some (watched h i (asked_of h (get w.sessions t)))) w (fail t d (failed syntax_error) w) (start_with h t d n i since (h.read_requests n requests) w) (fails t d (failed syntax_error) w) (starts t d n i since (h.read_requests n requests) w)
  handles t d fresh (message.change_filters id old new filters) w = changes t d old new filters (watched h old (asked_of h (get w.sessions t))) w
  handles t d fresh (message.cancel_monitor id i) w = stops t d i (watched h i (asked_of h (get w.sessions t))) w
  handles t d fresh (message.lock id name) w = locks t d (locked h) (lock w.locks t name) w
  handles t d fresh (message.steal id name) w = locks t d (locked h) (steal w.locks t name) w
  handles t d fresh (message.unlock id name) w = locks t d (λ b. no_result) (unlock w.locks t name) w
  handles t d fresh (message.cancel id) w = cancels t (split_first (is_of h t id) w.waiting) w
  handles t d fresh message.passed_over w = stays w

  closes : (t : ℕ) (w : World) → Grows w (close h t w)
  closes t w =
      let v : World = record w { locks = (drop_session w.locks t).0; sessions = remove w.sessions t; waiting = filter (λ p. not (p.session == t)) w.waiting } in
      grows_then w v (close h t w) removed (notes (drop_session w.locks t).1 v)
    where
      removed : Grows w (record w { locks = (drop_session w.locks t).0; sessions = remove w.sessions t; waiting = filter (λ p. not (p.session == t)) w.waiting })
      removed s y found =
          elim (eq_by_cmp nat_cmp s t) as (λ b. cond b None (get w.sessions s) ≡ Some y → (x : Session) × (get w.sessions s ≡ Some x) × (more : List Item) × (y.queue ≡ x.queue ++ more)) [
            | true ↦ λ e. absurd (true≢false (sym (ap is_some e)))
            | false ↦ λ e. (y, e, [], sym (append-nil y.queue))
          ] (sym (get-remove w.sessions t s) ∙ found)

  -- ---- what is owed

  updates_answer_none : (revision : Revision) (ms : List Monitor) → answered_in (filter_map (λ m. update_to h revision m.watch.requests m) ms) ≡ []
  updates_answer_none revision [] = refl
  updates_answer_none revision (m ∷ ms) =
      elim (is_none (change_to h revision.db m.watch.requests m)) as (λ b. answered_in (cons_option (cond b None (Some (message_of h revision m.watch.requests m))) (filter_map (λ m. update_to h revision m.watch.requests m) ms)) ≡ []) [
        | true ↦ updates_answer_none revision ms
        | false ↦ updates_answer_none revision ms
      ]

  update_answers_none : (revision : Revision) (q : Monitor → List Request) (o : Option Monitor) (os : List Out) → answered_in (option_to_list (option_and_then (λ m. update_to h revision (q m) m) o) ++ os) ≡ answered_in os
  update_answers_none revision q None os = refl
  update_answers_none revision q (Some m) os =
      elim (is_none (change_to h revision.db (q m) m)) as (λ b. answered_in (option_to_list (cond b None (Some (message_of h revision (q m) m))) ++ os) ≡ answered_in os) [ true ↦ refl | false ↦ refl ]

  owed_answers : (revision : Revision) (q : List Item) (ms : List Monitor) → answered_in (owed_from h revision q ms) ≡ will_answer q
  owed_answers revision [] ms = updates_answer_none revision ms
  owed_answers revision (say a d ∷ q) ms = ap (with_request a) (owed_answers revision q ms)
  owed_answers revision (start d k ∷ q) ms = ap (with_request (to d)) (owed_answers revision q (leaves h revision.db (start d k) ms))
  owed_answers revision (sync i ∷ q) ms =
      update_answers_none revision (λ m. m.watch.requests) (find (has_id h i) ms) (owed_from h revision q (leaves h revision.db (sync i) ms)) ∙ owed_answers revision q (leaves h revision.db (sync i) ms)
  owed_answers revision (shift i fs ∷ q) ms =
      update_answers_none revision (λ m. refilter fs m.watch.requests) (find (has_id h i) ms) (owed_from h revision q (leaves h revision.db (shift i fs) ms)) ∙ owed_answers revision q (leaves h revision.db (shift i fs) ms)
  owed_answers revision (renamed d old new fs ∷ q) ms = ap (with_request (to d)) (owed_answers revision q (leaves h revision.db (renamed d old new fs) ms))
  owed_answers revision (stopped d i ∷ q) ms = ap (with_request (to d)) (owed_answers revision q (leaves h revision.db (stopped d i) ms))

  all_answers : (revision : Revision) (x : Session) (os : List Out) → answered_in (os ++ owed h revision x) ≡ answered_in os ++ will_answer x.queue
  all_answers revision x os = answered-append os (owed h revision x) ∙ ap (λ ds. answered_in os ++ ds) (owed_answers revision x.queue x.monitors)

  -- ---- rounds

  take_answers : (revision : Revision) (x : Session) → answered_in (option_to_list (take h revision x).0) ++ will_answer (take h revision x).1.queue ≡ will_answer x.queue
  take_answers revision x =
      sym (all_answers revision (take h revision x).1 (option_to_list (take h revision x).0)) ∙ ap answered_in (sym (takes h revision x).owes) ∙ owed_answers revision x.queue x.monitors

  abbrev GivesOn : World → World × List Sent → Type 0
  GivesOn w r = (s : ℕ) (y : Session) → get r.0.sessions s ≡ Some y → (x : Session) × (get w.sessions s ≡ Some x) × (answered_in (sent_to s r.1) ++ will_answer y.queue ≡ will_answer x.queue)

  one_gives : (t : ℕ) (o : Option Session) (w : World) → get w.sessions t ≡ o → GivesOn w (take_of h t o w)
  one_gives t None w e s y found = (y, found, refl)
  one_gives t (Some x) w e s y found =
      elim (eq_by_cmp nat_cmp s t) as (λ b. eq_by_cmp nat_cmp s t ≡ b → cond b (Some (take h (revision_of w) x).1) (get w.sessions s) ≡ Some y
      → (z : Session) × (get w.sessions s ≡ Some z) × (answered_in (sent_to s (sent t (take h (revision_of w) x).0)) ++ will_answer y.queue ≡ will_answer z.queue)) [
        | true ↦ λ tie f. (
          x,
          ap (get w.sessions) (same_key s t tie) ∙ e,
          ap (λ (u : ℕ). answered_in (sent_to u (sent t (take h (revision_of w) x).0)) ++ will_answer y.queue) (same_key s t tie)
              ∙ ap (λ os. answered_in os ++ will_answer y.queue) (sent_to_itself t (take h (revision_of w) x).0)
              ∙ ap (λ (z : Session). answered_in (option_to_list (take h (revision_of w) x).0) ++ will_answer z.queue) (sym (some_is (take h (revision_of w) x).1 y f))
              ∙ take_answers (revision_of w) x,
        )
        | false ↦ λ apart f. (y, f, ap (λ os. answered_in os ++ will_answer y.queue) (sent_to_other s t (take h (revision_of w) x).0 apart))
      ] refl (sym (get-insert w.sessions t (take h (revision_of w) x).1 s) ∙ found)

  each_gives : (ss : List ℕ) (w : World) → GivesOn w (take_each h ss w)
  each_gives [] w s y found = (y, found, refl)
  each_gives (t ∷ ss) w s y found =
      let one : World × List Sent = take_of h t (get w.sessions t) w in
      let rest : World × List Sent = take_each h ss one.0 in
      let z : (z : Session) × (get one.0.sessions s ≡ Some z) × (answered_in (sent_to s rest.1) ++ will_answer y.queue ≡ will_answer z.queue) = each_gives ss one.0 s y found in
      let x : (x : Session) × (get w.sessions s ≡ Some x) × (answered_in (sent_to s one.1) ++ will_answer z.0.queue ≡ will_answer x.queue) = one_gives t (get w.sessions t) w refl s z.0 z.1 in (
        x.0,
        x.1,
        ap (λ os. answered_in os ++ will_answer y.queue) (sent_to-append s one.1 rest.1)
            ∙ ap (λ ds. ds ++ will_answer y.queue) (answered-append (sent_to s one.1) (sent_to s rest.1))
            ∙ append_assoc (answered_in (sent_to s one.1)) (answered_in (sent_to s rest.1)) (will_answer y.queue)
            ∙ ap (λ ds. answered_in (sent_to s one.1) ++ ds) z.2
            ∙ x.2,
      )

  -- ---- events

  abbrev Ordered : Event → State → World × List Sent → ℕ → Session → Session → Type 0
  Ordered e st r s x y =
      get st.world.sessions s ≡ Some x → get r.0.sessions s ≡ Some y
      → (more : List Data) × (answered_in (given_after e r.1 st.given s ++ owed h (revision_of r.0) y) ≡ answered_in (st.given s ++ owed h (revision_of st.world) x) ++ more)

  -- where nothing is sent and queues grow
  grown : (e : Event) (st : State) (v : World) (s : ℕ) (x y : Session) → opens e s ≡ false → Grows st.world v → Ordered e st (v, []) s x y
  grown e st v s x y quiet grows here there =
      let z : (z : Session) × (get st.world.sessions s ≡ Some z) × (more : List Item) × (y.queue ≡ z.queue ++ more) = grows s y there in
      let same : y.queue ≡ x.queue ++ z.2 = z.3 ∙ ap (λ (u : Session). u.queue ++ z.2) (some_is z.0 x (sym z.1 ∙ here)) in (
        will_answer z.2,
        all_answers (revision_of v) y (given_after e [] st.given s)
            ∙ (λ i. answered_in (cond (quiet i) [] (st.given s ++ [])) ++ will_answer (same i))
            ∙ (λ i. answered_in (append-nil (st.given s) i) ++ will_answer-append x.queue z.2 i)
            ∙ sym (append_assoc (answered_in (st.given s)) (will_answer x.queue) (will_answer z.2))
            ∙ ap (λ ds. ds ++ will_answer z.2) (sym (all_answers (revision_of st.world) x (st.given s))),
      )

  opening : (t : ℕ) (st : State) (s : ℕ) (x y : Session) → opens (opened t) s ≡ false → Ordered (opened t) st (opened_world h t st.world, []) s x y
  opening t st s x y apart here there = grown (opened t) st st.world s x y apart (stays st.world) here
      (elim (eq_by_cmp nat_cmp s t) as (λ b. eq_by_cmp nat_cmp s t ≡ b → cond b (Some (let x : Session = record { queue = []; monitors = [] } in x)) (get st.world.sessions s) ≡ Some y → get st.world.sessions s ≡ Some y) [
        | true ↦ λ tie _. absurd (true≢false (sym (eq-eqb t s (sym (same_key s t tie))) ∙ apart))
        | false ↦ λ _ f. f
      ] refl (sym (get-insert st.world.sessions t (record { queue = []; monitors = [] }) s) ∙ there))

  rounds : (ss : List ℕ) (st : State) (s : ℕ) (x y : Session) → Ordered (round ss) st (take_each h (once ss) st.world) s x y
  rounds ss st s x y here there =
      let r : World × List Sent = take_each h (once ss) st.world in
      let z : (z : Session) × (get st.world.sessions s ≡ Some z) × (answered_in (sent_to s r.1) ++ will_answer y.queue ≡ will_answer z.queue) = each_gives (once ss) st.world s y there in (
        [],
        all_answers (revision_of r.0) y (st.given s ++ sent_to s r.1)
            ∙ ap (λ ds. ds ++ will_answer y.queue) (answered-append (st.given s) (sent_to s r.1))
            ∙ append_assoc (answered_in (st.given s)) (answered_in (sent_to s r.1)) (will_answer y.queue)
            ∙ ap (λ ds. answered_in (st.given s) ++ ds) (z.2 ∙ ap (λ (u : Session). will_answer u.queue) (some_is z.0 x (sym z.1 ∙ here)))
            ∙ sym (all_answers (revision_of st.world) x (st.given s))
            ∙ sym (append-nil (answered_in (st.given s ++ owed h (revision_of st.world) x))),
      )

  ordered : (e : Event) (st : State) (r : World × List Sent) → Stepped h e st.world r → (s : ℕ) (x y : Session) → opens e s ≡ false → Ordered e st r s x y
  ordered (opened t) st r is s x y quiet = subst (λ (p : World × List Sent). Ordered (opened t) st p s x y) is.1 (opening t st s x y quiet)
  ordered (submitted t d fresh now) st r is s x y quiet =
      let c : Call = call_of h.db_name h.schema h.serves d in
      subst (λ (p : World × List Sent). Ordered (submitted t d fresh now) st p s x y) is.2 (grown (submitted t d fresh now) st (handle h t d fresh c (at_moment h now st.world)) s x y quiet (handles t d fresh c (at_moment h now st.world)))
  ordered (ticked now) st r is s x y quiet = subst (λ (p : World × List Sent). Ordered (ticked now) st p s x y) is (grown (ticked now) st (tick h now st.world) s x y quiet (ticks now st.world))
  ordered (closed t) st r is s x y quiet = subst (λ (p : World × List Sent). Ordered (closed t) st p s x y) is (grown (closed t) st (close h t st.world) s x y quiet (closes t st.world))
  ordered (round ss) st r is s x y quiet = subst (λ (p : World × List Sent). Ordered (round ss) st p s x y) is (rounds ss st s x y)

  pub keeps_order : KeepsOrder h
  keeps_order st now e goes s x y quiet here there =
      let n : (r : World × List Sent) × Stepped h e st.world r × (after h e st r ≡ now) = next_is h e st now goes in
      subst (λ (m : State). get m.world.sessions s ≡ Some y → (more : List Data) × (answered_in (m.given s ++ owed h (revision_of m.world) y) ≡ answered_in (st.given s ++ owed h (revision_of st.world) x) ++ more)) n.2 (ordered e st n.0 n.1 s x y quiet here) there
