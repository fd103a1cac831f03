-- The monitors that a session asked for change by its own requests alone.
use Rattle.std.proofs.Common.{◌≡◌, ℕ, zero, suc, ◌+◌, ◌*◌, ◌==◌, ◌||◌, length, Bool, true, false, cond, not, ◌&&◌, List, [], ◌∷◌, ◌++◌, map, Option, Some, None, Result, Ok, Err, is_some, refl, sym, ◌∙◌, ap, subst, true≢false}
use Rattle.std.specs.Prelude.{option_to_list, filter}
use Rattle.std.specs.Ordering.{nat_cmp, eq_by_cmp}
use borrow.Author.Tests.{eqb-true, eq-eqb}
use Rattle.serde_json.specs.Data.{Data}
use Rattle.odb_rpc.specs.Message as message
use Rattle.odb_atoms.specs.FinMap.{FinMap, get, insert, remove}
use Rattle.odb_cond.specs.Filter.{Filter}
use Rattle.odb_service.proofs.SessionMaps.{get-insert, get-remove, same_key}
use Rattle.odb_law.proofs.SessionInvariant.{leaves-asks}
use Rattle.odb_service.proofs.Splits.{Split}
use Rattle.odb_law.proofs.EventSteps.{Stepped, next_is, opened_world}
use Rattle.odb_law.proofs.TakingPictures.{rest_watch}
use Rattle.odb_law.specs.Law.{IsGranted, asked_by, asked_then}
use Rattle.odb_service.specs.Run.{Event, Sent, State, after, closed, once, opened, opens, round, submitted, take_each, take_of, ticked}
use Rattle.odb_service.specs.Service.{Outcome, Service, ended, waiting}
use Rattle.odb_service.specs.Session.{Item, Monitor, Out, Revision, Session, Watch, asked, asked_after, asks, at_first, changed, drop_first, gives, leaves, no_request, no_result, renamed, same_id, say, shift, start, stop_at, stopped, sync, take, take_from, to, told, with_content}
use Rattle.odb_wire.specs.Message.{id_of}
use Rattle.odb_service.specs.World.{Waiting, World, answer, are_monitored, asked_of, at_moment, attempt, cancel_one, change_of, close, end_transaction, fail, handle, is_due, is_of, locked, notice_of, on_cancel_monitor, on_lock, on_monitor, on_outcome, post, post_notices, post_to, push, retry, retry_all, revision_of, run_transaction, shift_with, split_first, start_with, succeed, tick, try_due, try_one, untried, watched, with_waiting}
use Rattle.odb_locks.specs.Locks.{Answered, Notice, drop_session, lock, steal, unlock}
use Rattle.odb_monitor.proofs.Views.{some_is}
use Rattle.odb_request.specs.Request.{Notation, Request, is_conditional}
use Rattle.odb_rpc.specs.Message.{Call, call_of, failure, reply}
use Rattle.odb_tables.specs.Database.{Db}
use Rattle.odb_service.specs.World.{lock_error}
use Rattle.odb_atoms.specs.Uuid.{Uuid}
use Rattle.odb_atoms.specs.Error.{Error, syntax_error}
use Rattle.odb_rpc.specs.Message.{Failure, failed, unknown_monitor, canceled}
use Rattle.odb_service.proofs.SessionMaps.{other}

abbrev Asking : Type 0
Asking = List Watch → List Watch

module _ (h : Service) where
  -- the monitors asked for change by f at t, and at no other session
  abbrev at_one : ℕ → Asking → ℕ → Asking
  at_one t f s ks = cond (t == s) (f ks) ks

  abbrev Asks : (ℕ → Asking) → World → World → Type 0
  Asks f w v = (s : ℕ) (y : Session) → get v.sessions s ≡ Some y → (x : Session) × (get w.sessions s ≡ Some x) × (asked h y ≡ f s (asked h x))

  -- nothing changes
  abbrev Same : World → World → Type 0
  Same w v = Asks (λ s ks. ks) w v

  either_same : (b : Bool) (ks : List Watch) → cond b ks ks ≡ ks
  either_same true ks = refl
  either_same false ks = refl

  after_append : (q is : List Item) (ks : List Watch) → asked_after h (q ++ is) ks ≡ asked_after h is (asked_after h q ks)
  after_append [] is ks = refl
  after_append (i ∷ q) is ks = after_append q is (asks h i ks)

  put_asks : (ss : FinMap nat_cmp Session) (t : ℕ) (x : Session) (is : List Item) → get ss t ≡ Some x → (s : ℕ) (y : Session) → get (insert ss t (push is x)) s ≡ Some y → (z : Session) × (get ss s ≡ Some z) × (asked h y ≡ at_one t (asked_after h is) s (asked h z))
  put_asks ss t x is e s y found =
      elim (eq_by_cmp nat_cmp s t) as (λ b. eq_by_cmp nat_cmp s t ≡ b → cond b (Some (push is x)) (get ss s) ≡ Some y → (z : Session) × (get ss s ≡ Some z) × (asked h y ≡ at_one t (asked_after h is) s (asked h z))) [
        | true ↦ λ tie f. (
          x,
          ap (get ss) (same_key s t tie) ∙ e,
          ap (asked h) (sym (some_is (push is x) y f)) ∙ after_append x.queue is (told h x)
              ∙ ap (λ b. cond b (asked_after h is (asked h x)) (asked h x)) (sym (eq-eqb t s (sym (same_key s t tie)))),
        )
        | false ↦ λ apart f. (y, f, ap (λ b. cond b (asked_after h is (asked h y)) (asked h y)) (sym (other s t apart)))
      ] refl (sym (get-insert ss t (push is x) s) ∙ found)

  closed_asks : (t : ℕ) (f : Asking) (w : World) → get w.sessions t ≡ None → Asks (at_one t f) w w
  closed_asks t f w e s y found =
      elim (t == s) as (λ b. (t == s) ≡ b → (x : Session) × (get w.sessions s ≡ Some x) × (asked h y ≡ cond b (f (asked h x)) (asked h x))) [
        | true ↦ λ is. absurd (true≢false (ap is_some (sym found ∙ ap (get w.sessions) (sym (eqb-true t s is)) ∙ e)))
        | false ↦ λ _. (y, found, refl)
      ] refl

  posts : (t : ℕ) (is : List Item) (w : World) → Asks (at_one t (asked_after h is)) w (post t is w)
  posts t is w = by (get w.sessions t) refl
    where
      by : (o : Option Session) → get w.sessions t ≡ o → Asks (at_one t (asked_after h is)) w (post_to t is o w)
      by None e = closed_asks t (asked_after h is) w e
      by (Some x) e = put_asks w.sessions t x is e

  asks_as : (f g : ℕ → Asking) (w v : World) → ((s : ℕ) (x : Session) → get w.sessions s ≡ Some x → f s (asked h x) ≡ g s (asked h x)) → Asks f w v → Asks g w v
  asks_as f g w v e a s y found = let x : (x : Session) × (get w.sessions s ≡ Some x) × (asked h y ≡ f s (asked h x)) = a s y found in (x.0, x.1, x.2 ∙ e s x.0 x.1)

  asks_then : (f : ℕ → Asking) (u v w : World) → Same u v → Asks f v w → Asks f u w
  asks_then f u v w a b s z found =
      let y : (y : Session) × (get v.sessions s ≡ Some y) × (asked h z ≡ f s (asked h y)) = b s z found in
      let x : (x : Session) × (get u.sessions s ≡ Some x) × (asked h y.0 ≡ asked h x) = a s y.0 y.1 in
      (x.0, x.1, y.2 ∙ ap (f s) x.2)

  stays : (w : World) → Same w w
  stays w s y found = (y, found, refl)

  -- items that ask for nothing
  quiet : (t : ℕ) (is : List Item) (w : World) → ((ks : List Watch) → asked_after h is ks ≡ ks) → Same w (post t is w)
  quiet t is w e = asks_as (at_one t (asked_after h is)) (λ s ks. ks) w (post t is w) (λ s x _. ap (λ ks. cond (t == s) ks (asked h x)) (e (asked h x)) ∙ either_same (t == s) (asked h x)) (posts t is w)

  answers : (t : ℕ) (d m : Data) (w : World) → Same w (answer t d m w)
  answers t d m w = quiet t (say (to d) m ∷ []) w (λ ks. refl)

  fails : (t : ℕ) (d : Data) (name : Failure) (w : World) → Same w (fail t d name w)
  fails t d name w = answers t d (failure (id_of d) name) w

  notes : (ns : List Notice) (w : World) → Same w (post_notices ns w)
  notes [] w = stays w
  notes (n ∷ ns) w =
      let v : World = post n.session (say no_request (notice_of n) ∷ []) w in
      asks_then (λ s ks. ks) w v (post_notices ns v) (quiet n.session (say no_request (notice_of n) ∷ []) w (λ ks. refl)) (notes ns v)

  -- ---- transactions

  syncs_quiet : (all : List Watch) (d m : Data) (ks : List Watch) → asked_after h (map (λ k. sync k.id) all ++ say (to d) m ∷ []) ks ≡ ks
  syncs_quiet [] d m ks = refl
  syncs_quiet (k ∷ all) d m ks = syncs_quiet all d m ks

  ends : (t : ℕ) (d results : Data) (o : Option Db) (w : World) → Same w (end_transaction h t d results o w)
  ends t d results None w = answers t d (reply (id_of d) results) w
  ends t d results (Some db) w =
      quiet t (map (λ k. sync k.id) (asked_of h (get w.sessions t)) ++ say (to d) (reply (id_of d) results) ∷ []) (record w { db = db; commits = w.commits + 1; earlier = with_content w.db w.earlier }) (syncs_quiet (asked_of h (get w.sessions t)) d (reply (id_of d) results))

  outcomes : (p : Waiting) (o : Outcome) (w : World) → Same w (on_outcome h p o w).0
  outcomes p (ended results changed) w = ends p.session p.request results changed w
  outcomes p (waiting deadline) w = stays w

  attempts : (p : Waiting) (w : World) → Same w (attempt h p w).0
  attempts p w = outcomes p _ w

  retries : (n : ℕ) (w : World) → Same w (retry h n w)
  retries zero w = stays w
  retries (suc n) w =
      elim (untried h w) as (λ o. Same w (elim o as (λ _. World) [ None ↦ w | Some t ↦ retry h n (try_one h t w) ])) [
        | None ↦ stays w
        | Some t ↦ asks_then (λ s ks. ks) w (try_one h t w) (retry h n (try_one h t w)) (attempts t.1 w) (retries n (try_one h t w))
      ]

  all_retried : (w v : World) → Same w v → Same w (retry_all h v)
  all_retried w v a = asks_then (λ s ks. ks) w v (retry_all h v) a (retries ((length v.waiting + 1) * (length v.waiting + 1)) v)

  dues : (ps : List Waiting) (w : World) → Same w (try_due h ps w)
  dues [] w = stays w
  dues (p ∷ ps) w =
      elim (is_due w.now p.deadline) as (λ b. Same w (try_due h ps (cond b (with_waiting h (λ ps o. ps ++ option_to_list o) w.waiting (attempt h p w)) (record w { waiting = w.waiting ++ p ∷ [] })))) [
        | true ↦ (let v : World = with_waiting h (λ ps o. ps ++ option_to_list o) w.waiting (attempt h p w) in asks_then (λ s ks. ks) w v (try_due h ps v) (attempts p w) (dues ps v))
        | false ↦ dues ps (record w { waiting = w.waiting ++ p ∷ [] })
      ]

  ticks : (now : ℕ) (w : World) → Same w (tick h now w)
  ticks now w = let w0 : World = record (at_moment h now w) { waiting = [] } in all_retried w (try_due h w.waiting w0) (dues w.waiting w0)

  cancelled : (t : ℕ) (o : Option (Split Waiting)) (w : World) → Same w (cancel_one h t o w)
  cancelled t None w = stays w
  cancelled t (Some c) w = fails t c.1.request canceled (record w { waiting = c.0 ++ c.2 })

  -- ---- monitors

  -- at its own session the monitors asked for are those that the machine looks at
  own_as : (t : ℕ) (f g : Asking) (w v : World) → f (asked_of h (get w.sessions t)) ≡ g (asked_of h (get w.sessions t)) → Asks (at_one t f) w v → Asks (at_one t g) w v
  own_as t f g w v e = asks_as (at_one t f) (at_one t g) w v (λ s x found.
      elim (t == s) as (λ b. (t == s) ≡ b → cond b (f (asked h x)) (asked h x) ≡ cond b (g (asked h x)) (asked h x)) [
        | true ↦ λ is. subst (λ (o : Option Session). f (asked_of h o) ≡ g (asked_of h o)) (ap (get w.sessions) (eqb-true t s is) ∙ found) e
        | false ↦ λ _. refl
      ] refl)

  same_at : (t : ℕ) (g : Asking) (w v : World) → asked_of h (get w.sessions t) ≡ g (asked_of h (get w.sessions t)) → Same w v → Asks (at_one t g) w v
  same_at t g w v e a = own_as t (λ ks. ks) g w v e (asks_as (λ s ks. ks) (at_one t (λ ks. ks)) w v (λ s x _. sym (either_same (t == s) (asked h x))) a)

  abbrev then_ : Call → Asking
  then_ c ks = asked_then h c ks

  starts : (t : ℕ) (d id : Data) (n : Notation) (i : Data) (since : Option Uuid) (requests : Data) (w : World) (ks : List Watch) → asked_of h (get w.sessions t) ≡ ks → is_some (watched h i ks) ≡ false → (r : Result (List Request) Error) → h.read_requests n requests ≡ r
      → Asks (at_one t (then_ (message.monitor id n i requests since))) w (start_with h t d n i since r w)
  starts t d id n i since requests w ks same free (Err e) is =
      same_at t (then_ (message.monitor id n i requests since)) w (fail t d (failed e) w)
      (same ∙ (λ j. cond (sym free j) ks (elim (sym is j) as (λ _. List Watch) [ Err e ↦ ks | Ok qs ↦ ks ++ record { id = i; notation = n; requests = qs; since = since } ∷ [] ])) ∙ ap (then_ (message.monitor id n i requests since)) (sym same)) (fails t d (failed e) w)
  starts t d id n i since requests w ks same free (Ok qs) is =
      own_as t (λ ks. ks ++ record { id = i; notation = n; requests = qs; since = since } ∷ []) (then_ (message.monitor id n i requests since)) w (post t (start d (record { id = i; notation = n; requests = qs; since = since }) ∷ []) w)
      (ap (λ ks. ks ++ record { id = i; notation = n; requests = qs; since = since } ∷ []) same ∙ (λ j. cond (sym free j) ks (elim (sym is j) as (λ _. List Watch) [ Err e ↦ ks | Ok qs ↦ ks ++ record { id = i; notation = n; requests = qs; since = since } ∷ [] ])) ∙ ap (then_ (message.monitor id n i requests since)) (sym same))
      (posts t (start d (record { id = i; notation = n; requests = qs; since = since }) ∷ []) w)

  monitors : (t : ℕ) (d id : Data) (n : Notation) (i : Data) (since : Option Uuid) (requests : Data) (w : World) → Asks (at_one t (then_ (message.monitor id n i requests since))) w (on_monitor h t d n i since requests w)
  monitors t d id n i since requests w =
      let ks : List Watch = asked_of h (get w.sessions t) in
      elim (is_some (watched h i ks)) as (λ b. is_some (watched h i ks) ≡ b → Asks (at_one t (then_ (message.monitor id n i requests since))) w (cond b (fail t d (failed syntax_error) w) (start_with h t d n i since (h.read_requests n requests) w))) [
        | true ↦ λ is. same_at t (then_ (message.monitor id n i requests since)) w (fail t d (failed syntax_error) w) (λ j. cond (sym is j) ks (elim (h.read_requests n requests) as (λ _. List Watch) [ Err e ↦ ks | Ok qs ↦ ks ++ record { id = i; notation = n; requests = qs; since = since } ∷ [] ])) (fails t d (failed syntax_error) w)
        | false ↦ λ free. starts t d id n i since requests w ks refl free (h.read_requests n requests) refl
      ] refl

  abbrev with_filters : Data → Data → Watch → List Watch → Bool → Bool → Result (List (List ℕ × Filter)) Error → List Watch
  with_filters old new k ks b c (Err e) = ks
  with_filters old new k ks b c (Ok fs) = cond (b && (c && are_monitored h fs k.requests)) (at_first (λ k. same_id h old k.id) (changed h new fs) ks) ks

  refused_filters : (old new : Data) (k : Watch) (ks : List Watch) (b c : Bool) (r : Result (List (List ℕ × Filter)) Error) → (b && c) ≡ false → ks ≡ with_filters old new k ks b c r
  refused_filters old new k ks b c (Err e) is = refl
  refused_filters old new k ks true true (Ok fs) is = absurd (true≢false is)
  refused_filters old new k ks true false (Ok fs) is = refl
  refused_filters old new k ks false c (Ok fs) is = refl

  abbrev found_filters : Data → Data → Data → List Watch → Option Watch → List Watch
  found_filters old new filters ks None = ks
  found_filters old new filters ks (Some k) = with_filters old new k ks (is_conditional k.notation) (same_id h old new || not (is_some (watched h new ks))) (h.read_filters filters)

  -- what the law says of a change, in these parts
  in_parts : (id old new filters : Data) (ks : List Watch) → asked_then h (message.change_filters id old new filters) ks ≡ found_filters old new filters ks (watched h old ks)
  in_parts id old new filters ks = by (watched h old ks) (h.read_filters filters)
    where
      inner : (k : Watch) (r : Result (List (List ℕ × Filter)) Error)
          → (elim r as (λ _. List Watch) [
            | Err e ↦ ks
            | Ok fs ↦ (cond (is_conditional k.notation && ((same_id h old new || not (is_some (watched h new ks))) && are_monitored h fs k.requests)) (at_first (λ k. same_id h old k.id) (changed h new fs) ks) ks)
          ]) ≡ with_filters old new k ks (is_conditional k.notation) (same_id h old new || not (is_some (watched h new ks))) r
      inner k (Err e) = refl
      inner k (Ok fs) = refl

      by : (o : Option Watch) (r : Result (List (List ℕ × Filter)) Error)
          → (elim o as (λ _. List Watch) [
            | None ↦ ks
            | Some k ↦ elim r as (λ _. List Watch) [
              | Err e ↦ ks
              | Ok fs ↦ (cond (is_conditional k.notation && ((same_id h old new || not (is_some (watched h new ks))) && are_monitored h fs k.requests)) (at_first (λ k. same_id h old k.id) (changed h new fs) ks) ks)
            ]
          ]) ≡ (elim o as (λ _. List Watch) [ None ↦ ks | Some k ↦ with_filters old new k ks (is_conditional k.notation) (same_id h old new || not (is_some (watched h new ks))) r ])
      by None r = refl
      by (Some k) r = inner k r

  not_new : (s t : Bool) → (not s && t) ≡ true → (s || not t) ≡ false
  not_new true t e = absurd (true≢false (sym e))
  not_new false true e = refl
  not_new false false e = absurd (true≢false (sym e))

  is_new : (s t : Bool) → (not s && t) ≡ false → (s || not t) ≡ true
  is_new true t e = refl
  is_new false true e = absurd (true≢false e)
  is_new false false e = refl

  none_of : (b c : Bool) → c ≡ false → (b && c) ≡ false
  none_of true c e = e
  none_of false c e = refl

  module _ (t : ℕ) (d id old new filters : Data) (w : World) where
    abbrev all : List Watch
    all = asked_of h (get w.sessions t)

    abbrev law : Asking
    law ks = asked_then h (message.change_filters id old new filters) ks

    -- a change that fails
    failing : (name : Failure) (o : Option Watch) → watched h old all ≡ o → all ≡ found_filters old new filters all o → Asks (at_one t law) w (fail t d name w)
    failing name o e same = same_at t law w (fail t d name w) (same ∙ ap (found_filters old new filters all) (sym e) ∙ sym (in_parts id old new filters all)) (fails t d name w)

    shifting : (k : Watch) → watched h old all ≡ Some k → is_conditional k.notation ≡ true → (same_id h old new || not (is_some (watched h new all))) ≡ true → (r : Result (List (List ℕ × Filter)) Error) → h.read_filters filters ≡ r
        → Asks (at_one t law) w (shift_with h t d old new k r w)
    shifting k e b c (Err x) is = failing (failed x) (Some k) e (λ j. with_filters old new k all (is_conditional k.notation) (same_id h old new || not (is_some (watched h new all))) (sym is j))
    shifting k e b c (Ok fs) is =
        elim (are_monitored h fs k.requests) as (λ m. are_monitored h fs k.requests ≡ m → Asks (at_one t law) w (cond m (post t (shift old fs ∷ renamed d old new fs ∷ []) w) (fail t d (failed syntax_error) w))) [
          | true ↦ λ m. own_as t (λ ks. at_first (λ k. same_id h old k.id) (changed h new fs) ks) law w (post t (shift old fs ∷ renamed d old new fs ∷ []) w)
              ((λ j. cond (sym b j && (sym c j && sym m j)) (at_first (λ k. same_id h old k.id) (changed h new fs) all) all)
              ∙ (λ j. with_filters old new k all (is_conditional k.notation) (same_id h old new || not (is_some (watched h new all))) (sym is j))
              ∙ ap (found_filters old new filters all) (sym e) ∙ sym (in_parts id old new filters all))
              (posts t (shift old fs ∷ renamed d old new fs ∷ []) w)
          | false ↦ λ m. failing (failed syntax_error) (Some k) e
              ((λ j. cond (sym b j && (sym c j && sym m j)) (at_first (λ k. same_id h old k.id) (changed h new fs) all) all)
              ∙ (λ j. with_filters old new k all (is_conditional k.notation) (same_id h old new || not (is_some (watched h new all))) (sym is j)))
        ] refl

    changes : (o : Option Watch) → watched h old all ≡ o → Asks (at_one t law) w (change_of h t d old new filters o w)
    changes None e = failing unknown_monitor None e refl
    changes (Some k) e =
        let n : Bool = same_id h old new || not (is_some (watched h new all)) in
        elim (is_conditional k.notation) as (λ b. is_conditional k.notation ≡ b → Asks (at_one t law) w (cond (not b) (fail t d unknown_monitor w) (cond (not (same_id h old new) && is_some (watched h new all)) (fail t d (failed syntax_error) w) (shift_with h t d old new k (h.read_filters filters) w)))) [
          | false ↦ λ b. failing unknown_monitor (Some k) e (refused_filters old new k all (is_conditional k.notation) n (h.read_filters filters) (ap (λ b. b && n) b))
          | true ↦ λ b. elim (not (same_id h old new) && is_some (watched h new all)) as (λ c. (not (same_id h old new) && is_some (watched h new all)) ≡ c → Asks (at_one t law) w (cond c (fail t d (failed syntax_error) w) (shift_with h t d old new k (h.read_filters filters) w))) [
            | true ↦ λ c. failing (failed syntax_error) (Some k) e (refused_filters old new k all (is_conditional k.notation) n (h.read_filters filters) (none_of (is_conditional k.notation) n (not_new (same_id h old new) (is_some (watched h new all)) c)))
            | false ↦ λ c. shifting k e b (is_new (same_id h old new) (is_some (watched h new all)) c) (h.read_filters filters) refl
          ] refl
        ] refl

  none_dropped : (i : Data) (ks : List Watch) → watched h i ks ≡ None → ks ≡ drop_first (λ k. same_id h i k.id) ks
  none_dropped i [] e = refl
  none_dropped i (k ∷ ks) e =
      elim (same_id h i k.id) as (λ b. cond b (Some k) (watched h i ks) ≡ None → k ∷ ks ≡ cond b ks (k ∷ drop_first (λ k. same_id h i k.id) ks)) [
        | true ↦ λ f. absurd (true≢false (ap is_some f))
        | false ↦ λ f. ap (λ xs. k ∷ xs) (none_dropped i ks f)
      ] e

  stops : (t : ℕ) (d id i : Data) (o : Option Watch) (w : World) → watched h i (asked_of h (get w.sessions t)) ≡ o → Asks (at_one t (then_ (message.cancel_monitor id i))) w (on_cancel_monitor h t d i o w)
  stops t d id i None w e = same_at t (then_ (message.cancel_monitor id i)) w (fail t d unknown_monitor w) (none_dropped i (asked_of h (get w.sessions t)) e) (fails t d unknown_monitor w)
  stops t d id i (Some k) w e = posts t (sync i ∷ stopped d i ∷ []) w

  locks : (t : ℕ) (d : Data) (result : Bool → Data) (a : Answered) (w : World) → Same w (on_lock h t d result a w)
  locks t d result (Err e) w = fails t d (failed (lock_error e)) w
  locks t d result (Ok l) w =
      let w0 : World = record w { locks = l.0 } in
      asks_then (λ s ks. ks) w (post_notices l.1 w0) (succeed t d (result l.2) (post_notices l.1 w0)) (notes l.1 w0) (answers t d (reply (id_of d) (result l.2)) (post_notices l.1 w0))

  same_law : (t : ℕ) (w v : World) → Same w v → Asks (at_one t (λ ks. ks)) w v
  same_law t w v a = asks_as (λ s ks. ks) (at_one t (λ ks. ks)) w v (λ s x _. sym (either_same (t == s) (asked h x))) a

  handles : (t : ℕ) (d : Data) (fresh : List Uuid) (c : Call) (w : World) → Asks (at_one t (then_ c)) w (handle h t d fresh c w)
  handles t d fresh (message.answered m) w = same_law t w (answer t d m w) (answers t d m w)
  handles t d fresh (message.transact id ops) w =
      let p : Waiting = record { session = t; request = d; operations = ops; fresh = fresh; arrival = w.now; deadline = None; tried = w.commits } in
      same_law t w (run_transaction h p w) (all_retried w (with_waiting h (λ ps o. ps ++ option_to_list o) w.waiting (attempt h p w)) (attempts p w))
  handles t d fresh (message.monitor id n i requests since) w = monitors t d id n i since requests w
  handles t d fresh (message.change_filters id old new filters) w = changes t d id old new filters w (watched h old (asked_of h (get w.sessions t))) refl
  handles t d fresh (message.cancel_monitor id i) w = stops t d id i (watched h i (asked_of h (get w.sessions t))) w refl
  handles t d fresh (message.lock id name) w = same_law t w (on_lock h t d (locked h) (lock w.locks t name) w) (locks t d (locked h) (lock w.locks t name) w)
  handles t d fresh (message.steal id name) w = same_law t w (on_lock h t d (locked h) (steal w.locks t name) w) (locks t d (locked h) (steal w.locks t name) w)
  handles t d fresh (message.unlock id name) w = same_law t w (on_lock h t d (λ b. no_result) (unlock w.locks t name) w) (locks t d (λ b. no_result) (unlock w.locks t name) w)
  handles t d fresh (message.cancel id) w = same_law t w (cancel_one h t (split_first (is_of h t id) w.waiting) w) (cancelled t (split_first (is_of h t id) w.waiting) w)
  handles t d fresh message.passed_over w = same_law t w w (stays w)

  -- ---- close, and rounds

  closes : (t : ℕ) (w : World) → Same w (close h t w)
  closes t w =
      let v : World = record w { locks = (drop_session w.locks t).0; sessions = remove w.sessions t; waiting = filter (λ p. not (p.session == t)) w.waiting } in
      asks_then (λ s ks. ks) w v (close h t w) removed (notes (drop_session w.locks t).1 v)
    where
      removed : Same w (record w { locks = (drop_session w.locks t).0; sessions = remove w.sessions t; waiting = filter (λ p. not (p.session == t)) w.waiting })
      removed s y found =
          elim (eq_by_cmp nat_cmp s t) as (λ b. cond b None (get w.sessions s) ≡ Some y → (x : Session) × (get w.sessions s ≡ Some x) × (asked h y ≡ asked h x)) [
            | true ↦ λ e. absurd (true≢false (sym (ap is_some e)))
            | false ↦ λ e. (y, e, refl)
          ] (sym (get-remove w.sessions t s) ∙ found)

  module _ where
    stop_asked : (o : Option Out) (x : Session) (rest : Option Out × Session) (ks : List Watch) → asked h x ≡ ks → asked h rest.1 ≡ ks → asked h (stop_at o x rest).1 ≡ ks
    stop_asked None x rest ks e f = f
    stop_asked (Some o) x rest ks e f = e

    from_asked : (revision : Revision) (q : List Item) (ms : List Monitor) → asked h (take_from h revision q ms).1 ≡ asked_after h q (map (λ m. m.watch) ms)
    from_asked revision [] ms = rest_watch h revision ms
    from_asked revision (i ∷ is) ms =
        stop_asked (gives h revision i ms) (record { queue = is; monitors = leaves h revision.db i ms }) (take_from h revision is (leaves h revision.db i ms)) (asked_after h is (asks h i (map (λ m. m.watch) ms)))
        (ap (asked_after h is) (leaves-asks h revision.db i ms)) (from_asked revision is (leaves h revision.db i ms) ∙ ap (asked_after h is) (leaves-asks h revision.db i ms))

    takes_one : (t : ℕ) (o : Option Session) (w : World) → get w.sessions t ≡ o → Same w (take_of h t o w).0
    takes_one t None w e s y found = (y, found, refl)
    takes_one t (Some x) w e s y found =
        elim (eq_by_cmp nat_cmp s t) as (λ b. eq_by_cmp nat_cmp s t ≡ b → cond b (Some (take h (revision_of w) x).1) (get w.sessions s) ≡ Some y → (z : Session) × (get w.sessions s ≡ Some z) × (asked h y ≡ asked h z)) [
          | true ↦ λ tie f. (x, ap (get w.sessions) (same_key s t tie) ∙ e, ap (asked h) (sym (some_is (take h (revision_of w) x).1 y f)) ∙ from_asked (revision_of w) x.queue x.monitors)
          | false ↦ λ _ f. (y, f, refl)
        ] refl (sym (get-insert w.sessions t (take h (revision_of w) x).1 s) ∙ found)

    takes_each : (ss : List ℕ) (w : World) → Same w (take_each h ss w).0
    takes_each [] w = stays w
    takes_each (t ∷ ss) w =
        let v : World = (take_of h t (get w.sessions t) w).0 in
        asks_then (λ s ks. ks) w v (take_each h ss v).0 (takes_one t (get w.sessions t) w refl) (takes_each ss v)

    -- ---- events

    abbrev Granted : Event → World → World → ℕ → Session → Session → Type 0
    Granted e w v s x y = get w.sessions s ≡ Some x → get v.sessions s ≡ Some y → asked h y ≡ asked_by h e s (asked h x)

    by_asks : (f : ℕ → Asking) (w v : World) (s : ℕ) (x y : Session) → Asks f w v → get w.sessions s ≡ Some x → get v.sessions s ≡ Some y → asked h y ≡ f s (asked h x)
    by_asks f w v s x y a here there =
        let z : (z : Session) × (get w.sessions s ≡ Some z) × (asked h y ≡ f s (asked h z)) = a s y there in
        z.2 ∙ ap (λ u. f s (asked h u)) (some_is z.0 x (sym z.1 ∙ here))

    others_open : (t : ℕ) (w : World) (s : ℕ) (x y : Session) → (t == s) ≡ false → get w.sessions s ≡ Some x → get (opened_world h t w).sessions s ≡ Some y → asked h y ≡ asked h x
    others_open t w s x y apart here there =
        elim (eq_by_cmp nat_cmp s t) as (λ b. eq_by_cmp nat_cmp s t ≡ b → cond b (Some (let x : Session = record { queue = []; monitors = [] } in x)) (get w.sessions s) ≡ Some y → asked h y ≡ asked h x) [
          | true ↦ λ tie _. absurd (true≢false (sym (eq-eqb t s (sym (same_key s t tie))) ∙ apart))
          | false ↦ λ _ f. ap (asked h) (some_is y x (sym f ∙ here))
        ] refl (sym (get-insert w.sessions t (record { queue = []; monitors = [] }) s) ∙ there)

    stepped_grants : (e : Event) (w : World) (r : World × List Sent) → Stepped h e w r → (s : ℕ) (x y : Session) → opens e s ≡ false → Granted e w r.0 s x y
    stepped_grants (opened t) w r is s x y apart = subst (λ (p : World × List Sent). Granted (opened t) w p.0 s x y) is.1 (others_open t w s x y apart)
    stepped_grants (submitted t d fresh now) w r is s x y apart =
        let c : Call = call_of h.db_name h.schema h.serves d in
        subst (λ (p : World × List Sent). Granted (submitted t d fresh now) w p.0 s x y) is.2 (by_asks (at_one t (then_ c)) (at_moment h now w) (handle h t d fresh c (at_moment h now w)) s x y (handles t d fresh c (at_moment h now w)))
    stepped_grants (ticked now) w r is s x y apart = subst (λ (p : World × List Sent). Granted (ticked now) w p.0 s x y) is (by_asks (λ s ks. ks) w (tick h now w) s x y (ticks now w))
    stepped_grants (closed t) w r is s x y apart = subst (λ (p : World × List Sent). Granted (closed t) w p.0 s x y) is (by_asks (λ s ks. ks) w (close h t w) s x y (closes t w))
    stepped_grants (round ss) w r is s x y apart = subst (λ (p : World × List Sent). Granted (round ss) w p.0 s x y) is (by_asks (λ s ks. ks) w (take_each h (once ss) w).0 s x y (takes_each (once ss) w))

    pub is_granted : IsGranted h
    is_granted st now e is s x y apart here there =
        let n : (r : World × List Sent) × Stepped h e st.world r × (after h e st r ≡ now) = next_is h e st now is in
        stepped_grants e st.world n.0 n.1 s x y apart here (ap (λ (m : State). get m.world.sessions s) n.2 ∙ there)
