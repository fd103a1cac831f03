-- The service as a machine: requests, transactions that wait, moments, and sessions that close. [P 6.3, 7.3, 9.1, 9.5, 9.6, 9.8, 10.1, 10.5, 11.2, 12.1, 12.2, 12.3, 12.4, 13.2]
use Rattle.std.specs.Prelude.{ℕ, zero, suc, ◌+◌, ◌*◌, ◌==◌, max, nat_le, length, Bool, true, false, not, ◌&&◌, if◌then◌else◌, List, [], ◌∷◌, ◌++◌, map, filter, find, count_by, Option, Some, None, is_some, option_map, option_to_list, Result, Ok, Err, codes, bytes_eq}
use Rattle.std.specs.List.{list_any, list_all}
use Rattle.std.specs.Ordering.{nat_cmp}
use Rattle.serde_json.specs.Data.{Data, string, boolean}
use Rattle.odb_rpc.specs.Message as message
use Rattle.odb_atoms.specs.FinMap.{FinMap, get, insert, remove}
use Rattle.odb_cond.specs.Filter.{Filter}
use Rattle.odb_service.specs.Service.{Outcome, Service, ended, waiting}
use Rattle.odb_service.specs.Session.{Earlier, Item, Revision, Session, Watch, asked, no_request, no_result, renamed, replies_in, same_id, say, shift, start, stopped, sync, to, with_content}
use Rattle.odb_wire.specs.Message.{id_of}
use Rattle.odb_locks.specs.Locks.{Answered, Locks, Notice, drop_session, lock, owns, steal, unlock}
use Rattle.odb_monitor.specs.Update.{one}
use Rattle.odb_request.specs.Request.{Notation, Request, is_conditional, update, update2}
use Rattle.odb_rpc.specs.Message.{Call, call_of, failure, has_reply, notification, reply}
use Rattle.odb_tables.specs.Database.{Db}
use Rattle.odb_atoms.specs.Uuid.{Uuid}
use Rattle.odb_atoms.specs.Error.{Error, syntax_error, resources_exhausted}
use Rattle.odb_rpc.specs.Message.{Failure, failed, unknown_monitor, canceled}
use Rattle.odb_locks.specs.Locks.{LockFault, out_of_turn, too_many_names}

-- a transaction that waits: its request, and the number of commits when it was tried last
pub record Waiting : Type 0 where
  pub session : ℕ
  pub request : Data
  pub operations : List Data
  pub fresh : List Uuid
  pub arrival : ℕ
  pub deadline : Option ℕ
  pub tried : ℕ

pub record World : Type 0 where
  pub db : Db
  pub commits : ℕ
  pub earlier : Earlier
  pub now : ℕ
  pub waiting : List Waiting
  pub locks : Locks
  pub sessions : FinMap nat_cmp Session

-- as its takings look at it
abbrev pub revision_of : World → Revision
revision_of w = record { db = w.db; commits = w.commits; earlier = w.earlier }

-- items go to the end of an open session's queue
abbrev pub push : List Item → Session → Session
push is s = record { queue = s.queue ++ is; monitors = s.monitors }

abbrev pub post_to : ℕ → List Item → Option Session → World → World
post_to s is None w = w
post_to s is (Some x) w = record w { sessions = insert w.sessions s (push is x) }

abbrev pub post : ℕ → List Item → World → World
post s is w = post_to s is (get w.sessions s) w

abbrev pub notice_of : Notice → Data
notice_of n = notification (if n.stolen then codes "stolen" else codes "locked") (string n.name ∷ [])

abbrev pub post_notices : List Notice → World → World
post_notices [] w = w
post_notices (n ∷ ns) w = post_notices ns (post n.session (say no_request (notice_of n) ∷ []) w)

-- a finished answer to a request
abbrev pub answer : ℕ → Data → Data → World → World
answer s d text w = post s (say (to d) text ∷ []) w

abbrev pub succeed : ℕ → Data → Data → World → World
succeed s d result w = answer s d (reply (id_of d) result) w

abbrev pub fail : ℕ → Data → Failure → World → World
fail s d name w = answer s d (failure (id_of d) name) w

-- the first element that passes the test, with what stands before it and after it
abbrev pub split_first : {A : Type 0} → (A → Bool) → List A → Option (List A × A × List A)
split_first p [] = None
split_first p (x ∷ xs) = if p x then Some ([], x, xs) else option_map (λ t. (x ∷ t.0, t.1, t.2)) (split_first p xs)

abbrev pub is_untried : ℕ → Waiting → Bool
is_untried commits p = not (p.tried == commits)

-- a deadline that has come
abbrev pub is_due : ℕ → Option ℕ → Bool
is_due now None = false
is_due now (Some t) = nat_le t now

-- what a refused lock is answered
abbrev pub lock_error : LockFault → Error
lock_error out_of_turn = syntax_error
lock_error too_many_names = resources_exhausted

module _ (h : Service) where
  abbrev pub asked_of : Option Session → List Watch
  asked_of None = []
  asked_of (Some x) = asked h x

  abbrev pub watched : Data → List Watch → Option Watch
  watched i ks = find (λ k. same_id h i k.id) ks

  -- ---- transactions

  -- the reply, after one Sync for each monitor of the session where the database changed
  abbrev pub end_transaction : ℕ → Data → Data → Option Db → World → World
  end_transaction s d results None w = succeed s d results w
  end_transaction s d results (Some db) w =
      post s (map (λ k. sync k.id) (asked_of (get w.sessions s)) ++ say (to d) (reply (id_of d) results) ∷ []) (record w { db = db; commits = w.commits + 1; earlier = with_content w.db w.earlier })

  abbrev pub on_outcome : Waiting → Outcome → World → World × Option Waiting
  on_outcome p (ended results changed) w = (end_transaction p.session p.request results changed w, None)
  on_outcome p (waiting deadline) w = (w, Some (record p { deadline = deadline; tried = w.commits }))

  -- tries a transaction, which ends or waits
  abbrev pub attempt : Waiting → World → World × Option Waiting
  attempt p w = on_outcome p (h.transact w.db (w.commits + 1) p.operations (record { fresh = p.fresh; arrival = p.arrival; now = w.now; owns = owns w.locks p.session })) w

  abbrev pub with_waiting : (List Waiting → Option Waiting → List Waiting) → List Waiting → World × Option Waiting → World
  with_waiting f ps r = record (r.0) { waiting = f ps r.1 }

  -- the one that waits again stays where it was
  abbrev pub try_one : List Waiting × Waiting × List Waiting → World → World
  try_one t w = with_waiting (λ ps o. t.0 ++ option_to_list o ++ t.2) w.waiting (attempt t.1 w)

  -- the earliest one that wasn't tried since the newest commit
  abbrev pub untried : World → Option (List Waiting × Waiting × List Waiting)
  untried w = split_first (is_untried w.commits) w.waiting

  -- while there is such a one it is tried; each try ends one or marks one
  abbrev pub retry : ℕ → World → World
  retry zero w = w
  retry (suc n) w = elim (untried w) [ None ↦ w | Some t ↦ retry n (try_one t w) ]

  abbrev pub retry_all : World → World
  retry_all w = retry ((length w.waiting + 1) * (length w.waiting + 1)) w

  -- a new transaction is tried, and waits after the others if it has to
  abbrev pub run_transaction : Waiting → World → World
  run_transaction p w = retry_all (with_waiting (λ ps o. ps ++ option_to_list o) w.waiting (attempt p w))

  -- the ones whose deadline has come are tried once each, in order of arrival
  abbrev pub try_due : List Waiting → World → World
  try_due [] w = w
  try_due (p ∷ ps) w =
      try_due ps (if is_due w.now p.deadline then with_waiting (λ ps o. ps ++ option_to_list o) w.waiting (attempt p w)
      else record w { waiting = w.waiting ++ p ∷ [] })

  abbrev pub at_moment : ℕ → World → World
  at_moment now w = record w { now = max w.now now }

  abbrev pub tick : ℕ → World → World
  tick now w = retry_all (try_due w.waiting (record (at_moment now w) { waiting = [] }))

  -- the earliest waiting transaction of the session with that id
  abbrev pub is_of : ℕ → Data → Waiting → Bool
  is_of s id p = (p.session == s) && same_id h id (id_of p.request)

  abbrev pub cancel_one : ℕ → Option (List Waiting × Waiting × List Waiting) → World → World
  cancel_one s None w = w
  cancel_one s (Some t) w = fail s t.1.request canceled (record w { waiting = t.0 ++ t.2 })

  abbrev pub cancel : ℕ → Data → World → World
  cancel s id w = cancel_one s (split_first (is_of s id) w.waiting) w

  -- ---- monitors

  abbrev pub start_with : ℕ → Data → Notation → Data → Option Uuid → Result (List Request) Error → World → World
  start_with s d n i since (Err e) w = fail s d (failed e) w
  start_with s d n i since (Ok qs) w = post s (start d (record { id = i; notation = n; requests = qs; since = since }) ∷ []) w

  abbrev pub on_monitor : ℕ → Data → Notation → Data → Option Uuid → Data → World → World
  on_monitor s d n i since requests w =
      if is_some (watched i (asked_of (get w.sessions s))) then fail s d (failed syntax_error) w
      else start_with s d n i since (h.read_requests n requests) w

  -- every table that is named is one of the monitor's
  abbrev pub are_monitored : List (List ℕ × Filter) → List Request → Bool
  are_monitored fs qs = list_all (λ f. list_any (λ q. bytes_eq f.0 q.shape.name) qs) fs

  abbrev pub shift_with : ℕ → Data → Data → Data → Watch → Result (List (List ℕ × Filter)) Error → World → World
  shift_with s d old new k (Err e) w = fail s d (failed e) w
  shift_with s d old new k (Ok fs) w =
      if are_monitored fs k.requests then post s (shift old fs ∷ renamed d old new fs ∷ []) w
      else fail s d (failed syntax_error) w

  abbrev pub change_of : ℕ → Data → Data → Data → Data → Option Watch → World → World
  change_of s d old new filters None w = fail s d unknown_monitor w
  change_of s d old new filters (Some k) w =
      if not (is_conditional k.notation) then fail s d unknown_monitor w
      else (if not (same_id h old new) && is_some (watched new (asked_of (get w.sessions s))) then fail s d (failed syntax_error) w
      else shift_with s d old new k (h.read_filters filters) w)

  abbrev pub on_cancel_monitor : ℕ → Data → Data → Option Watch → World → World
  on_cancel_monitor s d i None w = fail s d unknown_monitor w
  on_cancel_monitor s d i (Some k) w = post s (sync i ∷ stopped d i ∷ []) w

  -- ---- locks

  abbrev pub on_lock : ℕ → Data → (Bool → Data) → Answered → World → World
  on_lock s d result (Err e) w = fail s d (failed (lock_error e)) w
  on_lock s d result (Ok l) w = succeed s d (result l.2) (post_notices l.1 (record w { locks = l.0 }))

  abbrev pub locked : Bool → Data
  locked b = one (codes "locked") (boolean b)

  -- ---- requests

  -- the call is what the request d asks
  abbrev pub handle : ℕ → Data → List Uuid → Call → World → World
  handle s d fresh (message.answered text) w = answer s d text w
  handle s d fresh (message.transact id ops) w = run_transaction (record { session = s; request = d; operations = ops; fresh = fresh; arrival = w.now; deadline = None; tried = w.commits }) w
  handle s d fresh (message.monitor id n i requests since) w = on_monitor s d n i since requests w
  handle s d fresh (message.change_filters id old new filters) w = change_of s d old new filters (watched old (asked_of (get w.sessions s))) w
  handle s d fresh (message.cancel_monitor id i) w = on_cancel_monitor s d i (watched i (asked_of (get w.sessions s))) w
  handle s d fresh (message.lock id name) w = on_lock s d locked (lock w.locks s name) w
  handle s d fresh (message.steal id name) w = on_lock s d locked (steal w.locks s name) w
  handle s d fresh (message.unlock id name) w = on_lock s d (λ b. no_result) (unlock w.locks s name) w
  handle s d fresh (message.cancel id) w = cancel s id w
  handle s d fresh message.passed_over w = w

  -- a session's claims are released, and its monitors, waiting transactions and queue are gone
  abbrev pub close : ℕ → World → World
  close s w =
      let l = drop_session w.locks s in
      post_notices l.1 (record w { locks = l.0; sessions = remove w.sessions s; waiting = filter (λ p. not (p.session == s)) w.waiting })

  -- replies that are queued or wait
  abbrev pub owed_replies : ℕ → Session → World → ℕ
  owed_replies s x w = replies_in x.queue + count_by (λ p. p.session == s) w.waiting
