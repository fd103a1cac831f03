-- What the monitors of a server's sessions ask is of its schema, whatever happens: the requests that are read are, and no event makes others.
use Rattle.std.proofs.Common.{◌≡◌, ℕ, zero, suc, ◌+◌, ◌*◌, ◌==◌, Bool, true, false, cond, not, ◌&&◌, List, [], ◌∷◌, ◌++◌, length, map, codes, Option, Some, None, is_some, Result, Ok, Err, refl, sym, ap, subst, ◌∙◌}
use Rattle.std.specs.Prelude.{filter, ok_or, option_to_list}
use Rattle.std.specs.List.{AllByRecursion}
use Rattle.std.specs.Ordering.{eq_by_cmp, is_lt, nat_cmp}
use Rattle.std.proofs.lemmas.Option.{none-some, same_Some}
use Rattle.odb_atoms.specs.Error.{Error, syntax_error, unknown_table}
use Rattle.odb_atoms.specs.FinMap.{empty, get, insert, remove}
use Rattle.odb_atoms.specs.First.{each}
use Rattle.odb_atoms.specs.Row.{Selector}
use Rattle.odb_atoms.specs.Text.{text_cmp}
use Rattle.odb_atoms.specs.Uuid.{Uuid}
use Rattle.odb_cond.specs.Filter.{Filter}
use Rattle.odb_json.specs.Operation.{read_columns}
use Rattle.odb_locks.specs.Locks.{Answered, Notice, drop_session, lock, steal, unlock}
use Rattle.odb_request.proofs.Tables.{found_named}
use Rattle.odb_request.specs.Represented.Shape.{table_name}
use Rattle.odb_request.specs.Request.{Column, Notation, Request, is_conditional}
use Rattle.odb_request.specs.Requests.{all_but_uuid, are_named, in_order, known_members, monitored, no_other, place_column, read_monitored, read_request, read_requests, read_select, read_where_of, request_object, requests_in}
use Rattle.odb_rpc.specs.Message as message
use Rattle.odb_rpc.specs.Message.{Call, Failure, canceled, failed, failure, reply, unknown_monitor}
use Rattle.odb_schema.proofs.Holds.{Holds, in_read, none_read, read_in, tested_holds, then_holds, with_holds}
use Rattle.odb_schema.specs.Json.{Data, as_object, get_member, members_list}
use Rattle.odb_schema.specs.Schema as schema
use Rattle.odb_schema.specs.Schema.{Schema, columns_at, table_place}
use Rattle.odb_service.proofs.SessionMaps.{get-empty, get-insert, get-remove}
use Rattle.odb_service.proofs.Splits.{Split}
use Rattle.odb_service.specs.Run.{take_each, take_of}
use Rattle.odb_service.specs.Server.{served_by}
use Rattle.odb_service.specs.Service.{Outcome, Service, ended, waiting}
use Rattle.odb_service.specs.Session.{Item, Monitor, Out, Revision, Session, Watch, at_first, begun, brought, changed, drop_first, filter_of, gives, has_id, leaves, no_request, no_result, refilter, renamed, same_id, say, shift, start, stop_at, stopped, sync, take, take_from, take_rest, to, update_to, with_content}
use Rattle.odb_service.specs.World.{Waiting, World, answer, are_monitored, asked_of, at_moment, attempt, cancel_one, change_of, close, end_transaction, fail, handle, is_due, is_of, lock_error, locked, notice_of, on_cancel_monitor, on_lock, on_monitor, on_outcome, post, post_notices, post_to, push, retry, retry_all, revision_of, shift_with, split_first, start_with, tick, try_due, try_one, untried, watched, with_waiting}
use Rattle.odb_sessions.specs.Book.{Sessions}
use Rattle.odb_round.specs.OfSchema.{AreOfSchema, AreSessionsOf, IsItemOf, IsMonitorOf, IsOfSchema, IsSessionOf}
use Rattle.odb_tables.specs.Database.{Db}
use Rattle.odb_wire.specs.Message.{id_of}

all_joined : {X : Type 0} (P : X → Type 0) (xs ys : List X) → AllByRecursion P xs → AllByRecursion P ys → AllByRecursion P (xs ++ ys)
all_joined P [] ys h k = k
all_joined P (x ∷ xs) ys h k = (h.0, all_joined P xs ys h.1 k)

-- ---- requests that are read

-- the schema has it so
abbrev IsOwn : List schema.Column → Column → Type 0
IsOwn cs c = monitored cs c.source ≡ c

own_made : (cs : List schema.Column) (ss : List Selector) → AllByRecursion (IsOwn cs) (map (monitored cs) ss)
own_made cs [] = tt
own_made cs (s ∷ ss) = (refl, own_made cs ss)

own_placed : (cs : List schema.Column) (c : Column) (ds : List Column) → IsOwn cs c → AllByRecursion (IsOwn cs) ds → AllByRecursion (IsOwn cs) (place_column c ds)
own_placed cs c [] own h = (own, tt)
own_placed cs c (d ∷ ds) own h = by (is_lt (text_cmp c.name d.name)) (own_placed cs c ds own h.1)
  where
    by : (b : Bool) → AllByRecursion (IsOwn cs) (place_column c ds) → AllByRecursion (IsOwn cs) (cond b (c ∷ d ∷ ds) (d ∷ place_column c ds))
    by true rest = (own, h)
    by false rest = (h.0, rest)

own_ordered : (cs : List schema.Column) (ds : List Column) → AllByRecursion (IsOwn cs) ds → AllByRecursion (IsOwn cs) (in_order ds)
own_ordered cs [] h = tt
own_ordered cs (d ∷ ds) h = own_placed cs d (in_order ds) h.0 (own_ordered cs ds h.1)

own_columns : (cs : List schema.Column) (ds : List Column) → AllByRecursion (IsOwn cs) ds → ds ≡ map (monitored cs) (map (λ c. c.source) ds)
own_columns cs [] h = refl
own_columns cs (d ∷ ds) h = λ i. sym h.0 i ∷ own_columns cs ds h.1 i

columns_of : (cs : List schema.Column) (o : Option Data) → Holds (AllByRecursion (IsOwn cs)) (read_monitored cs o)
columns_of cs None =
    then_holds (AllByRecursion (IsOwn cs)) (read_columns cs None) _ (λ all.
    read_in Error (AllByRecursion (IsOwn cs)) (in_order (map (monitored cs) (all_but_uuid all))) (own_ordered cs (map (monitored cs) (all_but_uuid all)) (own_made cs (all_but_uuid all))))
columns_of cs (Some d) =
    then_holds (AllByRecursion (IsOwn cs)) (read_columns cs (Some d)) _ (λ some.
    read_in Error (AllByRecursion (IsOwn cs)) (in_order (map (monitored cs) some)) (own_ordered cs (map (monitored cs) some) (own_made cs some)))

module _ (s : Schema) where
  found : (name : List ℕ) (o : Option ℕ) → ((t : ℕ) → o ≡ Some t → table_name s t ≡ name) → Holds (λ p. table_name s p ≡ name) (ok_or o unknown_table)
  found name None h = none_read (λ p. table_name s p ≡ name) unknown_table
  found name (Some t) h = read_in Error (λ p. table_name s p ≡ name) t (h t refl)

  module _ (n : Notation) where
    one_of : (e : List ℕ × Data) → Holds (IsOfSchema s) (read_request s n e)
    one_of e =
        with_holds (λ p. table_name s p ≡ e.0) (IsOfSchema s) (ok_or (table_place s e.0) unknown_table) _ (found e.0 (table_place s e.0) (λ t i. found_named s e.0 t i)) (λ place named.
        then_holds (IsOfSchema s) (request_object e.1) _ (λ ms.
        with_holds (AllByRecursion (IsOwn (columns_at s place))) (IsOfSchema s) (read_monitored (columns_at s place) (get_member (codes "columns") ms)) _ (columns_of (columns_at s place) (get_member (codes "columns") ms)) (λ columns own.
        then_holds (IsOfSchema s) (read_where_of n (columns_at s place) ms) _ (λ filter.
        then_holds (IsOfSchema s) (read_select (get_member (codes "select") ms)) _ (λ select.
        tested_holds (IsOfSchema s) (no_other (known_members n) ms) _
        (read_in Error (IsOfSchema s) (record { shape = record { name = e.0; columns = columns }; place = place; select = select; filter = filter })
        (λ i. record { shape = record { name = sym named i; columns = own_columns (columns_at s place) columns own i }; place = place; select = select; filter = filter })))))))

    all_of : (ms : List (List ℕ × Data)) → Holds (AreOfSchema s) (each (read_request s n) ms)
    all_of [] = read_in Error (AreOfSchema s) [] tt
    all_of (m ∷ ms) =
        with_holds (IsOfSchema s) (AreOfSchema s) (read_request s n m) _ (one_of m) (λ q first.
        with_holds (AreOfSchema s) (AreOfSchema s) (each (read_request s n) ms) _ (all_of ms) (λ qs rest.
        read_in Error (AreOfSchema s) (q ∷ qs) (first, rest)))

    named_so : (qs : List Request) (b : Bool) → AreOfSchema s qs → Holds (AreOfSchema s) (let r : Result (List Request) Error = cond b (Ok qs) (Err syntax_error) in r)
    named_so qs true of = read_in Error (AreOfSchema s) qs of
    named_so qs false of = none_read (AreOfSchema s) syntax_error

    reads_of : (d : Data) → Holds (AreOfSchema s) (read_requests s n d)
    reads_of d =
        with_holds (AreOfSchema s) (AreOfSchema s) (requests_in s n d) _
        (then_holds (AreOfSchema s) (ok_or (as_object d) syntax_error) _ (λ ms. all_of (members_list ms)))
        (λ qs of. named_so qs (are_named qs) of)

    pub read_of : (d : Data) (qs : List Request) → read_requests s n d ≡ Ok qs → AreOfSchema s qs
    read_of d qs e = in_read Error (AreOfSchema s) qs (subst (Holds (AreOfSchema s)) e (reads_of d))

-- ---- sessions

module _ (s : Schema) where
  abbrev h : Service
  h = served_by s

  pub none_of : AreSessionsOf s empty
  none_of q x e = absurd (none-some x (sym (get-empty q) ∙ e))

  pub put_of : (m : Sessions) (n : ℕ) (y : Session) → IsSessionOf s y → AreSessionsOf s m → AreSessionsOf s (insert m n y)
  put_of m n y own of q x e = by (eq_by_cmp nat_cmp q n) (sym (get-insert m n y q) ∙ e)
    where
      by : (b : Bool) → cond b (Some y) (get m q) ≡ Some x → IsSessionOf s x
      by true is = subst (IsSessionOf s) (same_Some y x is) own
      by false is = of q x is

  without_of : (m : Sessions) (n : ℕ) → AreSessionsOf s m → AreSessionsOf s (remove m n)
  without_of m n of q x e = by (eq_by_cmp nat_cmp q n) (sym (get-remove m n q) ∙ e)
    where
      by : (b : Bool) → cond b None (get m q) ≡ Some x → IsSessionOf s x
      by true is = absurd (none-some x is)
      by false is = of q x is

  abbrev pub Keeps : World → World → Type 0
  Keeps w v = AreSessionsOf s w.sessions → AreSessionsOf s v.sessions

  -- ---- what only posts

  pub posts : (n : ℕ) (is : List Item) (w : World) → AllByRecursion (IsItemOf s) is → Keeps w (post n is w)
  posts n is w all of = by (get w.sessions n) refl
    where
      by : (o : Option Session) → get w.sessions n ≡ o → AreSessionsOf s (post_to n is o w).sessions
      by None e = of
      by (Some x) e = let x_of : IsSessionOf s x = of n x e in put_of w.sessions n (push is x) (all_joined (IsItemOf s) x.queue is x_of.0 all, x_of.1) of

  pub answers : (n : ℕ) (d m : Data) (w : World) → Keeps w (answer n d m w)
  answers n d m w = posts n (say (to d) m ∷ []) w (tt, tt)

  fails : (n : ℕ) (d : Data) (name : Failure) (w : World) → Keeps w (fail n d name w)
  fails n d name w = answers n d (failure (id_of d) name) w

  pub notes : (ns : List Notice) (w : World) → Keeps w (post_notices ns w)
  notes [] w of = of
  notes (n ∷ ns) w of = notes ns (post n.session (say no_request (notice_of n) ∷ []) w) (posts n.session (say no_request (notice_of n) ∷ []) w (tt, tt) of)

  either : (b : Bool) (x y w : World) → Keeps w x → Keeps w y → Keeps w (cond b x y)
  either true x y w e f = e
  either false x y w e f = f

  starts : (n : ℕ) (d : Data) (k : Notation) (i : Data) (since : Option Uuid) (r : Result (List Request) Error) (w : World) → ((qs : List Request) → r ≡ Ok qs → AreOfSchema s qs) → Keeps w (start_with h n d k i since r w)
  starts n d k i since (Err e) w read = fails n d (failed e) w
  starts n d k i since (Ok qs) w read = posts n (start d (record { id = i; notation = k; requests = qs; since = since }) ∷ []) w (read qs refl, tt)

  monitors : (n : ℕ) (d : Data) (k : Notation) (i : Data) (since : Option Uuid) (requests : Data) (w : World) → Keeps w (on_monitor h n d k i since requests w)
  monitors n d k i since requests w =
      either (is_some (watched h i (asked_of h (get w.sessions n)))) (fail n d (failed syntax_error) w) (start_with h n d k i since (h.read_requests k requests) w) w
      (fails n d (failed syntax_error) w) (starts n d k i since (h.read_requests k requests) w (read_of s k requests))

  shifts : (n : ℕ) (d old new : Data) (k : Watch) (r : Result (List (List ℕ × Filter)) Error) (w : World) → Keeps w (shift_with h n d old new k r w)
  shifts n d old new k (Err e) w = fails n d (failed e) w
  shifts n d old new k (Ok fs) w =
      either (are_monitored h fs k.requests) (post n (shift old fs ∷ renamed d old new fs ∷ []) w) (fail n d (failed syntax_error) w) w
      (posts n (shift old fs ∷ renamed d old new fs ∷ []) w (tt, (tt, tt))) (fails n d (failed syntax_error) w)

  changes : (n : ℕ) (d old new filters : Data) (o : Option Watch) (w : World) → Keeps w (change_of h n d old new filters o w)
  changes n d old new filters None w = fails n d unknown_monitor w
  changes n d old new filters (Some k) w =
      let c : World = cond (not (same_id h old new) && is_some (watched h new (asked_of h (get w.sessions n)))) (fail n d (failed syntax_error) w) (shift_with h n d old new k (h.read_filters filters) w) in
      either (not (is_conditional k.notation)) (fail n d unknown_monitor w) c w
      (fails n d unknown_monitor w)
      (either (not (same_id h old new) && is_some (watched h new (asked_of h (get w.sessions n)))) (fail n d (failed syntax_error) w) (shift_with h n d old new k (h.read_filters filters) w) w
      (fails n d (failed syntax_error) w) (shifts n d old new k (h.read_filters filters) w))

  cancels : (n : ℕ) (d i : Data) (o : Option Watch) (w : World) → Keeps w (on_cancel_monitor h n d i o w)
  cancels n d i None w = fails n d unknown_monitor w
  cancels n d i (Some k) w = posts n (sync i ∷ stopped d i ∷ []) w (tt, (tt, tt))

  locks : (n : ℕ) (d : Data) (result : Bool → Data) (a : Answered) (w : World) → Keeps w (on_lock h n d result a w)
  locks n d result (Err e) w of = fails n d (failed (lock_error e)) w of
  locks n d result (Ok l) w of = answers n d (reply (id_of d) (result l.2)) (post_notices l.1 (record w { locks = l.0 })) (notes l.1 (record w { locks = l.0 }) of)

  -- ---- transactions

  syncs : (ks : List Watch) → AllByRecursion (IsItemOf s) (map (λ (k : Watch). sync k.id) ks)
  syncs [] = tt
  syncs (k ∷ ks) = (tt, syncs ks)

  pub ends : (n : ℕ) (d results : Data) (o : Option Db) (w : World) → Keeps w (end_transaction h n d results o w)
  ends n d results None w = answers n d (reply (id_of d) results) w
  ends n d results (Some db) w =
      let ks : List Watch = asked_of h (get w.sessions n) in
      posts n (map (λ (k : Watch). sync k.id) ks ++ say (to d) (reply (id_of d) results) ∷ []) (record w { db = db; commits = w.commits + 1; earlier = with_content w.db w.earlier })
      (all_joined (IsItemOf s) (map (λ (k : Watch). sync k.id) ks) (say (to d) (reply (id_of d) results) ∷ []) (syncs ks) (tt, tt))

  outcomes : (p : Waiting) (o : Outcome) (w : World) → Keeps w (on_outcome h p o w).0
  outcomes p (ended results new) w of = ends p.session p.request results new w of
  outcomes p (waiting deadline) w of = of

  attempts : (p : Waiting) (w : World) → Keeps w (attempt h p w).0
  attempts p w = outcomes p _ w

  retries : (n : ℕ) (w : World) → Keeps w (retry h n w)
  retries zero w = λ of. of
  retries (suc n) w =
      elim (untried h w) as (λ o. Keeps w (elim o as (λ _. World) [ None ↦ w | Some t ↦ retry h n (try_one h t w) ])) [
        | None ↦ λ of. of
        | Some t ↦ λ of. retries n (try_one h t w) (attempts t.1 w of)
      ]

  pub retries_all : (w : World) → Keeps w (retry_all h w)
  retries_all w = retries ((length w.waiting + 1) * (length w.waiting + 1)) w

  pub dues : (ps : List Waiting) (w : World) → Keeps w (try_due h ps w)
  dues [] w = λ of. of
  dues (p ∷ ps) w =
      elim (is_due w.now p.deadline) as (λ b. Keeps w (try_due h ps (cond b (with_waiting h (λ ps o. ps ++ option_to_list o) w.waiting (attempt h p w)) (record w { waiting = w.waiting ++ p ∷ [] })))) [
        | true ↦ λ of. dues ps (with_waiting h (λ ps o. ps ++ option_to_list o) w.waiting (attempt h p w)) (attempts p w of)
        | false ↦ λ of. dues ps (record w { waiting = w.waiting ++ p ∷ [] }) of
      ]

  pub ticks_of : (now : ℕ) (w : World) → Keeps w (tick h now w)
  ticks_of now w of = let w0 : World = record (at_moment h now w) { waiting = [] } in retries_all (try_due h w.waiting w0) (dues w.waiting w0 of)

  cancelled : (n : ℕ) (o : Option (Split Waiting)) (w : World) → Keeps w (cancel_one h n o w)
  cancelled n None w of = of
  cancelled n (Some t) w of = fails n t.1.request canceled (record w { waiting = t.0 ++ t.2 }) of

  pub handles_of : (n : ℕ) (d : Data) (fresh : List Uuid) (c : Call) (w : World) → Keeps w (handle h n d fresh c w)
  handles_of n d fresh (message.answered m) w = answers n d m w
  handles_of n d fresh (message.transact id ops) w = λ of.
      let p : Waiting = record { session = n; request = d; operations = ops; fresh = fresh; arrival = w.now; deadline = None; tried = w.commits } in
      retries_all (with_waiting h (λ ps o. ps ++ option_to_list o) w.waiting (attempt h p w)) (attempts p w of)
  handles_of n d fresh (message.monitor id k i requests since) w = monitors n d k i since requests w
  handles_of n d fresh (message.change_filters id old new filters) w = changes n d old new filters (watched h old (asked_of h (get w.sessions n))) w
  handles_of n d fresh (message.cancel_monitor id i) w = cancels n d i (watched h i (asked_of h (get w.sessions n))) w
  handles_of n d fresh (message.lock id name) w = locks n d (locked h) (lock w.locks n name) w
  handles_of n d fresh (message.steal id name) w = locks n d (locked h) (steal w.locks n name) w
  handles_of n d fresh (message.unlock id name) w = locks n d (λ b. no_result) (unlock w.locks n name) w
  handles_of n d fresh (message.cancel id) w = cancelled n (split_first (is_of h n id) w.waiting) w
  handles_of n d fresh message.passed_over w = λ of. of

  pub closes_of : (n : ℕ) (w : World) → Keeps w (close h n w)
  closes_of n w of =
      let v : World = record w { locks = (drop_session w.locks n).0; sessions = remove w.sessions n; waiting = filter (λ p. not (p.session == n)) w.waiting } in
      notes (drop_session w.locks n).1 v (without_of w.sessions n of)

  -- ---- takings

  refiltered : (fs : List (List ℕ × Filter)) (qs : List Request) → AreOfSchema s qs → AreOfSchema s (refilter fs qs)
  refiltered fs [] of = tt
  refiltered fs (q ∷ qs) of = (ap (λ (r : Request). record r { filter = filter_of fs q.shape.name q.filter }) of.0, refiltered fs qs of.1)

  at_one : (p : Monitor → Bool) (f : Monitor → Monitor) (ms : List Monitor) → ((m : Monitor) → IsMonitorOf s m → IsMonitorOf s (f m)) → AllByRecursion (IsMonitorOf s) ms → AllByRecursion (IsMonitorOf s) (at_first p f ms)
  at_one p f [] keeps of = tt
  at_one p f (m ∷ ms) keeps of = by (p m) (at_one p f ms keeps of.1)
    where
      by : (b : Bool) → AllByRecursion (IsMonitorOf s) (at_first p f ms) → AllByRecursion (IsMonitorOf s) (cond b (f m ∷ ms) (m ∷ at_first p f ms))
      by true rest = (keeps m of.0, of.1)
      by false rest = (of.0, rest)

  dropped : (p : Monitor → Bool) (ms : List Monitor) → AllByRecursion (IsMonitorOf s) ms → AllByRecursion (IsMonitorOf s) (drop_first p ms)
  dropped p [] of = tt
  dropped p (m ∷ ms) of = by (p m) (dropped p ms of.1)
    where
      by : (b : Bool) → AllByRecursion (IsMonitorOf s) (drop_first p ms) → AllByRecursion (IsMonitorOf s) (cond b ms (m ∷ drop_first p ms))
      by true rest = of.1
      by false rest = (of.0, rest)

  left_of : (db : Db) (i : Item) (ms : List Monitor) → IsItemOf s i → AllByRecursion (IsMonitorOf s) ms → AllByRecursion (IsMonitorOf s) (leaves h db i ms)
  left_of db (say a d) ms own of = of
  left_of db (start d k) ms own of = all_joined (IsMonitorOf s) ms (begun h db k ∷ []) of (own, tt)
  left_of db (sync i) ms own of = at_one (has_id h i) (λ (m : Monitor). brought h db m.watch.requests m) ms (λ m f. f) of
  left_of db (shift i fs) ms own of = at_one (has_id h i) (λ (m : Monitor). brought h db (refilter fs m.watch.requests) m) ms (λ m f. f) of
  left_of db (renamed d old new fs) ms own of = at_one (has_id h old) (λ (m : Monitor). record m { watch = changed h new fs m.watch }) ms (λ m f. refiltered fs m.watch.requests f) of
  left_of db (stopped d i) ms own of = dropped (has_id h i) ms of

  rests_of : (revision : Revision) (ms : List Monitor) → AllByRecursion (IsMonitorOf s) ms → AllByRecursion (IsMonitorOf s) (take_rest h revision ms).1
  rests_of revision [] of = tt
  rests_of revision (m ∷ ms) of = by (update_to h revision m.watch.requests m) (rests_of revision ms of.1)
    where
      by : (o : Option Out) → AllByRecursion (IsMonitorOf s) (take_rest h revision ms).1 → AllByRecursion (IsMonitorOf s) (stop_at o (brought h revision.db m.watch.requests m ∷ ms) ((take_rest h revision ms).0, brought h revision.db m.watch.requests m ∷ (take_rest h revision ms).1)).1
      by None rest = (of.0, rest)
      by (Some x) rest = of

  from_of : (revision : Revision) (is : List Item) (ms : List Monitor) → AllByRecursion (IsItemOf s) is → AllByRecursion (IsMonitorOf s) ms → IsSessionOf s (take_from h revision is ms).1
  from_of revision [] ms own of = (tt, rests_of revision ms of)
  from_of revision (i ∷ is) ms own of = by (gives h revision i ms) (from_of revision is (leaves h revision.db i ms) own.1 (left_of revision.db i ms own.0 of))
    where
      by : (o : Option Out) → IsSessionOf s (take_from h revision is (leaves h revision.db i ms)).1 → IsSessionOf s (stop_at o (record { queue = is; monitors = leaves h revision.db i ms }) (take_from h revision is (leaves h revision.db i ms))).1
      by None rest = rest
      by (Some x) rest = (own.1, left_of revision.db i ms own.0 of)

  takes_one : (n : ℕ) (o : Option Session) (w : World) → get w.sessions n ≡ o → Keeps w (take_of h n o w).0
  takes_one n None w e of = of
  takes_one n (Some x) w e of = let x_of : IsSessionOf s x = of n x e in put_of w.sessions n (take h (revision_of w) x).1 (from_of (revision_of w) x.queue x.monitors x_of.0 x_of.1) of

  pub takes_of : (ns : List ℕ) (w : World) → Keeps w (take_each h ns w).0
  takes_of [] w of = of
  takes_of (n ∷ ns) w of = takes_of ns (take_of h n (get w.sessions n) w).0 (takes_one n (get w.sessions n) w refl of)
