-- A session: what is queued for it, its monitors as they were told, and what a taking gives. [P 7.3, 8.2, 9.5, 9.6, 9.8, 10.1, 10.2, 10.3, 10.4]
use Rattle.odb_wire.specs.Message.{id_of}
use Rattle.std.specs.Prelude as prelude
use Rattle.std.specs.Prelude.{ℕ, ◌-◌, Bool, true, false, if◌then◌else◌, List, [], ◌∷◌, ◌++◌, map, find, slice_get, Option, Some, None, is_some, option_and_then, option_map, option_to_list, filter_map, codes, bytes_eq, count_by}
use Rattle.serde_json.specs.Data.{Data, object, no_members}
use Rattle.odb_atoms.specs.Uuid.{Uuid}
use Rattle.odb_cond.specs.Filter.{Filter}
use Rattle.odb_service.specs.Service.{Service}
use Rattle.odb_monitor.specs.Update.{table_updates}
use Rattle.odb_monitor.specs.View.{Delta, View, delta, is_none, nothing, query, shown}
use Rattle.odb_recent.specs.Recent.{commits_ago, number_of}
use Rattle.odb_request.specs.Request.{Notation, Request, Shape, update, update2}
use Rattle.odb_rpc.specs.Message.{notification, reply}
use Rattle.odb_rpc.specs.Since.{since_result, update3}
use Rattle.odb_tables.specs.Database.{Db}

-- what can be found of earlier contents: the word of the run, how many contents can be found at most, and what the database was before the newest commits, the newest first
pub record Earlier : Type 0 where
  pub run : ℕ
  pub most : ℕ
  pub contents : List Db

-- before there is a commit
abbrev pub nothing_earlier : ℕ → ℕ → Earlier
nothing_earlier run most = record { run = run; most = most; contents = [] }

-- after a commit, before which the database was this
abbrev pub with_content : Db → Earlier → Earlier
with_content db e = record e { contents = prelude.take (e.most - 1) (db ∷ e.contents) }

-- what takings look at: the database as it is now, how many commits there were, and what can be found of earlier contents
pub record Revision : Type 0 where
  pub db : Db
  pub commits : ℕ
  pub earlier : Earlier

-- the identifier of the newest commit
abbrev pub newest_number : Revision → Uuid
newest_number r = number_of r.earlier.run r.commits

-- the content that the commit of this identifier made, if it can be found
abbrev pub content_after : Revision → Uuid → Option Db
content_after r v = option_and_then (λ ago. slice_get (r.db ∷ r.earlier.contents) ago) (commits_ago r.earlier.most r.earlier.run r.commits v)

-- what a monitor watches: its id, its notation, its requests with their filters, and the commit that was named when it was asked for, if it was asked for so that its messages name commits
pub record Watch : Type 0 where
  pub id : Data
  pub notation : Notation
  pub requests : List Request
  pub since : Option Uuid

-- a monitor whose first reply was taken, as it was told, with the client's view
pub record Monitor : Type 0 where
  pub watch : Watch
  pub view : View

-- which request a message answers: the request itself, as it was submitted
pub data Answers : Type 0 where
  no_request : Answers
  to : Data → Answers

-- a message; and, where it is what changed since the commit that a client named, what this client is taken to have: the view that the monitor had after that commit
pub record Out : Type 0 where
  pub answers : Answers
  pub message : Data
  pub held : Option View

-- A finished text; the first reply of a monitor; the monitor of an id brought to now; the same towards other filters; the replies to a change of filters and to a cancel.
-- A change stands in the queue as `shift` and `renamed`, a cancel as `sync` and `stopped`, side by side. The id and the filters change, or the monitor goes, when the reply is taken: no other taking of the session comes between, so each message is the same as if they did before it.
pub data Item : Type 0 where
  say : Answers → Data → Item
  start : Data → Watch → Item
  sync : Data → Item
  shift : Data → List (List ℕ × Filter) → Item
  renamed : Data → Data → Data → List (List ℕ × Filter) → Item
  stopped : Data → Data → Item

pub record Session : Type 0 where
  pub queue : List Item
  pub monitors : List Monitor

abbrev pub shapes : List Request → List Shape
shapes qs = map (λ q. q.shape) qs

abbrev pub no_result : Data
no_result = object no_members

-- the request that an item's message answers
abbrev pub label : Item → Answers
label (say a d) = a
label (start d k) = to d
label (sync i) = no_request
label (shift i fs) = no_request
label (renamed d old new fs) = to d
label (stopped d i) = to d

-- how many of the items are replies
abbrev pub is_answer : Answers → Bool
is_answer no_request = false
is_answer (to d) = true

abbrev pub replies_in : List Item → ℕ
replies_in is = count_by (λ i. is_answer (label i)) is

-- f at the first element that passes the test
abbrev pub at_first : {A : Type 0} → (A → Bool) → (A → A) → List A → List A
at_first p f [] = []
at_first p f (x ∷ xs) = if p x then f x ∷ xs else x ∷ at_first p f xs

-- without the first element that passes the test
abbrev pub drop_first : {A : Type 0} → (A → Bool) → List A → List A
drop_first p [] = []
drop_first p (x ∷ xs) = if p x then xs else x ∷ drop_first p xs

-- the filters of the tables that are named
abbrev pub filter_of : List (List ℕ × Filter) → List ℕ → Filter → Filter
filter_of [] name old = old
filter_of (f ∷ fs) name old = if bytes_eq f.0 name then f.1 else filter_of fs name old

abbrev pub refilter : List (List ℕ × Filter) → List Request → List Request
refilter fs qs = map {A = Request} (λ q. record q { filter = filter_of fs q.shape.name q.filter }) qs

-- the first answer where there is an out, else the rest
abbrev pub stop_at : {A : Type 0} → Option Out → A → Option Out × A → Option Out × A
stop_at None a rest = rest
stop_at (Some o) a rest = (Some o, a)

module _ (h : Service) where
  -- two ids are equal where their printed texts are
  abbrev pub same_id : Data → Data → Bool
  same_id a b = bytes_eq (h.printed a) (h.printed b)

  -- a watch under its new id and filters
  abbrev pub changed : Data → List (List ℕ × Filter) → Watch → Watch
  changed new fs k = record k { id = new; requests = refilter fs k.requests }

  -- a notification of the difference, if anything of it is shown
  abbrev pub method_of : Notation → List ℕ
  method_of update = codes "update"
  method_of update2 = codes "update2"

  -- with the number of the newest commit, where a commit was named
  abbrev pub notified : Revision → Watch → Data → Data
  notified revision k updates = elim k.since [ None ↦ notification (method_of k.notation) (k.id ∷ updates ∷ []) | Some v ↦ update3 k.id (newest_number revision) updates ]

  abbrev pub told_of : Revision → Watch → List Request → Delta → Option Out
  told_of revision k qs D = if is_none D then None else Some (record { answers = no_request; message = notified revision k (table_updates k.notation false (shapes qs) D); held = None })

  -- a monitor whose client has what these requests select now
  abbrev pub brought : Db → List Request → Monitor → Monitor
  brought db qs m = record m { view = query db qs }

  abbrev pub update_to : Revision → List Request → Monitor → Option Out
  update_to revision qs m = told_of revision m.watch qs (shown false qs (delta m.view (query revision.db qs)))

  abbrev pub begun : Db → Watch → Monitor
  begun db k = record { watch = k; view = query db k.requests }

  -- what its client had after the commit that it named, if that can be found
  abbrev pub held_by : Revision → Watch → Option View
  held_by revision k = option_map (λ db. query db k.requests) (option_and_then (content_after revision) k.since)

  -- all that it selects, or, of a client that has this view, what changed
  abbrev pub first_updates : Watch → Option View → View → Data
  first_updates k None V = table_updates k.notation true (shapes k.requests) (shown true k.requests (delta (nothing k.requests) V))
  first_updates k (Some W) V = table_updates k.notation false (shapes k.requests) (shown false k.requests (delta W V))

  -- where a commit was named, whether it was found comes first, and the number of the newest commit
  abbrev pub first_result : Revision → Watch → Option View → Data → Data
  first_result revision k held updates = elim k.since [ None ↦ updates | Some v ↦ since_result (is_some held) (newest_number revision) updates ]

  -- the first reply to a client that has this view, or none
  abbrev pub first_to : Revision → Data → Watch → Option View → Out
  first_to revision d k held = record {
    answers = to d;
    message = reply (id_of d) (first_result revision k held (first_updates k held (query revision.db k.requests)));
    held = held;
  }

  abbrev pub first_out : Revision → Data → Watch → Out
  first_out revision d k = first_to revision d k (held_by revision k)

  abbrev pub granted : Data → Out
  granted d = record { answers = to d; message = reply (id_of d) no_result; held = None }

  abbrev pub has_id : Data → Monitor → Bool
  has_id i m = same_id i m.watch.id

  -- what one item gives, and the monitors after it. An item of a monitor that is gone gives nothing
  abbrev pub gives : Revision → Item → List Monitor → Option Out
  gives revision (say a d) ms = Some (record { answers = a; message = d; held = None })
  gives revision (start d k) ms = Some (first_out revision d k)
  gives revision (sync i) ms = option_and_then (λ m. update_to revision m.watch.requests m) (find (has_id i) ms)
  gives revision (shift i fs) ms = option_and_then (λ m. update_to revision (refilter fs m.watch.requests) m) (find (has_id i) ms)
  gives revision (renamed d old new fs) ms = Some (granted d)
  gives revision (stopped d i) ms = Some (granted d)

  abbrev pub leaves : Db → Item → List Monitor → List Monitor
  leaves db (say a d) ms = ms
  leaves db (start d k) ms = ms ++ begun db k ∷ []
  leaves db (sync i) ms = at_first (has_id i) (λ m. brought db m.watch.requests m) ms
  leaves db (shift i fs) ms = at_first (has_id i) (λ m. brought db (refilter fs m.watch.requests) m) ms
  leaves db (renamed d old new fs) ms = at_first (has_id old) (λ m. record m { watch = changed new fs m.watch }) ms
  leaves db (stopped d i) ms = drop_first (has_id i) ms

  -- with an empty queue the monitors are brought to now, in order of creation, until there is an out
  abbrev pub take_rest : Revision → List Monitor → Option Out × List Monitor
  take_rest revision [] = (None, [])
  take_rest revision (m ∷ ms) =
      stop_at (update_to revision m.watch.requests m) (brought revision.db m.watch.requests m ∷ ms)
      ((take_rest revision ms).0, brought revision.db m.watch.requests m ∷ (take_rest revision ms).1)

  -- from the front of the queue until there is an out
  abbrev pub take_from : Revision → List Item → List Monitor → Option Out × Session
  take_from revision [] ms = ((take_rest revision ms).0, record { queue = []; monitors = (take_rest revision ms).1 })
  take_from revision (i ∷ is) ms = stop_at (gives revision i ms) (record { queue = is; monitors = leaves revision.db i ms }) (take_from revision is (leaves revision.db i ms))

  abbrev pub take : Revision → Session → Option Out × Session
  take revision s = take_from revision s.queue s.monitors

  -- what further takings give until there is none: what each item gives, and then each monitor
  abbrev pub owed_from : Revision → List Item → List Monitor → List Out
  owed_from revision [] ms = filter_map (λ m. update_to revision m.watch.requests m) ms
  owed_from revision (i ∷ is) ms = option_to_list (gives revision i ms) ++ owed_from revision is (leaves revision.db i ms)

  abbrev pub owed : Revision → Session → List Out
  owed revision s = owed_from revision s.queue s.monitors

  -- the session when nothing more is owed
  abbrev pub rested : Db → List Item → List Monitor → List Monitor
  rested db [] ms = map (λ m. brought db m.watch.requests m) ms
  rested db (i ∷ is) ms = rested db is (leaves db i ms)

  abbrev pub drained : Db → Session → Session
  drained db s = record { queue = []; monitors = rested db s.queue s.monitors }

  -- what an item does to the monitors as asked
  abbrev pub asks : Item → List Watch → List Watch
  asks (say a d) ks = ks
  asks (start d k) ks = ks ++ k ∷ []
  asks (sync i) ks = ks
  asks (shift i fs) ks = ks
  asks (renamed d old new fs) ks = at_first (λ k. same_id old k.id) (changed new fs) ks
  asks (stopped d i) ks = drop_first (λ k. same_id i k.id) ks

  abbrev pub asked_after : List Item → List Watch → List Watch
  asked_after [] ks = ks
  asked_after (i ∷ is) ks = asked_after is (asks i ks)

  abbrev pub told : Session → List Watch
  told s = map (λ m. m.watch) s.monitors

  -- the monitors as asked: as told, and then what is queued
  abbrev pub asked : Session → List Watch
  asked s = asked_after s.queue (told s)
