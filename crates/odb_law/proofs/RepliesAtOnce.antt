-- Right after a request that never waits, its reply is the last that is owed, and what its client has then is what the filters select.
use Rattle.std.proofs.Common.{◌≡◌, ℕ, Bool, true, false, cond, List, [], ◌∷◌, ◌++◌, map, Option, Some, None, Result, Ok, Err, inl, inr, is_some, refl, sym, ◌∙◌, ap, subst, true≢false, not, ◌&&◌, append_assoc, append-nil}
use Rattle.std.specs.Prelude.{option_to_list, filter_map}
use Rattle.std.specs.List.{cons_option}
use Rattle.serde_json.specs.Data.{Data}
use Rattle.odb_rpc.specs.Message as message
use Rattle.odb_atoms.specs.Error.{Error, syntax_error}
use Rattle.odb_atoms.specs.FinMap.{get}
use Rattle.odb_atoms.specs.Uuid.{Uuid}
use Rattle.odb_cond.specs.Filter.{Filter}
use Rattle.odb_law.proofs.BroughtToNow.{Changed, Dropped, Never, ReadyFor, after_shift, after_sync, item_changed, item_dropped}
use Rattle.odb_law.proofs.EventSteps.{Stepped, next_is, next_reached}
use Rattle.odb_law.proofs.HeadlineRuns.{reached_good}
use Rattle.odb_law.proofs.PictureLookups.{client_item}
use Rattle.odb_law.proofs.SessionInvariant.{IsWell, seen}
use Rattle.odb_law.proofs.TakingPictures.{next_well}
use Rattle.odb_law.proofs.ToldBeforeReply.{given, left, owed_append}
use Rattle.odb_law.proofs.WorldInvariant.{Holds}
use Rattle.odb_law.specs.Client.{client}
use Rattle.odb_law.specs.Headline.{ReadsNamed}
use Rattle.odb_law.specs.Replies.{AreNotices, HasNow, IsRepliedTo, RepliesAtOnce, is_replied_at_once}
use Rattle.odb_locks.specs.Locks.{Answered, lock, steal, unlock}
use Rattle.odb_monitor.proofs.Views.{some_is}
use Rattle.odb_monitor.specs.View.{is_none}
use Rattle.odb_request.specs.Request.{Notation, Request, is_conditional}
use Rattle.odb_rpc.specs.Message.{Call, Failure, call_of, failed, failure, reply, unknown_monitor}
use Rattle.odb_service.proofs.SessionMaps.{get-insert, key-itself}
use Rattle.odb_service.proofs.WhatIsOwed.{change_to, message_of}
use Rattle.odb_service.specs.Run.{Sent, State, after, submitted}
use Rattle.odb_service.specs.Service.{Service}
use Rattle.odb_service.specs.Session.{Item, Monitor, Out, Revision, Session, Watch, first_out, gives, leaves, no_result, owed_from, renamed, same_id, say, shift, start, stopped, sync, to, update_to}
use Rattle.odb_service.specs.Session as session
use Rattle.odb_service.specs.World.{World, answer, are_monitored, asked_of, at_moment, change_of, fail, handle, lock_error, locked, on_cancel_monitor, on_lock, post, post_notices, post_to, push, revision_of, shift_with, start_with, watched}
use Rattle.odb_tables.specs.Database.{Db}
use Rattle.odb_wire.specs.Message.{id_of}

-- ---- what a request that never waits posts last

data Ending : Type 0 where
  says : Data → Ending
  starts : Watch → Ending
  changes_filters : Data → Data → List (List ℕ × Filter) → Ending
  stops : Data → Ending

-- what stands before the item that replies
abbrev lead : Ending → List Item
lead (says m) = []
lead (starts k) = []
lead (changes_filters old new fs) = shift old fs ∷ []
lead (stops i) = sync i ∷ []

abbrev replying : Data → Ending → Item
replying d (says m) = say (to d) m
replying d (starts k) = start d k
replying d (changes_filters old new fs) = renamed d old new fs
replying d (stops i) = stopped d i

abbrev posted : Data → Ending → List Item
posted d e = lead e ++ replying d e ∷ []

-- the last that was done is to post such items
record Posts (s : ℕ) (d : Data) (v : World) : Type 0 where
  world : World
  ending : Ending
  is : v ≡ post s (posted d ending) world

either_posts : (s : ℕ) (d : Data) (b : Bool) (v w : World) → Posts s d v → Posts s d w → Posts s d (cond b v w)
either_posts s d true v w p q = p
either_posts s d false v w p q = q

answer_posts : (s : ℕ) (d m : Data) (w : World) → Posts s d (answer s d m w)
answer_posts s d m w = record { world = w; ending = says m; is = refl }

fail_posts : (s : ℕ) (d : Data) (name : Failure) (w : World) → Posts s d (fail s d name w)
fail_posts s d name w = answer_posts s d (failure (id_of d) name) w

module _ (h : Service) where
  start_posts : (s : ℕ) (d : Data) (n : Notation) (i : Data) (since : Option Uuid) (r : Result (List Request) Error) (w : World) → Posts s d (start_with h s d n i since r w)
  start_posts s d n i since (Err e) w = fail_posts s d (failed e) w
  start_posts s d n i since (Ok qs) w = record { world = w; ending = starts (record { id = i; notation = n; requests = qs; since = since }); is = refl }

  shift_posts : (s : ℕ) (d old new : Data) (k : Watch) (r : Result (List (List ℕ × Filter)) Error) (w : World) → Posts s d (shift_with h s d old new k r w)
  shift_posts s d old new k (Err e) w = fail_posts s d (failed e) w
  shift_posts s d old new k (Ok fs) w =
      either_posts s d (are_monitored h fs k.requests) (post s (shift old fs ∷ renamed d old new fs ∷ []) w) (fail s d (failed syntax_error) w) (record { world = w; ending = changes_filters old new fs; is = refl }) (fail_posts s d (failed syntax_error) w)

  change_posts : (s : ℕ) (d old new filters : Data) (o : Option Watch) (w : World) → Posts s d (change_of h s d old new filters o w)
  change_posts s d old new filters None w = fail_posts s d unknown_monitor w
  change_posts s d old new filters (Some k) w =
      let taken : Bool = not (same_id h old new) && is_some (watched h new (asked_of h (get w.sessions s))) in
      either_posts s d (not (is_conditional k.notation)) (fail s d unknown_monitor w) (cond taken (fail s d (failed syntax_error) w) (shift_with h s d old new k (h.read_filters filters) w))
      (fail_posts s d unknown_monitor w)
      (either_posts s d taken (fail s d (failed syntax_error) w) (shift_with h s d old new k (h.read_filters filters) w) (fail_posts s d (failed syntax_error) w) (shift_posts s d old new k (h.read_filters filters) w))

  stop_posts : (s : ℕ) (d i : Data) (o : Option Watch) (w : World) → Posts s d (on_cancel_monitor h s d i o w)
  stop_posts s d i None w = fail_posts s d unknown_monitor w
  stop_posts s d i (Some k) w = record { world = w; ending = stops i; is = refl }

  lock_posts : (s : ℕ) (d : Data) (result : Bool → Data) (a : Answered) (w : World) → Posts s d (on_lock h s d result a w)
  lock_posts s d result (Err e) w = fail_posts s d (failed (lock_error e)) w
  lock_posts s d result (Ok l) w = answer_posts s d (reply (id_of d) (result l.2)) (post_notices l.1 (record w { locks = l.0 }))

  handle_posts : (s : ℕ) (d : Data) (fresh : List Uuid) (c : Call) (w : World) → is_replied_at_once c ≡ true → Posts s d (handle h s d fresh c w)
  handle_posts s d fresh (message.answered m) w at_once = answer_posts s d m w
  handle_posts s d fresh (message.transact id operations) w at_once = absurd (true≢false (sym at_once))
  handle_posts s d fresh (message.monitor id n i requests since) w at_once =
      either_posts s d (is_some (watched h i (asked_of h (get w.sessions s)))) (fail s d (failed syntax_error) w) (start_with h s d n i since (h.read_requests n requests) w) (fail_posts s d (failed syntax_error) w) (start_posts s d n i since (h.read_requests n requests) w)
  handle_posts s d fresh (message.change_filters id old new filters) w at_once = change_posts s d old new filters (watched h old (asked_of h (get w.sessions s))) w
  handle_posts s d fresh (message.cancel_monitor id i) w at_once = stop_posts s d i (watched h i (asked_of h (get w.sessions s))) w
  handle_posts s d fresh (message.lock id name) w at_once = lock_posts s d (locked h) (lock w.locks s name) w
  handle_posts s d fresh (message.steal id name) w at_once = lock_posts s d (locked h) (steal w.locks s name) w
  handle_posts s d fresh (message.unlock id name) w at_once = lock_posts s d (λ b. no_result) (unlock w.locks s name) w
  handle_posts s d fresh (message.cancel id) w at_once = absurd (true≢false (sym at_once))
  handle_posts s d fresh message.passed_over w at_once = absurd (true≢false (sym at_once))

  -- a session after a post to it
  pushed : (s : ℕ) (is : List Item) (w : World) (y : Session) → get (post s is w).sessions s ≡ Some y → (x : Session) × (push is x ≡ y)
  pushed s is w y found = by (get w.sessions s) refl found
    where
      by : (o : Option Session) → get w.sessions s ≡ o → get (post_to s is o w).sessions s ≡ Some y → (x : Session) × (push is x ≡ y)
      by None e f = absurd (true≢false (ap is_some (sym f ∙ e)))
      by (Some x) e f =
          (x, some_is (push is x) y (sym (get-insert w.sessions s (push is x) s ∙ ap (λ b. cond b (Some (push is x)) (get w.sessions s)) (key-itself s)) ∙ f))

  -- ---- through a queue

  -- what comes before the rest of the queue was taken
  walked : (revision : Revision) (front rest : List Item) (ms : List Monitor) (os : List Out) → IsWell h (record { queue = front ++ rest; monitors = ms }) → client h os ≡ Some (map seen ms)
      → IsWell h (record { queue = rest; monitors = left h revision.db front ms }) × (client h (os ++ given h revision front ms) ≡ Some (map seen (left h revision.db front ms)))
  walked revision [] rest ms os k c = (k, ap (client h) (append-nil os) ∙ c)
  walked revision (i ∷ is) rest ms os k c =
      let w : IsWell h (record { queue = rest; monitors = left h revision.db is (leaves h revision.db i ms) }) × (client h ((os ++ option_to_list (gives h revision i ms)) ++ given h revision is (leaves h revision.db i ms)) ≡ Some (map seen (left h revision.db is (leaves h revision.db i ms)))) =
      walked revision is rest (leaves h revision.db i ms) (os ++ option_to_list (gives h revision i ms)) (next_well h revision.db i (is ++ rest) ms k) (client_item h revision i ms os k.items.0 k.distinct.1 k.kept c) in
      (w.0, ap (client h) (sym (append_assoc os (option_to_list (gives h revision i ms)) (given h revision is (leaves h revision.db i ms)))) ∙ w.1)

  -- with the queue empty, nothing is a reply
  notices : (revision : Revision) (ms : List Monitor) → AreNotices (filter_map (λ m. update_to h revision m.watch.requests m) ms)
  notices revision [] = tt
  notices revision (m ∷ ms) = by (is_none (change_to h revision.db m.watch.requests m)) (notices revision ms)
    where
      by : (b : Bool) → AreNotices (filter_map (λ m. update_to h revision m.watch.requests m) ms) → AreNotices (cons_option (cond b None (Some (message_of h revision m.watch.requests m))) (filter_map (λ m. update_to h revision m.watch.requests m) ms))
      by true rest = rest
      by false rest = (refl, rest)

  -- what an item gives that replies
  replies : (revision : Revision) (d : Data) (e : Ending) (ms : List Monitor) → (o : Out) × (gives h revision (replying d e) ms ≡ Some o) × (o.answers ≡ to d)
  replies revision d (says m) ms = (record { answers = to d; message = m; held = None }, refl, refl)
  replies revision d (starts k) ms = (first_out h revision d k, refl, refl)
  replies revision d (changes_filters old new fs) ms = (session.granted h d, refl, refl)
  replies revision d (stops i) ms = (session.granted h d, refl, refl)

  -- its monitor is brought to now before
  ready : (db : Db) (d : Data) (e : Ending) (ms : List Monitor) → IsWell h (record { queue = replying d e ∷ []; monitors = left h db (lead e) ms }) → ReadyFor h db (Never h) (replying d e) (left h db (lead e) ms)
  ready db d (says m) ms k = tt
  ready db d (starts w) ms k = tt
  ready db d (changes_filters old new fs) ms k = inl (after_shift h db (shift old fs) old fs ms (refl, refl) k.distinct.1)
  ready db d (stops i) ms k = inl (after_sync h db (sync i) i ms refl k.distinct.1)

  dropped_now : (db : Db) (os : List Out) (i : Data) → Dropped h db (Never h) os i → HasNow h db i os
  dropped_now db os i (p, found, inl now) = (p, found, now)
  dropped_now db os i (p, found, inr never) = absurd never

  changed_now : (db : Db) (os : List Out) (old new : Data) → Changed h db (Never h) os old new → HasNow h db new os
  changed_now db os old new (p, found, inl now) = (p, found, now)
  changed_now db os old new (p, found, inr never) = absurd never

  replied : (st : State) (s : ℕ) (d : Data) (e : Ending) (x : Session) → Holds h (push (posted d e) x) (st.given s) → IsRepliedTo h d st s (push (posted d e) x)
  replied st s d e x k =
      let revision : Revision = revision_of st.world in
      let os : List Out = st.given s in
      let ms : List Monitor = left h revision.db x.queue x.monitors in
      let ns : List Monitor = left h revision.db (lead e) ms in
      let a : List Out = given h revision x.queue x.monitors in
      let b : List Out = given h revision (lead e) ms in
      let one : IsWell h (record { queue = posted d e; monitors = ms }) × (client h (os ++ a) ≡ Some (map seen ms)) = walked revision x.queue (posted d e) x.monitors os k.0 k.1 in
      let two : IsWell h (record { queue = replying d e ∷ []; monitors = ns }) × (client h ((os ++ a) ++ b) ≡ Some (map seen ns)) = walked revision (lead e) (replying d e ∷ []) ms (os ++ a) one.0 one.1 in
      let heard : client h (os ++ (a ++ b)) ≡ Some (map seen ns) = ap (client h) (sym (append_assoc os a b)) ∙ two.1 in
      let r : (o : Out) × (gives h revision (replying d e) ns ≡ Some o) × (o.answers ≡ to d) = replies revision d e ns in
      let rest : List Out = owed_from h revision [] (leaves h revision.db (replying d e) ns) in
      record {
        before = a ++ b;
        reply = r.0;
        after = rest;
        is_owed = owed_append h revision x.queue (posted d e) x.monitors
            ∙ ap (λ l. a ++ l) (owed_append h revision (lead e) (replying d e ∷ []) ms ∙ ap (λ o. b ++ (option_to_list o ++ rest)) r.1)
            ∙ sym (append_assoc a b (r.0 ∷ rest));
        answers = r.2;
        is_last = notices revision (leaves h revision.db (replying d e) ns);
        dropped = λ i granted is. dropped_now revision.db (os ++ (a ++ b)) i (item_dropped h revision (Never h) (replying d e) [] ns (os ++ (a ++ b)) r.0 d i two.0 heard (ready revision.db d e ms two.0) r.1 r.2 granted is);
        changed = λ old new filters granted is.
            changed_now revision.db (os ++ (a ++ b) ++ r.0 ∷ []) old new (item_changed h revision (Never h) (replying d e) [] ns (os ++ (a ++ b)) r.0 d old new filters two.0 heard (ready revision.db d e ms two.0) r.1 r.2 granted is);
      }

  pub replies_at_once : ReadsNamed h → RepliesAtOnce h
  replies_at_once named st now reached s d fresh moment goes at_once y found =
      let n : (r : World × List Sent) × Stepped h (submitted s d fresh moment) st.world r × (after h (submitted s d fresh moment) st r ≡ now) = next_is h (submitted s d fresh moment) st now goes in
      let w : World = at_moment h moment st.world in
      let call : Call = call_of h.db_name h.schema h.serves d in
      let p : Posts s d (handle h s d fresh call w) = handle_posts s d fresh call w at_once in
      let world : now.world ≡ post s (posted d p.ending) p.world = ap (λ (m : State). m.world) (sym n.2) ∙ ap (λ (q : World × List Sent). q.0) (sym n.1.2) ∙ p.is in
      let x : (x : Session) × (push (posted d p.ending) x ≡ y) = pushed s (posted d p.ending) p.world y (ap (λ (v : World). get v.sessions s) (sym world) ∙ found) in
      subst (λ (z : Session). Holds h z (now.given s) → IsRepliedTo h d now s z) x.1 (replied now s d p.ending x.0) ((reached_good h named now (next_reached h st now (submitted s d fresh moment) reached goes)).0 s y found)
