-- A message about a monitor that names a commit names the newest one, and its client then has what is found for that.
use Rattle.std.proofs.Common.{◌≡◌, ℕ, Bool, true, false, cond, List, [], ◌∷◌, ◌++◌, Option, Some, None, Ok, is_some, refl, sym, ap, subst, ◌∙◌, true≢false, ◌⊎◌, inl, inr, append_assoc}
use Rattle.std.specs.Prelude.{codes, find, option_and_then}
use Rattle.serde_json.specs.Data.{Data, string}
use Rattle.odb_atoms.specs.Uuid.{Uuid, uuid_text}
use Rattle.odb_law.proofs.EventSteps.{Stepped, next_is, run_on}
use Rattle.odb_law.proofs.FoundAgain.{is_found_again}
use Rattle.odb_law.proofs.HeadlineRuns.{reached_good}
use Rattle.odb_law.proofs.Rounds.{Took, once_once, take_once}
use Rattle.odb_law.proofs.SessionInvariant.{IsWell}
use Rattle.odb_law.proofs.TakingPictures.{next_well}
use Rattle.odb_law.proofs.WholeMessages.{brings_whole, cancel_append, no_message, only}
use Rattle.odb_law.proofs.WorldInvariant.{IsHeld}
use Rattle.odb_law.specs.Client.{adds, wish_of}
use Rattle.odb_law.specs.Headline.{IsReached, ReadsNamed, about, begun_by}
use Rattle.odb_law.specs.Named.{IsHeldByName, commit_in, names_commits, second_of}
use Rattle.odb_monitor.specs.Update.{table_updates}
use Rattle.odb_monitor.specs.View.{View, is_none, query}
use Rattle.odb_request.specs.Request.{Notation, Request, update, update2}
use Rattle.odb_rpc.specs.Message.{notification, reply}
use Rattle.odb_rpc.specs.Since.{since_result, update3}
use Rattle.odb_schema.specs.Json.{as_array, items_list}
use Rattle.odb_service.proofs.OnlyPosts.{Rest, takes_each}
use Rattle.odb_service.proofs.WhatIsOwed.{change_to, message_of}
use Rattle.odb_service.specs.Run.{Event, Sent, State, after, beginning, closed, once, opened, round, run, sent_to, submitted, take_each, ticked}
use Rattle.odb_service.specs.Service.{Service}
use Rattle.odb_service.specs.Session.{Item, Monitor, Out, Revision, Session, Watch, brought, first_out, first_result, first_updates, gives, has_id, held_by, leaves, method_of, newest_number, no_request, refilter, renamed, say, shapes, shift, start, stop_at, stopped, sync, take, take_from, take_rest, update_to}
use Rattle.odb_service.specs.World.{World, revision_of}
use Rattle.odb_wire.specs.Message.{at_key, id_of}

-- where it names a commit, a message about a monitor names the newest one
abbrev Names : Revision → Out → Type 0
Names revision o = (i commit : Data) → about o ≡ Some i → commit_in o ≡ Some commit → commit ≡ string (uuid_text (newest_number revision))

abbrev AllName : Revision → Option Out → Type 0
AllName revision None = Unit {0}
AllName revision (Some o) = Names revision o

same : (x y : Data) → (let o : Option Data = Some x in o) ≡ Some y → x ≡ y
same x y e = cc

none : {A : Type 0} (y : A) → (let o : Option A = None in o) ≡ Some y → ⊥
none y e = absurd (true≢false (sym (ap is_some e)))

stop_names : {A : Type 0} (revision : Revision) (o : Option Out) (a : A) (rest : Option Out × A) → AllName revision o → AllName revision rest.0 → AllName revision (stop_at o a rest).0
stop_names revision None a rest first later = later
stop_names revision (Some o) a rest first later = first

module _ (h : Service) where
  -- a notification of updates
  message_names : (revision : Revision) (qs : List Request) (m : Monitor) → Names revision (message_of h revision qs m)
  message_names revision qs m i commit e is = by m.watch.since m.watch.notation is
    where
      updates : Data
      updates = table_updates m.watch.notation false (shapes qs) (change_to h revision.db qs m)

      by : (since : Option Uuid) (n : Notation)
          → commit_in (record { answers = no_request; message = elim since as (λ _. Data) [ None ↦ notification (method_of h n) (m.watch.id ∷ updates ∷ []) | Some v ↦ update3 m.watch.id (newest_number revision) updates ]; held = None }) ≡ Some commit
          → commit ≡ string (uuid_text (newest_number revision))
      by None update is = absurd (none commit is)
      by None update2 is = absurd (none commit is)
      by (Some v) n is = sym (same (string (uuid_text (newest_number revision))) commit is)

  update_names : (revision : Revision) (qs : List Request) (m : Monitor) → AllName revision (update_to h revision qs m)
  update_names revision qs m = by (is_none (change_to h revision.db qs m))
    where
      by : (b : Bool) → AllName revision (cond b None (Some (message_of h revision qs m)))
      by true = tt
      by false = message_names revision qs m

  found_names : (revision : Revision) (qs : Monitor → List Request) (o : Option Monitor) → AllName revision (option_and_then (λ m. update_to h revision (qs m) m) o)
  found_names revision qs None = tt
  found_names revision qs (Some m) = update_names revision (qs m) m

  -- the first reply
  first_names : (revision : Revision) (d : Data) (w : Watch) (requests : Data) → wish_of d ≡ adds w.notation w.since w.id requests → Names revision (first_out h revision d w)
  first_names revision d w requests wish i commit e is = by w.since (ap (option_and_then (λ v. second (first_result h revision w held updates))) (sym (ap names_commits wish)) ∙ is)
    where
      held : Option View
      held = held_by h revision w

      updates : Data
      updates = first_updates h w held (query revision.db w.requests)

      second : Data → Option Data
      second result = option_and_then (λ ds. second_of (items_list ds)) (as_array (at_key (codes "result") (reply (id_of d) result)))

      by : (since : Option Uuid) → option_and_then (λ (v : Uuid). second (elim since as (λ _. Data) [ None ↦ updates | Some v ↦ since_result (is_some held) (newest_number revision) updates ])) since ≡ Some commit
          → commit ≡ string (uuid_text (newest_number revision))
      by None is = absurd (none commit is)
      by (Some v) is = sym (same (string (uuid_text (newest_number revision))) commit is)

  item_names : (revision : Revision) (i : Item) (is : List Item) (ms : List Monitor) → IsWell h (record { queue = i ∷ is; monitors = ms }) → AllName revision (gives h revision i ms)
  item_names revision (say a d) is ms k = λ i commit e named. absurd (true≢false (sym (ap is_some (sym k.items.0.1 ∙ e))))
  item_names revision (start d w) is ms k = first_names revision d w k.items.0.2.0 k.items.0.2.1
  item_names revision (sync i) is ms k = found_names revision (λ m. m.watch.requests) (find (has_id h i) ms)
  item_names revision (shift i fs) is ms k = found_names revision (λ m. refilter fs m.watch.requests) (find (has_id h i) ms)
  item_names revision (renamed d old new fs) is ms k = λ i commit e named. absurd (true≢false (sym (ap is_some (sym (ap begun_by k.items.0.1.1) ∙ e))))
  item_names revision (stopped d j) is ms k = λ i commit e named. absurd (true≢false (sym (ap is_some (sym (ap begun_by k.items.0.1) ∙ e))))

  rest_names : (revision : Revision) (ms : List Monitor) → AllName revision (take_rest h revision ms).0
  rest_names revision [] = tt
  rest_names revision (m ∷ ms) =
      let after : List Monitor = brought h revision.db m.watch.requests m ∷ (take_rest h revision ms).1 in
      stop_names revision (update_to h revision m.watch.requests m) (brought h revision.db m.watch.requests m ∷ ms) ((take_rest h revision ms).0, after) (update_names revision m.watch.requests m) (rest_names revision ms)

  -- what a taking gives
  from_names : (revision : Revision) (q : List Item) (ms : List Monitor) → IsWell h (record { queue = q; monitors = ms }) → AllName revision (take_from h revision q ms).0
  from_names revision [] ms k = rest_names revision ms
  from_names revision (i ∷ is) ms k =
      stop_names revision (gives h revision i ms) (record { queue = is; monitors = leaves h revision.db i ms }) (take_from h revision is (leaves h revision.db i ms)) (item_names revision i is ms k)
      (from_names revision is (leaves h revision.db i ms) (next_well h revision.db i is ms k))

  -- what an event gives, by which nothing is committed
  abbrev Gave : State → World → Out → Type 0
  Gave st w o = Names (revision_of st.world) o × (revision_of w ≡ revision_of st.world)

  round_names : (st : State) (ss : List ℕ) → IsHeld h st.world st.given → (s : ℕ) (os : List Out) (o : Out) (rest : List Out) → sent_to s (take_each h (once ss) st.world).1 ≡ os ++ o ∷ rest → Gave st (take_each h (once ss) st.world).0 o
  round_names st ss k s os o rest e = (by (take_once h (once ss) st.world (once_once ss) s), ap (λ (q : Rest). let r : Revision = record { db = q.0; commits = q.1; earlier = q.5 } in r) (takes_each h (once ss) st.world))
    where
      by : Took h (once ss) st.world s → Names (revision_of st.world) o
      by (inl none) = absurd (no_message h os o rest (sym none ∙ e))
      by (inr x) =
          let p : (os ≡ []) × (rest ≡ []) × ((take h (revision_of st.world) x.0).0 ≡ Some o) = only h (take h (revision_of st.world) x.0).0 os o rest (sym x.2 ∙ e) in
          subst (AllName (revision_of st.world)) p.2 (from_names (revision_of st.world) x.0.queue x.0.monitors (k.0 s x.0 x.1).0)

  event_names : (e : Event) (st : State) (r : World × List Sent) → IsHeld h st.world st.given → Stepped h e st.world r → (s : ℕ) (os : List Out) (o : Out) (rest : List Out) → sent_to s r.1 ≡ os ++ o ∷ rest → Gave st r.0 o
  event_names (opened t) st r k is s os o rest e = absurd (no_message h os o rest (ap (λ (p : World × List Sent). sent_to s p.1) is.1 ∙ e))
  event_names (submitted t d fresh now) st r k is s os o rest e = absurd (no_message h os o rest (ap (λ (p : World × List Sent). sent_to s p.1) is.2 ∙ e))
  event_names (ticked now) st r k is s os o rest e = absurd (no_message h os o rest (ap (λ (p : World × List Sent). sent_to s p.1) is ∙ e))
  event_names (closed t) st r k is s os o rest e = absurd (no_message h os o rest (ap (λ (p : World × List Sent). sent_to s p.1) is ∙ e))
  event_names (round ss) st r k is s os o rest e =
      subst (λ (p : World × List Sent). sent_to s p.1 ≡ os ++ o ∷ rest → Gave st p.0 o) is (λ e. round_names st ss k s os o rest e) e

  pub is_held_by_name : ReadsNamed h → IsHeldByName h
  is_held_by_name named word most tables first st now e begins goes s quiet os o rest given i commit it_is names =
      let reached : IsReached h st = (word, most, tables, first, begins) in
      let n : (r : World × List Sent) × Stepped h e st.world r × (after h e st r ≡ now) = next_is h e st now goes in
      let g : (after h e st n.0).given s ≡ st.given s ++ os ++ o ∷ rest = ap (λ (m : State). m.given s) n.2 ∙ given in
      let sent : sent_to s n.0.1 ≡ os ++ o ∷ rest = cancel_append (st.given s) (sent_to s n.0.1) (os ++ o ∷ rest) (ap (λ b. cond b [] (st.given s ++ sent_to s n.0.1)) (sym quiet) ∙ g ∙ append_assoc (st.given s) os (o ∷ rest)) in
      let gave : Gave st n.0.0 o = event_names e st n.0 (reached_good h named st reached) n.1 s os o rest sent in
      let stays : revision_of now.world ≡ revision_of st.world = ap (λ (m : State). revision_of m.world) (sym n.2) ∙ gave.1 in
      let all : run h (first ++ e ∷ []) (beginning word most tables) ≡ Ok now = run_on h first (beginning word most tables) st now e begins goes in
      record {
        newest = gave.0 i commit it_is names ∙ ap (λ r. string (uuid_text (newest_number r))) (sym stays);
        found = λ later at is small below some kept. is_found_again h word most tables (first ++ e ∷ []) later now at all is small below some kept;
        whole = λ x there. (brings_whole h named st reached e now goes s quiet os o rest given).4 x there i it_is;
      }
