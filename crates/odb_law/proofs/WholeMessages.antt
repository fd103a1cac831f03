-- A session is given messages by its turn in a round alone, and each brings the monitor that it is about whole to the moment of its taking.
use Rattle.std.proofs.Common.{◌≡◌, ℕ, Bool, true, false, cond, List, [], ◌∷◌, ◌++◌, map, Option, Some, None, refl, sym, ◌∙◌, ap, subst, is_some, true≢false, ◌⊎◌, inl, inr, append_assoc}
use Rattle.std.specs.Prelude.{bytes_eq, option_and_then, option_to_list, find}
use Rattle.std.specs.Cmp.Lexicographic.{nat_list_eq_equiv}
use Rattle.serde_json.specs.Data.{Data}
use Rattle.odb_atoms.specs.FinMap.{get}
use Rattle.odb_cond.specs.Filter.{Filter}
use Rattle.odb_law.proofs.PictureLookups.{client_item, is_now, new_found, pictured_seen, same_found}
use Rattle.odb_law.proofs.Rounds.{IsIn, Took, each_db, each_other, not_in_once, once_once, take_once}
use Rattle.odb_law.proofs.HeadlineRuns.{reached_good, step_good}
use Rattle.odb_law.proofs.SessionInvariant.{Goes, IsSound, IsWell, StayDistinct, followed-refilter, leaves-asks, seen, texts, with_new}
use Rattle.odb_law.proofs.EventSteps.{Stepped, next_is}
use Rattle.odb_law.proofs.TakingPictures.{IsAway, found_away, itself_like, next_well, refilter_like, rest_away}
use Rattle.odb_law.proofs.UpdateBeforeReply.{update_about}
use Rattle.odb_law.proofs.ClientUpdates.{IsLike}
use Rattle.odb_service.proofs.WhatIsOwed.{change_to, message_of}
use Rattle.odb_law.proofs.WorldInvariant.{Holds, IsHeld}
use Rattle.odb_law.specs.Headline.{BringsWhole, HasTurn, IsChanging, IsWhole, ReadsNamed, about, begun_by}
use Rattle.odb_service.specs.Run.{Event, Sent, State, after, closed, given_after, once, opened, opens, round, sent_to, submitted, take_each, ticked}
use Rattle.odb_service.specs.Service.{Service}
use Rattle.odb_service.specs.Session.{Item, Monitor, Out, Revision, Session, Watch, at_first, begun, brought, gives, granted, has_id, leaves, owed_from, refilter, renamed, say, shapes, shift, start, stop_at, stopped, sync, take, take_from, take_rest, update_to}
use Rattle.odb_service.specs.World.{World, revision_of}
use Rattle.odb_monitor.proofs.Lists.{bytes_eq-itself}
use Rattle.odb_monitor.proofs.Views.{some_is}
use Rattle.odb_monitor.specs.Names.{AreDistinct, IsApart}
use Rattle.odb_monitor.specs.Update.{table_updates}
use Rattle.odb_monitor.specs.View.{is_none, query}
use Rattle.odb_request.specs.Request.{Request}
use Rattle.odb_tables.specs.Database.{Db}
use Rattle.odb_service.proofs.Each.{Each}

pub cancel_append : {A : Type 0} (xs ys zs : List A) → xs ++ ys ≡ xs ++ zs → ys ≡ zs
cancel_append [] ys zs e = e
cancel_append (x ∷ xs) ys zs e = cancel_append xs ys zs (cc)

abbrev is_nonempty : {A : Type 0} → List A → Bool
is_nonempty [] = false
is_nonempty (x ∷ xs) = true

only_one : {A : Type 0} (o : Option A) (x : A) → option_to_list o ≡ x ∷ [] → o ≡ Some x
only_one None x e = cc
only_one (Some y) x e = cc

module _ (h : Service) where
  -- the monitor that a message is about is found, and G holds of it
  abbrev pub IsFoundFor : (Monitor → Type 0) → Out → List Monitor → Type 0
  IsFoundFor G o ms = (i : Data) → about o ≡ Some i → (m : Monitor) × (find (has_id h i) ms ≡ Some m) × G m

  abbrev pub IsFound : (Monitor → Type 0) → Option Out → List Monitor → Type 0
  IsFound G None ms = Unit {0}
  IsFound G (Some o) ms = IsFoundFor G o ms

  message_about : (revision : Revision) (qs : List Request) (m : Monitor) → about (message_of h revision qs m) ≡ Some m.watch.id
  message_about revision qs m = update_about h revision m.watch (table_updates m.watch.notation false (shapes qs) (change_to h revision.db qs m))

  is_here : (j : Data) (ms : List Monitor) (b : Monitor) → Some b.watch.id ≡ Some j → find (has_id h j) (b ∷ ms) ≡ Some b
  is_here j ms b e = ap (λ t. cond t (Some b) (find (has_id h j) ms)) (ap (λ k. bytes_eq (h.printed k) (h.printed b.watch.id)) (sym (some_is b.watch.id j e)) ∙ bytes_eq-itself (h.printed b.watch.id))

  -- an update under these requests, at the head
  head_found : (G : Monitor → Type 0) (revision : Revision) (qs : List Request) (m : Monitor) (ms : List Monitor) → G (brought h revision.db qs m) → (b : Bool) → IsFound G (cond b None (Some (message_of h revision qs m))) (brought h revision.db qs m ∷ ms)
  head_found G revision qs m ms g true = tt
  head_found G revision qs m ms g false = λ i e. (brought h revision.db qs m, is_here i ms (brought h revision.db qs m) (sym (message_about revision qs m) ∙ e), g)

  one_found : (G : Monitor → Type 0) (revision : Revision) (qs : List Request) (m : Monitor) (ms : List Monitor) → G (brought h revision.db qs m) → IsFound G (update_to h revision qs m) (brought h revision.db qs m ∷ ms)
  one_found G revision qs m ms g = head_found G revision qs m ms g (is_none (change_to h revision.db qs m))

  away_id : (t : List ℕ) (o : Out) (i : Data) → IsAway h t (Some o) → about o ≡ Some i → bytes_eq (h.printed i) t ≡ false
  away_id t o i a e =
      ap (λ k. bytes_eq (h.printed k) t) (some_is i a.1.id (sym e ∙ ap about a.3 ∙ update_about h a.0 a.1 a.2)) ∙ a.4

  -- a message that is about another monitor than the first
  past_found : (G : Monitor → Type 0) (m : Monitor) (ms : List Monitor) (o : Option Out) → IsAway h (h.printed m.watch.id) o → IsFound G o ms → IsFound G o (m ∷ ms)
  past_found G m ms None a w = tt
  past_found G m ms (Some o) a w = λ i e.
      let x : (m : Monitor) × (find (has_id h i) ms ≡ Some m) × G m = w i e in
      (x.0, ap (λ t. cond t (Some m) (find (has_id h i) ms)) (away_id (h.printed m.watch.id) o i a e) ∙ x.1, x.2)

  sync_found : (G : Monitor → Type 0) (revision : Revision) (q : Monitor → List Request) → ((m : Monitor) → IsLike h (q m) m.watch) → (j : Data) → ((m : Monitor) → has_id h j m ≡ true → G (brought h revision.db (q m) m)) → (ms : List Monitor)
      → IsFound G (option_and_then (λ m. update_to h revision (q m) m) (find (has_id h j) ms)) (at_first (has_id h j) (λ m. brought h revision.db (q m) m) ms)
  sync_found G revision q like j g [] = tt
  sync_found G revision q like j g (m ∷ ms) =
      elim (has_id h j m) as (λ b. has_id h j m ≡ b → IsFound G (option_and_then (λ m. update_to h revision (q m) m) (cond b (Some m) (find (has_id h j) ms))) (cond b (brought h revision.db (q m) m ∷ ms) (m ∷ at_first (has_id h j) (λ m. brought h revision.db (q m) m) ms))) [
        | true ↦ λ is. one_found G revision (q m) m ms (g m is)
        | false ↦ λ apart. past_found G m (at_first (has_id h j) (λ m. brought h revision.db (q m) m) ms) _ (found_away h revision q like j (h.printed m.watch.id) apart ms) (sync_found G revision q like j g ms)
      ] refl

  apart_last : (n : List ℕ) (ks : List Watch) (k : Watch) → IsApart n (texts h (ks ++ k ∷ [])) → bytes_eq n (h.printed k.id) ≡ false
  apart_last n [] k a = a.0
  apart_last n (x ∷ ks) k a = apart_last n ks k a.1

  find_last : (b : Monitor) (ms : List Monitor) → AreDistinct (texts h (map (λ m. m.watch) ms ++ b.watch ∷ [])) → find (has_id h b.watch.id) (ms ++ b ∷ []) ≡ Some b
  find_last b [] d = ap (λ t. cond t (Some b) None) (bytes_eq-itself (h.printed b.watch.id))
  find_last b (m ∷ ms) d =
      ap (λ t. cond t (Some m) (find (has_id h b.watch.id) (ms ++ b ∷ []))) (nat_list_eq_equiv.symm (h.printed b.watch.id) (h.printed m.watch.id) ∙ apart_last (h.printed m.watch.id) (map (λ m. m.watch) ms) b.watch d.0)
      ∙ find_last b ms d.1

  pub stay_now : (q : List Item) (ks : List Watch) → StayDistinct h q ks → AreDistinct (texts h ks)
  stay_now [] ks d = d
  stay_now (i ∷ q) ks d = d.0

  -- ---- what is found after a taking

  -- the queue goes on with the reply to a change, and the monitor's view is what its new filters select
  abbrev Changing : Db → List Item → Monitor → Type 0
  Changing db q m =
      (d old new : Data) × (fs : List (List ℕ × Filter)) × (rest : List Item)
      × (q ≡ renamed d old new fs ∷ rest) × (has_id h old m ≡ true) × (m.view ≡ query db (refilter fs m.watch.requests))

  abbrev Fine : Db → List Item → Monitor → Type 0
  Fine db q m = (m.view ≡ query db m.watch.requests) ⊎ Changing db q m

  abbrev IsFineFor : Db → Option Out → Session → Type 0
  IsFineFor db o y = IsFound (Fine db y.queue) o y.monitors

  no_shift : (i : Data) (fs : List (List ℕ × Filter)) (q : List Item) → Goes (shift i fs) q → (d new : Data) × (rest : List Item) × (q ≡ renamed d i new fs ∷ rest)
  no_shift i fs [] g = absurd g
  no_shift i fs (say a m ∷ q) g = absurd g.0
  no_shift i fs (start d k ∷ q) g = absurd g.0
  no_shift i fs (sync j ∷ q) g = absurd g.0
  no_shift i fs (shift j gs ∷ q) g = absurd g.0
  no_shift i fs (renamed d old new gs ∷ q) g = (d, new, q, λ j. renamed d (sym g.0.0 j) new (sym g.0.1 j) ∷ q)
  no_shift i fs (stopped d j ∷ q) g = absurd g.0

  item_fine : (revision : Revision) (i : Item) (is : List Item) (ms : List Monitor) → IsWell h (record { queue = i ∷ is; monitors = ms }) → IsFineFor revision.db (gives h revision i ms) (record { queue = is; monitors = leaves h revision.db i ms })
  item_fine revision (say a d) is ms k = λ i e. absurd (true≢false (sym (ap is_some (sym k.items.0.1 ∙ e))))
  item_fine revision (start d w) is ms k = λ i e.
      (begun h revision.db w, ap (λ j. find (has_id h j) (ms ++ begun h revision.db w ∷ [])) (sym (some_is w.id i (sym (ap begun_by k.items.0.2.1) ∙ e))) ∙ find_last (begun h revision.db w) ms (stay_now is (map (λ m. m.watch) ms ++ w ∷ []) k.distinct.2), inl refl)
  item_fine revision (sync i) is ms k = sync_found (Fine revision.db is) revision (λ m. m.watch.requests) (itself_like h) i (λ m _. inl refl) ms
  item_fine revision (shift i fs) is ms k =
      let n : (d new : Data) × (rest : List Item) × (is ≡ renamed d i new fs ∷ rest) = no_shift i fs is k.order in
      sync_found (Fine revision.db is) revision (λ m. refilter fs m.watch.requests) (refilter_like h fs) i (λ m same. inr (n.0, i, n.1, fs, n.2, n.3, same, refl)) ms
  item_fine revision (renamed d old new fs) is ms k = λ i e. absurd (true≢false (sym (ap is_some (sym (ap begun_by k.items.0.1.1) ∙ e))))
  item_fine revision (stopped d j) is ms k = λ i e. absurd (true≢false (sym (ap is_some (sym (ap begun_by k.items.0.1) ∙ e))))

  stop_found : (G : Monitor → Type 0) (o : Option Out) (b : Monitor) (ms : List Monitor) (rest : Option Out × List Monitor) → IsFound G o (b ∷ ms) → IsAway h (h.printed b.watch.id) rest.0 → IsFound G rest.0 rest.1
      → IsFound G (stop_at o (b ∷ ms) (rest.0, b ∷ rest.1)).0 (stop_at o (b ∷ ms) (rest.0, b ∷ rest.1)).1
  stop_found G None b ms rest w a r = past_found G b rest.1 rest.0 a r
  stop_found G (Some o) b ms rest w a r = w

  rest_fine : (revision : Revision) (ms : List Monitor) → AreDistinct (texts h (map (λ m. m.watch) ms)) → IsFound (Fine revision.db []) (take_rest h revision ms).0 (take_rest h revision ms).1
  rest_fine revision [] d = tt
  rest_fine revision (m ∷ ms) d =
      stop_found (Fine revision.db []) (update_to h revision m.watch.requests m) (brought h revision.db m.watch.requests m) ms (take_rest h revision ms)
      (one_found (Fine revision.db []) revision m.watch.requests m ms (inl refl)) (rest_away h (h.printed m.watch.id) revision ms d.0) (rest_fine revision ms d.1)

  stop_fine : (db : Db) (o : Option Out) (x : Session) (rest : Option Out × Session) → IsFineFor db o x → IsFineFor db rest.0 rest.1 → IsFineFor db (stop_at o x rest).0 (stop_at o x rest).1
  stop_fine db None x rest w r = r
  stop_fine db (Some o) x rest w r = w

  from_fine : (revision : Revision) (q : List Item) (ms : List Monitor) → IsWell h (record { queue = q; monitors = ms }) → IsFineFor revision.db (take_from h revision q ms).0 (take_from h revision q ms).1
  from_fine revision [] ms k = rest_fine revision ms k.distinct
  from_fine revision (i ∷ is) ms k =
      stop_fine revision.db (gives h revision i ms) (record { queue = is; monitors = leaves h revision.db i ms }) (take_from h revision is (leaves h revision.db i ms)) (item_fine revision i is ms k) (from_fine revision is (leaves h revision.db i ms) (next_well h revision.db i is ms k))

  -- ---- as the client has it

  changing : (st : State) (s : ℕ) (y : Session) (i : Data) (m : Monitor) → Holds h y (st.given s) → find (has_id h i) y.monitors ≡ Some m → Changing st.world.db y.queue m → IsChanging h st s y (seen m)
  changing st s y i m k found c =
      let d : Data = c.0 in
      let old : Data = c.1 in
      let new : Data = c.2 in
      let fs : List (List ℕ × Filter) = c.3 in
      let e : y.queue ≡ renamed d old new fs ∷ c.4 = c.5 in
      let sound : IsSound h (renamed d old new fs) = (subst (Each (IsSound h)) e k.0.items).0 in
      let stay : StayDistinct h (renamed d old new fs ∷ c.4) (map (λ m. m.watch) y.monitors) = subst (λ q. StayDistinct h q (map (λ m. m.watch) y.monitors)) e k.0.distinct in
      let distinct : AreDistinct (texts h (map (λ m. m.watch) (leaves h st.world.db (renamed d old new fs) y.monitors))) =
      subst (λ ks. AreDistinct (texts h ks)) (sym (leaves-asks h st.world.db (renamed d old new fs) y.monitors)) (stay_now c.4 _ stay.2) in
      record {
        reply = granted h d;
        rest = owed_from h (revision_of st.world) c.4 (leaves h st.world.db (renamed d old new fs) y.monitors);
        is_next = ap (λ q. owed_from h (revision_of st.world) q y.monitors) e;
        request = d;
        answers = refl;
        granted = refl;
        old = old;
        new = new;
        filters = sound.1.0;
        asks = sound.1.1;
        is_old = c.6;
        later = seen (with_new h new fs m);
        is_later = pictured_seen h new (st.given s ++ granted h d ∷ []) (leaves h st.world.db (renamed d old new fs) y.monitors) (with_new h new fs m)
            (client_item h (revision_of st.world) (renamed d old new fs) y.monitors (st.given s) sound stay.1 k.0.kept k.1)
            (new_found h old new fs y.monitors m (same_found h i old y.monitors m found c.6) distinct);
        same = ap (λ b. cond b (Some m.view) None) (followed-refilter fs m.watch.requests);
        now = is_now h st.world.db (refilter fs m.watch.requests) (with_new h new fs m) c.7;
      }

  whole : (st : State) (s : ℕ) (y : Session) (i : Data) (m : Monitor) → Holds h y (st.given s) → find (has_id h i) y.monitors ≡ Some m → Fine st.world.db y.queue m → IsWhole h st s y i
  whole st s y i m k found (inl e) = (seen m, pictured_seen h i (st.given s) y.monitors m k.1 found, inl (is_now h st.world.db m.watch.requests m e))
  whole st s y i m k found (inr c) = (seen m, pictured_seen h i (st.given s) y.monitors m k.1 found, inr (changing st s y i m k found c))

  -- ---- events

  pub no_message : (a : List Out) (o : Out) (b : List Out) → [] ≡ a ++ o ∷ b → ⊥
  no_message [] o b e = cc
  no_message (x ∷ a) o b e = cc

  -- at most one message
  pub only : (p : Option Out) (a : List Out) (o : Out) (b : List Out) → option_to_list p ≡ a ++ o ∷ b → (a ≡ []) × (b ≡ []) × (p ≡ Some o)
  only None a o b e = absurd (no_message a o b e)
  only (Some x) [] o b e = (refl, cc, cc)
  only (Some x) (y ∷ a) o b e = absurd (no_message a o b (cc))

  abbrev Brings : State → Event → State → ℕ → List Out → Out → List Out → Type 0
  Brings st e now s os o rest =
      (os ≡ []) × (rest ≡ []) × HasTurn s e × (now.world.db ≡ st.world.db)
      × ((x : Session) → get now.world.sessions s ≡ Some x → (i : Data) → about o ≡ Some i → IsWhole h now s x i)

  turn : (s : ℕ) (ss : List ℕ) (w : World) (os : List Out) (o : Out) (rest : List Out) → sent_to s (take_each h (once ss) w).1 ≡ os ++ o ∷ rest → (b : Bool) → IsIn s ss ≡ b → b ≡ true
  turn s ss w os o rest e true is = refl
  turn s ss w os o rest e false is = absurd (no_message os o rest (sym (each_other h s (once ss) w (not_in_once s ss is)).1 ∙ e))

  round_brings : ReadsNamed h → (st : State) (ss : List ℕ) → IsHeld h st.world st.given → (s : ℕ) (os : List Out) (o : Out) (rest : List Out) → sent_to s (take_each h (once ss) st.world).1 ≡ os ++ o ∷ rest
      → IsHeld h (take_each h (once ss) st.world).0 (given_after (round ss) (take_each h (once ss) st.world).1 st.given)
      → Brings st (round ss) (after h (round ss) st (take_each h (once ss) st.world)) s os o rest
  round_brings named st ss k s os o rest e l = by (take_once h (once ss) st.world (once_once ss) s)
    where
      now : State
      now = after h (round ss) st (take_each h (once ss) st.world)

      by : Took h (once ss) st.world s → Brings st (round ss) now s os o rest
      by (inl none) = absurd (no_message os o rest (sym none ∙ e))
      by (inr x) =
          let p : (os ≡ []) × (rest ≡ []) × ((take h (revision_of st.world) x.0).0 ≡ Some o) = only (take h (revision_of st.world) x.0).0 os o rest (sym x.2 ∙ e) in (
            p.0,
            p.1,
            ap (λ b. b) (turn s ss st.world os o rest e (IsIn s ss) refl),
            each_db h (once ss) st.world,
            λ y found i is.
                let same : (take h (revision_of st.world) x.0).1 ≡ y = some_is _ y (sym x.3 ∙ found) in
                let f : IsFoundFor (Fine st.world.db (take h (revision_of st.world) x.0).1.queue) o (take h (revision_of st.world) x.0).1.monitors =
                subst (λ t. IsFound (Fine st.world.db (take h (revision_of st.world) x.0).1.queue) t (take h (revision_of st.world) x.0).1.monitors) p.2 (from_fine (revision_of st.world) x.0.queue x.0.monitors (k.0 s x.0 x.1).0) in
                let g : (m : Monitor) × (find (has_id h i) y.monitors ≡ Some m) × Fine now.world.db y.queue m =
                subst (λ (db : Db). (m : Monitor) × (find (has_id h i) y.monitors ≡ Some m) × Fine db y.queue m) (sym (each_db h (once ss) st.world))
                (subst (λ (z : Session). (m : Monitor) × (find (has_id h i) z.monitors ≡ Some m) × Fine st.world.db z.queue m) same (f i is)) in
                whole now s y i g.0 (l.0 s y found) g.1 g.2,
          )

  event_brings : ReadsNamed h → (e : Event) (st : State) (r : World × List Sent) → IsHeld h st.world st.given → Stepped h e st.world r → (s : ℕ) → opens e s ≡ false → (os : List Out) (o : Out) (rest : List Out)
      → sent_to s r.1 ≡ os ++ o ∷ rest → IsHeld h r.0 (given_after e r.1 st.given) → Brings st e (after h e st r) s os o rest
  event_brings named (opened t) st r k is s quiet os o rest e l = absurd (no_message os o rest (ap (λ (p : World × List Sent). sent_to s p.1) is.1 ∙ e))
  event_brings named (submitted t d fresh now) st r k is s quiet os o rest e l = absurd (no_message os o rest (ap (λ (p : World × List Sent). sent_to s p.1) is.2 ∙ e))
  event_brings named (ticked now) st r k is s quiet os o rest e l = absurd (no_message os o rest (ap (λ (p : World × List Sent). sent_to s p.1) is ∙ e))
  event_brings named (closed t) st r k is s quiet os o rest e l = absurd (no_message os o rest (ap (λ (p : World × List Sent). sent_to s p.1) is ∙ e))
  event_brings named (round ss) st r k is s quiet os o rest e l =
      subst (λ (p : World × List Sent). sent_to s p.1 ≡ os ++ o ∷ rest → IsHeld h p.0 (given_after (round ss) p.1 st.given) → Brings st (round ss) (after h (round ss) st p) s os o rest) is
      (λ e l. round_brings named st ss k s os o rest e l) e l

  pub brings_whole : ReadsNamed h → BringsWhole h
  brings_whole named st reached e now stepped s quiet os o rest given =
      let n : (r : World × List Sent) × Stepped h e st.world r × (after h e st r ≡ now) = next_is h e st now stepped in
      let k : IsHeld h st.world st.given = reached_good h named st reached in
      subst (λ (m : State). m.given s ≡ st.given s ++ os ++ o ∷ rest → Brings st e m s os o rest) n.2
      (λ g. event_brings named e st n.0 k n.1 s quiet os o rest (cancel_append (st.given s) (sent_to s n.0.1) (os ++ o ∷ rest) (ap (λ b. cond b [] (st.given s ++ sent_to s n.0.1)) (sym quiet) ∙ g ∙ append_assoc (st.given s) os (o ∷ rest))) (step_good h named e st n.0 k n.1)) given
