-- What a transaction changed is told before its reply.
use Rattle.std.proofs.Common.{◌≡◌, ℕ, ◌+◌, cond, List, [], ◌∷◌, ◌++◌, map, Option, Some, None, refl, sym, ◌∙◌, ap, subst, append_assoc}
use Rattle.std.specs.Prelude.{option_to_list}
use Rattle.std.specs.Cmp.Lexicographic.{nat_list_eq_equiv}
use Rattle.odb_atoms.specs.FinMap.{get}
use Rattle.odb_law.proofs.Committed.{all_stays, behind, none_left}
use Rattle.odb_law.proofs.HeadlineRuns.{reached_good}
use Rattle.odb_service.proofs.SessionMaps.{get-insert, key-itself}
use Rattle.odb_law.proofs.SessionInvariant.{leaves-asks, texts}
use Rattle.odb_law.proofs.EventSteps.{Stepped, next_is}
use Rattle.odb_law.proofs.WorldInvariant.{asked_distinct}
use Rattle.odb_law.specs.Headline.{ReadsNamed}
use Rattle.odb_law.specs.Law.{IsToldBefore}
use Rattle.odb_service.specs.Run.{Sent, State, after, submitted}
use Rattle.odb_service.specs.Service.{Service, ended}
use Rattle.odb_service.specs.Session.{Answers, Item, Monitor, Out, Revision, Session, Watch, asked, asked_after, at_first, brought, gives, has_id, leaves, owed, owed_from, say, sync, to, with_content}
use Rattle.odb_wire.specs.Message.{id_of}
use Rattle.odb_service.specs.World.{Waiting, World, asked_of, at_moment, handle, post_to, push, retry_all, revision_of}
use Rattle.odb_monitor.proofs.Lists.{bytes_eq-itself}
use Rattle.odb_monitor.proofs.Views.{some_is}
use Rattle.odb_monitor.specs.Names.{AreDistinct, IsApart}
use Rattle.odb_rpc.specs.Message.{reply}
use Rattle.odb_tables.specs.Database.{Db}
use Rattle.odb_service.proofs.WhatIsOwed.{all_owe_nothing}
use Rattle.serde_json.specs.Data.{Data}

module _ (h : Service) where
  abbrev pub left : Db → List Item → List Monitor → List Monitor
  left db [] ms = ms
  left db (i ∷ is) ms = left db is (leaves h db i ms)

  abbrev pub given : Revision → List Item → List Monitor → List Out
  given revision [] ms = []
  given revision (i ∷ is) ms = option_to_list (gives h revision i ms) ++ given revision is (leaves h revision.db i ms)

  pub owed_append : (revision : Revision) (q is : List Item) (ms : List Monitor) → owed_from h revision (q ++ is) ms ≡ given revision q ms ++ owed_from h revision is (left revision.db q ms)
  owed_append revision [] is ms = refl
  owed_append revision (i ∷ q) is ms =
      ap (λ os. option_to_list (gives h revision i ms) ++ os) (owed_append revision q is (leaves h revision.db i ms))
      ∙ sym (append_assoc (option_to_list (gives h revision i ms)) (given revision q (leaves h revision.db i ms)) (owed_from h revision is (left revision.db q (leaves h revision.db i ms))))

  left_asked : (db : Db) (q : List Item) (ms : List Monitor) → map (λ m. m.watch) (left db q ms) ≡ asked_after h q (map (λ m. m.watch) ms)
  left_asked db [] ms = refl
  left_asked db (i ∷ q) ms = left_asked db q (leaves h db i ms) ∙ ap (asked_after h q) (leaves-asks h db i ms)

  abbrev syncs : List Watch → List Item
  syncs ks = map (λ k. sync k.id) ks

  abbrev as_now : Db → Monitor → Monitor
  as_now db m = brought h db m.watch.requests m

  -- syncs of other monitors
  past : (db : Db) (b : Monitor) (ks : List Watch) (ms : List Monitor) → IsApart (h.printed b.watch.id) (texts h ks) → left db (syncs ks) (b ∷ ms) ≡ b ∷ left db (syncs ks) ms
  past db b [] ms a = refl
  past db b (k ∷ ks) ms a =
      ap (λ c. left db (syncs ks) (cond c (as_now db b ∷ ms) (b ∷ at_first (has_id h k.id) (as_now db) ms))) (nat_list_eq_equiv.symm (h.printed k.id) (h.printed b.watch.id) ∙ a.0)
      ∙ past db b ks (at_first (has_id h k.id) (as_now db) ms) a.1

  all_synced : (db : Db) (ms : List Monitor) → AreDistinct (texts h (map (λ m. m.watch) ms)) → left db (syncs (map (λ m. m.watch) ms)) ms ≡ map (as_now db) ms
  all_synced db [] d = refl
  all_synced db (m ∷ ms) d =
      ap (λ c. left db (syncs (map (λ m. m.watch) ms)) (cond c (as_now db m ∷ ms) (m ∷ at_first (has_id h m.watch.id) (as_now db) ms))) (bytes_eq-itself (h.printed m.watch.id))
      ∙ past db (as_now db m) (map (λ m. m.watch) ms) ms d.0
      ∙ ap (λ xs. as_now db m ∷ xs) (all_synced db ms d.1)

  abbrev Told : Revision → Session → Out → Type 0
  Told revision y o = (a : List Out) × (owed h revision y ≡ a ++ o ∷ [])

  -- after syncs of all monitors asked for, a reply is the last
  last : (revision : Revision) (x : Session) (a : Answers) (m : Data) → AreDistinct (texts h (asked h x)) → Told revision (push (syncs (asked h x) ++ say a m ∷ []) x) (record { answers = a; message = m; held = None })
  last revision x a m d =
      let o : Out = record { answers = a; message = m; held = None } in
      let ms : List Monitor = left revision.db x.queue x.monitors in
      let same : map (λ m. m.watch) ms ≡ asked h x = left_asked revision.db x.queue x.monitors in
      let synced : left revision.db (syncs (asked h x)) ms ≡ map (as_now revision.db) ms =
      ap (λ ks. left revision.db (syncs ks) ms) (sym same) ∙ all_synced revision.db ms (subst (λ ks. AreDistinct (texts h ks)) (sym same) d) in (
        given revision x.queue x.monitors ++ given revision (syncs (asked h x)) ms,
        owed_append revision x.queue (syncs (asked h x) ++ say a m ∷ []) x.monitors
            ∙ ap (λ os. given revision x.queue x.monitors ++ os) (owed_append revision (syncs (asked h x)) (say a m ∷ []) ms
            ∙ ap (λ xs. given revision (syncs (asked h x)) ms ++ (o ∷ owed_from h revision [] xs)) synced
            ∙ ap (λ os. given revision (syncs (asked h x)) ms ++ (o ∷ os)) (all_owe_nothing h revision ms))
            ∙ sym (append_assoc (given revision x.queue x.monitors) (given revision (syncs (asked h x)) ms) (o ∷ [])),
      )

  posted : (w : World) (s : ℕ) (x : Session) (is : List Item) → get w.sessions s ≡ Some x → get (post_to s is (get w.sessions s) w).sessions s ≡ Some (push is x)
  posted w s x is e =
      ap (λ o. get (post_to s is o w).sessions s) e ∙ get-insert w.sessions s (push is x) s ∙ ap (λ b. cond b (Some (push is x)) (get w.sessions s)) (key-itself s)

  -- items that are posted leave what takings look at
  post_revision : (s : ℕ) (is : List Item) (o : Option Session) (w : World) → revision_of (post_to s is o w) ≡ revision_of w
  post_revision s is None w = refl
  post_revision s is (Some x) w = refl

  pub told_before : ReadsNamed h → IsToldBefore h
  told_before named st now reached s d fresh moment stepped none id operations call results db outcome y found =
      let n : (r : World × List Sent) × Stepped h (submitted s d fresh moment) st.world r × (after h (submitted s d fresh moment) st r ≡ now) = next_is h (submitted s d fresh moment) st now stepped in
      let x : Session = n.1.0 in
      let w : World = at_moment h moment st.world in
      let p : Waiting = record { session = s; request = d; operations = operations; fresh = fresh; arrival = w.now; deadline = None; tried = w.commits } in
      let o : Out = record { answers = to d; message = reply (id_of d) results; held = None } in
      let is : List Item = syncs (asked_of h (get w.sessions s)) ++ say (to d) (reply (id_of d) results) ∷ [] in
      let world : now.world ≡ behind h p (ended results (Some db)) w =
      ap (λ (m : State). m.world) (sym n.2) ∙ ap (λ (q : World × List Sent). q.0) (sym n.1.2) ∙ ap (λ c. handle h s d fresh c w) call
      ∙ ap (λ out. retry_all h (behind h p out w)) outcome ∙ all_stays h (behind h p (ended results (Some db)) w) (none_left h p (ended results (Some db)) w none) in
      let here : get (behind h p (ended results (Some db)) w).sessions s ≡ Some (push is x) = posted (record w { db = db; commits = w.commits + 1; earlier = with_content w.db w.earlier }) s x is n.1.1.0 in
      let same : push is x ≡ y = some_is (push is x) y (sym here ∙ ap (λ (v : World). get v.sessions s) (sym world) ∙ found) in
      let all : asked_of h (get w.sessions s) ≡ asked h x = ap (asked_of h) n.1.1.0 in
      let revision : Revision = record { db = db; commits = w.commits + 1; earlier = with_content w.db w.earlier } in
      let own : revision_of (behind h p (ended results (Some db)) w) ≡ revision = post_revision s is (get w.sessions s) (record w { db = db; commits = w.commits + 1; earlier = with_content w.db w.earlier }) in
      subst (λ (v : World). Told (revision_of v) y o) (sym world)
      (subst (λ (u : Revision). Told u y o) (sym own)
      (subst (λ (z : Session). Told revision z o) same
      (subst (λ ks. Told revision (push (syncs ks ++ say (to d) (reply (id_of d) results) ∷ []) x) o) (sym all) (last revision x (to d) (reply (id_of d) results) (asked_distinct h x ((reached_good h named st reached).0 s x n.1.1.0).0)))))
