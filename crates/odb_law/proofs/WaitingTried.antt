-- Each waiting transaction was tried on the database as it is, and had to wait.
use Rattle.std.proofs.Common.{◌≡◌, ℕ, zero, suc, ◌+◌, ◌*◌, ◌≤◌, ◌==◌, max, length, Bool, true, false, cond, not, List, [], ◌∷◌, ◌++◌, Option, Some, None, is_some, refl, sym, ◌∙◌, ap, subst, true≢false, arith}
use Rattle.std.specs.Prelude.{option_to_list, filter}
use borrow.Author.Tests.{eqb-true}
use Rattle.serde_json.specs.Data.{Data}
use Rattle.odb_rpc.specs.Message as message
use Rattle.odb_atoms.specs.FinMap.{get, remove}
use Rattle.odb_service.proofs.Retried.{all_tried}
use Rattle.odb_service.proofs.SessionMaps.{get-remove}
use Rattle.odb_service.proofs.Splits.{Split, split_parts}
use Rattle.odb_law.proofs.EventSteps.{Stepped, opened_world, reached_has}
use Rattle.odb_law.specs.Headline.{IsReached}
use Rattle.odb_law.specs.Law.{AllAreTried, AllHadToWait}
use Rattle.odb_service.specs.Run.{Event, Sent, State, after, beginning, closed, once, opened, round, submitted, ticked}
use Rattle.odb_service.specs.Service.{Outcome, Service, ended, waiting}
use Rattle.odb_service.specs.Session.{no_result, with_content}
use Rattle.odb_wire.specs.Message.{id_of}
use Rattle.odb_service.specs.World.{Waiting, World, asked_of, at_moment, attempt, cancel_one, close, end_transaction, handle, is_due, is_of, is_untried, locked, on_outcome, retry, retry_all, split_first, tick, try_due, try_one, untried, watched, with_waiting}
use Rattle.odb_locks.specs.Locks.{drop_session, lock, owns, steal, unlock}
use Rattle.odb_rpc.specs.Message.{Call, call_of, reply}
use Rattle.odb_tables.specs.Database.{Db}
use Rattle.odb_atoms.specs.Uuid.{Uuid}
use Rattle.odb_rpc.specs.Message.{canceled}
use Rattle.odb_service.proofs.Each.{Each, each_append, each_before, each_after, each_filter, no_split, none_passes}
use Rattle.odb_service.proofs.OnlyPosts.{grown, Rest, answers, cancels, changes, fails, locks, monitors, notes, posts, rest, takes_each}
use Rattle.odb_service.proofs.SessionMaps.{apart_keys, eq_turned}

module _ (h : Service) where
  abbrev pub Waited : Db → ℕ → ℕ → Waiting → Type 0
  Waited db commits now p =
      (moment : ℕ) × (moment ≤ now) × (owns : List ℕ → Bool)
      × (h.transact db (commits + 1) p.operations (record { fresh = p.fresh; arrival = p.arrival; now = moment; owns = owns }) ≡ waiting p.deadline)

  -- of an open session, tried before, and, if it was since the newest commit, it had to wait
  abbrev pub SoFar : Db → ℕ → ℕ → (ℕ → Bool) → Waiting → Type 0
  SoFar db commits now is_open p = (is_open p.session ≡ true) × (p.tried ≤ commits) × (p.tried ≡ commits → Waited db commits now p)

  abbrev pub opens : World → ℕ → Bool
  opens w s = is_some (get w.sessions s)

  abbrev pub AllSoFar : World → List Waiting → Type 0
  AllSoFar w ps = Each (SoFar w.db w.commits w.now (opens w)) ps

  abbrev RestSoFar : List Waiting → Rest → Type 0
  RestSoFar ps r = Each (SoFar r.0 r.1 r.2 r.3) ps

  -- all were tried since the newest commit
  abbrev pub Settled : Rest → Type 0
  Settled r = Each (SoFar r.0 r.1 r.2 r.3) r.4 × (split_first (is_untried r.1) r.4 ≡ None)

  -- ---- a try

  after_commit : (db new : Db) (commits now : ℕ) (is_open : ℕ → Bool) (p : Waiting) → SoFar db commits now is_open p → SoFar new (commits + 1) now is_open p
  after_commit db new commits now is_open p k =
      let l : p.tried ≤ commits = k.1 in
      (k.0, omega (arith, l), λ e. let f : p.tried ≡ commits + 1 = e in absurd (omega (arith, l, f)))

  all_after_commit : (db new : Db) (commits now : ℕ) (is_open : ℕ → Bool) (ps : List Waiting) → Each (SoFar db commits now is_open) ps → Each (SoFar new (commits + 1) now is_open) ps
  all_after_commit db new commits now is_open [] k = tt
  all_after_commit db new commits now is_open (p ∷ ps) k = (after_commit db new commits now is_open p k.0, all_after_commit db new commits now is_open ps k.1)

  -- the others keep what they had, and one that waits had to
  abbrev Tries : List Waiting → World × Option Waiting → Type 0
  Tries ps r = AllSoFar r.0 ps × AllSoFar r.0 (option_to_list r.1)

  ends : (s : ℕ) (d results : Data) (o : Option Db) (w : World) (ps : List Waiting) → AllSoFar w ps → AllSoFar (end_transaction h s d results o w) ps
  ends s d results None w ps k = subst (RestSoFar ps) (sym (answers h s d (reply (id_of d) results) w)) k
  ends s d results (Some db) w ps k =
      subst (RestSoFar ps) (sym (posts h s _ (record w { db = db; commits = w.commits + 1; earlier = with_content w.db w.earlier }))) (all_after_commit w.db db w.commits w.now (opens w) ps k)

  at_most : (n : ℕ) → n ≤ n
  at_most n = omega arith

  tries : (p : Waiting) (w : World) (ps : List Waiting) → opens w p.session ≡ true → AllSoFar w ps → (o : Outcome)
      → h.transact w.db (w.commits + 1) p.operations (record { fresh = p.fresh; arrival = p.arrival; now = w.now; owns = owns w.locks p.session }) ≡ o → Tries ps (on_outcome h p o w)
  tries p w ps is_open k (ended results changed) e = (ends p.session p.request results changed w ps k, tt)
  tries p w ps is_open k (waiting deadline) e = (k, ((is_open, at_most w.commits, λ _. (w.now, at_most w.now, owns w.locks p.session, e)), tt))

  attempts : (p : Waiting) (w : World) (ps : List Waiting) → opens w p.session ≡ true → AllSoFar w ps → Tries ps (attempt h p w)
  attempts p w ps is_open k = tries p w ps is_open k (h.transact w.db (w.commits + 1) p.operations (record { fresh = p.fresh; arrival = p.arrival; now = w.now; owns = owns w.locks p.session })) refl

  tries_one : (t : Split Waiting) (w : World) → w.waiting ≡ t.0 ++ t.1 ∷ t.2 → AllSoFar w w.waiting → AllSoFar (try_one h t w) (try_one h t w).waiting
  tries_one t w is k =
      let r : World × Option Waiting = attempt h t.1 w in
      let P : Waiting → Type 0 = SoFar w.db w.commits w.now (opens w) in
      let Q : Waiting → Type 0 = SoFar r.0.db r.0.commits r.0.now (opens r.0) in
      let all : Each P (t.0 ++ t.1 ∷ t.2) = subst (Each P) is k in
      let behind : Each P (t.1 ∷ t.2) = each_after P t.0 (t.1 ∷ t.2) all in
      let a : Tries t.0 r = attempts t.1 w t.0 behind.0.0 (each_before P t.0 (t.1 ∷ t.2) all) in
      let b : Tries t.2 r = attempts t.1 w t.2 behind.0.0 behind.1 in
      each_append Q (t.0 ++ option_to_list r.1) t.2 (each_append Q t.0 (option_to_list r.1) a.0 a.1) b.0

  retries : (n : ℕ) (w : World) → AllSoFar w w.waiting → AllSoFar (retry h n w) (retry h n w).waiting
  retries zero w k = k
  retries (suc n) w k =
      elim (untried h w) as (λ o. untried h w ≡ o → AllSoFar (elim o as (λ _. World) [ None ↦ w | Some t ↦ retry h n (try_one h t w) ]) (elim o as (λ _. World) [ None ↦ w | Some t ↦ retry h n (try_one h t w) ]).waiting) [
        | None ↦ λ _. k
        | Some t ↦ λ e. retries n (try_one h t w) (tries_one t w (split_parts (is_untried w.commits) w.waiting t e).0 k)
      ] refl

  settles : (w : World) → AllSoFar w w.waiting → Settled (rest (retry_all h w))
  settles w k = (retries ((length w.waiting + 1) * (length w.waiting + 1)) w k, all_tried h w)

  parks : (p : Waiting) (w : World) → opens w p.session ≡ true → AllSoFar w w.waiting → AllSoFar (with_waiting h (λ ps o. ps ++ option_to_list o) w.waiting (attempt h p w)) (with_waiting h (λ ps o. ps ++ option_to_list o) w.waiting (attempt h p w)).waiting
  parks p w is_open k =
      let r : World × Option Waiting = attempt h p w in
      let a : Tries w.waiting r = attempts p w w.waiting is_open k in
      each_append (SoFar r.0.db r.0.commits r.0.now (opens r.0)) w.waiting (option_to_list r.1) a.0 a.1

  dues : (ps : List Waiting) (w : World) → AllSoFar w w.waiting → AllSoFar w ps → AllSoFar (try_due h ps w) (try_due h ps w).waiting
  dues [] w k l = k
  dues (p ∷ ps) w k l =
      elim (is_due w.now p.deadline) as (λ b. AllSoFar (try_due h ps (cond b (with_waiting h (λ ps o. ps ++ option_to_list o) w.waiting (attempt h p w)) (record w { waiting = w.waiting ++ p ∷ [] }))) (try_due h ps (cond b (with_waiting h (λ ps o. ps ++ option_to_list o) w.waiting (attempt h p w)) (record w { waiting = w.waiting ++ p ∷ [] }))).waiting) [
        | true ↦ dues ps (with_waiting h (λ ps o. ps ++ option_to_list o) w.waiting (attempt h p w)) (parks p w l.0.0 k) (attempts p w ps l.0.0 l.1).0
        | false ↦ dues ps (record w { waiting = w.waiting ++ p ∷ [] }) (each_append (SoFar w.db w.commits w.now (opens w)) w.waiting (p ∷ []) k (l.0, tt)) l.1
      ]

  at_max : (m a b : ℕ) → m ≤ a → m ≤ max a b
  at_max m a b l = omega (arith, l)

  later_moment : (db : Db) (commits now then : ℕ) (is_open : ℕ → Bool) (p : Waiting) → SoFar db commits now is_open p → SoFar db commits (max now then) is_open p
  later_moment db commits now then is_open p k = (k.0, k.1, λ e. let x : Waited db commits now p = k.2 e in (x.0, at_max x.0 now then x.1, x.2, x.3))

  all_later : (db : Db) (commits now then : ℕ) (is_open : ℕ → Bool) (ps : List Waiting) → Each (SoFar db commits now is_open) ps → Each (SoFar db commits (max now then) is_open) ps
  all_later db commits now then is_open [] k = tt
  all_later db commits now then is_open (p ∷ ps) k = (later_moment db commits now then is_open p k.0, all_later db commits now then is_open ps k.1)

  ticks : (now : ℕ) (w : World) → Settled (rest w) → Settled (rest (tick h now w))
  ticks now w k =
      settles (try_due h w.waiting (record (at_moment h now w) { waiting = [] })) (dues w.waiting (record (at_moment h now w) { waiting = [] }) tt (all_later w.db w.commits w.now now (opens w) w.waiting k.0))

  cancelled : (s : ℕ) (id : Data) (o : Option (Split Waiting)) (w : World) → split_first (is_of h s id) w.waiting ≡ o → Settled (rest w) → Settled (rest (cancel_one h s o w))
  cancelled s id None w e k = k
  cancelled s id (Some t) w e k =
      let P : Waiting → Type 0 = SoFar w.db w.commits w.now (opens w) in
      let Q : Waiting → Type 0 = λ p. is_untried w.commits p ≡ false in
      let is : w.waiting ≡ t.0 ++ t.1 ∷ t.2 = (split_parts (is_of h s id) w.waiting t e).0 in
      let all : Each P (t.0 ++ t.1 ∷ t.2) = subst (Each P) is k.0 in
      let none : Each Q (t.0 ++ t.1 ∷ t.2) = subst (Each Q) is (none_passes (is_untried w.commits) w.waiting k.1) in
      subst Settled (sym (fails h s t.1.request canceled (record w { waiting = t.0 ++ t.2 }))) (
        each_append P t.0 t.2 (each_before P t.0 (t.1 ∷ t.2) all) (each_after P t.0 (t.1 ∷ t.2) all).1,
        no_split (is_untried w.commits) (t.0 ++ t.2) (each_append Q t.0 t.2 (each_before Q t.0 (t.1 ∷ t.2) none) (each_after Q t.0 (t.1 ∷ t.2) none).1),
      )

  handles : (s : ℕ) (d : Data) (fresh : List Uuid) (c : Call) (w : World) → opens w s ≡ true → Settled (rest w) → Settled (rest (handle h s d fresh c w))
  handles s d fresh (message.answered m) w is_open k = subst Settled (sym (answers h s d m w)) k
  handles s d fresh (message.transact id ops) w is_open k =
      let p : Waiting = record { session = s; request = d; operations = ops; fresh = fresh; arrival = w.now; deadline = None; tried = w.commits } in
      settles (with_waiting h (λ ps o. ps ++ option_to_list o) w.waiting (attempt h p w)) (parks p w is_open k.0)
  handles s d fresh (message.monitor id n i requests since) w is_open k = subst Settled (sym (monitors h s d n i since requests w)) k
  handles s d fresh (message.change_filters id old new filters) w is_open k = subst Settled (sym (changes h s d old new filters (watched h old (asked_of h (get w.sessions s))) w)) k
  handles s d fresh (message.cancel_monitor id i) w is_open k = subst Settled (sym (cancels h s d i (watched h i (asked_of h (get w.sessions s))) w)) k
  handles s d fresh (message.lock id name) w is_open k = subst Settled (sym (locks h s d (locked h) (lock w.locks s name) w)) k
  handles s d fresh (message.steal id name) w is_open k = subst Settled (sym (locks h s d (locked h) (steal w.locks s name) w)) k
  handles s d fresh (message.unlock id name) w is_open k = subst Settled (sym (locks h s d (λ b. no_result) (unlock w.locks s name) w)) k
  handles s d fresh (message.cancel id) w is_open k = cancelled s id (split_first (is_of h s id) w.waiting) w refl k
  handles s d fresh message.passed_over w is_open k = k

  -- the transactions of the others, whose sessions stay
  still_open : (s : ℕ) (w : World) (ps : List Waiting) → AllSoFar w ps → Each (SoFar w.db w.commits w.now (λ t. is_some (get (remove w.sessions s) t))) (filter (λ p. not (p.session == s)) ps)
  still_open s w [] k = tt
  still_open s w (p ∷ ps) k =
      elim (p.session == s) as (λ b. (p.session == s) ≡ b → Each (SoFar w.db w.commits w.now (λ t. is_some (get (remove w.sessions s) t))) (cond (not b) (p ∷ filter (λ p. not (p.session == s)) ps) (filter (λ p. not (p.session == s)) ps))) [
        | true ↦ λ _. still_open s w ps k.1
        | false ↦ λ apart. (
          (ap is_some (get-remove w.sessions s p.session ∙ ap (λ b. cond b None (get w.sessions p.session)) (apart_keys p.session s (eq_turned s p.session ∙ apart))) ∙ k.0.0, k.0.1, k.0.2),
          still_open s w ps k.1,
        )
      ] refl

  closes : (s : ℕ) (w : World) → Settled (rest w) → Settled (rest (close h s w))
  closes s w k =
      let test : Waiting → Bool = λ p. not (p.session == s) in
      subst Settled (sym (notes h (drop_session w.locks s).1 (record w { locks = (drop_session w.locks s).0; sessions = remove w.sessions s; waiting = filter test w.waiting })))
      (still_open s w w.waiting k.0, no_split (is_untried w.commits) (filter test w.waiting) (each_filter (λ p. is_untried w.commits p ≡ false) test w.waiting (none_passes (is_untried w.commits) w.waiting k.1)))

  more_open : (s : ℕ) (w : World) (ps : List Waiting) → AllSoFar w ps → AllSoFar (opened_world h s w) ps
  more_open s w [] k = tt
  more_open s w (p ∷ ps) k = ((grown w.sessions s (record { queue = []; monitors = [] }) p.session k.0.0, k.0.1, k.0.2), more_open s w ps k.1)

  abbrev pub IsSettled : State → Type 0
  IsSettled st = Settled (rest st.world)

  pub step_settles : (e : Event) (st : State) (r : World × List Sent) → IsSettled st → Stepped h e st.world r → IsSettled (after h e st r)
  step_settles (opened s) st r k is = subst (λ (p : World × List Sent). Settled (rest p.0)) is.1 (more_open s st.world st.world.waiting k.0, k.1)
  step_settles (submitted s d fresh now) st r k is =
      subst (λ (p : World × List Sent). Settled (rest p.0)) is.2 (handles s d fresh (call_of h.db_name h.schema h.serves d) (at_moment h now st.world) (ap is_some is.1.0) (all_later st.world.db st.world.commits st.world.now now (opens st.world) st.world.waiting k.0, k.1))
  step_settles (ticked now) st r k is = subst (λ (p : World × List Sent). Settled (rest p.0)) is (ticks now st.world k)
  step_settles (closed s) st r k is = subst (λ (p : World × List Sent). Settled (rest p.0)) is (closes s st.world k)
  step_settles (round ss) st r k is = subst (λ (p : World × List Sent). Settled (rest p.0)) is (subst Settled (sym (takes_each h (once ss) st.world)) k)

  pub begins_settled : (word most tables : ℕ) → IsSettled (beginning word most tables)
  begins_settled word most tables = (tt, refl)

  reached_settled : (st : State) → IsReached h st → IsSettled st
  reached_settled st r = reached_has h IsSettled begins_settled step_settles st r

  not_false : (b : Bool) → not b ≡ false → b ≡ true
  not_false true e = refl
  not_false false e = absurd (true≢false e)

  all_waited : (w : World) (ps : List Waiting) → AllSoFar w ps → Each (λ p. is_untried w.commits p ≡ false) ps → AllHadToWait h w ps
  all_waited w [] k l = tt
  all_waited w (p ∷ ps) k l =
      let x : Waited w.db w.commits w.now p = k.0.2 (eqb-true p.tried w.commits (not_false (p.tried == w.commits) l.0)) in
      ((k.0.0, x.0, x.1, x.2, x.3), all_waited w ps k.1 l.1)

  -- each waiting transaction is of an open session
  pub open_of : (w : World) (ps : List Waiting) → AllSoFar w ps → Each (λ p. is_some (get w.sessions p.session) ≡ true) ps
  open_of w [] k = tt
  open_of w (p ∷ ps) k = (k.0.0, open_of w ps k.1)

  pub reached_open : (st : State) → IsReached h st → Each (λ p. is_some (get st.world.sessions p.session) ≡ true) st.world.waiting
  reached_open st r = open_of st.world st.world.waiting (reached_settled st r).0

  pub all_are_tried : AllAreTried h
  all_are_tried = record {
    tried = λ st r. (reached_settled st r).1;
    waited = λ st r. all_waited st.world st.world.waiting (reached_settled st r).0 (none_passes (is_untried st.world.commits) st.world.waiting (reached_settled st r).1);
  }
