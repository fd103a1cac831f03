-- Where no transaction waits, one that is submitted is run at once, and nothing else changes the database.
use Rattle.std.proofs.Common.{◌≡◌, ℕ, zero, suc, ◌+◌, ◌*◌, ◌==◌, length, cond, not, List, [], ◌∷◌, ◌++◌, map, Option, Some, None, refl, sym, ◌∙◌, ap}
use Rattle.std.specs.Prelude.{option_to_list, filter}
use borrow.Author.Tests.{eq-eqb}
use Rattle.serde_json.specs.Data.{Data}
use Rattle.odb_rpc.specs.Message as message
use Rattle.odb_atoms.specs.FinMap.{get, remove}
use Rattle.odb_service.proofs.Splits.{Split}
use Rattle.odb_law.proofs.EventSteps.{Stepped, next_is}
use Rattle.odb_law.specs.Law.{IsCommitted, committed_by, run_at_once, with_outcome}
use Rattle.odb_service.specs.Run.{Event, Sent, State, after, closed, once, opened, round, submitted, ticked}
use Rattle.odb_service.specs.Service.{Outcome, Service, ended, waiting}
use Rattle.odb_service.specs.Session.{Revision, no_result, say, sync, to, with_content}
use Rattle.odb_wire.specs.Message.{id_of}
use Rattle.odb_service.specs.World.{Waiting, World, asked_of, at_moment, cancel_one, handle, is_of, is_untried, locked, on_outcome, retry, retry_all, revision_of, split_first, try_due, try_one, untried, watched, with_waiting}
use Rattle.odb_locks.specs.Locks.{drop_session, lock, owns, steal, unlock}
use Rattle.odb_rpc.specs.Message.{Call, call_of, reply}
use Rattle.odb_atoms.specs.Uuid.{Uuid}
use Rattle.odb_rpc.specs.Message.{canceled}
use Rattle.odb_service.proofs.OnlyPosts.{Rest, answers, cancels, changes, fails, locks, monitors, notes, posts, takes_each}

abbrev of_rest : Rest → Revision
of_rest r = record { db = r.0; commits = r.1; earlier = r.5 }

module _ (h : Service) where
  retry_stays : (n : ℕ) (w : World) → untried h w ≡ None → retry h n w ≡ w
  retry_stays zero w e = refl
  retry_stays (suc n) w e = ap (λ o. elim o as (λ _. World) [ None ↦ w | Some t ↦ retry h n (try_one h t w) ]) e

  pub all_stays : (w : World) → untried h w ≡ None → retry_all h w ≡ w
  all_stays w e = retry_stays ((length w.waiting + 1) * (length w.waiting + 1)) w e

  abbrev pub behind : Waiting → Outcome → World → World
  behind p o w = with_waiting h (λ ps q. ps ++ option_to_list q) w.waiting (on_outcome h p o w)

  pub none_left : (p : Waiting) (o : Outcome) (w : World) → w.waiting ≡ [] → untried h (behind p o w) ≡ None
  none_left p (ended results changed) w e = ap (λ ps. split_first (is_untried (behind p (ended results changed) w).commits) (ps ++ [])) e
  none_left p (waiting deadline) w e =
      ap (λ ps. split_first (is_untried w.commits) (ps ++ record p { deadline = deadline; tried = w.commits } ∷ [])) e
      ∙ ap (λ b. cond b (Some (let t : Split Waiting = ([], record p { deadline = deadline; tried = w.commits }, []) in t)) None) (ap not (eq-eqb w.commits w.commits refl))

  outcomes : (p : Waiting) (o : Outcome) (w : World) → revision_of (behind p o w) ≡ with_outcome h o (revision_of w)
  outcomes p (ended results None) w = ap of_rest (answers h p.session p.request (reply (id_of p.request) results) w)
  outcomes p (ended results (Some db)) w =
      ap of_rest (posts h p.session (map (λ k. sync k.id) (asked_of h (get w.sessions p.session)) ++ say (to p.request) (reply (id_of p.request) results) ∷ []) (record w { db = db; commits = w.commits + 1; earlier = with_content w.db w.earlier }))
  outcomes p (waiting deadline) w = refl

  transacts : (p : Waiting) (o : Outcome) (w : World) → w.waiting ≡ [] → revision_of (retry_all h (behind p o w)) ≡ with_outcome h o (revision_of w)
  transacts p o w e = ap revision_of (all_stays (behind p o w) (none_left p o w e)) ∙ outcomes p o w

  cancelled : (s : ℕ) (o : Option (Split Waiting)) (w : World) → revision_of (cancel_one h s o w) ≡ revision_of w
  cancelled s None w = refl
  cancelled s (Some t) w = ap of_rest (fails h s t.1.request canceled (record w { waiting = t.0 ++ t.2 }))

  handles : (s : ℕ) (d : Data) (fresh : List Uuid) (c : Call) (w : World) → w.waiting ≡ [] → revision_of (handle h s d fresh c w) ≡ run_at_once h s fresh c w
  handles s d fresh (message.answered m) w e = ap of_rest (answers h s d m w)
  handles s d fresh (message.transact id ops) w e =
      transacts (record { session = s; request = d; operations = ops; fresh = fresh; arrival = w.now; deadline = None; tried = w.commits })
      (h.transact w.db (w.commits + 1) ops (record { fresh = fresh; arrival = w.now; now = w.now; owns = owns w.locks s })) w e
  handles s d fresh (message.monitor id n i requests since) w e = ap of_rest (monitors h s d n i since requests w)
  handles s d fresh (message.change_filters id old new filters) w e = ap of_rest (changes h s d old new filters (watched h old (asked_of h (get w.sessions s))) w)
  handles s d fresh (message.cancel_monitor id i) w e = ap of_rest (cancels h s d i (watched h i (asked_of h (get w.sessions s))) w)
  handles s d fresh (message.lock id name) w e = ap of_rest (locks h s d (locked h) (lock w.locks s name) w)
  handles s d fresh (message.steal id name) w e = ap of_rest (locks h s d (locked h) (steal w.locks s name) w)
  handles s d fresh (message.unlock id name) w e = ap of_rest (locks h s d (λ b. no_result) (unlock w.locks s name) w)
  handles s d fresh (message.cancel id) w e = cancelled s (split_first (is_of h s id) w.waiting) w
  handles s d fresh message.passed_over w e = refl

  stepped_commits : (e : Event) (w : World) (r : World × List Sent) → Stepped h e w r → w.waiting ≡ [] → revision_of r.0 ≡ committed_by h e w
  stepped_commits (opened t) w r is none = ap (λ (p : World × List Sent). revision_of p.0) (sym is.1)
  stepped_commits (submitted t d fresh now) w r is none = ap (λ (p : World × List Sent). revision_of p.0) (sym is.2) ∙ handles t d fresh (call_of h.db_name h.schema h.serves d) (at_moment h now w) none
  stepped_commits (ticked now) w r is none =
      let w0 : World = record (at_moment h now w) { waiting = [] } in
      ap (λ (p : World × List Sent). revision_of p.0) (sym is) ∙ ap (λ ps. revision_of (retry_all h (try_due h ps w0))) none
  stepped_commits (closed t) w r is none =
      ap (λ (p : World × List Sent). revision_of p.0) (sym is)
      ∙ ap of_rest (notes h (drop_session w.locks t).1 (record w { locks = (drop_session w.locks t).0; sessions = remove w.sessions t; waiting = filter (λ p. not (p.session == t)) w.waiting }))
  stepped_commits (round ss) w r is none = ap (λ (p : World × List Sent). revision_of p.0) (sym is) ∙ ap of_rest (takes_each h (once ss) w)

  pub is_committed : IsCommitted h
  is_committed st now e is none =
      let n : (r : World × List Sent) × Stepped h e st.world r × (after h e st r ≡ now) = next_is h e st now is in
      ap (λ (m : State). revision_of m.world) (sym n.2) ∙ stepped_commits e st.world n.0 n.1 none
