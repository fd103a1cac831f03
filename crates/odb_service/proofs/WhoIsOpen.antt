-- Who is open stays so but by opening and closing.
use Rattle.std.proofs.Common.{◌≡◌, ℕ, zero, suc, ◌+◌, ◌*◌, ◌==◌, length, true, false, cond, not, ◌&&◌, List, [], ◌∷◌, ◌++◌, map, Option, Some, None, is_some, refl, sym, ◌∙◌, ap}
use Rattle.std.specs.Prelude.{option_to_list, filter}
use Rattle.std.specs.Ordering.{nat_cmp, eq_by_cmp}
use borrow.Author.Tests.{eq-eqb}
use Rattle.serde_json.specs.Data.{Data}
use Rattle.odb_rpc.specs.Message as message
use Rattle.odb_atoms.specs.FinMap.{get, remove}
use Rattle.odb_service.proofs.SessionMaps.{get-remove, same_key}
use Rattle.odb_service.proofs.Splits.{Split}
use Rattle.odb_service.specs.Service.{Outcome, Service, ended, waiting}
use Rattle.odb_service.specs.Session.{no_result, say, sync, to, with_content}
use Rattle.odb_wire.specs.Message.{id_of}
use Rattle.odb_service.specs.World.{Waiting, World, asked_of, at_moment, attempt, cancel_one, close, end_transaction, handle, is_due, is_of, locked, on_outcome, retry, retry_all, split_first, tick, try_due, try_one, untried, watched, with_waiting}
use Rattle.odb_locks.specs.Locks.{drop_session, lock, steal, unlock}
use Rattle.odb_rpc.specs.Message.{Call, call_of, failure, has_reply, reply}
use Rattle.odb_tables.specs.Database.{Db}
use Rattle.odb_atoms.specs.Uuid.{Uuid}
use Rattle.odb_rpc.specs.Message.{canceled}
use Rattle.odb_service.proofs.OnlyPosts.{Rest, answers, cancels, changes, fails, locks, monitors, notes, posts, rest}
use Rattle.odb_service.proofs.SessionMaps.{other}

module _ (h : Service) where
  -- ---- who is open

  abbrev pub Same : World → World → Type 0
  Same w v = (s : ℕ) → is_some (get v.sessions s) ≡ is_some (get w.sessions s)

  by_rest : (w v : World) → rest v ≡ rest w → Same w v
  by_rest w v e s = ap (λ (r : Rest). r.3 s) e

  ends : (s : ℕ) (d results : Data) (o : Option Db) (w : World) → Same w (end_transaction h s d results o w)
  ends s d results None w = (λ u. ap (λ (r : Rest). r.3 u) (answers h s d (reply (id_of d) results) w))
  ends s d results (Some db) w =
      (λ u. ap (λ (r : Rest). r.3 u) (posts h s (map (λ k. sync k.id) (asked_of h (get w.sessions s)) ++ say (to d) (reply (id_of d) results) ∷ []) (record w { db = db; commits = w.commits + 1; earlier = with_content w.db w.earlier })))

  outcomes : (p : Waiting) (o : Outcome) (w : World) → Same w (on_outcome h p o w).0
  outcomes p (ended results changed) w = ends p.session p.request results changed w
  outcomes p (waiting deadline) w = λ s. refl

  attempts : (p : Waiting) (w : World) → Same w (attempt h p w).0
  attempts p w = outcomes p _ w

  retries : (n : ℕ) (w : World) → Same w (retry h n w)
  retries zero w = λ s. refl
  retries (suc n) w =
      elim (untried h w) as (λ o. Same w (elim o as (λ _. World) [ None ↦ w | Some t ↦ retry h n (try_one h t w) ])) [
        | None ↦ λ s. refl
        | Some t ↦ λ s. retries n (try_one h t w) s ∙ attempts t.1 w s
      ]

  retries_all : (w : World) → Same w (retry_all h w)
  retries_all w = retries ((length w.waiting + 1) * (length w.waiting + 1)) w

  dues : (ps : List Waiting) (w : World) → Same w (try_due h ps w)
  dues [] w = λ s. refl
  dues (p ∷ ps) w =
      elim (is_due w.now p.deadline) as (λ b. Same w (try_due h ps (cond b (with_waiting h (λ ps o. ps ++ option_to_list o) w.waiting (attempt h p w)) (record w { waiting = w.waiting ++ p ∷ [] })))) [
        | true ↦ λ s. dues ps (with_waiting h (λ ps o. ps ++ option_to_list o) w.waiting (attempt h p w)) s ∙ attempts p w s
        | false ↦ λ s. dues ps (record w { waiting = w.waiting ++ p ∷ [] }) s
      ]

  pub ticks : (now : ℕ) (w : World) → Same w (tick h now w)
  ticks now w s = let w0 : World = record (at_moment h now w) { waiting = [] } in retries_all (try_due h w.waiting w0) s ∙ dues w.waiting w0 s

  cancelled : (s : ℕ) (o : Option (Split Waiting)) (w : World) → Same w (cancel_one h s o w)
  cancelled s None w = λ s. refl
  cancelled s (Some t) w = let w0 : World = record w { waiting = t.0 ++ t.2 } in (λ u. ap (λ (r : Rest). r.3 u) (fails h s t.1.request canceled w0))

  pub handles : (s : ℕ) (d : Data) (fresh : List Uuid) (c : Call) (w : World) → Same w (handle h s d fresh c w)
  handles s d fresh (message.answered m) w = (λ u. ap (λ (r : Rest). r.3 u) (answers h s d m w))
  handles s d fresh (message.transact id ops) w =
      let p : Waiting = record { session = s; request = d; operations = ops; fresh = fresh; arrival = w.now; deadline = None; tried = w.commits } in
      λ t. retries_all (with_waiting h (λ ps o. ps ++ option_to_list o) w.waiting (attempt h p w)) t ∙ attempts p w t
  handles s d fresh (message.monitor id n i requests since) w = (λ u. ap (λ (r : Rest). r.3 u) (monitors h s d n i since requests w))
  handles s d fresh (message.change_filters id old new filters) w = (λ u. ap (λ (r : Rest). r.3 u) (changes h s d old new filters (watched h old (asked_of h (get w.sessions s))) w))
  handles s d fresh (message.cancel_monitor id i) w = (λ u. ap (λ (r : Rest). r.3 u) (cancels h s d i (watched h i (asked_of h (get w.sessions s))) w))
  handles s d fresh (message.lock id name) w = (λ u. ap (λ (r : Rest). r.3 u) (locks h s d (locked h) (lock w.locks s name) w))
  handles s d fresh (message.steal id name) w = (λ u. ap (λ (r : Rest). r.3 u) (locks h s d (locked h) (steal w.locks s name) w))
  handles s d fresh (message.unlock id name) w = (λ u. ap (λ (r : Rest). r.3 u) (locks h s d (λ b. no_result) (unlock w.locks s name) w))
  handles s d fresh (message.cancel id) w = cancelled s (split_first (is_of h s id) w.waiting) w
  handles s d fresh message.passed_over w = λ s. refl

  pub closes : (t : ℕ) (w : World) (s : ℕ) → is_some (get (close h t w).sessions s) ≡ (not (t == s) && is_some (get w.sessions s))
  closes t w s =
      let v : World = record w { locks = (drop_session w.locks t).0; sessions = remove w.sessions t; waiting = filter (λ p. not (p.session == t)) w.waiting } in
      by_rest v (close h t w) (notes h (drop_session w.locks t).1 v) s
      ∙ ap is_some (get-remove w.sessions t s)
      ∙ elim (eq_by_cmp nat_cmp s t) as (λ b. eq_by_cmp nat_cmp s t ≡ b → is_some (cond b None (get w.sessions s)) ≡ (not (t == s) && is_some (get w.sessions s))) [
        | true ↦ λ tie. ap (λ b. not b && is_some (get w.sessions s)) (sym (eq-eqb t s (sym (same_key s t tie))))
        | false ↦ λ apart. ap (λ b. not b && is_some (get w.sessions s)) (sym (other s t apart))
      ] refl
