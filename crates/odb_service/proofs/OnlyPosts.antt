-- What only posts to sessions changes nothing else: not the database, not the commits, not the moment, not who is open, not what waits, not what can be found of earlier contents.
use Rattle.std.proofs.Common.{◌≡◌, ℕ, Bool, true, false, cond, not, ◌&&◌, List, [], ◌∷◌, Option, Some, None, Result, Ok, Err, is_some, refl, sym, ◌∙◌, ap}
use Rattle.std.specs.Ordering.{nat_cmp, eq_by_cmp}
use Rattle.serde_json.specs.Data.{Data}
use Rattle.odb_atoms.specs.FinMap.{FinMap, get, insert}
use Rattle.odb_cond.specs.Filter.{Filter}
use Rattle.odb_service.proofs.SessionMaps.{get-insert, same_key}
use Rattle.odb_service.specs.Run.{take_each, take_of}
use Rattle.odb_service.specs.Service.{Service}
use Rattle.odb_service.specs.Session.{Earlier, Item, Session, Watch, no_request, renamed, same_id, say, shift, start, stopped, sync, take, to}
use Rattle.odb_wire.specs.Message.{id_of}
use Rattle.odb_service.specs.World.{Waiting, World, answer, are_monitored, asked_of, change_of, fail, notice_of, on_cancel_monitor, on_lock, on_monitor, post, post_notices, post_to, push, revision_of, shift_with, start_with, watched}
use Rattle.odb_locks.specs.Locks.{Answered, Notice}
use Rattle.odb_request.specs.Request.{Notation, Request, is_conditional}
use Rattle.odb_rpc.specs.Message.{failure, reply}
use Rattle.odb_tables.specs.Database.{Db}
use Rattle.odb_service.specs.World.{lock_error}
use Rattle.odb_atoms.specs.Error.{Error, syntax_error}
use Rattle.odb_atoms.specs.Uuid.{Uuid}
use Rattle.odb_rpc.specs.Message.{Failure, failed, unknown_monitor}

-- what a waiting transaction sees of the world
abbrev pub Rest : Type 0
Rest = Db × ℕ × ℕ × (ℕ → Bool) × List Waiting × Earlier

abbrev pub rest : World → Rest
rest w = (w.db, w.commits, w.now, (λ s. is_some (get w.sessions s)), w.waiting, w.earlier)

-- who is open stays so where a session is replaced
replaced : (ss : FinMap nat_cmp Session) (s : ℕ) (x y : Session) → get ss s ≡ Some x → (t : ℕ) → is_some (get (insert ss s y) t) ≡ is_some (get ss t)
replaced ss s x y e t =
    ap is_some (get-insert ss s y t)
    ∙ elim (eq_by_cmp nat_cmp t s) as (λ b. eq_by_cmp nat_cmp t s ≡ b → is_some (cond b (Some y) (get ss t)) ≡ is_some (get ss t)) [
      | true ↦ λ tie. sym (ap is_some (ap (get ss) (same_key t s tie) ∙ e))
      | false ↦ λ _. refl
    ] refl

-- and where one is opened
pub grown : (ss : FinMap nat_cmp Session) (s : ℕ) (y : Session) (t : ℕ) → is_some (get ss t) ≡ true → is_some (get (insert ss s y) t) ≡ true
grown ss s y t e =
    ap is_some (get-insert ss s y t)
    ∙ elim (eq_by_cmp nat_cmp t s) as (λ b. is_some (cond b (Some y) (get ss t)) ≡ true) [ true ↦ refl | false ↦ e ]

module _ (h : Service) where
  -- ---- what only posts

  pub posts : (s : ℕ) (is : List Item) (w : World) → rest (post s is w) ≡ rest w
  posts s is w = by (get w.sessions s) refl
    where
      by : (o : Option Session) → get w.sessions s ≡ o → rest (post_to s is o w) ≡ rest w
      by None e = refl
      by (Some x) e = λ i. (w.db, w.commits, w.now, (λ t. replaced w.sessions s x (push is x) e t i), w.waiting, w.earlier)

  pub notes : (ns : List Notice) (w : World) → rest (post_notices ns w) ≡ rest w
  notes [] w = refl
  notes (n ∷ ns) w = notes ns (post n.session (say no_request (notice_of n) ∷ []) w) ∙ posts n.session (say no_request (notice_of n) ∷ []) w

  pub answers : (s : ℕ) (d m : Data) (w : World) → rest (answer s d m w) ≡ rest w
  answers s d m w = posts s (say (to d) m ∷ []) w

  pub fails : (s : ℕ) (d : Data) (name : Failure) (w : World) → rest (fail s d name w) ≡ rest w
  fails s d name w = answers s d (failure (id_of d) name) w

  either : (b : Bool) (x y w : World) → rest x ≡ rest w → rest y ≡ rest w → rest (cond b x y) ≡ rest w
  either true x y w e f = e
  either false x y w e f = f

  pub starts : (s : ℕ) (d : Data) (n : Notation) (i : Data) (since : Option Uuid) (r : Result (List Request) Error) (w : World) → rest (start_with h s d n i since r w) ≡ rest w
  starts s d n i since (Err e) w = fails s d (failed e) w
  starts s d n i since (Ok qs) w = posts s (start d (record { id = i; notation = n; requests = qs; since = since }) ∷ []) w

  pub monitors : (s : ℕ) (d : Data) (n : Notation) (i : Data) (since : Option Uuid) (requests : Data) (w : World) → rest (on_monitor h s d n i since requests w) ≡ rest w
  monitors s d n i since requests w =
      either (is_some (watched h i (asked_of h (get w.sessions s)))) (fail s d (failed syntax_error) w) (start_with h s d n i since (h.read_requests n requests) w) w
      (fails s d (failed syntax_error) w) (starts s d n i since (h.read_requests n requests) w)

  pub shifts : (s : ℕ) (d old new : Data) (k : Watch) (r : Result (List (List ℕ × Filter)) Error) (w : World) → rest (shift_with h s d old new k r w) ≡ rest w
  shifts s d old new k (Err e) w = fails s d (failed e) w
  shifts s d old new k (Ok fs) w =
      either (are_monitored h fs k.requests) (post s (shift old fs ∷ renamed d old new fs ∷ []) w) (fail s d (failed syntax_error) w) w
      (posts s (shift old fs ∷ renamed d old new fs ∷ []) w) (fails s d (failed syntax_error) w)

  pub changes : (s : ℕ) (d old new filters : Data) (o : Option Watch) (w : World) → rest (change_of h s d old new filters o w) ≡ rest w
  changes s d old new filters None w = fails s d unknown_monitor w
  changes s d old new filters (Some k) w =
      let c : World = cond (not (same_id h old new) && is_some (watched h new (asked_of h (get w.sessions s)))) (fail s d (failed syntax_error) w) (shift_with h s d old new k (h.read_filters filters) w) in
      either (not (is_conditional k.notation)) (fail s d unknown_monitor w) c w
      (fails s d unknown_monitor w)
      (either (not (same_id h old new) && is_some (watched h new (asked_of h (get w.sessions s)))) (fail s d (failed syntax_error) w) (shift_with h s d old new k (h.read_filters filters) w) w
      (fails s d (failed syntax_error) w) (shifts s d old new k (h.read_filters filters) w))

  pub cancels : (s : ℕ) (d i : Data) (o : Option Watch) (w : World) → rest (on_cancel_monitor h s d i o w) ≡ rest w
  cancels s d i None w = fails s d unknown_monitor w
  cancels s d i (Some k) w = posts s (sync i ∷ stopped d i ∷ []) w

  pub locks : (s : ℕ) (d : Data) (result : Bool → Data) (a : Answered) (w : World) → rest (on_lock h s d result a w) ≡ rest w
  locks s d result (Err e) w = fails s d (failed (lock_error e)) w
  locks s d result (Ok l) w = answers s d (reply (id_of d) (result l.2)) (post_notices l.1 (record w { locks = l.0 })) ∙ notes l.1 (record w { locks = l.0 })

  takes_one : (s : ℕ) (o : Option Session) (w : World) → get w.sessions s ≡ o → rest (take_of h s o w).0 ≡ rest w
  takes_one s None w e = refl
  takes_one s (Some x) w e = λ i. (w.db, w.commits, w.now, (λ t. replaced w.sessions s x (take h (revision_of w) x).1 e t i), w.waiting, w.earlier)

  pub takes_each : (ss : List ℕ) (w : World) → rest (take_each h ss w).0 ≡ rest w
  takes_each [] w = refl
  takes_each (s ∷ ss) w = takes_each ss (take_of h s (get w.sessions s) w).0 ∙ takes_one s (get w.sessions s) w refl
