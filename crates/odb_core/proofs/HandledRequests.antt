-- What a request that is handled says of itself, and what becomes of a transaction.
use Rattle.std.proofs.Common.{◌≡◌, ℕ, ◌+◌, true, false, List, [], ◌∷◌, ◌++◌, codes, Option, Some, None, refl, sym, ◌∙◌, ap, true≢false}
use Rattle.std.specs.Prelude.{option_to_list}
use Rattle.std.proofs.lemmas.List.{append-nil}
use Rattle.serde_json.specs.Data.{Data}
use Rattle.odb_atoms.specs.Uuid.{Uuid}
use Rattle.std.specs.Prelude.{option_map}
use Rattle.odb_atoms.specs.Uuid.{uuid_from}
use Rattle.odb_rpc.specs.Message.{Call, answered, cancel, cancel_monitor, change_filters, lock, monitor, operations_of, passed_over, steal, transact, unlock}
use Rattle.odb_rpc.specs.Represented.Monitor.{monitor_called}
use Rattle.odb_rpc.specs.Represented.Printable.{printable_data}
use Rattle.odb_rpc.specs.Served.{served}
use Rattle.odb_rpc.specs.declared.monitor.MonitorCall.{MonitorCall}
use Rattle.odb_rpc.specs.declared.monitor.MonitorCall.TheVariants.{Cancel, Change, Start}
use Rattle.odb_request.specs.Represented.Notation.{notation_of}
use Rattle.serde_json.specs.View.{view}
use Rattle.odb_rpc.proofs.Asked.{cancel_monitor-asked, change-asked, lock-asked, monitor-asked, steal-asked, transact-asked, transact-operations, unlock-asked}
use Rattle.odb_rpc.proofs.LeftOut.{whole-at_key}
use Rattle.odb_schema.specs.Schema.{Schema}
use Rattle.odb_schema.specs.SchemaText.{write_schema}
use Rattle.odb_wire.specs.Message.{has_left_out, id_of}
use Rattle.odb_service.specs.Server.{served_by}
use Rattle.odb_service.specs.Service.{Outcome, Service, ended, waiting}
use Rattle.odb_service.specs.Session.{Item, Session, with_content}
use Rattle.odb_service.specs.World.{Waiting, World, attempt, handle, on_outcome, post_to, retry_all, run_transaction, try_one, untried, with_waiting}
use Rattle.odb_queue.specs.Represented.Answer.{call_at}
use Rattle.odb_core.specs.Represented.Requests.{asks_transaction}
use Rattle.odb_atoms.specs.FinMap.{get}
use Rattle.odb_locks.specs.Locks.{owns}
use Rattle.odb_service.proofs.Retried.{retried_none}

module _ (s : Schema) (d : Data) where
  abbrev Own : Type 0
  Own = has_left_out (id_of d) ≡ false

  own : has_left_out d ≡ false → Own
  own whole = whole-at_key (codes "id") d whole

  pub lock_own : (id : Data) (name : List ℕ) → call_at s d ≡ lock id name → Own
  lock_own id name e = own (lock-asked s.name (write_schema s) served d id name e).0

  pub steal_own : (id : Data) (name : List ℕ) → call_at s d ≡ steal id name → Own
  steal_own id name e = own (steal-asked s.name (write_schema s) served d id name e).0

  pub unlock_own : (id : Data) (name : List ℕ) → call_at s d ≡ unlock id name → Own
  unlock_own id name e = own (unlock-asked s.name (write_schema s) served d id name e).0

  pub monitor_own : (id : Data) (m : MonitorCall) → call_at s d ≡ monitor_called id m → Own
  monitor_own id (Start a) e = own (monitor-asked s.name (write_schema s) served d id (notation_of a.notation) (printable_data a.id) (view a.requests.now) (option_map uuid_from a.since) e).0
  monitor_own id (Change a) e = own (change-asked s.name (write_schema s) served d id (printable_data a.old) (printable_data a.new) (view a.filters.now) e).0
  monitor_own id (Cancel i) e = own (cancel_monitor-asked s.name (write_schema s) served d id (printable_data i) e).0

  abbrev Asking : Call → Type 0
  Asking c = (id : Data) × (operations : List Data) × (c ≡ transact id operations)

  is_asking : (c : Call) → asks_transaction c ≡ true → Asking c
  is_asking (transact id operations) e = (id, operations, refl)
  is_asking (answered r) e = absurd (true≢false (sym e))
  is_asking (monitor id n i requests since) e = absurd (true≢false (sym e))
  is_asking (change_filters id old new filters) e = absurd (true≢false (sym e))
  is_asking (cancel_monitor id i) e = absurd (true≢false (sym e))
  is_asking (lock id name) e = absurd (true≢false (sym e))
  is_asking (steal id name) e = absurd (true≢false (sym e))
  is_asking (unlock id name) e = absurd (true≢false (sym e))
  is_asking (cancel id) e = absurd (true≢false (sym e))
  is_asking passed_over e = absurd (true≢false (sym e))

  pub transaction_own : asks_transaction (call_at s d) ≡ true → Own
  transaction_own e = let a : Asking (call_at s d) = is_asking (call_at s d) e in own (transact-asked s.name (write_schema s) served d a.0 a.1 a.2).0

  abbrev asked_in : World → ℕ → List Uuid → List Data → Waiting
  asked_in w n fresh operations = record { session = n; request = d; operations = operations; fresh = fresh; arrival = w.now; deadline = None; tried = w.commits }

  -- a request that asks a transaction runs it
  pub transaction_runs : asks_transaction (call_at s d) ≡ true → (n : ℕ) (fresh : List Uuid) (w : World) → handle (served_by s) n d fresh (call_at s d) w ≡ run_transaction (served_by s) (asked_in w n fresh (operations_of d)) w
  transaction_runs e n fresh w =
      let a : Asking (call_at s d) = is_asking (call_at s d) e in
      ap (λ c. handle (served_by s) n d fresh c w) a.2
      ∙ ap (λ o. run_transaction (served_by s) (asked_in w n fresh o) w) (transact-operations s.name (write_schema s) served d a.0 a.1 a.2)

-- ---- a new transaction

module _ (h : Service) where
  posted_waiting : (n : ℕ) (is : List Item) (o : Option Session) (w : World) → (post_to n is o w).waiting ≡ w.waiting
  posted_waiting n is None w = refl
  posted_waiting n is (Some x) w = refl

  -- a try leaves those that wait
  pub still_waiting : (p : Waiting) (o : Outcome) (w : World) → (on_outcome h p o w).0.waiting ≡ w.waiting
  still_waiting p (ended r None) w = posted_waiting p.session _ _ w
  still_waiting p (ended r (Some db)) w = posted_waiting p.session _ _ (record w { db = db; commits = w.commits + 1; earlier = with_content w.db w.earlier })
  still_waiting p (waiting moment) w = refl

  abbrev Tried : Type 0
  Tried = World × Option Waiting

  pub attempt_waiting : (p : Waiting) (w v : World) (o : Option Waiting) → attempt h p w ≡ (v, o) → v.waiting ≡ w.waiting
  attempt_waiting p w v o e = ap (λ (t : Tried). t.0.waiting) (sym e) ∙ still_waiting p _ w

  abbrev behind : List Waiting → Option Waiting → List Waiting
  behind ps o = ps ++ option_to_list o

  -- one that ends leaves those that wait, and one that doesn't stands after them
  pub after_ended : (p : Waiting) (w v : World) → attempt h p w ≡ (v, None) → with_waiting h (λ ps o. ps ++ option_to_list o) w.waiting (attempt h p w) ≡ v
  after_ended p w v e =
      ap (λ (t : Tried). record (t.0) { waiting = w.waiting ++ option_to_list t.1 }) e
      ∙ ap (λ ps. record v { waiting = ps }) (append-nil w.waiting ∙ sym (attempt_waiting p w v None e))

  pub after_waits : (p q : Waiting) (w v : World) → attempt h p w ≡ (v, Some q) → with_waiting h (λ ps o. ps ++ option_to_list o) w.waiting (attempt h p w) ≡ record v { waiting = v.waiting ++ q ∷ [] }
  after_waits p q w v e =
      ap (λ (t : Tried). record (t.0) { waiting = w.waiting ++ option_to_list t.1 }) e
      ∙ ap (λ ps. record v { waiting = ps ++ q ∷ [] }) (sym (attempt_waiting p w v (Some q) e))

  -- a new one is followed by what it lets go on
  pub runs_ended : (p : Waiting) (w v : World) → attempt h p w ≡ (v, None) → run_transaction h p w ≡ retry_all h v
  runs_ended p w v e = ap (retry_all h) (after_ended p w v e)

  pub runs_alone : (p : Waiting) (w v : World) → attempt h p w ≡ (v, None) → untried h v ≡ None → run_transaction h p w ≡ v
  runs_alone p w v e none = runs_ended p w v e ∙ retried_none h v none

  pub runs_waiting : (p q : Waiting) (w : World) → attempt h p w ≡ (w, Some q) → untried h (record w { waiting = w.waiting ++ q ∷ [] }) ≡ None → run_transaction h p w ≡ record w { waiting = w.waiting ++ q ∷ [] }
  runs_waiting p q w e none = ap (retry_all h) (after_waits p q w w e) ∙ retried_none h (record w { waiting = w.waiting ++ q ∷ [] }) none

  -- ---- a try at a place

  -- what a try changes has nothing to do with those that wait
  posted_beside : (n : ℕ) (is : List Item) (o : Option Session) (w : World) (ps : List Waiting) → post_to n is o (record w { waiting = ps }) ≡ record (post_to n is o w) { waiting = ps }
  posted_beside n is None w ps = refl
  posted_beside n is (Some x) w ps = refl

  beside : (p : Waiting) (o : Outcome) (w : World) (ps : List Waiting) → on_outcome h p o (record w { waiting = ps }) ≡ (record ((on_outcome h p o w).0) { waiting = ps }, (on_outcome h p o w).1)
  beside p (ended r None) w ps = ap (λ v. let t : Tried = (v, None) in t) (posted_beside p.session _ (get w.sessions p.session) w ps)
  beside p (ended r (Some db)) w ps = ap (λ v. let t : Tried = (v, None) in t) (posted_beside p.session _ (get w.sessions p.session) (record w { db = db; commits = w.commits + 1; earlier = with_content w.db w.earlier }) ps)
  beside p (waiting moment) w ps = refl

  abbrev Split : Type 0
  Split = List Waiting × Waiting × List Waiting

  -- a try, where another list waits meanwhile
  pub tries_beside : (w : World) (ps : List Waiting) (t : Split) (v : World) (o : Option Waiting) → attempt h t.1 (record w { waiting = ps }) ≡ (v, o) → try_one h t w ≡ record v { waiting = t.0 ++ option_to_list o ++ t.2 }
  tries_beside w ps t v o e =
      ap (λ (r : Tried). record (r.0) { waiting = t.0 ++ option_to_list r.1 ++ t.2 })
      (sym (beside t.1 (h.transact w.db (w.commits + 1) t.1.operations (record { fresh = t.1.fresh; arrival = t.1.arrival; now = w.now; owns = owns w.locks t.1.session })) w ps) ∙ e)
