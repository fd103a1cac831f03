-- What a call that was read of a message says of it.
use Rattle.std.proofs.Common.{◌≡◌, ℕ, Bool, true, false, cond, List, [], ◌∷◌, Option, Some, None, codes, drop, refl, ap, subst, bytes_eq}
use Rattle.serde_json.specs.Data.{Data, null, boolean, number, string, array, object, Items}
use Rattle.serde_json.specs.Find.{as_array}
use Rattle.odb_atoms.specs.Error.{syntax_error}
use Rattle.odb_atoms.specs.Text.{is_id}
use Rattle.odb_atoms.specs.Uuid.{Uuid}
use Rattle.odb_schema.specs.Json.{array_of, items_list}
use Rattle.odb_request.specs.Request.{Notation, update, update2}
use Rattle.odb_wire.specs.Message.{id_of, is_null, method_of, params_of, has_left_out}
use Rattle.odb_rpc.specs.Message.{Call, answered, by_method, call_of, cancel, cancel_monitor, change_filters, commit_of, failed, fault, is_object, lock, monitor, of_cancel, of_change, of_db, of_lock, of_monitor, of_monitor_since, of_none, of_notification, of_one, of_request, of_transact, operations_of, passed_over, reply, reply_id, steal, transact, unknown_database, unknown_method, unlock, with_params}
use Rattle.odb_rpc.proofs.LeftOut.{whole-at_key}

-- the message has no left-out number, and its id is that of the call
abbrev pub IsWholeUnder : Data → Data → Type 0
IsWholeUnder d id = (has_left_out d ≡ false) × (id ≡ id_of d)

-- a `transact` has the message's operations, too
abbrev pub Asks : Data → Call → Type 0
Asks d (transact id operations) = (operations ≡ operations_of d) × IsWholeUnder d id
Asks d (monitor id n i requests since) = IsWholeUnder d id
Asks d (change_filters id old new filters) = IsWholeUnder d id
Asks d (cancel_monitor id i) = IsWholeUnder d id
Asks d (lock id name) = IsWholeUnder d id
Asks d (steal id name) = IsWholeUnder d id
Asks d (unlock id name) = IsWholeUnder d id
Asks d _ = Unit {0}

module _ (d : Data) where
  pick : (b : Bool) (c e : Call) → Asks d c → Asks d e → Asks d (cond b c e)
  pick true c e x y = x
  pick false c e x y = y

  module _ (whole : has_left_out d ≡ false) where
    with_none : (c : Call) → Asks d c → (ds : List Data) → Asks d (of_none (id_of d) c ds)
    with_none c x [] = x
    with_none c x (e ∷ ds) = tt

    with_one : (call : Data → Call) → ((e : Data) → Asks d (call e)) → (ds : List Data) → Asks d (of_one (id_of d) call ds)
    with_one call x [] = tt
    with_one call x (e ∷ []) = x e
    with_one call x (e ∷ f ∷ ds) = tt

    locks : (call : List ℕ → Call) → ((s : List ℕ) → Asks d (call s)) → (e : Data) → Asks d (of_lock (id_of d) call e)
    locks call x null = tt
    locks call x (boolean b) = tt
    locks call x (number n) = tt
    locks call x (string s) = pick (is_id s) (call s) (fault (id_of d) (failed syntax_error)) (x s) tt
    locks call x (array ds) = tt
    locks call x (object ms) = tt

    changing : (ds : List Data) → Asks d (of_change (id_of d) ds)
    changing [] = tt
    changing (a ∷ []) = tt
    changing (a ∷ b ∷ []) = tt
    changing (a ∷ b ∷ c ∷ []) = pick (is_object c) (change_filters (id_of d) a b c) (fault (id_of d) (failed syntax_error)) (whole, refl) tt
    changing (a ∷ b ∷ c ∷ e ∷ ds) = tt

    module _ (db : List ℕ) where
      in_db : (c : Call) → Asks d c → (e : Data) → Asks d (of_db db (id_of d) e c)
      in_db c x null = tt
      in_db c x (boolean b) = tt
      in_db c x (number n) = tt
      in_db c x (string s) = pick (bytes_eq s db) c (fault (id_of d) unknown_database) x tt
      in_db c x (array ds) = tt
      in_db c x (object ms) = tt

      monitors : (n : Notation) (ds : List Data) → Asks d (of_monitor db (id_of d) n ds)
      monitors n [] = tt
      monitors n (a ∷ []) = tt
      monitors n (a ∷ b ∷ []) = tt
      monitors n (a ∷ b ∷ c ∷ []) = pick (is_object c) (of_db db (id_of d) a (monitor (id_of d) n b c None)) (fault (id_of d) (failed syntax_error)) (in_db (monitor (id_of d) n b c None) (whole, refl) a) tt
      monitors n (a ∷ b ∷ c ∷ e ∷ ds) = tt

      resuming : (o : Option Uuid) (a b c : Data) → Asks d (elim o as (λ _. Call) [ None ↦ fault (id_of d) (failed syntax_error) | Some v ↦ of_db db (id_of d) a (monitor (id_of d) update2 b c (Some v)) ])
      resuming None a b c = tt
      resuming (Some v) a b c = in_db (monitor (id_of d) update2 b c (Some v)) (whole, refl) a

      resumes : (ds : List Data) → Asks d (of_monitor_since db (id_of d) ds)
      resumes [] = tt
      resumes (a ∷ []) = tt
      resumes (a ∷ b ∷ []) = tt
      resumes (a ∷ b ∷ c ∷ []) = tt
      resumes (a ∷ b ∷ c ∷ e ∷ []) = pick (is_object c) (elim (commit_of e) as (λ _. Call) [ None ↦ fault (id_of d) (failed syntax_error) | Some v ↦ of_db db (id_of d) a (monitor (id_of d) update2 b c (Some v)) ]) (fault (id_of d) (failed syntax_error)) (resuming (commit_of e) a b c) tt
      resumes (a ∷ b ∷ c ∷ e ∷ f ∷ ds) = tt

      transacts : (ds : List Data) → drop 1 ds ≡ operations_of d → Asks d (of_transact db (id_of d) ds)
      transacts [] are = tt
      transacts (e ∷ ds) are = in_db (transact (id_of d) ds) (are, (whole, refl)) e

    -- a method whose calls are such, of the members of the message's `params`
    abbrev AllAsk : Option (List Data → Call) → Type 0
    AllAsk None = Unit {0}
    AllAsk (Some call) = (ds : List Data) → drop 1 ds ≡ operations_of d → Asks d (call ds)

    either : (b : Bool) (x y : Option (List Data → Call)) → AllAsk x → AllAsk y → AllAsk (cond b x y)
    either true x y p q = p
    either false x y p q = q

    methods : (db : List ℕ) (schema : Data) (m : List ℕ) → AllAsk (by_method db schema (id_of d) m)
    methods db schema m =
        let id = id_of d in
        either (bytes_eq m (codes "list_dbs")) _ _ (λ ds _. with_none (answered (reply id (array_of (string db ∷ [])))) tt ds)
        (either (bytes_eq m (codes "get_schema")) _ _ (λ ds _. with_one (λ name. of_db db id name (answered (reply id schema))) (in_db db (answered (reply id schema)) tt) ds)
        (either (bytes_eq m (codes "transact")) _ _ (transacts db)
        (either (bytes_eq m (codes "monitor")) _ _ (λ ds _. monitors db update ds)
        (either (bytes_eq m (codes "monitor_cond")) _ _ (λ ds _. monitors db update2 ds)
        (either (bytes_eq m (codes "monitor_cond_since")) _ _ (λ ds _. resumes db ds)
        (either (bytes_eq m (codes "monitor_cond_change")) _ _ (λ ds _. changing ds)
        (either (bytes_eq m (codes "monitor_cancel")) _ _ (λ ds _. with_one (cancel_monitor id) (λ _. (whole, refl)) ds)
        (either (bytes_eq m (codes "lock")) _ _ (λ ds _. with_one (of_lock id (lock id)) (locks (lock id) (λ _. (whole, refl))) ds)
        (either (bytes_eq m (codes "steal")) _ _ (λ ds _. with_one (of_lock id (steal id)) (locks (steal id) (λ _. (whole, refl))) ds)
        (either (bytes_eq m (codes "unlock")) _ _ (λ ds _. with_one (of_lock id (unlock id)) (locks (unlock id) (λ _. (whole, refl))) ds)
        (either (bytes_eq m (codes "echo")) (Some (λ params. answered (reply id (array_of params)))) None (λ _ _. tt) tt)))))))))))

    params_read : (call : List Data → Call) → AllAsk (Some call) → (o : Option Items) → o ≡ as_array (params_of d) → Asks d (elim o as (λ _. Call) [ None ↦ fault (id_of d) (failed syntax_error) | Some ds ↦ call (items_list ds) ])
    params_read call x None is = tt
    params_read call x (Some ds) is = x (items_list ds) (ap (λ p. elim p as (λ _. List Data) [ None ↦ [] | Some es ↦ drop 1 (items_list es) ]) is)

    found : (o : Option (List Data → Call)) → AllAsk o → Asks d (elim o as (λ _. Call) [ None ↦ fault (id_of d) unknown_method | Some call ↦ with_params (id_of d) call (params_of d) ])
    found None x = tt
    found (Some call) x = params_read call x (as_array (params_of d)) refl

    requests : (db : List ℕ) (schema : Data) (serves : List ℕ → Bool) (m : List ℕ) → Asks d (of_request db schema serves (id_of d) m (params_of d))
    requests db schema serves m = found (cond (serves m) (by_method db schema (id_of d) m) None) (either (serves m) (by_method db schema (id_of d) m) None (methods db schema m) tt)

  -- ---- notifications

  cancels : (ds : List Data) → Asks d (of_cancel ds)
  cancels [] = tt
  cancels (i ∷ []) = pick (has_left_out i) passed_over (cancel i) tt tt
  cancels (i ∷ j ∷ ds) = tt

  abbrev canceled_by : Option Items → Call
  canceled_by o = elim o as (λ _. Call) [ None ↦ passed_over | Some ds ↦ of_cancel (items_list ds) ]

  cancels_by : (o : Option Items) → Asks d (canceled_by o)
  cancels_by None = tt
  cancels_by (Some ds) = cancels (items_list ds)

  notifications : (m : List ℕ) → Asks d (of_notification m (params_of d))
  notifications m = pick (bytes_eq m (codes "cancel")) (canceled_by (as_array (params_of d))) passed_over (cancels_by (as_array (params_of d))) tt

-- ---- messages

module _ (db : List ℕ) (schema : Data) (serves : List ℕ → Bool) (d : Data) where
  requested : (m : List ℕ) (b : Bool) → has_left_out d ≡ b → Asks d (cond b (fault (reply_id (id_of d)) (failed syntax_error)) (of_request db schema serves (id_of d) m (params_of d)))
  requested m true e = tt
  requested m false e = requests d e db schema serves m

  by_method_of : (o : Option (List ℕ)) → Asks d (elim o as (λ _. Call) [ None ↦ passed_over | Some m ↦ cond (is_null (id_of d)) (of_notification m (params_of d)) (cond (has_left_out d) (fault (reply_id (id_of d)) (failed syntax_error)) (of_request db schema serves (id_of d) m (params_of d))) ])
  by_method_of None = tt
  by_method_of (Some m) = pick d (is_null (id_of d)) (of_notification m (params_of d)) (cond (has_left_out d) (fault (reply_id (id_of d)) (failed syntax_error)) (of_request db schema serves (id_of d) m (params_of d))) (notifications d m) (requested m (has_left_out d) refl)

  pub asked : Asks d (call_of db schema serves d)
  asked = by_method_of (method_of d)

  pub transact-operations : (id : Data) (operations : List Data) → call_of db schema serves d ≡ transact id operations → operations ≡ operations_of d
  transact-operations id operations e = (subst (Asks d) e asked).0

  pub transact-asked : (id : Data) (operations : List Data) → call_of db schema serves d ≡ transact id operations → IsWholeUnder d id
  transact-asked id operations e = (subst (Asks d) e asked).1

  pub monitor-asked : (id : Data) (n : Notation) (i requests : Data) (since : Option Uuid) → call_of db schema serves d ≡ monitor id n i requests since → IsWholeUnder d id
  monitor-asked id n i requests since e = subst (Asks d) e asked

  pub change-asked : (id old new filters : Data) → call_of db schema serves d ≡ change_filters id old new filters → IsWholeUnder d id
  change-asked id old new filters e = subst (Asks d) e asked

  pub cancel_monitor-asked : (id i : Data) → call_of db schema serves d ≡ cancel_monitor id i → IsWholeUnder d id
  cancel_monitor-asked id i e = subst (Asks d) e asked

  pub lock-asked : (id : Data) (name : List ℕ) → call_of db schema serves d ≡ lock id name → IsWholeUnder d id
  lock-asked id name e = subst (Asks d) e asked

  pub steal-asked : (id : Data) (name : List ℕ) → call_of db schema serves d ≡ steal id name → IsWholeUnder d id
  steal-asked id name e = subst (Asks d) e asked

  pub unlock-asked : (id : Data) (name : List ℕ) → call_of db schema serves d ≡ unlock id name → IsWholeUnder d id
  unlock-asked id name e = subst (Asks d) e asked

-- the reply to such a message has its own id
pub own_id : (d : Data) → has_left_out d ≡ false → reply_id (id_of d) ≡ id_of d
own_id d whole = ap (λ t. cond t null (id_of d)) (whole-at_key (codes "id") d whole)
