-- What a message with a method asks, by the tests in their order.
use Rattle.std.proofs.Common.{◌≡◌, ℕ, Bool, true, false, cond, List, [], ◌∷◌, drop, map, Option, Some, None, codes, refl, sym, ap, ◌∙◌, if◌then◌else◌}
use Rattle.std.proofs.lemmas.Option.{same_Some}
use Rattle.serde_json.specs.Data.{Data, null, boolean, number, string, array, object, Items, no_items, item}
use Rattle.serde_json.specs.Find.{as_array}
use Rattle.serde_json.specs.View.{view, items_view}
use Rattle.serde_json.specs.declared.value.Value.{Value}
use Rattle.odb_atoms.specs.Error.{syntax_error}
use Rattle.odb_schema.specs.Json.{array_of, items_list, items_of}
use Rattle.odb_request.specs.Request.{update, update2}
use Rattle.odb_wire.specs.Message.{id_of, is_notification, is_null, method_of, params_of, has_left_out}
use Rattle.odb_rpc.specs.Message.{Call, answered, reply, passed_over, of_cancel, by_method, call_of, cancel_monitor, failed, fault, of_change, of_db, of_lock, of_monitor, of_monitor_since, of_none, of_notification, of_one, of_request, of_transact, lock, steal, unlock, reply_id, unknown_method, with_params}
use Rattle.odb_rpc.specs.Served.{served}
use Rattle.odb_rpc.specs.Represented.Call.{name_of, called}
use Rattle.odb_rpc.specs.declared.call.Call.TheVariants as call
use Rattle.odb_rpc.specs.declared.call.Method.{Method}
use Rattle.odb_rpc.specs.declared.call.Method.TheVariants.{ListDatabases, GetSchema, Transact, Monitor, MonitorCond, MonitorCondSince, MonitorCondChange, MonitorCancel, Lock, Steal, Unlock, Echo}
use Rattle.odb_rpc.proofs.Answered.{call_of-method, is_null-method, requested}
use Rattle.odb_rpc.proofs.Asked.{own_id}

-- ---- a method that is served, and one that isn't

not_served : (b : Bool) (m : List ℕ) → None ≡ (if b then Some m else None) → b ≡ false
not_served true m e = cc
not_served false m e = refl

is_that : (b : Bool) (n m : List ℕ) → Some n ≡ (if b then Some m else None) → n ≡ m
is_that true n m e = same_Some _ _ e
is_that false n m e = cc

-- ---- the tests in their order

module _ (db : List ℕ) (schema : Data) (d : Data) (m : List ℕ) (e : Some m ≡ method_of d) where
  null_id : (b : Bool) → is_notification d ≡ b → is_null (id_of d) ≡ b
  null_id b is = sym (is_null-method db schema served d m (sym e)) ∙ is

  is_asked : (b : Bool) → is_notification d ≡ b → call_of db schema served d ≡ cond b (of_notification m (params_of d)) (requested db schema served d m)
  is_asked b is = call_of-method db schema served d m (sym e) ∙ ap (λ t. cond t (of_notification m (params_of d)) (requested db schema served d m)) (null_id b is)

  pub of_notification-call_of : is_notification d ≡ true → of_notification m (params_of d) ≡ call_of db schema served d
  of_notification-call_of is = sym (is_asked true is)

  is_requested : (b : Bool) → is_notification d ≡ false → has_left_out d ≡ b → call_of db schema served d ≡ cond b (fault (reply_id (id_of d)) (failed syntax_error)) (of_request db schema served (id_of d) m (params_of d))
  is_requested b is left = is_asked false is ∙ ap (λ t. cond t (fault (reply_id (id_of d)) (failed syntax_error)) (of_request db schema served (id_of d) m (params_of d))) left

  pub left_out-call_of : is_notification d ≡ false → has_left_out d ≡ true → fault (reply_id (id_of d)) (failed syntax_error) ≡ call_of db schema served d
  left_out-call_of is left = sym (is_requested true is left)

  pub of_request-call_of : is_notification d ≡ false → has_left_out d ≡ false → of_request db schema served (reply_id (id_of d)) m (params_of d) ≡ call_of db schema served d
  of_request-call_of is left = ap (λ i. of_request db schema served i m (params_of d)) (own_id d left) ∙ sym (is_requested false is left)

  -- the same for a method that isn't served, and for one that is, under its name
  pub unknown-call_of : is_notification d ≡ false → has_left_out d ≡ false → None ≡ (if served m then Some m else None) → fault (reply_id (id_of d)) unknown_method ≡ call_of db schema served d
  unknown-call_of is left none =
      sym (ap (λ t. elim (cond t (by_method db schema (reply_id (id_of d)) m) None) as (λ _. Call) [ None ↦ fault (reply_id (id_of d)) unknown_method | Some call ↦ with_params (reply_id (id_of d)) call (params_of d) ]) (not_served (served m) m none))
      ∙ of_request-call_of is left

  pub named-call_of : (k : Method) → is_notification d ≡ false → has_left_out d ≡ false → Some (name_of k) ≡ (if served m then Some m else None) → of_request db schema served (reply_id (id_of d)) (name_of k) (params_of d) ≡ call_of db schema served d
  named-call_of k is left some = ap (λ n. of_request db schema served (reply_id (id_of d)) n (params_of d)) (is_that (served m) (name_of k) m some) ∙ of_request-call_of is left

-- ---- a method's `params`

-- the call of a method that is served
abbrev pub by_name : List ℕ → Data → Data → Method → List Data → Call
by_name db schema id ListDatabases = of_none id (called db schema id call.ListDatabases)
by_name db schema id GetSchema = of_one id (λ name. of_db db id name (called db schema id call.GetSchema))
by_name db schema id Transact = of_transact db id
by_name db schema id Monitor = of_monitor db id update
by_name db schema id MonitorCond = of_monitor db id update2
by_name db schema id MonitorCondSince = of_monitor_since db id
by_name db schema id MonitorCondChange = of_change id
by_name db schema id MonitorCancel = of_one id (cancel_monitor id)
by_name db schema id Lock = of_one id (of_lock id (lock id))
by_name db schema id Steal = of_one id (of_lock id (steal id))
by_name db schema id Unlock = of_one id (of_lock id (unlock id))
by_name db schema id Echo = λ params. answered (reply id (array_of params))

listed : (xs : List Value) → items_list (items_view xs) ≡ map view xs
listed [] = refl
listed (x ∷ xs) = ap (λ ds. view x ∷ ds) (listed xs)

module _ (db : List ℕ) (schema id : Data) where
  of_method : (k : Method) (params : Data) → with_params id (by_name db schema id k) params ≡ of_request db schema served id (name_of k) params
  of_method ListDatabases params = refl
  of_method GetSchema params = refl
  of_method Transact params = refl
  of_method Monitor params = refl
  of_method MonitorCond params = refl
  of_method MonitorCondSince params = refl
  of_method MonitorCondChange params = refl
  of_method MonitorCancel params = refl
  of_method Lock params = refl
  of_method Steal params = refl
  of_method Unlock params = refl
  of_method Echo params = refl

  pub no_array : (k : Method) (params : Data) → None ≡ as_array params → fault id (failed syntax_error) ≡ of_request db schema served id (name_of k) params
  no_array k params e = ap (λ o. elim o as (λ _. Call) [ None ↦ fault id (failed syntax_error) | Some ds ↦ by_name db schema id k (items_list ds) ]) e ∙ of_method k params

  pub an_array : (k : Method) (xs : List Value) (params : Data) → Some (items_view xs) ≡ as_array params → by_name db schema id k (map view xs) ≡ of_request db schema served id (name_of k) params
  an_array k xs params e =
      ap (by_name db schema id k) (sym (listed xs))
      ∙ ap (λ o. elim o as (λ _. Call) [ None ↦ fault id (failed syntax_error) | Some ds ↦ by_name db schema id k (items_list ds) ]) e
      ∙ of_method k params

  back : (ds : Items) → array_of (items_list ds) ≡ array ds
  back ds = ap array (same ds)
    where
      same : (ds : Items) → items_of (items_list ds) ≡ ds
      same no_items = refl
      same (item d ds) = ap (item d) (same ds)

  pub echoed : (ds : Items) (params : Data) → Some ds ≡ as_array params → answered (reply id params) ≡ of_request db schema served id (codes "echo") params
  echoed ds null e = cc
  echoed ds (boolean b) e = cc
  echoed ds (number n) e = cc
  echoed ds (string s) e = cc
  echoed ds (array es) e = ap (λ r. answered (reply id r)) (sym (back es))
  echoed ds (object ms) e = cc

-- ---- notifications

pub not_cancel : (b : Bool) (c : Call) → b ≡ false → passed_over ≡ cond b c passed_over
not_cancel b c e = ap (λ t. cond t c passed_over) (sym e)

pub cancel_by : (o : Option Items) (xs : List Value) → Some (items_view xs) ≡ o → of_cancel (map view xs) ≡ elim o as (λ _. Call) [ None ↦ passed_over | Some ds ↦ of_cancel (items_list ds) ]
cancel_by o xs e = ap of_cancel (sym (listed xs)) ∙ ap (λ p. elim p as (λ _. Call) [ None ↦ passed_over | Some ds ↦ of_cancel (items_list ds) ]) e

-- ---- the operations of a `transact`

pub operations_by : (o : Option Items) (xs : List Value) → Some (items_view xs) ≡ o → drop 1 (map view xs) ≡ elim o as (λ _. List Data) [ None ↦ [] | Some ds ↦ drop 1 (items_list ds) ]
operations_by o xs e = ap (drop 1) (sym (listed xs)) ∙ ap (λ p. elim p as (λ _. List Data) [ None ↦ [] | Some ds ↦ drop 1 (items_list ds) ]) e
