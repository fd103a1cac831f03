-- Requests are answered, and notifications aren't.
use Rattle.std.proofs.Common.{◌≡◌, is_some, sym, ◌&&◌, ℕ, Bool, true, false, not, cond, List, [], ◌∷◌, Option, Some, None, codes, refl, ap, ◌∙◌, bytes_eq}
use Rattle.serde_json.specs.Data.{Data, null, boolean, number, string, array, object, Items}
use Rattle.serde_json.specs.Find.{as_array}
use Rattle.odb_atoms.specs.Error.{syntax_error}
use Rattle.odb_atoms.specs.Text.{is_id}
use Rattle.odb_atoms.specs.Uuid.{Uuid}
use Rattle.odb_schema.specs.Json.{array_of, items_list}
use Rattle.odb_request.specs.Request.{Notation, update, update2}
use Rattle.odb_wire.specs.Message.{id_of, is_notification, is_null, method_of, params_of, has_left_out}
use Rattle.odb_rpc.specs.Message.{Call, answered, by_method, call_of, cancel, cancel_monitor, change_filters, commit_of, failed, fault, has_reply, is_object, lock, monitor, of_cancel, of_change, of_db, of_lock, of_monitor, of_monitor_since, of_none, of_notification, of_one, of_request, of_transact, passed_over, reply, reply_id, steal, transact, unknown_database, unknown_method, unlock, with_params}

abbrev Replies : Call → Type 0
Replies c = has_reply c ≡ true

pick : (b : Bool) (c e : Call) → Replies c → Replies e → Replies (cond b c e)
pick true c e x y = x
pick false c e x y = y

module _ (id : Data) where
  with_none : (c : Call) → Replies c → (ds : List Data) → Replies (of_none id c ds)
  with_none c x [] = x
  with_none c x (d ∷ ds) = refl

  with_one : (call : Data → Call) → ((d : Data) → Replies (call d)) → (ds : List Data) → Replies (of_one id call ds)
  with_one call x [] = refl
  with_one call x (d ∷ []) = x d
  with_one call x (d ∷ e ∷ ds) = refl

  locks : (call : List ℕ → Call) → ((s : List ℕ) → Replies (call s)) → (d : Data) → Replies (of_lock id call d)
  locks call x null = refl
  locks call x (boolean b) = refl
  locks call x (number n) = refl
  locks call x (string s) = pick (is_id s) (call s) (fault id (failed syntax_error)) (x s) refl
  locks call x (array ds) = refl
  locks call x (object ms) = refl

  changing : (ds : List Data) → Replies (of_change id ds)
  changing [] = refl
  changing (a ∷ []) = refl
  changing (a ∷ b ∷ []) = refl
  changing (a ∷ b ∷ c ∷ []) = pick (is_object c) (change_filters id a b c) (fault id (failed syntax_error)) refl refl
  changing (a ∷ b ∷ c ∷ d ∷ ds) = refl

  module _ (db : List ℕ) where
    in_db : (c : Call) → Replies c → (d : Data) → Replies (of_db db id d c)
    in_db c x null = refl
    in_db c x (boolean b) = refl
    in_db c x (number n) = refl
    in_db c x (string s) = pick (bytes_eq s db) c (fault id unknown_database) x refl
    in_db c x (array ds) = refl
    in_db c x (object ms) = refl

    monitors : (n : Notation) (ds : List Data) → Replies (of_monitor db id n ds)
    monitors n [] = refl
    monitors n (a ∷ []) = refl
    monitors n (a ∷ b ∷ []) = refl
    monitors n (a ∷ b ∷ c ∷ []) = pick (is_object c) (of_db db id a (monitor id n b c None)) (fault id (failed syntax_error)) (in_db (monitor id n b c None) refl a) refl
    monitors n (a ∷ b ∷ c ∷ d ∷ ds) = refl

    resuming : (o : Option Uuid) (a b c : Data) → Replies (elim o as (λ _. Call) [ None ↦ fault id (failed syntax_error) | Some v ↦ of_db db id a (monitor id update2 b c (Some v)) ])
    resuming None a b c = refl
    resuming (Some v) a b c = in_db (monitor id update2 b c (Some v)) refl a

    resumes : (ds : List Data) → Replies (of_monitor_since db id ds)
    resumes [] = refl
    resumes (a ∷ []) = refl
    resumes (a ∷ b ∷ []) = refl
    resumes (a ∷ b ∷ c ∷ []) = refl
    resumes (a ∷ b ∷ c ∷ d ∷ []) = pick (is_object c) (elim (commit_of d) as (λ _. Call) [ None ↦ fault id (failed syntax_error) | Some v ↦ of_db db id a (monitor id update2 b c (Some v)) ]) (fault id (failed syntax_error)) (resuming (commit_of d) a b c) refl
    resumes (a ∷ b ∷ c ∷ d ∷ e ∷ ds) = refl

    transacts : (ds : List Data) → Replies (of_transact db id ds)
    transacts [] = refl
    transacts (d ∷ ds) = in_db (transact id ds) refl d

  -- a method whose calls are all answered, or none
  abbrev AllReply : Option (List Data → Call) → Type 0
  AllReply None = Unit {0}
  AllReply (Some call) = (ds : List Data) → Replies (call ds)

  either : (b : Bool) (x y : Option (List Data → Call)) → AllReply x → AllReply y → AllReply (cond b x y)
  either true x y p q = p
  either false x y p q = q

  methods : (db : List ℕ) (schema : Data) (m : List ℕ) → AllReply (by_method db schema id m)
  methods db schema m =
      either (bytes_eq m (codes "list_dbs")) _ _ (with_none (answered (reply id (array_of (string db ∷ [])))) refl)
      (either (bytes_eq m (codes "get_schema")) _ _ (with_one (λ name. of_db db id name (answered (reply id schema))) (in_db db (answered (reply id schema)) refl))
      (either (bytes_eq m (codes "transact")) _ _ (transacts db)
      (either (bytes_eq m (codes "monitor")) _ _ (monitors db update)
      (either (bytes_eq m (codes "monitor_cond")) _ _ (monitors db update2)
      (either (bytes_eq m (codes "monitor_cond_since")) _ _ (resumes db)
      (either (bytes_eq m (codes "monitor_cond_change")) _ _ changing
      (either (bytes_eq m (codes "monitor_cancel")) _ _ (with_one (cancel_monitor id) (λ _. refl))
      (either (bytes_eq m (codes "lock")) _ _ (with_one (of_lock id (lock id)) (locks (lock id) (λ _. refl)))
      (either (bytes_eq m (codes "steal")) _ _ (with_one (of_lock id (steal id)) (locks (steal id) (λ _. refl)))
      (either (bytes_eq m (codes "unlock")) _ _ (with_one (of_lock id (unlock id)) (locks (unlock id) (λ _. refl)))
      (either (bytes_eq m (codes "echo")) (Some (λ params. answered (reply id (array_of params)))) None (λ _. refl) tt)))))))))))

  params_read : (call : List Data → Call) → ((ds : List Data) → Replies (call ds)) → (params : Data) → Replies (with_params id call params)
  params_read call x null = refl
  params_read call x (boolean b) = refl
  params_read call x (number n) = refl
  params_read call x (string s) = refl
  params_read call x (array ds) = x (items_list ds)
  params_read call x (object ms) = refl

  found : (params : Data) (o : Option (List Data → Call)) → AllReply o → Replies (elim o as (λ _. Call) [ None ↦ fault id unknown_method | Some call ↦ with_params id call params ])
  found params None x = refl
  found params (Some call) x = params_read call x params

requests : (db : List ℕ) (schema : Data) (serves : List ℕ → Bool) (id : Data) (m : List ℕ) (params : Data) → Replies (of_request db schema serves id m params)
requests db schema serves id m params = found id params (cond (serves m) (by_method db schema id m) None) (either id (serves m) (by_method db schema id m) None (methods id db schema m) tt)

-- ---- notifications

abbrev IsSilent : Call → Type 0
IsSilent c = has_reply c ≡ false

silent : (b : Bool) (c e : Call) → IsSilent c → IsSilent e → IsSilent (cond b c e)
silent true c e x y = x
silent false c e x y = y

cancels : (ds : List Data) → IsSilent (of_cancel ds)
cancels [] = refl
cancels (i ∷ []) = silent (has_left_out i) passed_over (cancel i) refl refl
cancels (i ∷ j ∷ ds) = refl

abbrev canceled_by : Option Items → Call
canceled_by o = elim o as (λ _. Call) [ None ↦ passed_over | Some ds ↦ of_cancel (items_list ds) ]

cancels_by : (o : Option Items) → IsSilent (canceled_by o)
cancels_by None = refl
cancels_by (Some ds) = cancels (items_list ds)

notifications : (m : List ℕ) (params : Data) → IsSilent (of_notification m params)
notifications m params = silent (bytes_eq m (codes "cancel")) (canceled_by (as_array params)) passed_over (cancels_by (as_array params)) refl

-- ---- messages with a method

module _ (db : List ℕ) (schema : Data) (serves : List ℕ → Bool) (d : Data) where
  -- what a request asks, and what any message of this method asks
  abbrev pub requested : List ℕ → Call
  requested m = cond (has_left_out d) (fault (reply_id (id_of d)) (failed syntax_error)) (of_request db schema serves (id_of d) m (params_of d))

  abbrev asked : List ℕ → Call
  asked m = cond (is_null (id_of d)) (of_notification m (params_of d)) (requested m)

  pub call_of-method : (m : List ℕ) → method_of d ≡ Some m → call_of db schema serves d ≡ asked m
  call_of-method m e = ap (λ o. elim o as (λ _. Call) [ None ↦ passed_over | Some m ↦ asked m ]) e

  answers : (b : Bool) (c e : Call) → IsSilent c → Replies e → has_reply (cond b c e) ≡ not b
  answers true c e x y = x
  answers false c e x y = y

  has_reply-call_of : (m : List ℕ) → method_of d ≡ Some m → has_reply (call_of db schema serves d) ≡ not (is_null (id_of d))
  has_reply-call_of m e =
      ap has_reply (call_of-method m e)
      ∙ answers (is_null (id_of d)) (of_notification m (params_of d)) (requested m) (notifications m (params_of d)) (pick (has_left_out d) (fault (reply_id (id_of d)) (failed syntax_error)) (of_request db schema serves (id_of d) m (params_of d)) refl (requests db schema serves (id_of d) m (params_of d)))

  -- of a message with a method
  pub is_null-method : (m : List ℕ) → method_of d ≡ Some m → is_notification d ≡ is_null (id_of d)
  is_null-method m e = ap (λ o. is_some o && is_null (id_of d)) e

  pub request_replies : (m : List ℕ) → Some m ≡ method_of d → not (is_notification d) ≡ has_reply (call_of db schema serves d)
  request_replies m e = ap not (is_null-method m (sym e)) ∙ sym (has_reply-call_of m (sym e))
