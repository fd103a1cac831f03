-- Replies, notifications and calls of JSON-RPC 1.0 (RFC 7047, section 4). [P 6.2, 7.3, 8.1, 8.2, 8.3]
use Rattle.std.specs.Prelude.{ℕ, Bool, true, false, ◌&&◌, if◌then◌else◌, List, [], ◌∷◌, Option, Some, None, option_and_then, unwrap_or, codes, bytes_eq, count_by, drop}
use Rattle.odb_atoms.specs.Error.{Error, error_name, syntax_error}
use Rattle.odb_atoms.specs.Text.{is_id}
use Rattle.odb_atoms.specs.Uuid.{Uuid, uuid_of_text}
use Rattle.odb_json.specs.Operation.{is_insert}
use Rattle.odb_schema.specs.Json.{Data, null, boolean, number, string, array, object, no_members, member, array_of, items_list, as_str, as_array}
use Rattle.odb_request.specs.Request.{Notation, update, update2}
use Rattle.odb_wire.specs.Message.{is_null, is_request, method_of, params_of, id_of, has_left_out}

-- an object of one member
abbrev pub one : List ℕ → Data → Data
one name d = object (member name d no_members)

-- ---- failures

-- why a request fails as a whole: the errors of the wire, and those that operations have too
pub data Failure : Type 0 where
  unknown_method unknown_database unknown_monitor canceled : Failure
  failed : Error → Failure

-- the first four are printed as their name alone, every other as `{"error": name}`
abbrev pub failure_data : Failure → Data
failure_data unknown_method = string (codes "unknown method")
failure_data unknown_database = string (codes "unknown database")
failure_data unknown_monitor = string (codes "unknown monitor")
failure_data canceled = string (codes "canceled")
failure_data (failed e) = one (codes "error") (string (error_name e))

-- ---- texts

abbrev pub message : Data → Data → Data → Data
message error id result = object (member (codes "error") error (member (codes "id") id (member (codes "result") result no_members)))

abbrev pub reply : Data → Data → Data
reply id result = message null id result

abbrev pub failure : Data → Failure → Data
failure id f = message (failure_data f) id null

abbrev pub notification : List ℕ → List Data → Data
notification method params = object (member (codes "id") null (member (codes "method") (string method) (member (codes "params") (array_of params) no_members)))

-- ---- calls

-- what a request asks; the first argument is the id of its reply. A monitor may name a commit, of which its client has the content
pub data Call : Type 0 where
  answered : Data → Call
  transact : Data → List Data → Call
  monitor : Data → Notation → Data → Data → (since : Option Uuid) → Call
  change_filters : Data → Data → Data → Data → Call
  cancel_monitor : Data → Data → Call
  lock : Data → List ℕ → Call
  steal : Data → List ℕ → Call
  unlock : Data → List ℕ → Call
  cancel : Data → Call
  passed_over : Call

-- the id of a request's reply: null where the id itself holds a number that is left out
abbrev pub reply_id : Data → Data
reply_id id = if has_left_out id then null else id

abbrev pub fault : Data → Failure → Call
fault id f = answered (failure id f)

abbrev pub is_object : Data → Bool
is_object (object ms) = true
is_object null = false
is_object (boolean b) = false
is_object (number n) = false
is_object (string s) = false
is_object (array ds) = false

-- the `params` of the right length, each of the right JSON kind, and else `syntax error`
abbrev pub of_none : Data → Call → List Data → Call
of_none id call [] = call
of_none id call (d ∷ ds) = fault id (failed syntax_error)

abbrev pub of_one : Data → (Data → Call) → List Data → Call
of_one id call (d ∷ []) = call d
of_one id call _ = fault id (failed syntax_error)

abbrev pub with_params : Data → (List Data → Call) → Data → Call
with_params id call params = elim (as_array params) [ None ↦ fault id (failed syntax_error) | Some ds ↦ call (items_list ds) ]

-- the name of a lock is an id
abbrev pub of_lock : Data → (List ℕ → Call) → Data → Call
of_lock id call name = elim (as_str name) [ None ↦ fault id (failed syntax_error) | Some s ↦ (if is_id s then call s else fault id (failed syntax_error)) ]

abbrev pub of_change : Data → List Data → Call
of_change id (old ∷ new ∷ filters ∷ []) = if is_object filters then change_filters id old new filters else fault id (failed syntax_error)
of_change id _ = fault id (failed syntax_error)

-- `cancel` with the id of a request, which has no number that is left out; every other notification is passed over
abbrev pub of_cancel : List Data → Call
of_cancel (id ∷ []) = if has_left_out id then passed_over else cancel id
of_cancel _ = passed_over

abbrev pub of_notification : List ℕ → Data → Call
of_notification m params =
    if bytes_eq m (codes "cancel")
    then elim (as_array params) [ None ↦ passed_over | Some ds ↦ of_cancel (items_list ds) ]
    else passed_over

-- the identifier of a commit: a text of 36 characters
abbrev pub commit_of : Data → Option Uuid
commit_of d = option_and_then uuid_of_text (as_str d)

-- for the database of this name
module _ (db : List ℕ) where
  abbrev pub of_db : Data → Data → Call → Call
  of_db id name call = elim (as_str name) [ None ↦ fault id (failed syntax_error) | Some s ↦ (if bytes_eq s db then call else fault id unknown_database) ]

  abbrev pub of_monitor : Data → Notation → List Data → Call
  of_monitor id n (name ∷ i ∷ requests ∷ []) = if is_object requests then of_db id name (monitor id n i requests None) else fault id (failed syntax_error)
  of_monitor id n _ = fault id (failed syntax_error)

  -- `monitor_cond_since` [ovsdb-server(7), 4.1.15 Monitor_cond_since]
  abbrev pub of_monitor_since : Data → List Data → Call
  of_monitor_since id (name ∷ i ∷ requests ∷ last ∷ []) =
      if is_object requests
      then elim (commit_of last) [ None ↦ fault id (failed syntax_error) | Some v ↦ of_db id name (monitor id update2 i requests (Some v)) ]
      else fault id (failed syntax_error)
  of_monitor_since id _ = fault id (failed syntax_error)

  abbrev pub of_transact : Data → List Data → Call
  of_transact id [] = fault id (failed syntax_error)
  of_transact id (name ∷ operations) = of_db id name (transact id operations)

-- with this JSON of its schema
module _ (db : List ℕ) (schema : Data) where
  abbrev pub by_method : Data → List ℕ → Option (List Data → Call)
  by_method id m =
      if bytes_eq m (codes "list_dbs") then Some (of_none id (answered (reply id (array_of (string db ∷ [])))))
      else (if bytes_eq m (codes "get_schema") then Some (of_one id (λ name. of_db db id name (answered (reply id schema))))
      else (if bytes_eq m (codes "transact") then Some (of_transact db id)
      else (if bytes_eq m (codes "monitor") then Some (of_monitor db id update)
      else (if bytes_eq m (codes "monitor_cond") then Some (of_monitor db id update2)
      else (if bytes_eq m (codes "monitor_cond_since") then Some (of_monitor_since db id)
      else (if bytes_eq m (codes "monitor_cond_change") then Some (of_change id)
      else (if bytes_eq m (codes "monitor_cancel") then Some (of_one id (cancel_monitor id))
      else (if bytes_eq m (codes "lock") then Some (of_one id (of_lock id (lock id)))
      else (if bytes_eq m (codes "steal") then Some (of_one id (of_lock id (steal id)))
      else (if bytes_eq m (codes "unlock") then Some (of_one id (of_lock id (unlock id)))
      else (if bytes_eq m (codes "echo") then Some (λ params. answered (reply id (array_of params)))
      else None)))))))))))

-- and these methods are served
module _ (db : List ℕ) (schema : Data) (serves : List ℕ → Bool) where
  abbrev pub of_request : Data → List ℕ → Data → Call
  of_request id m params =
      elim (if serves m then by_method db schema id m else None) [
        | None ↦ fault id unknown_method
        | Some call ↦ with_params id call params
      ]

  -- a message with a method: numbers left out by name are tested first, then the method, then `params`
  abbrev pub call_of : Data → Call
  call_of d =
      let id = id_of d in
      elim (method_of d) [
        | None ↦ passed_over
        | Some m ↦ (if is_null id then of_notification m (params_of d)
            else (if has_left_out d then fault (reply_id id) (failed syntax_error)
            else of_request id m (params_of d)))
      ]

-- the operations of a `transact`: what is after the first of its `params`
abbrev pub operations_of : Data → List Data
operations_of d = elim (as_array (params_of d)) [ None ↦ [] | Some ds ↦ drop 1 (items_list ds) ]

-- how many identifiers a message needs: one for each insert of a `transact` that is a request
abbrev pub inserts_of : Data → ℕ
inserts_of d =
    if is_request d && bytes_eq (unwrap_or (method_of d) (codes "")) (codes "transact")
    then count_by is_insert (operations_of d)
    else 0

-- whether a call has a reply
abbrev pub has_reply : Call → Bool
has_reply (cancel id) = false
has_reply passed_over = false
has_reply _ = true
