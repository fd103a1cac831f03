-- Where a message of a connection goes, where a server has more than one database: a second that is served beside the first, or `_Server` [ovsdb-server(5)], or both. Monitors' ids are one space for a connection. [P 15.3, 15.4]
use Rattle.std.specs.Prelude.{ℕ, ◌-◌, min, drop, length, take, Bool, false, not, ◌&&◌, ◌||◌, if◌then◌else◌, List, [], ◌∷◌, ◌++◌, Option, Some, None, is_some, unwrap_or, codes, bytes_eq, refl}
use Rattle.std.specs.Coded.{Coded, code_by, coded×, coded_bool, coded_ℕ, coded_list, coded_option}
use Rattle.std.specs.List.{filter, list_any}
use Rattle.serde_json.specs.Data.{Data}
use Rattle.serde_json.specs.Written.{compact_text}
use Rattle.odb_schema.specs.Json.{as_array, as_str, items_list}
use Rattle.odb_wire.specs.Message.{has_left_out, is_notification, method_of, params_of}
use Rattle.odb_front.specs.declared.destination.Destination.{Destination}
use Rattle.odb_front.specs.declared.destination.Destination.TheVariants as destination

-- a name, or an id as its compact text
abbrev pub Text : Type 0
Text = List ℕ

-- ---- the databases of a server

-- the name of the first, that of the second where there is one, and whether it has `_Server`
pub record Names : Type 0 where
  pub first : Text
  pub second : Option Text
  pub has_server : Bool

abbrev pub names_code : Coded Names
names_code = code_by (Text × (Option Text × Bool)) (coded× (coded_list coded_ℕ) (coded× (coded_option (coded_list coded_ℕ)) coded_bool)) (λ n. (n.first, (n.second, n.has_server))) (λ p. record { first = p.0; second = p.1.0; has_server = p.1.1 }) (λ _. refl)

-- ---- the ids of a connection

-- those of its monitors in the first database, in the second and in `_Server`; those of its requests that wait in `_Server`, and those of its requests in the second that have no reply yet
pub record Ids : Type 0 where
  pub first : List Text
  pub second : List Text
  pub server : List Text
  pub waiting : List Text
  pub unanswered : List Text

abbrev pub texts_code : Coded (List Text)
texts_code = coded_list (coded_list coded_ℕ)

abbrev pub ids_code : Coded Ids
ids_code = code_by (List Text × (List Text × (List Text × (List Text × List Text)))) (coded× texts_code (coded× texts_code (coded× texts_code (coded× texts_code texts_code))))
    (λ i. (i.first, (i.second, (i.server, (i.waiting, i.unanswered))))) (λ p. record { first = p.0; second = p.1.0; server = p.1.1.0; waiting = p.1.1.1.0; unanswered = p.1.1.1.1 }) (λ _. refl)

-- the text of an id; none where that has a number that is left out
abbrev pub text_of : Data → Option Text
text_of d = if has_left_out d then None else Some (compact_text d)

abbrev pub is_among : List Text → Data → Bool
is_among ts d = elim (text_of d) [ None ↦ false | Some t ↦ list_any (bytes_eq t) ts ]

-- ---- the `params`

-- their members; none where they are no array
abbrev pub parameters : Data → List Data
parameters d = elim (as_array (params_of d)) [ None ↦ [] | Some ds ↦ items_list ds ]

abbrev pub is_text : List ℕ → Data → Bool
is_text name d = elim (as_str d) [ None ↦ false | Some s ↦ bytes_eq s name ]

abbrev pub names : List ℕ → List Data → Bool
names name [] = false
names name (d ∷ ds) = is_text name d

abbrev pub first_among : List Text → List Data → Bool
first_among ts [] = false
first_among ts (d ∷ ds) = is_among ts d

abbrev pub second_among : List Text → List Data → Bool
second_among ts [] = false
second_among ts (d ∷ []) = false
second_among ts (d ∷ e ∷ ds) = is_among ts e

-- the first of them names this database
abbrev pub is_second : Names → List Data → Bool
is_second db params = elim db.second [ None ↦ false | Some name ↦ names name params ]

abbrev pub is_server : Names → List Data → Bool
is_server db params = db.has_server && names (codes "_Server") params

-- ---- the methods

-- those that no database answers
abbrev pub is_of_all : List ℕ → Bool
is_of_all m = bytes_eq m (codes "list_dbs") || bytes_eq m (codes "get_schema")

-- those that only a server with `_Server` knows
abbrev pub is_of_server : List ℕ → Bool
is_of_server m = bytes_eq m (codes "get_server_id") || bytes_eq m (codes "set_db_change_aware")

abbrev pub is_answered : Names → List ℕ → Bool
is_answered db m = is_of_all m || (db.has_server && is_of_server m)

abbrev pub is_of_locks : List ℕ → Bool
is_of_locks m = (bytes_eq m (codes "lock") || bytes_eq m (codes "steal")) || bytes_eq m (codes "unlock")

abbrev pub is_start : List ℕ → Bool
is_start m = (bytes_eq m (codes "monitor") || bytes_eq m (codes "monitor_cond")) || bytes_eq m (codes "monitor_cond_since")

abbrev pub is_of_monitors : List ℕ → Bool
is_of_monitors m = (is_start m || bytes_eq m (codes "monitor_cond_change")) || bytes_eq m (codes "monitor_cancel")

-- those whose first parameter names a database
abbrev pub is_of_database : List ℕ → Bool
is_of_database m = bytes_eq m (codes "transact") || is_start m

-- ---- where a message goes

-- the `cancel` of a request goes where that waits, every other notification to the first database
abbrev pub of_cancel : Ids → List Data → Destination
of_cancel ids params =
    if first_among ids.waiting params then destination.Server
    else (if first_among ids.unanswered params then destination.Second else destination.First)

abbrev pub of_notification : Ids → List ℕ → List Data → Destination
of_notification ids m params = if not (bytes_eq m (codes "cancel")) then destination.First else of_cancel ids params

abbrev pub of_transact : Names → List Data → Destination
of_transact db params =
    if is_server db params then destination.Server
    else (if is_second db params then destination.Second else destination.First)

-- what names a monitor by the second of its `params`: where that is, unless a monitor of another database has this id: then the reply is `syntax error`, as within one database
abbrev pub unless_taken : Destination → List Text → List Text → List Data → Destination
unless_taken there others more params =
    if second_among others params then destination.Front
    else (if second_among more params then destination.Front else there)

abbrev pub of_start : Names → Ids → List Data → Destination
of_start db ids params =
    if is_server db params then unless_taken destination.Server ids.first ids.second params
    else (if is_second db params then unless_taken destination.Second ids.first ids.server params
    else (if not (names db.first params) then destination.First
    else unless_taken destination.First ids.second ids.server params))

-- where the monitor of the first id is, unless one of another database has the second
abbrev pub of_change : Ids → List Data → Destination
of_change ids params =
    if first_among ids.server params then unless_taken destination.Server ids.first ids.second params
    else (if first_among ids.second params then unless_taken destination.Second ids.first ids.server params
    else (if not (first_among ids.first params) then destination.First
    else unless_taken destination.First ids.second ids.server params))

abbrev pub of_end : Ids → List Data → Destination
of_end ids params =
    if first_among ids.server params then destination.Server
    else (if first_among ids.second params then destination.Second else destination.First)

abbrev pub of_request : Names → Ids → List ℕ → List Data → Destination
of_request db ids m params =
    if is_answered db m then destination.Front
    else (if bytes_eq m (codes "transact") then of_transact db params
    else (if is_start m then of_start db ids params
    else (if bytes_eq m (codes "monitor_cond_change") then of_change ids params
    else (if bytes_eq m (codes "monitor_cancel") then of_end ids params
    else destination.First))))

-- the method of a message; empty where it has none
abbrev pub name_of : Data → List ℕ
name_of d = unwrap_or (method_of d) []

-- whether a request is one about locks, which are those of the server: both databases learn of it
abbrev pub is_shared : Names → Data → Bool
is_shared db d = (is_some db.second && is_of_locks (name_of d)) && not (has_left_out d)

abbrev pub destination_of : Names → Ids → Data → Destination
destination_of db ids d =
    if is_notification d then of_notification ids (name_of d) (parameters d)
    else (if is_shared db d then destination.Both
    else of_request db ids (name_of d) (parameters d))

-- ---- how a request names monitors

-- which id names no monitor any more once it was carried out, and which one names one
pub record Naming : Type 0 where
  pub gone : Option Text
  pub come : Option Text

abbrev pub naming_code : Coded Naming
naming_code = code_by (Option Text × Option Text) (coded× (coded_option (coded_list coded_ℕ)) (coded_option (coded_list coded_ℕ))) (λ n. (n.gone, n.come)) (λ p. record { gone = p.0; come = p.1 }) (λ _. refl)

abbrev pub first_text : List Data → Option Text
first_text [] = None
first_text (d ∷ ds) = text_of d

abbrev pub second_text : List Data → Option Text
second_text [] = None
second_text (d ∷ []) = None
second_text (d ∷ e ∷ ds) = text_of e

abbrev pub nothing : Naming
nothing = record { gone = None; come = None }

abbrev pub changed : List Data → Naming
changed (d ∷ e ∷ _ ∷ []) = record { gone = text_of d; come = text_of e }
changed _ = nothing

abbrev pub ended : List Data → Naming
ended (d ∷ []) = record { gone = text_of d; come = None }
ended _ = nothing

abbrev pub naming_by : List ℕ → List Data → Naming
naming_by m params =
    if is_start m then record { gone = None; come = second_text params }
    else (if bytes_eq m (codes "monitor_cond_change") then changed params
    else (if bytes_eq m (codes "monitor_cancel") then ended params
    else nothing))

abbrev pub naming_of : Data → Naming
naming_of d = naming_by (name_of d) (parameters d)

-- what is refused or ignored for its form names none
abbrev pub names_monitor : Data → Bool
names_monitor d = (is_of_monitors (name_of d) && not (is_notification d)) && not (has_left_out d)

abbrev pub names_database : Data → Bool
names_database d = is_of_database (name_of d)

-- ---- the ids once a request was carried out in one of the databases

abbrev pub put : Text → List Text → List Text
put t ts = if list_any (bytes_eq t) ts then ts else ts ++ t ∷ []

abbrev pub put_some : Option Text → List Text → List Text
put_some None ts = ts
put_some (Some t) ts = put t ts

abbrev pub without : Text → List Text → List Text
without t ts = filter (λ u. not (bytes_eq t u)) ts

abbrev pub replaced : Text → Text → List Text → List Text
replaced gone come ts = if bytes_eq gone come then ts else without gone (put come ts)

abbrev pub left_or_replaced : Text → Option Text → List Text → List Text
left_or_replaced gone None ts = without gone ts
left_or_replaced gone (Some come) ts = replaced gone come ts

-- one in the place of another; where that isn't there, nothing changes
abbrev pub put_in_place : Text → Option Text → List Text → List Text
put_in_place gone come ts = if not (list_any (bytes_eq gone) ts) then ts else left_or_replaced gone come ts

abbrev pub named_by : Option Text → Option Text → List Text → List Text
named_by None come ts = put_some come ts
named_by (Some gone) come ts = put_in_place gone come ts

abbrev pub named : Naming → List Text → List Text
named n ts = named_by n.gone n.come ts

abbrev pub with_naming : Destination → Naming → Ids → Ids
with_naming destination.First n ids = record ids { first = named n ids.first }
with_naming destination.Second n ids = record ids { second = named n ids.second }
with_naming destination.Both n ids = ids
with_naming destination.Server n ids = record ids { server = named n ids.server }
with_naming destination.Front n ids = ids

abbrev pub with_waiting : Text → Ids → Ids
with_waiting t ids = record ids { waiting = ids.waiting ++ t ∷ [] }

-- a request of this id was submitted to the second database
abbrev pub with_unanswered : Text → Ids → Ids
with_unanswered t ids = record ids { unanswered = ids.unanswered ++ t ∷ [] }

abbrev pub without_waiting : Text → Ids → Ids
without_waiting t ids = record ids { waiting = without t ids.waiting }

-- ---- replies to those that wait

abbrev pub begins_with : List ℕ → List ℕ → Bool
begins_with text begin = bytes_eq (take (min (length begin) (length text)) text) begin

abbrev pub after : ℕ → List ℕ → List ℕ
after count text = drop (min count (length text)) text

abbrev pub begin_of_reply : List ℕ
begin_of_reply = codes "{\"error\":null,\"id\":"

-- the reply of a success, to the request of this id
abbrev pub is_reply_to : List ℕ → Text → Bool
is_reply_to reply t =
    let rest = after (length begin_of_reply) reply in
    (begins_with reply begin_of_reply && begins_with rest t) && begins_with (after (length t) rest) (codes ",\"result\":")

-- without those that it answers
abbrev pub answered : List ℕ → Ids → Ids
answered reply ids = record ids { waiting = filter (λ t. not (is_reply_to reply t)) ids.waiting }

abbrev pub has_end : List ℕ → List ℕ → Bool
has_end end text = bytes_eq (drop (length text - length end) text) end

-- without its last bytes
abbrev pub before : ℕ → List ℕ → List ℕ
before count text = take (length text - count) text

abbrev pub end_of_failure : List ℕ
end_of_failure = codes ",\"result\":null}"

-- the reply of a failure to the request of this id, by how it ends
abbrev pub is_failure_of : List ℕ → Text → Bool
is_failure_of reply t =
    let rest = before (length end_of_failure) reply in
    (has_end end_of_failure reply && has_end t rest) && has_end (codes ",\"id\":") (before (length t) rest)

-- a reply to the request of this id
abbrev pub is_answer_to : List ℕ → Text → Bool
is_answer_to reply t = is_reply_to reply t || is_failure_of reply t

-- without those that a message of the second database answers
abbrev pub answered_there : List ℕ → Ids → Ids
answered_there reply ids = record ids { unanswered = filter (λ t. not (is_answer_to reply t)) ids.unanswered }
