-- What is answered by no database. [P 15.3, 15.4]
use Rattle.std.specs.Prelude.{ℕ, if◌then◌else◌, List, [], ◌∷◌, Option, Some, None, codes, bytes_eq, map}
use Rattle.serde_json.specs.Data.{Data, string}
use Rattle.odb_atoms.specs.Error.{syntax_error}
use Rattle.odb_schema.specs.Json.{array_of, as_array, as_bool, as_str, items_list, no_members, object}
use Rattle.odb_rpc.specs.Message.{failed, failure, reply, reply_id, unknown_database}
use Rattle.odb_wire.specs.Message.{has_left_out, id_of, params_of}
use Rattle.odb_front.specs.Front.{Text, name_of}

-- the names of all databases, in the order in which they are told, each with the JSON of its schema; and the text that names this run of the server
pub record Answers : Type 0 where
  pub schemas : List (Text × Data)
  pub server_id : List ℕ

abbrev pub refused : Data → Data
refused id = failure id (failed syntax_error)

-- the array of all names
abbrev pub names_of : Answers → Data
names_of a = array_of (map (λ s. string s.0) a.schemas)

-- what stands beside this name first
abbrev pub beside : {A : Type 0} → List ℕ → List (Text × A) → Option A
beside name [] = None
beside name (s ∷ ss) = if bytes_eq name s.0 then Some s.1 else beside name ss

-- `get_schema`, whatever comes after the name
abbrev pub by_name : Answers → Data → List ℕ → Data
by_name a id name = elim (beside name a.schemas) [ None ↦ failure id unknown_database | Some schema ↦ reply id schema ]

abbrev pub of_schema : Answers → Data → List Data → Data
of_schema a id [] = refused id
of_schema a id (d ∷ ds) = elim (as_str d) [ None ↦ refused id | Some name ↦ by_name a id name ]

-- what says that a request was taken
abbrev pub nothing : Data
nothing = object no_members

-- `set_db_change_aware`, of true or false alone
abbrev pub of_flag : Data → Data → Data
of_flag id d = elim (as_bool d) [ None ↦ refused id | Some b ↦ reply id nothing ]

abbrev pub of_awareness : Data → List Data → Data
of_awareness id (d ∷ []) = of_flag id d
of_awareness id _ = refused id

-- a monitor's id that another database's monitor has, and `params` that are no array, are `syntax error`
abbrev pub by_method : Answers → Data → List ℕ → List Data → Data
by_method a id m params =
    if bytes_eq m (codes "list_dbs") then reply id (names_of a)
    else (if bytes_eq m (codes "get_schema") then of_schema a id params
    else (if bytes_eq m (codes "get_server_id") then reply id (string a.server_id)
    else (if bytes_eq m (codes "set_db_change_aware") then of_awareness id params
    else refused id)))

abbrev pub answer : Answers → Data → Data
answer a d =
    let id = reply_id (id_of d) in
    if has_left_out d then refused id
    else elim (as_array (params_of d)) [ None ↦ refused id | Some ds ↦ by_method a id (name_of d) (items_list ds) ]
