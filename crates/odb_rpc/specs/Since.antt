-- The result of `monitor_cond_since` [ovsdb-server(7), 4.1.15 Monitor_cond_since], and `update3` [4.1.16 Update3 notification].
use Rattle.std.specs.Prelude.{Bool, [], ◌∷◌, codes}
use Rattle.odb_atoms.specs.Uuid.{Uuid, uuid_text}
use Rattle.odb_schema.specs.Json.{Data, array_of, boolean, string}
use Rattle.odb_rpc.specs.Message.{notification}

-- whether the named commit was found, the newest commit, and table updates
abbrev pub since_result : Bool → Uuid → Data → Data
since_result found number updates = array_of (boolean found ∷ string (uuid_text number) ∷ updates ∷ [])

-- to the monitor of this id
abbrev pub update3 : Data → Uuid → Data → Data
update3 i number updates = notification (codes "update3") (i ∷ string (uuid_text number) ∷ updates ∷ [])
