-- The ids of a session's monitors as asked, and what the end of a transaction queues.
use Rattle.std.specs.Prelude.{Bool, List, [], ◌∷◌, ◌++◌, map, bytes_eq}
use Rattle.serde_json.specs.Written.{compact_text}
use Rattle.odb_schema.specs.Json.{Data}
use Rattle.odb_schema.specs.Schema.{Schema}
use Rattle.odb_service.specs.Server.{served_by}
use Rattle.odb_service.specs.Session.{Item, Session, asked, at_first, drop_first, renamed, say, shift, start, stopped, sync}
use Rattle.odb_service.specs.World.{push}

-- two ids are equal where their printed texts are
abbrev pub is_same : Data → Data → Bool
is_same a b = bytes_eq (compact_text a) (compact_text b)

-- what an item does to the ids as asked
abbrev pub asks_ids : Item → List Data → List Data
asks_ids (say a d) ids = ids
asks_ids (start d k) ids = ids ++ k.id ∷ []
asks_ids (sync i) ids = ids
asks_ids (shift i fs) ids = ids
asks_ids (renamed d old new fs) ids = at_first (is_same old) (λ i. new) ids
asks_ids (stopped d i) ids = drop_first (is_same i) ids

abbrev pub ids_after : List Item → List Data → List Data
ids_after [] ids = ids
ids_after (i ∷ is) ids = ids_after is (asks_ids i ids)

abbrev pub ids_asked : Session → List Data
ids_asked x = ids_after x.queue (map (λ m. m.watch.id) x.monitors)

-- the reply of a commit, after a sync for each monitor as asked
abbrev pub ended_in : Schema → Item → Session → Session
ended_in s reply x = push (map (λ k. sync k.id) (asked (served_by s) x) ++ reply ∷ []) x
