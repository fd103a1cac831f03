-- Locks are those of the server [RFC 7047, 4.1.8]: a request about one goes to the second database too, under an id of the server's own, and what comes of that there is dropped, since the first database answers it. [P 15.4]
use Rattle.std.specs.Prelude.{ℕ, Bool, ◌||◌, List, codes}
use Rattle.serde_json.specs.Data.{Data, string}
use Rattle.odb_schema.specs.Json.{member, no_members, object}
use Rattle.odb_wire.specs.Message.{params_of}
use Rattle.odb_front.specs.Front.{Text, begins_with, is_answer_to, name_of}

abbrev pub message : List ℕ → List ℕ → Data → Data
message id method params = object (member (codes "id") (string id) (member (codes "method") (string method) (member (codes "params") params no_members)))

-- the same request under another id
abbrev pub request_as : List ℕ → Data → Data
request_as id d = message id (name_of d) (params_of d)

-- the notifications `locked` and `stolen`
abbrev pub is_notice : List ℕ → Bool
is_notice text = begins_with text (codes "{\"id\":null,\"method\":\"locked\"") || begins_with text (codes "{\"id\":null,\"method\":\"stolen\"")

-- a message of the second database that comes of requests about locks, which have this id there
abbrev pub is_of_locks : List ℕ → Text → Bool
is_of_locks text id = is_answer_to text id || is_notice text
