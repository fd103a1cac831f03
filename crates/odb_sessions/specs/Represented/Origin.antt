-- Replies that are begun, and the request that a reply is to.
use Rattle.std.specs.Prelude.{◌≡◌, ℕ, List, ◌++◌}
use Rattle.serde_json.specs.Written.{compact_text}
use Rattle.odb_rpc.specs.Message.{reply}
use Rattle.odb_rpc.specs.Represented.Shared.{after_result}
use Rattle.odb_schema.specs.Json.{Data, null}
use Rattle.odb_service.specs.Session.{Answers, Item, no_request, no_result, say, to}
use Rattle.odb_wire.specs.Message.{id_of}

abbrev pub request_of : Answers → Data
request_of no_request = null
request_of (to d) = d

-- the reply to a request that is granted
abbrev pub granted : Data → Item
granted d = say (to d) (reply (id_of d) no_result)

-- the text with which each reply to the request begins, up to its result
abbrev pub BeginsReply : List ℕ → Data → Type 0
BeginsReply text d = (result : Data) → text ++ (compact_text result ++ after_result) ≡ compact_text (reply (id_of d) result)
