-- What contracts see of requests, responses and messages: the data of the whole message.
use Rattle.std.specs.Prelude.{IsTrue}
use Rattle.serde_json.specs.Data.{Data}
use Rattle.serde_json.specs.View.{view}
use Rattle.odb_wire.specs.Message.{is_request, is_notification}
use Rattle.odb_wire.specs.Kind.{is_response}
use Rattle.odb_wire.specs.declared.message.Request.{Request}
use Rattle.odb_wire.specs.declared.message.Response.{Response}
use Rattle.odb_wire.specs.declared.message.Message.{Message}
use Rattle.odb_wire.specs.declared.message.Message.TheVariants as kind

abbrev pub request_data : Request → Data
request_data r = view r.message

abbrev pub response_data : Response → Data
response_data r = view r.value

abbrev pub message_data : Message → Data
message_data (kind.Request r) = request_data r
message_data (kind.Notification r) = request_data r
message_data (kind.Response r) = response_data r

-- the variant says which of the three the data is
abbrev pub IsOfItsKind : Message → Type 0
IsOfItsKind (kind.Request r) = IsTrue (is_request (request_data r))
IsOfItsKind (kind.Notification r) = IsTrue (is_notification (request_data r))
IsOfItsKind (kind.Response r) = IsTrue (is_response (response_data r))
