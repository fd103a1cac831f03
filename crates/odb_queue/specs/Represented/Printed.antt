-- What a finished text is printed from, and so what it means.
use Rattle.std.specs.Prelude.{None}
use Rattle.serde_json.specs.View.{view}
use Rattle.odb_locks.specs.Represented.Notice.{notice_of}
use Rattle.odb_rpc.specs.Message.{failure, reply}
use Rattle.odb_rpc.specs.Represented.Failure.{failure_of}
use Rattle.odb_service.specs.Session.{Out, no_request, to}
use Rattle.odb_service.specs.World as world
use Rattle.odb_wire.specs.Message.{id_of}
use Rattle.odb_wire.specs.Shown.{request_data}
use Rattle.odb_queue.specs.Represented.Answer.{answer_to}
use Rattle.odb_queue.specs.declared.meaning.Printed.{Printed}
use Rattle.odb_queue.specs.declared.meaning.Printed.TheVariants as printed
use Rattle.odb_queue.specs.declared.meaning.Transacted.{Transacted}
use Rattle.odb_schema.specs.Json.{array_of}

abbrev pub out_of : Printed → Out
out_of (printed.AtOnce request schema) = record { answers = to (request_data request.now); message = answer_to schema.now (request_data request.now); held = None }
out_of (printed.Success request result) = record { answers = to (request_data request.now); message = reply (id_of (request_data request.now)) (view result.now); held = None }
out_of (printed.Failure request why) = record { answers = to (request_data request.now); message = failure (id_of (request_data request.now)) (failure_of why.now); held = None }
out_of (printed.Notice notice) = record { answers = no_request; message = world.notice_of (notice_of notice.now); held = None }

-- the reply of a transaction
abbrev pub reply_of : Transacted → Out
reply_of t = record { answers = to (request_data t.request.now); message = reply (id_of (request_data t.request.now)) (array_of t.results.now); held = None }
