-- What a call about monitors stands for.
use Rattle.std.specs.Prelude.{option_map}
use Rattle.serde_json.specs.Data.{Data}
use Rattle.serde_json.specs.View.{view}
use Rattle.odb_atoms.specs.Uuid.{uuid_from}
use Rattle.odb_request.specs.Represented.Notation.{notation_of}
use Rattle.odb_rpc.specs.Message as model
use Rattle.odb_rpc.specs.Message.{cancel_monitor, change_filters, monitor}
use Rattle.odb_rpc.specs.Represented.Printable.{printable_data}
use Rattle.odb_rpc.specs.declared.monitor.MonitorCall.{MonitorCall}
use Rattle.odb_rpc.specs.declared.monitor.MonitorCall.TheVariants.{Cancel, Change, Start}

-- what is to be done, under this id of the reply
abbrev pub monitor_called : Data → MonitorCall → model.Call
monitor_called id (Start s) = monitor id (notation_of s.notation) (printable_data s.id) (view s.requests.now) (option_map uuid_from s.since)
monitor_called id (Change c) = change_filters id (printable_data c.old) (printable_data c.new) (view c.filters.now)
monitor_called id (Cancel i) = cancel_monitor id (printable_data i)
