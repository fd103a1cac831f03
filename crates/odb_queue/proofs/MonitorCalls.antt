-- Calls about monitors are not over at once.
use Rattle.std.proofs.Common.{◌≡◌, None, refl}
use Rattle.odb_rpc.specs.Represented.Monitor.{monitor_called}
use Rattle.odb_rpc.specs.declared.monitor.MonitorCall.{MonitorCall}
use Rattle.odb_rpc.specs.declared.monitor.MonitorCall.TheVariants.{Cancel, Change, Start}
use Rattle.odb_schema.specs.Json.{Data}
use Rattle.odb_queue.specs.Represented.Answer.{at_once}

pub not_at_once : (id : Data) (c : MonitorCall) → at_once (monitor_called id c) ≡ None
not_at_once id (Start s) = refl
not_at_once id (Change c) = refl
not_at_once id (Cancel i) = refl
