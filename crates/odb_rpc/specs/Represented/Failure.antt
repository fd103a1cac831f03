-- What the failures of the code stand for.
use Rattle.odb_atoms.specs.Represented.Error.{error_of}
use Rattle.odb_rpc.specs.Message as model
use Rattle.odb_rpc.specs.declared.error.Failure.{Failure}
use Rattle.odb_rpc.specs.declared.error.Failure.TheVariants as failure

abbrev pub failure_of : Failure → model.Failure
failure_of failure.UnknownMethod = model.unknown_method
failure_of failure.UnknownDatabase = model.unknown_database
failure_of failure.UnknownMonitor = model.unknown_monitor
failure_of failure.Canceled = model.canceled
failure_of (failure.Failed e) = model.failed (error_of e)
