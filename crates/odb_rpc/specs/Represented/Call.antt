-- What a reading of a request stands for.
use Rattle.std.specs.Prelude.{ℕ, List, [], ◌∷◌, codes, map, Result, Ok, Err}
use Rattle.serde_json.specs.Data.{Data, string}
use Rattle.serde_json.specs.View.{view}
use Rattle.odb_schema.specs.Json.{array_of}
use Rattle.odb_atoms.specs.Error.{syntax_error}
use Rattle.odb_wire.specs.Message.{id_of}
use Rattle.odb_rpc.specs.Message as model
use Rattle.odb_rpc.specs.Message.{answered, cancel, fault, lock, passed_over, reply, reply_id, steal, transact, unlock, unknown_method, unknown_database, failed}
use Rattle.odb_rpc.specs.Represented.Monitor.{monitor_called}
use Rattle.odb_rpc.specs.Represented.Printable.{printable_data}
use Rattle.odb_rpc.specs.declared.call.Call.{Call}
use Rattle.odb_rpc.specs.declared.call.Call.TheVariants as call
use Rattle.odb_rpc.specs.declared.call.CallFault.{CallFault}
use Rattle.odb_rpc.specs.declared.call.CallFault.TheVariants as fault_is
use Rattle.odb_rpc.specs.declared.call.Method.{Method}
use Rattle.odb_rpc.specs.declared.call.Method.TheVariants as method

-- the numbers by which faults are reported
abbrev pub number_of : CallFault → ℕ
number_of fault_is.UnknownMethod = 2
number_of fault_is.Syntax = 3
number_of fault_is.UnknownDatabase = 4

-- the failure that is answered
abbrev pub failure_by : CallFault → model.Failure
failure_by fault_is.UnknownMethod = unknown_method
failure_by fault_is.Syntax = failed syntax_error
failure_by fault_is.UnknownDatabase = unknown_database

-- the name of a method that is served
abbrev pub name_of : Method → List ℕ
name_of method.ListDatabases = codes "list_dbs"
name_of method.GetSchema = codes "get_schema"
name_of method.Transact = codes "transact"
name_of method.Monitor = codes "monitor"
name_of method.MonitorCond = codes "monitor_cond"
name_of method.MonitorCondSince = codes "monitor_cond_since"
name_of method.MonitorCondChange = codes "monitor_cond_change"
name_of method.MonitorCancel = codes "monitor_cancel"
name_of method.Lock = codes "lock"
name_of method.Steal = codes "steal"
name_of method.Unlock = codes "unlock"
name_of method.Echo = codes "echo"

-- what is to be done for a call, for the database of this name with this JSON of its schema, under this id of the reply
module _ (db : List ℕ) (schema id : Data) where
  abbrev pub called : Call → model.Call
  called call.ListDatabases = answered (reply id (array_of (string db ∷ [])))
  called call.GetSchema = answered (reply id schema)
  called (call.Echo params) = answered (reply id (printable_data params))
  called (call.Transact operations) = transact id (map view operations.now)
  called (call.Monitor asked) = monitor_called id asked
  called (call.Lock name) = lock id name.now
  called (call.Steal name) = steal id name.now
  called (call.Unlock name) = unlock id name.now
  called (call.Cancel canceled) = cancel (printable_data canceled)
  called call.PassedOver = passed_over

  -- a faulty request is answered by its failure
  abbrev pub outcome : Result Call CallFault → model.Call
  outcome (Ok c) = called c
  outcome (Err f) = fault id (failure_by f)

-- what was read of the message d, whose reply has the id of d or null
abbrev pub call_view : List ℕ → Data → Data → Result Call CallFault → model.Call
call_view db schema d r = outcome db schema (reply_id (id_of d)) r

-- the call, unless a test of its `params` fails
abbrev pub unless : Data → model.Call → Result (Unit {0}) CallFault → model.Call
unless id c (Ok _) = c
unless id c (Err f) = fault id (failure_by f)

-- the call of the lock whose name was read, unless there is none
abbrev pub of_name : {S : Type 0} → (S → List ℕ) → Data → (List ℕ → model.Call) → Result S CallFault → model.Call
of_name text id call (Ok name) = call (text name)
of_name text id call (Err f) = fault id (failure_by f)
