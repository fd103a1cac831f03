-- Which notation of a monitor's messages the code's one stands for.
use Rattle.odb_request.specs.Request as model
use Rattle.odb_request.specs.Request.{update, update2}
use Rattle.odb_request.specs.declared.notation.Notation.{Notation}
use Rattle.odb_request.specs.declared.notation.Notation.TheVariants.{Monitor, MonitorCond}

abbrev pub notation_of : Notation → model.Notation
notation_of Monitor = update
notation_of MonitorCond = update2
