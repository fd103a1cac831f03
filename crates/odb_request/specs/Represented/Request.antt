-- What a request of the code stands for.
use Rattle.std.specs.Arc.{arc_value}
use Rattle.odb_request.specs.Request as model
use Rattle.odb_request.specs.Represented.Shape.{filtered}
use Rattle.odb_request.specs.declared.request.Request.TheInside.{Inside}

abbrev pub request_in : Inside → model.Request
request_in a = filtered (arc_value a.shape) (arc_value a.filter)
