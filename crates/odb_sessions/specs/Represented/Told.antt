-- The filter under which a client was told of a table.
use Rattle.std.specs.Prelude.{Option, Some, None}
use Rattle.odb_cond.specs.Filter.{Filter}
use Rattle.odb_request.specs.Request.{Request}

-- the request's own, where no other is named
abbrev pub told_under : Request → Option Filter → Filter
told_under q None = q.filter
told_under q (Some f) = f
