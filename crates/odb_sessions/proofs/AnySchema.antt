-- A schema, where it matters not which.
use Rattle.std.proofs.Common.{None, []}
use Rattle.odb_schema.specs.Schema.{Schema}

-- a schema, where it matters not which
pub no_schema : Schema
no_schema = record { name = []; version = []; cksum = None; tables = [] }
