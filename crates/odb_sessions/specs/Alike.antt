-- What jobs are alike by: clients that are to be told the same of the same are told it by one job. [P 9.2, 10.1, 10.3]
use Rattle.std.specs.Prelude.{ℕ, Bool, List, map, Option}
use Rattle.odb_cond.specs.Filter.{Filter}
use Rattle.odb_request.specs.Request.{Notation, Request, Select}
use Rattle.odb_atoms.specs.Row.{Selector}

-- how a client stands to a table: what it is to have of it, under which filter it was told of it, if it was, and at which change of which table, if it wasn't told of it as it is now
pub record Stand : Type 0 where
  pub request : Request
  pub told : Option Filter
  pub version : Option (ℕ × ℕ)

-- in which notation, whether it is a first reply with all, and how many commits ago the client had what it asks, if that is found; and how it stands to each table
pub record Likeness : Type 0 where
  pub notation : Notation
  pub first : Bool
  pub ago : Option ℕ
  pub stands : List Stand

-- what a request asks for, by places in a schema
pub record Asks : Type 0 where
  pub place : ℕ
  pub columns : List Selector
  pub select : Select
  pub filter : Filter

abbrev pub asks_of : Request → Asks
asks_of q = record { place = q.place; columns = map (λ c. c.source) q.shape.columns; select = q.select; filter = q.filter }
