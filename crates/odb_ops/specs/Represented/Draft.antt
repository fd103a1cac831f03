-- What a draft of the tables is to the operations.
use Rattle.std.specs.Prelude.{ℕ, List, []}
use Rattle.odb_ops.specs.Execution as model
use Rattle.odb_tables.specs.Draft.{Draft}

-- as it is where inserts have had these names
abbrev pub naming : List (List ℕ) → Draft → model.Draft
naming names d = record { db = d.now; deleted = d.removed; named = names }

-- as it is when a transaction begins
abbrev pub begun : Draft → model.Draft
begun d = naming [] d
