-- What the answer of a settlement stands for.
pub mod Reference
pub mod RowId
pub mod PairSide
use Rattle.std.specs.Prelude.{Result, Ok, Err}
use Rattle.odb_atoms.specs.Error as model
use Rattle.odb_atoms.specs.Represented.Error.{error_of}
use Rattle.odb_atoms.specs.declared.error.Error.{Error}
use Rattle.odb_tables.specs.Database.{Db}

-- the database where it was settled, or the fault
abbrev pub answer_of : {A : Type 0} → Result A Error → Db → Result Db model.Error
answer_of (Ok a) db = Ok db
answer_of (Err e) db = Err (error_of e)
