-- What a draft made of the rows of a table that it touched.
use Rattle.std.specs.Prelude.{Bool, false, Option, Some, None, option_map}
use Rattle.std.specs.Arc.{arc_value}
use Rattle.std.specs.Coded.{Coded, coded_option}
use Rattle.std.specs.declared.sync.Arc.{Arc}
use Rattle.odb_atoms.specs.FinMap as finite
use Rattle.odb_atoms.specs.Row.{Row, row_code}
use Rattle.odb_atoms.specs.Uuid.{Uuid, uuid_cmp, uuid_code}

-- what each of these rows is now, or that it was taken out
abbrev pub Touched : Type 0
Touched = finite.FinMap uuid_cmp (Option Row)

abbrev pub touched_code : Coded Touched
touched_code = finite.code uuid_code (coded_option row_code)

abbrev pub row_of : {Z : Type 0} → Option (Arc Row Z) → Option Row
row_of o = option_map arc_value o

-- the row is there, and passes the test
abbrev pub passes_now : (Uuid → Row → Bool) → Uuid → Option Row → Bool
passes_now p u None = false
passes_now p u (Some r) = p u r
