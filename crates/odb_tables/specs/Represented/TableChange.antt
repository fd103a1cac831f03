-- Changes of rows, none of them twice.
use Rattle.std.specs.Prelude.{List, Option}
use Rattle.std.specs.Coded.{Coded, coded×, coded_option}
use Rattle.std.specs.List.{IsDistinct}
use Rattle.std.specs.Map.{keys_of}
use Rattle.std.specs.Ordering.{eq_by_cmp}
use Rattle.odb_atoms.specs.FinMap as finite
use Rattle.odb_atoms.specs.Row.{Row, row_code}
use Rattle.odb_atoms.specs.Uuid.{Uuid, uuid_cmp, uuid_code}
use Rattle.odb_tables.specs.Change.{Changes}

abbrev pub AreDistinct : List (Uuid × (Option Row × Option Row)) → Type 0
AreDistinct cs = IsDistinct (eq_by_cmp uuid_cmp) (keys_of cs)

abbrev pub changes_code : Coded Changes
changes_code = finite.code uuid_code (coded× (coded_option row_code) (coded_option row_code))
