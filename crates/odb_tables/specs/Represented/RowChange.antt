-- What a change of a row stands for: its identifier, and the row before and after.
use Rattle.std.specs.Prelude.{Option, option_map}
use Rattle.std.specs.Coded.{Coded, coded×, coded_option}
use Rattle.odb_atoms.specs.Row.{Row, row_code}
use Rattle.odb_atoms.specs.Uuid.{Uuid, uuid_code}
use Rattle.odb_tables.specs.Change.{changed_row}

abbrev pub entry_code : Coded (Uuid × (Option Row × Option Row))
entry_code = coded× uuid_code (coded× (coded_option row_code) (coded_option row_code))

-- the change between two rows of an identifier, if they differ
abbrev pub change_at : Uuid → Option Row → Option Row → Option (Uuid × (Option Row × Option Row))
change_at u p q = option_map (λ c. (u, c)) (changed_row p q)
