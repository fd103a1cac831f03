-- The codes of what contracts see of the code's types.
use Rattle.std.specs.Prelude.{ℕ, List, Option, refl}
use Rattle.std.specs.Coded.{Coded, code_by, coded×, coded_ℕ, coded_list, coded_option}
use Rattle.odb_atoms.specs.FinMap as map
use Rattle.odb_atoms.specs.Row.{Row, row_code}
use Rattle.odb_atoms.specs.Uuid.{Uuid, uuid_code}
use Rattle.odb_recent.specs.Recent.{Recent}
use Rattle.odb_recent.specs.Undo.{Olds, Undo}

abbrev pub old_row_code : Coded (Uuid × Option Row)
old_row_code = coded× uuid_code (coded_option row_code)

abbrev pub olds_code : Coded Olds
olds_code = map.code uuid_code (coded_option row_code)

abbrev pub table_undo_code : Coded (ℕ × Olds)
table_undo_code = coded× coded_ℕ olds_code

abbrev pub undo_code : Coded Undo
undo_code = coded_list table_undo_code

abbrev pub recent_code : Coded Recent
recent_code =
    code_by (ℕ × (ℕ × (ℕ × List Undo))) (coded× coded_ℕ (coded× coded_ℕ (coded× coded_ℕ (coded_list undo_code))))
    (λ r. (r.run, (r.commits, (r.most, r.undos)))) (λ p. record { run = p.0; commits = p.1.0; most = p.1.1.0; undos = p.1.1.1 }) (λ _. refl)
