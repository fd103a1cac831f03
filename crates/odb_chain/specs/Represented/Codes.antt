-- The codes of what contracts see of the code's types.
use Rattle.std.specs.Prelude.{ℕ, Bool, List, Option, refl}
use Rattle.std.specs.Coded.{Coded, code_by, coded×, coded_ℕ, coded_bool, coded_list, coded_option}
use Rattle.odb_atoms.specs.FinMap as map
use Rattle.odb_atoms.specs.Row.{Row, row_code}
use Rattle.odb_atoms.specs.Uuid.{Uuid, uuid_code}
use Rattle.odb_tables.specs.Database.{Db, Table, db_code, table_code}
use Rattle.odb_chain.specs.Chains.{Chains, Live, Mark, Standing}
use Rattle.odb_chain.specs.OldRows.{History, Rows}
use Rattle.odb_chain.specs.Represented.Chain.{Chain}
use Rattle.odb_chain.specs.Represented.Log.{OldRows, Recorded}

abbrev pub old_code : Coded (ℕ × Option Row)
old_code = coded× coded_ℕ (coded_option row_code)

abbrev pub history_code : Coded History
history_code = coded_list old_code

abbrev pub rows_code : Coded Rows
rows_code = map.code uuid_code history_code

abbrev pub marked_version_code : Coded (ℕ × ℕ)
marked_version_code = coded× coded_ℕ coded_ℕ

abbrev pub recorded_code : Coded (ℕ × Uuid)
recorded_code = coded× coded_ℕ uuid_code

abbrev pub old_rows_code : Coded OldRows
old_rows_code = code_by (Rows × List Recorded) (coded× rows_code (coded_list recorded_code)) (λ k. (k.rows, k.log)) (λ p. record { rows = p.0; log = p.1 }) (λ _. refl)

abbrev pub chain_code : Coded Chain
chain_code =
    code_by (ℕ × (List (ℕ × ℕ) × (ℕ × (Rows × (List Recorded × Bool))))) (coded× coded_ℕ (coded× (coded_list marked_version_code) (coded× coded_ℕ (coded× rows_code (coded× (coded_list recorded_code) coded_bool)))))
    (λ c. (c.version, (c.live, (c.fresh, (c.rows, (c.log, c.room)))))) (λ p. record { version = p.0; live = p.1.0; fresh = p.1.1.0; rows = p.1.1.1.0; log = p.1.1.1.1.0; room = p.1.1.1.1.1 }) (λ _. refl)

abbrev pub standing_code : Coded Standing
standing_code = code_by (Table × ℕ) (coded× table_code coded_ℕ) (λ x. (x.content, x.marks)) (λ p. record { content = p.0; marks = p.1 }) (λ _. refl)

abbrev pub live_code : Coded Live
live_code = map.code coded_ℕ standing_code

abbrev pub chains_code : Coded Chains
chains_code =
    code_by (Db × (List ℕ × List Live)) (coded× db_code (coded× (coded_list coded_ℕ) (coded_list live_code)))
    (λ k. (k.db, (k.versions, k.live))) (λ p. record { db = p.0; versions = p.1.0; live = p.1.1 }) (λ _. refl)

abbrev pub mark_code : Coded Mark
mark_code = code_by (ℕ × (ℕ × Table)) (coded× coded_ℕ (coded× coded_ℕ table_code)) (λ m. (m.table, (m.version, m.content))) (λ p. record { table = p.0; version = p.1.0; content = p.1.1 }) (λ _. refl)
