-- Databases: for each table of the schema, in its order, a finite map from UUIDs to rows. [P 2.1]
use Rattle.std.specs.Prelude.{ℕ, List, slice_get, unwrap_or}
use Rattle.std.specs.Coded.{Coded, coded_list}
use Rattle.odb_atoms.specs.FinMap as map
use Rattle.odb_atoms.specs.Row.{Row, row_code}
use Rattle.odb_atoms.specs.Uuid.{uuid_cmp, uuid_code}

abbrev pub Table : Type 0
Table = map.FinMap uuid_cmp Row

abbrev pub Db : Type 0
Db = List Table

abbrev pub table_at : Db → ℕ → Table
table_at db t = unwrap_or (slice_get db t) map.empty

abbrev pub table_code : Coded Table
table_code = map.code uuid_code row_code

abbrev pub db_code : Coded Db
db_code = coded_list table_code
