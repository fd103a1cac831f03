-- Databases that changes are put into before any of them is made: as it is, and as it will be.
use Rattle.std.specs.Prelude.{refl}
use Rattle.std.specs.Coded.{Coded, code_by, coded×}
use Rattle.odb_tables.specs.Database.{Db, db_code}

pub record Pending : Type 0 where
  pub old : Db
  pub now : Db

abbrev pub pending_code : Coded Pending
pending_code = code_by (Db × Db) (coded× db_code db_code) (λ p. (p.old, p.now)) (λ p. record { old = p.0; now = p.1 }) (λ _. refl)

-- no change is put in yet
abbrev pub pending_of : Db → Pending
pending_of db = record { old = db; now = db }
