-- Transactions that go on waiting for as long as the one table stays on which they rest (RFC 7047, 5.2.6). [P 12.2]
use Rattle.std.specs.Prelude.{◌≡◌, ℕ, Bool, false, not, ◌&&◌, if◌then◌else◌, List, [], ◌∷◌, Option, Some, None, option_map, unwrap_or, codes, IsSome}
use Rattle.std.specs.List.{AllByRecursion, list_any}
use Rattle.odb_atoms.specs.Text.{same_text}
use Rattle.odb_commit.specs.Sound.{IsSound}
use Rattle.odb_commit.specs.Transaction as transaction
use Rattle.odb_commit.specs.Transaction.{transact}
use Rattle.odb_schema.specs.Json.{Data, string_member}
use Rattle.odb_schema.specs.Schema.{Schema, table_place}
use Rattle.odb_service.specs.Service.{max_rows}
use Rattle.odb_service.specs.World.{Waiting, is_due}
use Rattle.odb_tables.specs.Database.{Db, table_at}

-- a `wait`, whatever else it is
abbrev pub is_wait : Data → Bool
is_wait d = unwrap_or (option_map (same_text (codes "wait")) (string_member (codes "op") d)) false

-- the name of the table on which these operations rest: that of the first, where it is a `wait` and no later one is
abbrev pub waits_on : List Data → Option (List ℕ)
waits_on [] = None
waits_on (d ∷ ds) = if is_wait d && not (list_any is_wait ds) then string_member (codes "table") d else None

-- what a transaction comes to on the database, as the commit of this number, at this moment, with these locks
abbrev pub comes_to : Schema → Waiting → Db → (number now : ℕ) → (List ℕ → Bool) → transaction.Outcome
comes_to s p db number now owns = transact s max_rows number (record { fresh = p.fresh; arrival = p.arrival; now = now; owns = owns }) db p.operations

-- It would wait again on the database at each moment before its deadline, as whichever commit and with whatever locks. And wherever it waits, it waits until that deadline.
pub record IsStuck (s : Schema) (db : Db) (p : Waiting) : Type 0 where
  pub waits : (number now : ℕ) (owns : List ℕ → Bool) → is_due now p.deadline ≡ false → comes_to s p db number now owns ≡ transaction.waiting p.deadline
  pub until : (other : Db) (number now : ℕ) (owns : List ℕ → Bool) (moment : Option ℕ) → comes_to s p other number now owns ≡ transaction.waiting moment → moment ≡ p.deadline

-- it is, if it rests on one table
abbrev pub IsStuckIf : Schema → Db → Waiting → Type 0
IsStuckIf s db p = IsSome (waits_on p.operations) → IsStuck s db p

-- each of them that rests on one table is stuck on the database
abbrev pub AreStuck : Schema → Db → List Waiting → Type 0
AreStuck s db ps = AllByRecursion (IsStuckIf s db) ps

-- the table of this name is the same in both databases
abbrev pub IsSameAt : Schema → List ℕ → (old new : Db) → Type 0
IsSameAt s name old new = (t : ℕ) → table_place s name ≡ Some t → table_at new t ≡ table_at old t

-- the database is sound, and of those that wait each that rests on one table is stuck on it
abbrev pub IsKept : Schema → Db → List Waiting → Type 0
IsKept s db ps = IsSound s db × AreStuck s db ps
