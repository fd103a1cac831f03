-- What rows of a table were before several commits: of each row, what the earliest replaced.
use Rattle.std.specs.Prelude.{ℕ, cond, List, [], ◌∷◌, Option, Some, None}
use Rattle.odb_atoms.specs.FinMap as map
use Rattle.odb_atoms.specs.Row.{Row}
use Rattle.odb_atoms.specs.Uuid.{Uuid}
use Rattle.odb_recent.specs.Undo.{Olds, Undo, olds_at}

-- a row that isn't among them comes in
abbrev pub with_old : Olds → Uuid × Option Row → Olds
with_old m e = cond (map.contains_key m e.0) m (map.insert m e.0 e.1)

abbrev pub with_olds : Olds → List (Uuid × Option Row) → Olds
with_olds m [] = m
with_olds m (e ∷ es) = with_olds (with_old m e) es

abbrev pub first_of : Option (Option Row) → Option (Option Row) → Option (Option Row)
first_of None o = o
first_of (Some x) o = Some x

-- of the k-th table, by commits of which the newest is first
abbrev pub merged : ℕ → List Undo → Olds
merged k [] = map.empty
merged k (u ∷ us) = map.combine first_of (merged k us) (olds_at u k)
