-- Rows: a value for each declared column of their table, and a version; the cells that a condition or a monitor can name. [P 2.1]
use Rattle.std.specs.Prelude.{ℕ, List, refl, slice_get, unwrap_or, ◌+◌, ◌==◌, Bool, [], ◌∷◌, Option, Some, None}
use Rattle.std.specs.Coded.{Coded, code_by, coded×, coded_list}
use Rattle.odb_atoms.specs.FinSet as set
use Rattle.odb_atoms.specs.Atom.{uuid}
use Rattle.odb_atoms.specs.Uuid.{Uuid, uuid_code}
use Rattle.odb_atoms.specs.Value.{Value, atoms, set_of, value_code}

-- `_version`, and a value for each column in the order of their names
pub record Row : Type 0 where
  pub version : Uuid
  pub columns : List Value

abbrev pub row_code : Coded Row
row_code = code_by (Uuid × List Value) (coded× uuid_code (coded_list value_code)) (λ r. (r.version, r.columns)) (λ p. record { version = p.0; columns = p.1 }) (λ _. refl)

-- a column of a row: its identifier, its version, or the declared column at a place
pub data Selector : Type 0 where
  own_uuid own_version : Selector
  declared : ℕ → Selector

-- the place of a declared column
abbrev pub place_of : Selector → Option ℕ
place_of own_uuid = None
place_of own_version = None
place_of (declared i) = Some i

-- the two of every table stand before those that are declared
abbrev number_of : Selector → ℕ
number_of own_uuid = 0
number_of own_version = 1
number_of (declared i) = i + 2

abbrev pub same_selector : Selector → Selector → Bool
same_selector c d = number_of c == number_of d

-- what a row with this identifier has in the column; nothing where the place is past its columns
abbrev pub cell : Uuid → Row → Selector → Value
cell u r own_uuid = set_of (atoms (uuid u ∷ []))
cell u r own_version = set_of (atoms (uuid r.version ∷ []))
cell u r (declared i) = unwrap_or (slice_get r.columns i) (set_of set.empty)
