-- Schemas (RFC 7047, <database-schema>): tables by ascending name, in each its columns by ascending name. [P 1.2, 1.3]
use Rattle.std.specs.Prelude.{ℕ, Bool, false, not, ◌||◌, List, [], Option, option_map, slice_get, position, unwrap_or, cond, codes, Some}
use Rattle.std.specs.List.{list_any}
use Rattle.odb_atoms.specs.Atom.{uuids}
use Rattle.odb_atoms.specs.ColType.{ColType, scalar}
use Rattle.odb_atoms.specs.Row.{Selector, declared, own_uuid, own_version}
use Rattle.odb_atoms.specs.Text.{same_text}

pub record Column : Type 0 where
  pub name : List ℕ
  pub type : ColType
  pub ephemeral : Bool
  pub mutable : Bool

-- an index is a list of names of columns
pub record TableSchema : Type 0 where
  pub name : List ℕ
  pub columns : List Column
  pub max_rows : Option ℕ
  pub is_root : Bool
  pub indexes : List (List (List ℕ))

pub record Schema : Type 0 where
  pub name : List ℕ
  pub version : List ℕ
  pub cksum : Option (List ℕ)
  pub tables : List TableSchema

-- a table's place, from 0
abbrev pub table_place : Schema → List ℕ → Option ℕ
table_place s name = position (λ t. same_text t.name name) s.tables

abbrev pub column_place : List Column → List ℕ → Option ℕ
column_place cs name = position (λ c. same_text c.name name) cs

-- the columns of the table at a place
abbrev pub columns_at : Schema → ℕ → List Column
columns_at s t = unwrap_or (option_map (λ t. t.columns) (slice_get s.tables t)) []

abbrev pub column_name : List Column → ℕ → List ℕ
column_name cs i = unwrap_or (option_map (λ c. c.name) (slice_get cs i)) []

-- the type of the column at a place
abbrev pub column_type : List Column → ℕ → ColType
column_type cs i = unwrap_or (option_map (λ c. c.type) (slice_get cs i)) (scalar uuids)

abbrev pub is_mutable : List Column → ℕ → Bool
is_mutable cs i = unwrap_or (option_map (λ c. c.mutable) (slice_get cs i)) false

-- the table at a place is a root table: if no table is marked as one, every table is
abbrev pub is_root_at : Schema → ℕ → Bool
is_root_at s t = unwrap_or (option_map (λ t. t.is_root) (slice_get s.tables t)) false || not (list_any (λ u. u.is_root) s.tables)

-- the named column, `_uuid` and `_version` among them
abbrev pub selector : List Column → List ℕ → Option Selector
selector cs name =
    cond (same_text name (codes "_uuid")) (Some own_uuid)
    (cond (same_text name (codes "_version")) (Some own_version)
    (option_map declared (column_place cs name)))

abbrev pub selector_name : List Column → Selector → List ℕ
selector_name cs own_uuid = codes "_uuid"
selector_name cs own_version = codes "_version"
selector_name cs (declared i) = column_name cs i

abbrev pub selector_type : List Column → Selector → ColType
selector_type cs own_uuid = scalar uuids
selector_type cs own_version = scalar uuids
selector_type cs (declared i) = column_type cs i
