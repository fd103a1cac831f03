-- In which order old rows were recorded, and what of that is needed.
use Rattle.std.specs.Prelude.{◌≡◌, ℕ, ◌≤◌, Bool, true, false, not, ◌&&◌, nat_le, nat_lt, List, [], ◌∷◌, Option, Some, None}
use Rattle.std.specs.List.{list_any}
use Rattle.std.specs.Ordering.{eq_by_cmp}
use Rattle.odb_atoms.specs.FinMap as map
use Rattle.odb_atoms.specs.Uuid.{Uuid, uuid_cmp}
use Rattle.odb_chain.specs.OldRows.{History, Rows}
use Rattle.odb_chain.specs.Represented.MarkedVersions.{has_label, is_label}

-- a row of which an old row was recorded up to a version, or to one before it
abbrev pub Recorded : Type 0
Recorded = ℕ × Uuid

-- whether the row is among these
abbrev pub is_named : Uuid → List Recorded → Bool
is_named u ns = list_any (λ n. eq_by_cmp uuid_cmp u n.1) ns

-- whether it is, with this version or a later one
abbrev pub is_recorded : ℕ → Uuid → List Recorded → Bool
is_recorded p u ns = list_any (λ n. eq_by_cmp uuid_cmp u n.1 && nat_le p n.0) ns

abbrev pub AllFrom : ℕ → List Recorded → Type 0
AllFrom p [] = Unit {0}
AllFrom p (n ∷ ns) = (p ≤ n.0) × AllFrom p ns

abbrev pub AllUpTo : ℕ → List Recorded → Type 0
AllUpTo p [] = Unit {0}
AllUpTo p (n ∷ ns) = (n.0 ≤ p) × AllUpTo p ns

-- no version comes before that of an earlier entry
abbrev pub AreInOrder : List Recorded → Type 0
AreInOrder [] = Unit {0}
AreInOrder (n ∷ ns) = AllFrom n.0 ns × AreInOrder ns

-- whether there is an old row up to a later version
abbrev pub passes : ℕ → History → Bool
passes p h = list_any (λ e. nat_lt p e.0) h

-- the greatest version up to which there is an old row
abbrev pub IsLast : ℕ → History → Type 0
IsLast p h = (is_label p h ≡ true) × (passes p h ≡ false)

abbrev pub is_latest : ℕ → Option History → Bool
is_latest p None = false
is_latest p (Some h) = not (passes p h)

-- whether there are old rows of the row, and up to no later version
abbrev pub is_needed : Rows → Recorded → Bool
is_needed rows n = is_latest n.0 (map.get rows n.1)

-- the old rows of a table, and the log of them
pub record OldRows : Type 0 where
  pub rows : Rows
  pub log : List Recorded

-- each old row is recorded
abbrev pub AreRecorded : Rows → List Recorded → Type 0
AreRecorded rows ns = (p : ℕ) (u : Uuid) → has_label p (map.get rows u) ≡ true → is_recorded p u ns ≡ true
