-- Sets of sessions that grow, and the sessions that a row of a change is looked up for.
use Rattle.std.specs.Prelude.{◌≡◌, ℕ, zero, suc, Bool, false, ◌||◌, List, Option, Some, None}
use Rattle.std.specs.BTreeMap.{BTreeMap, get}
use Rattle.std.specs.BTreeSet.{BTreeSet, contains}
use Rattle.std.specs.List.{list_any}
use Rattle.std.specs.Map.{keys_of}
use Rattle.std.specs.Ordering.{nat_cmp}
use Rattle.odb_atoms.specs.Row.{Row, Selector, cell, declared, own_uuid, own_version}
use Rattle.odb_atoms.specs.Uuid.{Uuid}
use Rattle.odb_interest.specs.Keys.{atoms_in}
use Rattle.odb_interest.specs.Represented.SessionsByAtom.{names}
use Rattle.odb_interest.specs.Represented.Key.{held}
use Rattle.odb_interest.specs.declared.column.SessionsByAtom.{SessionsByAtom}
use Rattle.odb_interest.specs.declared.watched.Watched.{Watched}

-- the sessions that pass the test are in it too, and no others
abbrev pub Grows : BTreeSet ℕ → BTreeSet ℕ → (ℕ → Bool) → Type 0
Grows old new p = (s : ℕ) → contains nat_cmp new s ≡ (contains nat_cmp old s || p s)

abbrev pub RowChange : Type 0
RowChange = Uuid × (Option Row × Option Row)

-- the session names an atom that the row has in the column
abbrev pub names_in : SessionsByAtom → Selector → Uuid → Option Row → ℕ → Bool
names_in c at u None s = false
names_in c at u (Some r) s = list_any (λ a. names c a s) (atoms_in (cell u r at))

-- it names one that some row has there, as it was or as it is
abbrev pub names_some : SessionsByAtom → Selector → List RowChange → ℕ → Bool
names_some c at rows s = list_any (λ e. names_in c at e.0 e.1.0 s || names_in c at e.0 e.1.1 s) rows

abbrev pub names_declared : BTreeMap ℕ SessionsByAtom → List RowChange → ℕ → Bool
names_declared m rows s = list_any (λ i. held (λ c. names_some c (declared i) rows s) (get nat_cmp m i)) (keys_of m.entries)

-- the session is found for a change of the table, which has these rows
abbrev pub is_found : Watched → List RowChange → ℕ → Bool
is_found w rows s = contains nat_cmp w.loose s || (names_some w.uuids own_uuid rows s || (names_some w.versions own_version rows s || names_declared w.columns rows s))

-- there is a lower number that passes the test
abbrev pub any_below : ℕ → (ℕ → Bool) → Bool
any_below zero p = false
any_below (suc n) p = any_below n p || p n
