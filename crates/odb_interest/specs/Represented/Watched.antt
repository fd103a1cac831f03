-- Which sessions are to be found by which keys of a table, and what a call changes of that.
use Rattle.std.specs.Prelude.{◌≡◌, ℕ, Bool, ◌&&◌, ◌==◌, if◌then◌else◌}
use Rattle.std.specs.BTreeMap.{BTreeMap, get}
use Rattle.std.specs.BTreeSet.{contains}
use Rattle.std.specs.Ordering.{nat_cmp}
use Rattle.odb_atoms.specs.Atom.{Atom, same_atom}
use Rattle.odb_atoms.specs.Row.{declared, own_uuid, own_version}
use Rattle.odb_interest.specs.Keys.{Key, any_row, named}
use Rattle.odb_interest.specs.Represented.SessionsByAtom.{names}
use Rattle.odb_interest.specs.Represented.Key.{held, same_key}
use Rattle.odb_interest.specs.declared.column.SessionsByAtom.{SessionsByAtom}
use Rattle.odb_interest.specs.declared.watched.Watched.{Watched}

abbrev pub names_at : BTreeMap ℕ SessionsByAtom → ℕ → Atom → ℕ → Bool
names_at m i a s = held (λ c. names c a s) (get nat_cmp m i)

abbrev pub watches : Watched → Key → ℕ → Bool
watches w any_row s = contains nat_cmp w.loose s
watches w (named own_uuid a) s = names w.uuids a s
watches w (named own_version a) s = names w.versions a s
watches w (named (declared i) a) s = names_at w.columns i a s

-- the session names the atom in the column at the place now, or doesn't, and all else stays
abbrev pub PutsAt : BTreeMap ℕ SessionsByAtom → BTreeMap ℕ SessionsByAtom → ℕ → Atom → ℕ → Bool → Type 0
PutsAt old new place atom session b = (i : ℕ) (a : Atom) (s : ℕ) → names_at new i a s ≡ (if (i == place) && (same_atom a atom && (session == s)) then b else names_at old i a s)

abbrev pub AreUnchanged : BTreeMap ℕ SessionsByAtom → BTreeMap ℕ SessionsByAtom → Type 0
AreUnchanged old new = (i : ℕ) (a : Atom) (s : ℕ) → names_at new i a s ≡ names_at old i a s

-- the session is found by the key now, or isn't, and all else stays
abbrev pub Puts : Watched → Watched → Key → ℕ → Bool → Type 0
Puts old new key session b = (k : Key) (s : ℕ) → watches new k s ≡ (if same_key k key && (session == s) then b else watches old k s)

abbrev pub IsUnchanged : Watched → Watched → Type 0
IsUnchanged old new = (k : Key) (s : ℕ) → watches new k s ≡ watches old k s
