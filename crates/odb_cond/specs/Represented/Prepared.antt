-- Which rows are found by what is prepared from the members of a filter.
use Rattle.std.specs.Prelude.{◌≡◌, ℕ, Bool, true, false, ◌||◌, List, slice_get, unwrap_or, option_map}
use Rattle.std.specs.List.{list_any}
use Rattle.odb_atoms.specs.Row.{Row}
use Rattle.odb_atoms.specs.Uuid.{Uuid}
use Rattle.odb_cond.specs.Filter.{Filter, member_holds}
use Rattle.odb_cond.specs.Represented.Keyed.{keyed_holds, listed_holds}
use Rattle.odb_cond.specs.Represented.Filter.{member_of}
use Rattle.odb_cond.specs.declared.filter.Filter.TheInside.{Inside}
use Rattle.odb_cond.specs.declared.filter.Member.{Member}
use Rattle.odb_cond.specs.declared.gathered.Gathered.{Gathered}
use Rattle.odb_cond.specs.declared.prepared.Prepared.{Prepared}

-- some member holds
abbrev pub some_holds : Uuid → Row → List Member → Bool
some_holds u r = list_any (λ m. member_holds u r (member_of m))

-- the member at the place holds, if there is one
abbrev pub holds_at : Uuid → Row → List Member → ℕ → Bool
holds_at u r ms k = unwrap_or (option_map (λ m. member_holds u r (member_of m)) (slice_get ms k)) false

abbrev pub finds : Uuid → Row → List Member → Prepared → Bool
finds u r ms p = list_any (keyed_holds u r) p.keyed.items || list_any (holds_at u r ms) p.others.items

-- the same before the lists are prepared
abbrev pub gathers : Uuid → Row → List Member → Gathered → Bool
gathers u r ms g = list_any (listed_holds u r) g.lists.items || list_any (holds_at u r ms) g.others.items

-- it has what it had, and the rows that pass the test
abbrev pub Gains : (Uuid → Row → Bool) → List Member → Gathered → Gathered → Type 0
Gains test ms old new = (u : Uuid) (r : Row) → gathers u r ms new ≡ (gathers u r ms old || test u r)

-- what is prepared finds the rows of which some member holds
abbrev pub IsPrepared : Inside → Type 0
IsPrepared a = (u : Uuid) (r : Row) → finds u r a.members.items a.prepared ≡ some_holds u r a.members.items

-- where the member holds, something is found
abbrev pub IsFound : Member → (Uuid → Row → Bool) → Type 0
IsFound m found = (u : Uuid) (r : Row) → member_holds u r (member_of m) ≡ true → found u r ≡ true

-- a list of members grows by those that the first list has and the second lacks: where none of the list holds and one of the first does, one of the second does
abbrev pub GainsLacking : Filter → Filter → List Member → List Member → Type 0
GainsLacking first second old new = (u : Uuid) (r : Row) → some_holds u r new ≡ false → (some_holds u r old ≡ false) × (list_any (member_holds u r) first ≡ true → list_any (member_holds u r) second ≡ true)
