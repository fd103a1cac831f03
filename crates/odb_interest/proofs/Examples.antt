-- Filters and changes of which it can be computed whom they concern.
use Rattle.std.specs.Prelude.{◌≡◌, ℕ, pos, Bool, true, false, List, [], ◌∷◌, codes, map, Option, Some, None}
use mathlib.Core.Path.{refl}
use Rattle.odb_atoms.proofs.Examples.{values_compute}
use Rattle.odb_atoms.specs.Atom.{Atom, integer, text}
use Rattle.odb_atoms.specs.FinMap as finite
use Rattle.odb_atoms.specs.FinSet as set
use Rattle.odb_atoms.specs.Row.{Row, declared}
use Rattle.odb_atoms.specs.Uuid.{zero_uuid}
use Rattle.odb_atoms.specs.Value.{Value, atoms, map_of, set_of}
use Rattle.odb_cond.specs.Condition.{Function, equal, excludes, includes, not_equal}
use Rattle.odb_cond.specs.Filter.{Filter, Member, always, when}
use Rattle.odb_interest.specs.Keys.{any_row, is_hit, is_touched, keys_of, named}
use Rattle.odb_tables.specs.Change.{Changes}

name_of : List ℕ → Value
name_of s = set_of (atoms (text s ∷ []))

asks : Function → Value → Filter
asks f v = when (record { column = declared 0; function = f; value = v }) ∷ []

-- ---- keys

equal_names_its_atom : keys_of (asks equal (name_of (codes "s1"))) ≡ named (declared 0) (text (codes "s1")) ∷ []
unfolding values_compute name_of asks
equal_names_its_atom = refl

a_set_is_named_by_its_least_atom : keys_of (asks includes (set_of (atoms (integer (pos 7) ∷ integer (pos 3) ∷ [])))) ≡ named (declared 0) (integer (pos 3)) ∷ []
unfolding values_compute asks
a_set_is_named_by_its_least_atom = refl

a_map_is_named_by_its_key : keys_of (asks includes (map_of (finite.from_entries ((text (codes "k"), text (codes "v")) ∷ [])))) ≡ named (declared 0) (text (codes "k")) ∷ []
unfolding values_compute asks
a_map_is_named_by_its_key = refl

nothing_to_include_is_any_row : keys_of (asks includes (set_of set.empty)) ≡ any_row ∷ []
unfolding values_compute asks
nothing_to_include_is_any_row = refl

others_are_any_row : keys_of (asks not_equal (name_of (codes "s1"))) ≡ any_row ∷ []
unfolding values_compute name_of asks
others_are_any_row = refl

no_member_is_any_row : keys_of [] ≡ any_row ∷ []
no_member_is_any_row = refl

false_is_no_row : keys_of (always false ∷ []) ≡ []
false_is_no_row = refl

-- ---- a row is renamed from s1 to s2

row_named : List ℕ → Row
row_named s = record { version = zero_uuid; columns = name_of s ∷ [] }

renamed : Changes
renamed = finite.from_entries ((zero_uuid, (Some (row_named (codes "s1")), Some (row_named (codes "s2")))) ∷ [])

names_concerned : map (λ s. is_touched (renamed ∷ []) ((0, asks equal (name_of s)) ∷ [])) (codes "s1" ∷ codes "s2" ∷ codes "s3" ∷ []) ≡ true ∷ true ∷ false ∷ []
unfolding values_compute name_of asks row_named renamed
names_concerned = refl

another_table : is_touched (finite.empty ∷ renamed ∷ []) ((0, asks equal (name_of (codes "s1"))) ∷ []) ≡ false
unfolding values_compute name_of asks row_named renamed
another_table = refl

no_change : is_hit finite.empty [] ≡ false
unfolding values_compute
no_change = refl
