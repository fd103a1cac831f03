-- Commits of which it can be computed which contents are findable, and what an identifier names.
use Rattle.std.specs.Prelude.{◌≡◌, ℕ, pos, List, [], ◌∷◌, Some, None}
use mathlib.Core.Path.{refl}
use Rattle.odb_atoms.proofs.Examples.{values_compute}
use Rattle.odb_atoms.specs.Atom.{integer}
use Rattle.odb_atoms.specs.FinMap as finite
use Rattle.odb_atoms.specs.Row.{Row}
use Rattle.odb_atoms.specs.Uuid.{Uuid, uuid_from, zero_uuid}
use Rattle.odb_atoms.specs.Value.{atoms, set_of}
use Rattle.odb_tables.specs.Change.{change, change_between}
use Rattle.odb_tables.specs.Database.{Db}
use Rattle.odb_recent.specs.Findable.{findable}
use Rattle.odb_recent.specs.Recent.{commits_ago, committed, number_of, Recent, recent_of}
use Rattle.odb_recent.specs.Undo.{table_ago}

-- ---- what an identifier names: after three commits of the run 7, of which two contents can be found

the_newest_is_found : commits_ago 2 7 3 (number_of 7 3) ≡ Some 0
unfolding values_compute
the_newest_is_found = refl

the_one_before_is_found : commits_ago 2 7 3 (number_of 7 2) ≡ Some 1
unfolding values_compute
the_one_before_is_found = refl

one_too_old_is_not : commits_ago 2 7 3 (number_of 7 1) ≡ None
unfolding values_compute
one_too_old_is_not = refl

a_later_one_is_not : commits_ago 2 7 3 (number_of 7 4) ≡ None
unfolding values_compute
a_later_one_is_not = refl

another_run_is_not : commits_ago 2 7 3 (number_of 8 3) ≡ None
unfolding values_compute
another_run_is_not = refl

with_none_findable_nothing_is : commits_ago 0 7 3 (number_of 7 3) ≡ None
unfolding values_compute
with_none_findable_nothing_is = refl

zero_is_no_commit : commits_ago 100 0 3 zero_uuid ≡ None
unfolding values_compute
zero_is_no_commit = refl

-- ---- what is findable: a row is inserted, then changed, then deleted

row : ℕ → Row
row n = record { version = uuid_from n; columns = set_of (atoms (integer (pos n) ∷ [])) ∷ [] }

with_rows : List (Uuid × Row) → Db
with_rows es = finite.from_entries es ∷ []

u : Uuid
u = uuid_from 1

v : Uuid
v = uuid_from 2

before : Db
before = with_rows ((v, row 5) ∷ [])

first : Db
first = with_rows ((u, row 7) ∷ (v, row 5) ∷ [])

second : Db
second = with_rows ((u, row 8) ∷ (v, row 5) ∷ [])

third : Db
third = with_rows ((v, row 5) ∷ [])

after_three : ℕ → Recent
after_three most = committed (change_between second third) (committed (change_between first second) (committed (change_between before first) (recent_of 0 most)))

all_are_findable : findable third (after_three 100).undos ≡ third ∷ second ∷ first ∷ before ∷ []
unfolding values_compute row with_rows u v before first second third after_three
all_are_findable = refl

two_are_findable : findable third (after_three 2).undos ≡ third ∷ second ∷ []
unfolding values_compute row with_rows u v before first second third after_three
two_are_findable = refl

one_is_findable : (after_three 1).undos ≡ []
unfolding values_compute row with_rows u v before first second third after_three
one_is_findable = refl

-- of a row that came and went nothing is left to tell
came_and_went : change (table_ago 0 (after_three 100).undos (finite.from_entries ((v, row 5) ∷ []))) (finite.from_entries ((v, row 5) ∷ [])) ≡ finite.empty
unfolding values_compute row with_rows u v before first second third after_three
came_and_went = refl
