-- Filters of conditional monitors (ovsdb-server(7), monitor_cond): the `where` of a table. [P 9.1]
use Rattle.std.specs.Prelude.{◌≡◌, Bool, true, false, List, [], ◌∷◌}
use Rattle.std.specs.List.{list_any}
use Rattle.odb_atoms.specs.Uuid.{Uuid}
use Rattle.odb_atoms.specs.Row.{Row}
use Rattle.odb_cond.specs.Condition.{Clause, holds}

-- a member: a boolean or a condition
pub data Member : Type 0 where
  always : Bool → Member
  when : Clause → Member

abbrev pub Filter : Type 0
Filter = List Member

abbrev pub member_holds : Uuid → Row → Member → Bool
member_holds u r (always b) = b
member_holds u r (when c) = holds c u r

-- a filter selects a row where any member holds, and every row where it has none
abbrev pub selects : Filter → Uuid → Row → Bool
selects [] u r = true
selects (m ∷ ms) u r = list_any (member_holds u r) (m ∷ ms)

-- the filter d selects each row that one of two filters selects and the other doesn't
abbrev pub TellsApart : Filter → Filter → Filter → Type 0
TellsApart d f g = (u : Uuid) (r : Row) → selects d u r ≡ false → selects f u r ≡ selects g u r
