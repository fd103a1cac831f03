use Rattle.std.proofs.Common.{◌≡◌, ◌⊎◌, true, drop, Some}
use Rattle.std.specs.List.{list_any}
use Rattle.std.specs.Ordering.{eq_by_cmp}
use Rattle.odb_atoms.specs.FinMap as finite
use Rattle.odb_atoms.specs.Row.{Row}
use Rattle.odb_atoms.specs.Uuid.{Uuid, uuid_cmp}
use Rattle.odb_cond.specs.Represented.Prepared.{some_holds}
use Rattle.odb_tables.proofs.rows.Rows.candidates_of.Given as goal

abbrev pub invariant-loop-member : goal.invariant-loop-member
invariant-loop-member l = (u : Uuid) (r : Row) → finite.get l.self u ≡ Some r → some_holds u r l.members ≡ true → (list_any (eq_by_cmp uuid_cmp u) l.keys.keys ≡ true) ⊎ (some_holds u r (drop l.member-index l.members) ≡ true)
