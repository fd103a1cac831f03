use Rattle.std.proofs.Common.{rules, ◌≡◌, option_map, subst, sym}
use Rattle.std.specs.Arc.{arc_value}
use Rattle.odb_atoms.specs.FinMap as finite
use Rattle.odb_monitor.specs.Represented.Candidates.{WasSo}
use Rattle.odb_monitor.specs.Represented.Sides.{Pair, table_then}
use Rattle.odb_monitor.proofs.Covered.{none_distinct}
use Rattle.odb_monitor.proofs.Seen.{was_so}
use Rattle.odb_monitor.proofs.part.rows_of.Goals as goal

pub returns-in-Some-clause-was : goal.returns-in-Some-clause-was
returns-in-Some-clause-was c =
    let rows = c.rows.result.now in
    let is : finite.from_entries rows ≡ arc_value c.in-Some.changes = search rules in
    λ t. subst (λ o. WasSo rows (table_then (option_map arc_value o) t) t) (sym c.in-Some.is) (was_so rows (arc_value c.in-Some.changes) is t)

pub returns-in-None-clause-distinct : goal.returns-in-None-clause-distinct
returns-in-None-clause-distinct c = none_distinct Pair
