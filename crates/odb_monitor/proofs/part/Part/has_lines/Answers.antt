use Rattle.std.proofs.Common.{rules, ◌≡◌, ◌∙◌, is_some, map, not, option_map, subst}
use Rattle.std.specs.Arc.{arc_value}
use Rattle.std.specs.List.{list_any}
use Rattle.odb_monitor.specs.Job.{Part}
use Rattle.odb_monitor.specs.Represented.Candidates.{Covers}
use Rattle.odb_monitor.specs.Represented.Part.{is_silent}
use Rattle.odb_monitor.specs.Represented.Sides.{line_at, sides_in, table_then}
use Rattle.odb_monitor.proofs.Loops.{any_mapped}
use Rattle.odb_monitor.proofs.Seen.{some_line}
use Rattle.odb_monitor.proofs.Soughts.{compares}
use Rattle.odb_monitor.proofs.part.Part.has_lines.Goals as goal

pub returns : goal.returns
returns c =
    let i = c.self.inside.bare in
    let q = i.request.now in
    let t = i.rows in
    let changes = option_map arc_value i.changes in
    let first = c.args.first in
    let sides = c.in_ok-sides.sides.items in
    let by = c.of-comparison.result in
    let same = c.of-comparison.ensures in
    let covered : Covers (map sides_in sides) by.first by.told by.request.now (table_then changes t) t = c.in_ok-sides.ensures (table_then changes t) (c.rows_of.ensures.was t) in
    let covers : Covers (map sides_in sides) first i.told q (table_then changes t) t = compares (map sides_in sides) (table_then changes t) t by.first first by.told i.told by.request.now q same.first same.told same.request covered in
    let compared : c.has_line.result ≡ list_any (λ row. is_some (line_at by.first by.told by.request.now (sides_in row))) sides = search rules in
    let tested : c.has_line.result ≡ list_any (λ row. is_some (line_at first i.told q (sides_in row))) sides =
    compared ∙ (λ j. list_any (λ row. is_some (line_at (same.first j) (same.told j) (same.request j) (sides_in row))) sides) in
    subst (λ (p : Part). c.has_line.result ≡ not (is_silent first p)) c.self.view_is
    (tested ∙ any_mapped (λ e. is_some (line_at first i.told q e)) sides_in sides ∙ some_line first q i.told t changes (map sides_in sides) covers)
