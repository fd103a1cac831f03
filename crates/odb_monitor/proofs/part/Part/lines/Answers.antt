use Rattle.std.proofs.Common.{◌≡◌, ◌∙◌, ap, filter_map, map, option_map, subst, sym}
use Rattle.std.proofs.lemmas.List.Sorted.{IsPermutation-map}
use Rattle.std.proofs.lemmas.Result.{IfOk-weaker}
use Rattle.std.specs.Arc.{arc_value}
use Rattle.odb_monitor.specs.Job.{Part}
use Rattle.odb_monitor.specs.Represented.Candidates.{Covers}
use Rattle.odb_monitor.specs.Represented.Line.{line_in}
use Rattle.odb_monitor.specs.Represented.Part.{changes_shown, part_of}
use Rattle.odb_monitor.specs.Represented.Sides.{line_at, sides_in, table_then}
use Rattle.odb_request.specs.Request.{Request}
use Rattle.odb_tables.proofs.Ordered.{ranked_entries}
use Rattle.odb_monitor.proofs.Seen.{sorted_lines}
use Rattle.odb_monitor.proofs.Soughts.{compares}
use Rattle.odb_monitor.proofs.part.Part.lines.Goals as goal

pub returns : goal.returns
returns c =
    let i = c.self.inside.bare in
    let q = i.request.now in
    let t = i.rows in
    let changes = option_map arc_value i.changes in
    let first = c.args.first in
    let es = map sides_in c.in_ok-sides.sides.items in
    let by = c.of-comparison.result in
    let same = c.of-comparison.ensures in
    let covered : Covers es by.first by.told by.request.now (table_then changes t) t = c.in_ok-sides.ensures (table_then changes t) (c.rows_of.ensures.was t) in
    let covers : Covers es first i.told q (table_then changes t) t = compares es (table_then changes t) t by.first first by.told i.told by.request.now q same.first same.told same.request covered in
    let sorted = c.sort.new.sides.items in
    let shown : filter_map (line_at first i.told q) (map sides_in sorted) ≡ (changes_shown first (part_of q i.told t changes)).entries =
    sorted_lines first q i.told t changes es (map sides_in sorted) covers (IsPermutation-map sides_in c.in_ok-sides.sides.items sorted c.sort.ensures.permutation) (ranked_entries sides_in sorted c.sort.ensures.sorted) in
    IfOk-weaker c.lines_of.result _ _
    (λ lines h.
    let listed : map (line_in by.request.now.shape.columns) lines.items ≡ filter_map (line_at by.first by.told by.request.now) (map sides_in sorted) = h ∙ ap (λ xs. filter_map (line_at by.first by.told by.request.now) (map sides_in xs)) c.deref.ensures.value in
    subst (λ (p : Part). map (line_in p.request.shape.columns) lines.items ≡ (changes_shown first p).entries) c.self.view_is
    (ap (λ (r : Request). map (line_in r.shape.columns) lines.items) (sym same.request) ∙ listed ∙ (λ j. filter_map (line_at (same.first j) (same.told j) (same.request j)) (map sides_in sorted)) ∙ shown))
    c.lines_of.ensures
