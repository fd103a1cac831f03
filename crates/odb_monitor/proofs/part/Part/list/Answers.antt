use Rattle.std.proofs.Common.{◌≡◌, ◌∙◌, ap, filter_map, map, option_map, refl, subst}
use Rattle.std.proofs.lemmas.List.Sorted.{IsPermutation-map}
use Rattle.std.specs.Arc.{arc_value}
use Rattle.odb_monitor.specs.Job.{Part}
use Rattle.odb_monitor.specs.Listing.{listed_tokens}
use Rattle.odb_monitor.specs.Represented.Candidates.{Covers}
use Rattle.odb_monitor.specs.Represented.Listing.{listing_in}
use Rattle.odb_monitor.specs.Represented.Part.{changes_shown, part_of, part_tokens}
use Rattle.odb_monitor.specs.Represented.Sides.{line_at, sides_in, table_then}
use Rattle.odb_tables.proofs.Ordered.{ranked_entries}
use Rattle.odb_monitor.proofs.Listed.{listed_part}
use Rattle.odb_monitor.proofs.Seen.{sorted_lines}
use Rattle.odb_monitor.proofs.Soughts.{compares}
use Rattle.odb_request.specs.Represented.Notation.{notation_of}
use Rattle.odb_monitor.proofs.part.Part.list.Goals as goal

pub returns : goal.returns
returns g c =
    let i = c.self.inside.bare in
    let q = i.request.now in
    let t = i.rows in
    let changes = option_map arc_value i.changes in
    let first = c.args.first in
    let es = map sides_in c.in_ok-sides.sides.items in
    let by = c.of-comparison.result in
    let same = c.of-comparison.ensures in
    let covered : Covers es by.first by.told by.request.now (table_then changes t) t = c.in_ok-sides.ensures (table_then changes t) (c.rows_of.ensures.was t) in
    let covers : Covers es first i.told q (table_then changes t) t = compares es (table_then changes t) t by.first first by.told i.told by.request.now q same.first same.told same.request covered in
    let sorted = c.sort_by_several.new.sides.items in
    let lines : filter_map (line_at first i.told q) (map sides_in sorted) ≡ (changes_shown first (part_of q i.told t changes)).entries =
    sorted_lines first q i.told t changes es (map sides_in sorted) covers (IsPermutation-map sides_in c.in_ok-sides.sides.items sorted c.sort_by_several.ensures.permutation) (ranked_entries sides_in sorted c.sort_by_several.ensures.sorted) in
    let is : c.new.result ≡ listing_in (notation_of c.args.notation) by sorted = c.new.ensures in
    subst (λ (p : Part). listed_tokens c.new.result ≡ part_tokens (notation_of c.args.notation) first p) c.self.view_is
    (ap listed_tokens is ∙ listed_part (notation_of c.args.notation) by sorted first i.told q (part_of q i.told t changes) same.first same.told same.request refl lines)
