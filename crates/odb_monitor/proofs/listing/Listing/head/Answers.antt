use Rattle.std.proofs.Common.{subst}
use Rattle.odb_monitor.specs.Listing.{Listing}
use Rattle.odb_monitor.specs.Represented.Listing.{layout_of}
use Rattle.odb_monitor.specs.Represented.Members.{AreRows}
use Rattle.odb_monitor.specs.Represented.Sides.{line_at, sides_in}
use Rattle.odb_monitor.proofs.Listed.{listed_rows}
use Rattle.odb_request.specs.Represented.Notation.{notation_of}
use Rattle.odb_monitor.proofs.listing.Listing.head.Goals as goal

pub returns-in_err-put-clause-rows : goal.returns-in_err-put-clause-rows
returns-in_err-put-clause-rows c =
    let i = c.self.inside in
    let by = i.comparison in
    subst (λ (l : Listing). AreRows l.rows) c.self.view_is (listed_rows (layout_of (notation_of i.notation) by) (λ s. line_at by.first by.told by.request.now (sides_in s)) i.sides.items)

pub returns-in_err-put-2-clause-rows : goal.returns-in_err-put-2-clause-rows
returns-in_err-put-2-clause-rows c =
    let i = c.self.inside in
    let by = i.comparison in
    subst (λ (l : Listing). AreRows l.rows) c.self.view_is (listed_rows (layout_of (notation_of i.notation) by) (λ s. line_at by.first by.told by.request.now (sides_in s)) i.sides.items)

pub returns-clause-rows : goal.returns-clause-rows
returns-clause-rows c =
    let i = c.self.inside in
    let by = i.comparison in
    subst (λ (l : Listing). AreRows l.rows) c.self.view_is (listed_rows (layout_of (notation_of i.notation) by) (λ s. line_at by.first by.told by.request.now (sides_in s)) i.sides.items)
