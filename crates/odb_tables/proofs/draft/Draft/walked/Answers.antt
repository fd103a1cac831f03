use Rattle.std.proofs.Common.{rules, ◌≡◌, List, option_copied, slice_get, sym, ap, ◌∙◌}
use Rattle.odb_tables.specs.Database.{Db, Table, table_at}
use Rattle.odb_tables.specs.Draft.{Draft}
use Rattle.odb_tables.specs.Represented.Draft.{ground}
use Rattle.odb_tables.specs.Represented.Overlay.{Touched}
use Rattle.odb_tables.proofs.Grounds.{bare-table}
use Rattle.odb_tables.proofs.draft.Draft.walked.Goals as goal

pub returns : goal.returns
returns c =
    let base : Db = c.self.inside.base.now in
    let under : List Touched = c.self.inside.under.now in
    let k = c.args.table in
    let place : c.place.result ≡ k = search rules in
    let bare : (t : Table) → ground t (slice_get under k) ≡ t = search rules in
    let got : option_copied c.table.result ≡ slice_get base k = search rules in
    let same : table_at c.args.self.now.now k ≡ table_at c.args.self.now.old k = search rules in
    bare-table base under k c.table.result (table_at c.args.self.now.now k) bare got (ap (λ (d : Draft). table_at d.old k) c.self.view_is ∙ sym same)
