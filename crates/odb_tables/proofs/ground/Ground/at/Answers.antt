use Rattle.std.proofs.Common.{rules, ◌≡◌, List, get_or, option_copied, slice_get, sym, ◌∙◌}
use Rattle.odb_tables.specs.Database.{Db, Table}
use Rattle.odb_tables.specs.Represented.Draft.{ground}
use Rattle.odb_tables.specs.Represented.Overlay.{Touched}
use Rattle.odb_tables.proofs.Grounds.{at-grounds}
use Rattle.odb_tables.proofs.Overlays.{table-is}
use Rattle.odb_tables.proofs.ground.Ground.at.Goals as goal

pub returns : goal.returns
returns c =
    let db : Db = c.args.base.now in
    let os : List Touched = c.args.under.now in
    let k = c.args.place in
    let t : Table = c.index-tables-place.result in
    let table : t ≡ get_or db k t = search rules in
    let over : option_copied c.overlay_at.result ≡ slice_get os k = c.overlay_at.ensures in
    (λ i. ground (table-is db k t c.requires table i) (over i)) ∙ sym (at-grounds db os k c.requires)
