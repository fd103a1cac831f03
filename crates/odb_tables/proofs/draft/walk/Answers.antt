use Rattle.std.proofs.Common.{map, sym, ap, ◌∙◌}
use Rattle.odb_atoms.specs.FinMap as finite
use Rattle.odb_tables.specs.Database.{Table}
use Rattle.odb_tables.specs.Matching.{matching}
use Rattle.odb_tables.specs.Represented.Table.{listed}
use Rattle.odb_tables.proofs.KeyedMaps.{get-from_entries}
use Rattle.odb_tables.proofs.Ordered.{in_order}
use Rattle.odb_tables.proofs.draft.walk.Goals as goal

pub returns : goal.returns
returns c =
    let t : Table = matching c.args.conditions.now c.args.table.now in
    let found = c.in_ok-rows.rows.items in
    in_order listed t found c.sort_rows.new.rows.items c.in_ok-rows.ensures.distinct
    (λ q. sym (get-from_entries (map listed found) q) ∙ ap (λ (u : Table). finite.get u q) c.in_ok-rows.ensures.rows) c.sort_rows.ensures.permutation c.sort_rows.ensures.sorted
