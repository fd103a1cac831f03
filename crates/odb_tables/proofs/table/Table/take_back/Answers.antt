use Rattle.std.proofs.Common.{rules, ◌≤◌, List, length, sym, ap, ◌∙◌}
use Rattle.std.proofs.lemmas.List.{drop_all}
use Rattle.odb_tables.specs.Represented.Installed.{each_row, taken_back}
use Rattle.odb_tables.proofs.Installs.{Entry, walk, walk-is}
use Rattle.odb_tables.proofs.table.Table.take_back.Goals as goal

pub returns : goal.returns
returns c =
    let es : List Entry = c.rows-row-items.result.now in
    let past : length es ≤ c.loop-row.row-index = search rules in
    ap (walk taken_back c.loop-row.self) (sym (drop_all c.loop-row.row-index es past)) ∙ c.loop-row.invariant ∙ walk-is taken_back c.args.self.now es c.rows-row-items.ensures.distinct ∙ ap (each_row taken_back c.args.self.now) c.rows-row-items.ensures.changes
