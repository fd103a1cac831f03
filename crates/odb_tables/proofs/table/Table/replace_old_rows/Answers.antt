use Rattle.std.proofs.Common.{rules, ◌≡◌, [], length, List, sym, ap, ◌∙◌}
use Rattle.std.proofs.lemmas.List.{nil_from_length}
use Rattle.odb_tables.specs.Represented.Installed.{each_row, replaced}
use Rattle.odb_tables.proofs.Installs.{Entry, walk, walk-is}
use Rattle.odb_tables.proofs.table.Table.replace_old_rows.Goals as goal

pub returns : goal.returns
returns c =
    let all : List Entry = c.into_rows-row-items.result.items in
    let rest : List Entry = c.loop-row.row-iterator.rest.items in
    let long : length rest ≡ c.loop-row.row-iterator.rest.len = search rules in
    let none : rest ≡ [] = nil_from_length rest (long ∙ c.in-None.ensures.steps.0) in
    let start : c.into_iter-row-iterator.result.rest.items ≡ all = search rules in
    ap (walk replaced c.loop-row.self) (sym none) ∙ c.loop-row.invariant ∙ ap (walk replaced c.args.self.now) start ∙ walk-is replaced c.args.self.now all c.into_rows-row-items.ensures.distinct ∙ ap (each_row replaced c.args.self.now) c.into_rows-row-items.ensures.changes
