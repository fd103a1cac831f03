use Rattle.std.proofs.Common.{◌≡◌, ◌++◌, ◌∙◌, List, ap, flat_map, map, sym, true}
use Rattle.std.proofs.lemmas.Result.{on_ok_weaker}
use Rattle.std.specs.List.{list_any}
use Rattle.odb_atoms.specs.Row.{Selector, own_uuid, same_selector}
use Rattle.odb_cond.specs.Represented.Clause.{selector_of}
use Rattle.odb_ops.specs.Execution.{distinct}
use Rattle.odb_ops.specs.Represented.Layout.{content, entry_tokens, row_tokens}
use Rattle.odb_ops.proofs.Prints.{all_distinct, any_mapped, each_printed}
use Rattle.odb_tables.specs.Represented.Table.{listed}
use Rattle.odb_ops.proofs.select.put_found.Goals as goal

pub returns-then-has_column : goal.returns-then-has_column
returns-then-has_column c = λ found is.
    let l = c.args.layout.now in
    let cs = l.declared.now in
    let columns : List Selector = map selector_of l.columns.now in
    let out = c.args.out.now in
    let own : list_any (same_selector own_uuid) columns ≡ true = sym (any_mapped (same_selector own_uuid) selector_of l.columns.now) ∙ sym c.has_column.ensures ∙ c.if-has_column.true in
    on_ok_weaker c.put_each.result (λ e.
    e ∙ ap (λ es. out ++ flat_map (entry_tokens cs columns) es) is
    ∙ ap (λ ts. out ++ ts) (each_printed cs columns found ∙ ap (flat_map (row_tokens cs columns)) (sym (all_distinct columns own found)))) c.put_each.ensures

pub returns : goal.returns
returns c = λ found is.
    let l = c.args.layout.now in
    let cs = l.declared.now in
    let columns : List Selector = map selector_of l.columns.now in
    let out = c.args.out.now in
    let cells : c.deref.result.now ≡ map listed c.args.rows.now = c.deref.ensures.value ∙ c.in_ok-cells.ensures in
    on_ok_weaker c.put_distinct.result (λ e.
    e ∙ ap (λ es. out ++ flat_map (row_tokens cs columns) (distinct (map (content columns) es))) (cells ∙ is)) c.put_distinct.ensures
