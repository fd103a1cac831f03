use Rattle.std.proofs.Common.{rules, ◌≡◌, ◌++◌, ◌∷◌, [], ◌∙◌, List, OnOk, ap, codes, flat_map, map, sym}
use Rattle.std.proofs.lemmas.Result.{on_ok_weaker}
use Rattle.json.specs.Token.{Token, begin_array, begin_object, end_array, end_object, key}
use Rattle.odb_atoms.specs.FinMap as finite
use Rattle.odb_atoms.specs.Row.{Selector}
use Rattle.odb_atoms.specs.Value as model
use Rattle.odb_cond.specs.Represented.Clause.{selector_of}
use Rattle.odb_ops.specs.Execution.{distinct, selected}
use Rattle.odb_ops.specs.Represented.Layout.{row_tokens}
use Rattle.odb_ops.proofs.Layouts.{around_rows, rows_are}
use Rattle.odb_tables.specs.Database.{Table, table_at}
use Rattle.odb_tables.specs.Matching.{matching}
use Rattle.odb_tables.specs.Represented.Table.{listed}
use Rattle.odb_ops.proofs.select.put_result.Goals as goal

pub returns : goal.returns
returns c =
    let l = c.args.layout.now in
    let cs = l.declared.now in
    let columns : List Selector = map selector_of l.columns.now in
    let clauses = c.args.asked.now.conditions in
    let table : Table = table_at c.args.draft.now.now l.table in
    let old = c.args.out.now in
    let rows : List (List model.Value) = distinct (selected columns (matching clauses table)) in
    let ts : List Token = flat_map (row_tokens cs columns) rows in
    let found : Table = matching clauses table in
    let listing : map listed c.deref.result.now ≡ finite.entries_of found = search rules in
    let begun : c.put-3.new.self ≡ ((old ++ begin_object ∷ []) ++ key (codes "rows") ∷ []) ++ begin_array ∷ [] = search rules in
    let printed : c.put_found.new.out ≡ c.put-3.new.self ++ ts = c.in_ok-put_found.ensures found listing in
    let closed : c.put-4.new.self ≡ c.put_found.new.out ++ end_array ∷ [] = c.in_ok-put-4.ensures in
    let last : OnOk c.put-5.result (c.put-5.new.self ≡ c.put-4.new.self ++ end_object ∷ []) = c.put-5.ensures in
    on_ok_weaker c.put-5.result (λ e.
    e ∙ ap (λ s. s ++ end_object ∷ []) (closed ∙ ap (λ s. s ++ end_array ∷ []) (printed ∙ ap (λ s. s ++ ts) begun))
    ∙ around_rows old ts begin_object (key (codes "rows")) begin_array end_array end_object ∙ ap (λ s. old ++ s) (sym (rows_are cs columns rows))) last
