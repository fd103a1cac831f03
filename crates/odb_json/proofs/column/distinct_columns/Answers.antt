use Rattle.std.proofs.Common.{◌∙◌, [], add-one, ap, drop, map, suc, sym}
use Rattle.std.proofs.lemmas.List.{drop_all, map-append}
use Rattle.std.proofs.lemmas.Result.{err_from_is_err_and}
use Rattle.serde_json.specs.View.{items_view, view}
use Rattle.odb_cond.specs.Represented.Clause.{selector_of}
use Rattle.odb_schema.specs.Json.{items_list}
use Rattle.odb_schema.proofs.Eachs.{after, at_end, at_start, next_item, turned}
use Rattle.odb_json.specs.ConditionNotation.{read_selector}
use Rattle.odb_json.specs.Operation.{distinct_columns}
use Rattle.odb_json.proofs.Columns.{IsAmong, columns_fault, columns_more, columns_repeated}
use Rattle.odb_json.proofs.Faults.{given_on}
use Rattle.odb_json.proofs.column.distinct_columns.Goals as goal

pub returns-then-is_among : goal.returns-then-is_among
returns-then-is_among c =
    let cs = c.args.table.now.columns in
    let front = c.loop-item.columns.items in
    columns_repeated cs (distinct_columns cs [] (items_list (items_view c.args.items.now))) front (view c.item-item.result) (items_list (items_view (drop (suc c.loop-item.item-index) c.args.items.now))) (selector_of c.in_ok-column.column)
    (c.loop-item.invariant ∙ ap (λ l. after (map selector_of front) (distinct_columns cs (turned [] (map selector_of front)) l)) (next_item c.args.items.now c.loop-item.item-index c.item-item.result c.loop-item-test.true c.item-item.is))
    c.in_ok-column.ensures
    (ap (IsAmong (selector_of c.in_ok-column.column)) (sym c.deref.ensures.value) ∙ sym c.is_among.ensures ∙ c.if-is_among.true)

pub loop-item-preserved : goal.loop-item-preserved
loop-item-preserved c =
    let cs = c.args.table.now.columns in
    let front = c.loop-item.columns.items in
    let more = columns_more cs (distinct_columns cs [] (items_list (items_view c.args.items.now))) front (view c.item-item.result) (items_list (items_view (drop (suc c.loop-item.item-index) c.args.items.now))) (selector_of c.in_ok-column.column)
    (c.loop-item.invariant ∙ ap (λ l. after (map selector_of front) (distinct_columns cs (turned [] (map selector_of front)) l)) (next_item c.args.items.now c.loop-item.item-index c.item-item.result c.loop-item-test.true c.item-item.is))
    c.in_ok-column.ensures
    (ap (IsAmong (selector_of c.in_ok-column.column)) (sym c.deref.ensures.value) ∙ sym c.is_among.ensures ∙ c.if-is_among.false) in
    rw (add-one, c.in_ok-push.ensures.items, map-append) more

pub loop-item-init : goal.loop-item-init
loop-item-init c =
    rw c.new-columns.ensures.items
    (at_start (distinct_columns c.args.table.now.columns [] (items_list (items_view c.args.items.now))))

pub returns : goal.returns
returns c =
    let cs = c.args.table.now.columns in
    let done = map selector_of c.loop-item.columns.items in
    at_end (distinct_columns cs [] (items_list (items_view c.args.items.now))) done
    (c.loop-item.invariant ∙ ap (λ l. after done (distinct_columns cs (turned [] done) (items_list (items_view l)))) (drop_all c.loop-item.item-index c.args.items.now c.loop-item-test.false))

pub returns-in_err-column : goal.returns-in_err-column
returns-in_err-column c =
    let p = err_from_is_err_and c.from_residual.result c.from_residual.ensures.1 in
    let cs = c.args.table.now.columns in
    let whole = distinct_columns cs [] (items_list (items_view c.args.items.now)) in
    let front = c.loop-item.columns.items in
    rw (p.1, p.2)
    (given_on c.in_err-column.field-0.0 (read_selector cs (view c.item-item.result)) whole
    (λ f is. columns_fault cs whole front (view c.item-item.result) (items_list (items_view (drop (suc c.loop-item.item-index) c.args.items.now))) f
    (c.loop-item.invariant ∙ ap (λ l. after (map selector_of front) (distinct_columns cs (turned [] (map selector_of front)) l)) (next_item c.args.items.now c.loop-item.item-index c.item-item.result c.loop-item-test.true c.item-item.is))
    is)
    c.in_err-column.ensures)
