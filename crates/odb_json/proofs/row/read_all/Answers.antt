use Rattle.std.proofs.Common.{◌∙◌, add-one, ap, drop, map, suc}
use Rattle.std.proofs.lemmas.List.{drop_all, map-append}
use Rattle.std.proofs.lemmas.Result.{err_from_is_err_and}
use Rattle.serde_json.specs.View.{items_view, view}
use Rattle.odb_atoms.specs.First.{each}
use Rattle.odb_schema.specs.Json.{items_list}
use Rattle.odb_schema.proofs.Eachs.{after, at_end, at_start, each_fault, each_more, next_item}
use Rattle.odb_json.specs.Operation.{read_expected}
use Rattle.odb_json.specs.Represented.Row.{cells_of}
use Rattle.odb_json.proofs.Faults.{passed_on}
use Rattle.odb_json.proofs.row.read_all.Goals as goal

pub loop-item-preserved : goal.loop-item-preserved
loop-item-preserved c =
    let read = read_expected c.args.names.now c.args.table.now.columns in
    let whole = each read (items_list (items_view c.args.items.now)) in
    let done = map cells_of c.loop-item.rows.items in
    rw (add-one, c.in_ok-push.ensures.items, map-append)
    (each_more read whole done (view c.item-item.result) (items_list (items_view (drop (suc c.loop-item.item-index) c.args.items.now))) (cells_of c.in_ok-read_expected.field-0)
    (c.loop-item.invariant ∙ ap (λ l. after done (each read l)) (next_item c.args.items.now c.loop-item.item-index c.item-item.result c.loop-item-test.true c.item-item.is))
    c.in_ok-read_expected.ensures)

pub loop-item-init : goal.loop-item-init
loop-item-init c =
    rw c.in_ok-rows.ensures.items
    (at_start (each (read_expected c.args.names.now c.args.table.now.columns) (items_list (items_view c.args.items.now))))

pub returns : goal.returns
returns c =
    let read = read_expected c.args.names.now c.args.table.now.columns in
    let done = map cells_of c.loop-item.rows.items in
    at_end (each read (items_list (items_view c.args.items.now))) done
    (c.loop-item.invariant ∙ ap (λ l. after done (each read (items_list (items_view l)))) (drop_all c.loop-item.item-index c.args.items.now c.loop-item-test.false))

pub returns-in_err-read_expected : goal.returns-in_err-read_expected
returns-in_err-read_expected c =
    let p = err_from_is_err_and c.from_residual-in_err-read_expected.result c.from_residual-in_err-read_expected.ensures.1 in
    let read = read_expected c.args.names.now c.args.table.now.columns in
    let whole = each read (items_list (items_view c.args.items.now)) in
    let done = map cells_of c.loop-item.rows.items in
    rw (p.1, p.2)
    (passed_on c.in_err-read_expected.field-0.0 (read (view c.item-item.result)) whole
    (λ f is. each_fault read whole done (view c.item-item.result) (items_list (items_view (drop (suc c.loop-item.item-index) c.args.items.now))) f
    (c.loop-item.invariant ∙ ap (λ l. after done (each read l)) (next_item c.args.items.now c.loop-item.item-index c.item-item.result c.loop-item-test.true c.item-item.is))
    is)
    c.in_err-read_expected.ensures)
