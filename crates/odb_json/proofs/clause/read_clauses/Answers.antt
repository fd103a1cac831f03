use Rattle.std.proofs.Common.{Some, ◌∙◌, add-one, ap, drop, suc}
use Rattle.std.proofs.lemmas.List.{drop_all}
use Rattle.std.proofs.lemmas.Result.{err_from_is_err_and}
use Rattle.serde_json.specs.View.{items_view, view}
use Rattle.odb_atoms.specs.First.{each}
use Rattle.odb_schema.specs.Json.{items_list}
use Rattle.odb_schema.proofs.Eachs.{after, at_end, at_start, each_fault, each_more, next_item}
use Rattle.odb_json.specs.ConditionNotation.{read_clause}
use Rattle.odb_json.proofs.Faults.{passed_on}
use Rattle.odb_json.proofs.clause.read_clauses.Goals as goal

pub loop-item-preserved : goal.loop-item-preserved
loop-item-preserved c =
    let read = read_clause (Some c.args.names.now) c.args.table.now.columns in
    let whole = each read (items_list (items_view c.args.items.now)) in
    let done = c.loop-item.clauses.items in
    rw (add-one, c.in_ok-push.ensures.items)
    (each_more read whole done (view c.item-item.result) (items_list (items_view (drop (suc c.loop-item.item-index) c.args.items.now))) c.in_ok-read_clause.field-0
    (c.loop-item.invariant ∙ ap (λ l. after done (each read l)) (next_item c.args.items.now c.loop-item.item-index c.item-item.result c.loop-item-test.true c.item-item.is))
    c.in_ok-read_clause.ensures)

pub loop-item-init : goal.loop-item-init
loop-item-init c =
    rw c.in_ok-clauses.ensures.items
    (at_start (each (read_clause (Some c.args.names.now) c.args.table.now.columns) (items_list (items_view c.args.items.now))))

pub returns : goal.returns
returns c =
    let read = read_clause (Some c.args.names.now) c.args.table.now.columns in
    let done = c.loop-item.clauses.items in
    at_end (each read (items_list (items_view c.args.items.now))) done
    (c.loop-item.invariant ∙ ap (λ l. after done (each read (items_list (items_view l)))) (drop_all c.loop-item.item-index c.args.items.now c.loop-item-test.false))

pub returns-in_err-read_clause : goal.returns-in_err-read_clause
returns-in_err-read_clause c =
    let p = err_from_is_err_and c.from_residual-in_err-read_clause.result c.from_residual-in_err-read_clause.ensures.1 in
    let read = read_clause (Some c.args.names.now) c.args.table.now.columns in
    let whole = each read (items_list (items_view c.args.items.now)) in
    let done = c.loop-item.clauses.items in
    rw (p.1, p.2)
    (passed_on c.in_err-read_clause.field-0.0 (read (view c.item-item.result)) whole
    (λ f is. each_fault read whole done (view c.item-item.result) (items_list (items_view (drop (suc c.loop-item.item-index) c.args.items.now))) f
    (c.loop-item.invariant ∙ ap (λ l. after done (each read l)) (next_item c.args.items.now c.loop-item.item-index c.item-item.result c.loop-item-test.true c.item-item.is))
    is)
    c.in_err-read_clause.ensures)
