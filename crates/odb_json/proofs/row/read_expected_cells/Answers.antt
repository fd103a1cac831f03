use Rattle.std.proofs.Common.{◌∙◌, ◌∷◌, ap, map, sym}
use Rattle.std.proofs.lemmas.List.{map-append}
use Rattle.std.proofs.lemmas.Result.{err_from_is_err_and}
use Rattle.serde_json.specs.View.{members_view, view}
use Rattle.odb_atoms.specs.First.{each}
use Rattle.odb_schema.specs.Json.{members_list}
use Rattle.odb_schema.proofs.Eachs.{after, at_end, at_start, each_fault, each_more}
use Rattle.odb_json.specs.Operation.{read_expected_cell, read_expected_cells}
use Rattle.odb_json.specs.Represented.Row.{cell_of}
use Rattle.odb_json.proofs.Faults.{passed_on}
use Rattle.odb_json.proofs.row.read_expected_cells.Goals as goal

pub loop-name-preserved : goal.loop-name-preserved
loop-name-preserved c =
    let names = c.args.names.now in
    let cs = c.args.table.now.columns in
    let done = map cell_of c.loop-name.row.items in
    let rest = members_view c.next.new.self in
    rw (c.in_ok-push.ensures.items, map-append)
    (each_more (λ m. read_expected_cell names cs m.0 m.1) (read_expected_cells names cs (members_view c.args.members.now.entries)) done (c.as_str.result.now, view c.in-Some.value.now) (members_list rest) (cell_of c.in_ok-read_expected_cell.field-0)
    (c.loop-name.invariant ∙ ap (λ es. after done (read_expected_cells names cs (members_view es))) c.in-Some.ensures.steps ∙ ap (λ n. after done (each (λ m. read_expected_cell names cs m.0 m.1) ((n, view c.in-Some.value.now) ∷ members_list rest))) (sym c.as_str.ensures.value))
    c.in_ok-read_expected_cell.ensures)

pub returns-in_err-read_expected_cell : goal.returns-in_err-read_expected_cell
returns-in_err-read_expected_cell c =
    let p = err_from_is_err_and c.from_residual-in_err-read_expected_cell.result c.from_residual-in_err-read_expected_cell.ensures.1 in
    let names = c.args.names.now in
    let cs = c.args.table.now.columns in
    let done = map cell_of c.loop-name.row.items in
    let rest = members_view c.next.new.self in
    rw (p.1, p.2)
    (passed_on c.in_err-read_expected_cell.field-0.0 (read_expected_cell names cs c.as_str.result.now (view c.in-Some.value.now)) (read_expected_cells names cs (members_view c.args.members.now.entries))
    (λ f is. each_fault (λ m. read_expected_cell names cs m.0 m.1) (read_expected_cells names cs (members_view c.args.members.now.entries)) done (c.as_str.result.now, view c.in-Some.value.now) (members_list rest) f
    (c.loop-name.invariant ∙ ap (λ es. after done (read_expected_cells names cs (members_view es))) c.in-Some.ensures.steps ∙ ap (λ n. after done (each (λ m. read_expected_cell names cs m.0 m.1) ((n, view c.in-Some.value.now) ∷ members_list rest))) (sym c.as_str.ensures.value))
    is)
    c.in_err-read_expected_cell.ensures)

pub loop-name-init : goal.loop-name-init
loop-name-init c =
    rw (c.in_ok-row.ensures.items, c.into_iter-name-iterator.ensures.into_iter_gives, c.iter-name-items.ensures.rest)
    (at_start (read_expected_cells c.args.names.now c.args.table.now.columns (members_view c.args.members.now.entries)))

pub returns : goal.returns
returns c =
    let read = read_expected_cells c.args.names.now c.args.table.now.columns in
    let done = map cell_of c.loop-name.row.items in
    at_end (read (members_view c.args.members.now.entries)) done
    (c.loop-name.invariant ∙ ap (λ es. after done (read (members_view es))) c.in-None.ensures.steps.0)
