use Rattle.std.proofs.Common.{◌∙◌, ◌∷◌, ap, sym}
use Rattle.std.proofs.lemmas.Result.{err_from_is_err_and}
use Rattle.serde_json.specs.View.{members_view, view}
use Rattle.odb_atoms.specs.First.{each}
use Rattle.odb_schema.specs.Json.{members_list}
use Rattle.odb_schema.proofs.Eachs.{after, at_end, at_start, each_fault, each_more}
use Rattle.odb_json.specs.Operation.{read_cell, read_cells}
use Rattle.odb_json.specs.Represented.Row.{written}
use Rattle.odb_json.proofs.Faults.{passed_on}
use Rattle.odb_json.proofs.row.RowReader.read_cells.Goals as goal

pub loop-name-preserved : goal.loop-name-preserved
loop-name-preserved c =
    let names = c.args.self.names.now in
    let cs = c.args.self.table.now.columns in
    let place = written c.args.self.writing cs in
    let done = c.loop-name.row.items in
    let rest = members_view c.next.new.self in
    rw c.in_ok-push.ensures.items
    (each_more (λ m. read_cell names cs place m.0 m.1) (read_cells names cs place (members_view c.args.members.now.entries)) done (c.as_str.result.now, view c.in-Some.value.now) (members_list rest) c.in_ok-read_cell.field-0
    (c.loop-name.invariant ∙ ap (λ es. after done (read_cells names cs place (members_view es))) c.in-Some.ensures.steps ∙ ap (λ n. after done (each (λ m. read_cell names cs place m.0 m.1) ((n, view c.in-Some.value.now) ∷ members_list rest))) (sym c.as_str.ensures.value))
    c.in_ok-read_cell.ensures)

pub returns-in_err-read_cell : goal.returns-in_err-read_cell
returns-in_err-read_cell c =
    let p = err_from_is_err_and c.from_residual-in_err-read_cell.result c.from_residual-in_err-read_cell.ensures.1 in
    let names = c.args.self.names.now in
    let cs = c.args.self.table.now.columns in
    let place = written c.args.self.writing cs in
    let done = c.loop-name.row.items in
    let rest = members_view c.next.new.self in
    rw (p.1, p.2)
    (passed_on c.in_err-read_cell.field-0.0 (read_cell names cs place c.as_str.result.now (view c.in-Some.value.now)) (read_cells names cs place (members_view c.args.members.now.entries))
    (λ f is. each_fault (λ m. read_cell names cs place m.0 m.1) (read_cells names cs place (members_view c.args.members.now.entries)) done (c.as_str.result.now, view c.in-Some.value.now) (members_list rest) f
    (c.loop-name.invariant ∙ ap (λ es. after done (read_cells names cs place (members_view es))) c.in-Some.ensures.steps ∙ ap (λ n. after done (each (λ m. read_cell names cs place m.0 m.1) ((n, view c.in-Some.value.now) ∷ members_list rest))) (sym c.as_str.ensures.value))
    is)
    c.in_err-read_cell.ensures)

pub loop-name-init : goal.loop-name-init
loop-name-init c =
    rw (c.in_ok-row.ensures.items, c.into_iter-name-iterator.ensures.into_iter_gives, c.iter-name-items.ensures.rest)
    (at_start (read_cells c.args.self.names.now c.args.self.table.now.columns (written c.args.self.writing c.args.self.table.now.columns) (members_view c.args.members.now.entries)))

pub returns : goal.returns
returns c =
    let read = read_cells c.args.self.names.now c.args.self.table.now.columns (written c.args.self.writing c.args.self.table.now.columns) in
    let done = c.loop-name.row.items in
    at_end (read (members_view c.args.members.now.entries)) done
    (c.loop-name.invariant ∙ ap (λ es. after done (read (members_view es))) c.in-None.ensures.steps.0)
