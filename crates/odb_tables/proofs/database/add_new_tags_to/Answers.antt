use Rattle.std.proofs.Common.{rules, ◌≡◌, Some, None, slice_get}
use Rattle.std.proofs.lemmas.Result.{on_ok_weaker}
use Rattle.odb_tables.proofs.RowIndexes.{none-ready, one-ready, one-still}
use Rattle.odb_tables.proofs.database.add_new_tags_to.Goals as goal

pub returns-in-Some-clause-still : goal.returns-in-Some-clause-still
returns-in-Some-clause-still c db = one-still db c.args.changes.now c.args.index.now c.add_new_tags.new.self c.add_new_tags.ensures.same c.add_new_tags.ensures.grows

pub returns-in-Some-clause-ready : goal.returns-in-Some-clause-ready
returns-in-Some-clause-ready c =
    let at : slice_get c.args.changes.now c.args.index.now.table ≡ Some c.in-Some.change.now = search rules in
    on_ok_weaker c.add_new_tags.result (λ noted db is kept. one-ready db c.args.changes.now c.args.index.now c.add_new_tags.new.self c.add_new_tags.ensures.same c.in-Some.change.now is at c.add_new_tags.ensures.grows noted kept) c.add_new_tags.ensures.ok

pub returns-in-None-clause-ready : goal.returns-in-None-clause-ready
returns-in-None-clause-ready c db is kept =
    let none : slice_get c.args.changes.now c.args.index.now.table ≡ None = search rules in
    none-ready db c.args.changes.now c.args.index.now none kept
