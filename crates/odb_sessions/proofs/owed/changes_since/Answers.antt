use Rattle.std.proofs.Common.{ap, ◌∙◌}
use Rattle.odb_tables.specs.Change.{undone}
use Rattle.odb_tables.specs.Database.{Table, table_at}
use Rattle.odb_tables.proofs.Changes.{undone-change}
use Rattle.odb_sessions.proofs.owed.changes_since.Goals as goal

pub returns : goal.returns
returns c =
    let now : Table = table_at c.args.chains.now.db c.args.mark.now.table in
    ap (undone now) (c.in_ok-new.ensures.ok ∙ c.in_ok-changes.ensures) ∙ undone-change c.args.mark.now.content now
