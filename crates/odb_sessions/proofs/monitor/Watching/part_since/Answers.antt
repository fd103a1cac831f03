use Rattle.std.proofs.Common.{rules, ◌≡◌, take, ap, ◌∙◌}
use Rattle.std.specs.Arc.{arc_value}
use Rattle.odb_monitor.specs.Job.{Part}
use Rattle.odb_monitor.specs.View.{selected}
use Rattle.odb_recent.specs.Undo.{table_ago}
use Rattle.odb_request.specs.Request.{Request}
use Rattle.odb_tables.specs.Change.{change, undone}
use Rattle.odb_tables.specs.Database.{Table, table_at}
use Rattle.odb_tables.proofs.Changes.{undone-change}
use Rattle.odb_sessions.specs.Composed.{part_since}
use Rattle.odb_sessions.specs.Marked.{Watched}
use Rattle.odb_sessions.proofs.monitor.Watching.part_since.Goals as goal

pub returns : goal.returns
returns c =
    let db = c.args.chains.now.db in
    let q : Request = c.self.inside.request in
    let undos = take c.args.ago c.args.recent.now.undos in
    let now : Table = table_at db q.place in
    let then : Table = table_ago q.place undos now in
    let rows : c.rows-rows.result ≡ now = search rules in
    let changes : arc_value c.in_ok-changes-2.changes ≡ change then now = search rules in
    let told : undone c.rows-rows.result (arc_value c.in_ok-changes-2.changes) ≡ then = ◌∙◌ {b = undone now (change then now)} (λ i. undone (rows i) (changes i)) (undone-change then now) in
    c.new-2.ensures
    ∙ (λ i. let p : Part = record { request = q; told = selected q (told i); asked = selected q (rows i) } in p)
    ∙ ap (λ (w : Watched). part_since undos db w.request) c.self.view_is
