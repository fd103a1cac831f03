use Rattle.std.proofs.Common.{◌≡◌, ap, subst, ◌∙◌}
use Rattle.odb_service.specs.Server.{Server}
use Rattle.odb_service.specs.World.{World}
use Rattle.odb_core.specs.Represented.Core.{IsQuietBut}
use Rattle.odb_core.proofs.QuietRounds.{quiet_but}
use Rattle.odb_core.proofs.server.Core.owed.Goals as goal

pub returns : goal.returns
returns c =
    let r = c.self.inside in
    let w : World = record { db = r.sessions.db; commits = r.sessions.commits; earlier = r.sessions.earlier; now = r.moment; waiting = r.waiting; locks = r.locks; sessions = r.sessions.sessions } in
    let v : Server = record { schema = r.served; world = w; opened = r.opened } in
    let is : v ≡ c.args.self.now = c.self.view_is in
    subst (IsQuietBut c.owed.result.now) is (quiet_but c.owed.result.now v c.owed.ensures)
