use Rattle.std.proofs.Common.{◌≡◌, ap, subst, ◌∙◌}
use Rattle.odb_service.specs.Server.{Server}
use Rattle.odb_service.specs.World.{World}
use Rattle.odb_sessions.specs.Book.{Book}
use Rattle.odb_sessions.specs.Told.{IsToldOf}
use Rattle.odb_core.specs.Represented.Rounds.{book_in}
use Rattle.odb_core.proofs.server.Core.told.Goals as goal

pub returns : goal.returns
returns c =
    let r = c.self.inside in
    let w : World = record { db = r.sessions.db; commits = r.sessions.commits; earlier = r.sessions.earlier; now = r.moment; waiting = r.waiting; locks = r.locks; sessions = r.sessions.sessions } in
    let v : Server = record { schema = r.served; world = w; opened = r.opened } in
    let is : v ≡ c.args.self.now = c.self.view_is in
    let book : r.sessions ≡ book_in c.args.self.now.world = ap (λ (u : Server). book_in u.world) is in
    subst (λ (b : Book). IsToldOf b c.told.result) book c.told.ensures.of
