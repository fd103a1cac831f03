use Rattle.std.proofs.Common.{rules, ◌≡◌, ap, subst, sym, ◌∙◌}
use Rattle.std.proofs.lemmas.Result.{IfOk-weaker}
use Rattle.odb_service.specs.Server.{Server}
use Rattle.odb_service.specs.World.{World}
use Rattle.odb_sessions.specs.Book.{Book, revision_in}
use Rattle.odb_schema.specs.Schema.{Schema}
use Rattle.odb_round.specs.Jobs.{AreByLikenesses, AreEachOnce, AreMadeOf}
use Rattle.odb_round.specs.OfSchema.{AreSessionsOf}
use Rattle.odb_round.specs.Taken.{AreReady}
use Rattle.odb_sessions.specs.Told.{IsToldOf}
use Rattle.odb_core.specs.Represented.Rounds.{book_in}
use Rattle.odb_core.proofs.CoreInvariant.{if_both}
use Rattle.odb_core.proofs.server.Core.jobs.Goals as goal

pub plan_round-requires : goal.plan_round-requires
plan_round-requires c = subst (λ (s : Schema). AreSessionsOf s c.self.inside.sessions.sessions) (sym c.schema-schema.ensures) c.self.invariant.1.2

pub returns-clause-round : goal.returns-clause-round
returns-clause-round c =
    let r = c.self.inside in
    let w : World = record { db = r.sessions.db; commits = r.sessions.commits; earlier = r.sessions.earlier; now = r.moment; waiting = r.waiting; locks = r.locks; sessions = r.sessions.sessions } in
    let v : Server = record { schema = r.served; world = w; opened = r.opened } in
    let is : v ≡ c.args.self.now = c.self.view_is in
    let book : r.sessions ≡ book_in c.args.self.now.world = ap (λ (u : Server). book_in u.world) is in
    let slice : c.as_slice.result.now ≡ c.in_ok-listed.listed.items = search rules in
    if_both c.plan_round.result c.plan_round.ensures.sessions c.plan_round.ensures.ready
    (λ jobs named ready. (named ∙ slice ∙ c.in_ok-listed.ensures, λ h. subst (λ (b : Book). AreReady h b jobs.takings) book (ready h)))

pub returns-clause-jobs : goal.returns-clause-jobs
returns-clause-jobs c =
    let r = c.self.inside in
    let w : World = record { db = r.sessions.db; commits = r.sessions.commits; earlier = r.sessions.earlier; now = r.moment; waiting = r.waiting; locks = r.locks; sessions = r.sessions.sessions } in
    let v : Server = record { schema = r.served; world = w; opened = r.opened } in
    let is : v ≡ c.args.self.now = c.self.view_is in
    let book : r.sessions ≡ book_in c.args.self.now.world = ap (λ (u : Server). book_in u.world) is in
    IfOk-weaker c.plan_round.result _ _ (λ jobs made. λ h. subst (λ (b : Book). AreMadeOf h b jobs.jobs jobs.takings) book (made h)) c.plan_round.ensures.jobs

pub returns-clause-once : goal.returns-clause-once
returns-clause-once c =
    let r = c.self.inside in
    let w : World = record { db = r.sessions.db; commits = r.sessions.commits; earlier = r.sessions.earlier; now = r.moment; waiting = r.waiting; locks = r.locks; sessions = r.sessions.sessions } in
    let v : Server = record { schema = r.served; world = w; opened = r.opened } in
    let is : v ≡ c.args.self.now = c.self.view_is in
    let book : r.sessions ≡ book_in c.args.self.now.world = ap (λ (u : Server). book_in u.world) is in
    IfOk-weaker c.plan_round.result _ _ (λ jobs once. subst (λ (b : Book). AreEachOnce jobs.told.chains (revision_in b) jobs.jobs jobs.likenesses) book once) c.plan_round.ensures.once

pub returns-clause-told : goal.returns-clause-told
returns-clause-told c =
    let r = c.self.inside in
    let w : World = record { db = r.sessions.db; commits = r.sessions.commits; earlier = r.sessions.earlier; now = r.moment; waiting = r.waiting; locks = r.locks; sessions = r.sessions.sessions } in
    let v : Server = record { schema = r.served; world = w; opened = r.opened } in
    let is : v ≡ c.args.self.now = c.self.view_is in
    let book : r.sessions ≡ book_in c.args.self.now.world = ap (λ (u : Server). book_in u.world) is in
    IfOk-weaker c.plan_round.result _ _ (λ jobs told. subst (λ (b : Book). IsToldOf b jobs.told) book told) c.plan_round.ensures.told

pub returns-clause-marks : goal.returns-clause-marks
returns-clause-marks c =
    let r = c.self.inside in
    let w : World = record { db = r.sessions.db; commits = r.sessions.commits; earlier = r.sessions.earlier; now = r.moment; waiting = r.waiting; locks = r.locks; sessions = r.sessions.sessions } in
    let v : Server = record { schema = r.served; world = w; opened = r.opened } in
    let is : v ≡ c.args.self.now = c.self.view_is in
    let book : r.sessions ≡ book_in c.args.self.now.world = ap (λ (u : Server). book_in u.world) is in
    IfOk-weaker c.plan_round.result _ _ (λ jobs marks. λ h. subst (λ (b : Book). AreByLikenesses h (revision_in b) jobs.told.sessions jobs.jobs jobs.likenesses jobs.takings) book (marks h)) c.plan_round.ensures.marks
