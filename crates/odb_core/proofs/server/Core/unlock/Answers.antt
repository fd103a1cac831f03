use Rattle.std.proofs.Common.{rules, ◌≡◌, true, subst, ap, ◌∙◌}
use Rattle.std.specs.Result.{is_err}
use Rattle.odb_service.specs.Server.{Server}
use Rattle.odb_sessions.specs.Posts.{unposted}
use Rattle.odb_core.proofs.LockPosts.{refused}
use Rattle.odb_core.proofs.ValidSteps.{IsWholeServer, whole_back}
use Rattle.odb_core.proofs.server.Core.unlock.Goals as goal

pub invariant_of-self : goal.invariant_of-self
invariant_of-self c =
    let i = c.self-2.inside in
    let items = c.in_ok-posted_to.posted_to.items in
    let went_not : is_err c.unlock.result ≡ true = search rules in
    let locks : c.unlock.new.self ≡ i.locks = refused c.unlock.result went_not c.unlock.ensures.err in
    let back : unposted items i.sessions.sessions ≡ c.args.self.now.world.sessions = ap (λ (u : Server). unposted items u.world.sessions) c.self-2.view_is ∙ c.in_ok-posted_to.ensures.back in
    whole_back i.served i.sessions i.waiting i.locks i.moment i.opened c.args.self.now c.answer_lock.new.self c.take_back.new.self c.unlock.new.self (unposted items i.sessions.sessions) c.self-2.view_is c.answer_lock.ensures.others c.take_back.ensures locks back
    (subst IsWholeServer c.self.view_is c.self.invariant)
