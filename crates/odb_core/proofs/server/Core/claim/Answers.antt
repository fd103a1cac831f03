use Rattle.std.proofs.Common.{rules, ◌≡◌, true, false, Ok, subst, sym, ap, ◌∙◌}
use Rattle.std.specs.Result.{is_err}
use Rattle.serde_json.specs.View.{view}
use Rattle.odb_locks.specs.Represented.Locks.{answer_of, claim_by}
use Rattle.odb_locks.specs.Represented.Notice.{notices_of}
use Rattle.odb_locks.specs.declared.locks.LockOutcome.{LockOutcome}
use Rattle.odb_wire.specs.Shown.{request_data}
use Rattle.odb_service.specs.Server.{Server, served_by}
use Rattle.odb_service.specs.World.{World, locked, post_notices, succeed}
use Rattle.odb_core.specs.Represented.Steps.{in_world}
use Rattle.odb_core.proofs.LockPosts.{given, locks_as, refused}
use Rattle.odb_core.proofs.ServerSteps.{placed}
use Rattle.odb_core.proofs.ValidSteps.{IsWholeServer, whole_back}
use Rattle.odb_sessions.specs.Posts.{unposted}
use Rattle.odb_core.proofs.server.Core.claim.Goals as goal

pub invariant_of-self : goal.invariant_of-self
invariant_of-self c =
    let i = c.self-2.inside in
    let items = c.in_ok-posted_to.posted_to.items in
    let went_not : is_err c.claim.result ≡ true = search rules in
    let locks : c.claim.new.self ≡ i.locks = refused c.claim.result went_not c.claim.ensures.err in
    let back : unposted items i.sessions.sessions ≡ c.args.self.now.world.sessions = ap (λ (u : Server). unposted items u.world.sessions) c.self-2.view_is ∙ c.in_ok-posted_to.ensures.back in
    whole_back i.served i.sessions i.waiting i.locks i.moment i.opened c.args.self.now c.answer_lock.new.self c.take_back.new.self c.claim.new.self (unposted items i.sessions.sessions) c.self-2.view_is c.answer_lock.ensures.others c.take_back.ensures locks back
    (subst IsWholeServer c.self.view_is c.self.invariant)

pub returns-clause-ok : goal.returns-clause-ok
returns-clause-ok c =
    let h = served_by c.args.self.now.schema in
    let s = c.args.session in
    let d = request_data c.args.request.now in
    let name = c.args.name.now in
    let w : World = c.args.self.now.world in
    let preview : LockOutcome = c.in-Ok.preview in
    let ns = notices_of preview.notices.items in
    let i = c.self-2.inside in
    let v : World = record { db = i.sessions.db; commits = i.sessions.commits; earlier = i.sessions.earlier; now = i.moment; waiting = i.waiting; locks = i.locks; sessions = i.sessions.sessions } in
    let r = view c.in_ok-result.result in
    let says : answer_of (claim_by c.args.stolen w.locks s name) ≡ Ok (ns, preview.owns) = search rules in
    let went : is_err c.claim.result ≡ false = search rules in
    let done = given c.claim.result _ went c.claim.ensures.ok in
    let same : v.locks ≡ w.locks = search rules in
    let is : claim_by c.args.stolen w.locks s name ≡ Ok (c.claim.new.self, notices_of done.0.notices.items, done.0.owns) = ap (λ l. claim_by c.args.stolen l s name) (sym same) ∙ done.1 in
    let after : in_world (λ (x : World). succeed s d r (post_notices ns x)) c.args.self.now ≡ record { schema = i.served; world = v; opened = i.opened } = search rules in
    let told : succeed s d r (post_notices ns w) ≡ v = ap (λ (u : Server). u.world) after in
    ap (placed c.args.self.now) (locks_as h s d (locked h) (claim_by c.args.stolen w.locks s name) w v r ns preview.owns c.claim.new.self (notices_of done.0.notices.items, done.0.owns) says is (c.in_ok-result.ensures.value h) told)
    ∙ (λ j. record { schema = (after j).schema; world = record v { locks = c.claim.new.self }; opened = (after j).opened })
