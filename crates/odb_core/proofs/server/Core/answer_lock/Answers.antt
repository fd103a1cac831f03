use Rattle.std.proofs.Common.{rules, ◌≡◌, map, sym, ap, ◌∙◌, subst}
use Rattle.std.proofs.lemmas.List.{map-append}
use Rattle.std.proofs.lemmas.Result.{IfOk-weaker}
use Rattle.serde_json.specs.View.{view}
use Rattle.odb_locks.specs.Represented.Notice.{notices_of}
use Rattle.odb_wire.specs.Shown.{request_data}
use Rattle.odb_queue.specs.Represented.Post.{post_of}
use Rattle.odb_service.specs.Server.{Server}
use Rattle.odb_service.specs.World.{World, post_notices, succeed}
use Rattle.odb_sessions.specs.Book.{Book}
use Rattle.odb_core.specs.Represented.Steps.{in_world}
use Rattle.odb_core.proofs.LockPosts.{answers_as, answers_to}
use Rattle.odb_core.proofs.ServerSteps.{placed}
use Rattle.odb_core.proofs.ValidSteps.{Whole, whole_answered}
use Rattle.odb_core.proofs.CoreInvariant.{either_if}
use Rattle.odb_core.proofs.server.Core.answer_lock.Goals as goal

pub returns-clause-ok : goal.returns-clause-ok
returns-clause-ok c =
    let s = c.args.session in
    let d = request_data c.args.request.now in
    let ns = notices_of c.args.lock_notices.now in
    let r = view c.args.value.now in
    let i = c.self.inside in
    let w : World = record { db = i.sessions.db; commits = i.sessions.commits; earlier = i.sessions.earlier; now = i.moment; waiting = i.waiting; locks = i.locks; sessions = i.sessions.sessions } in
    let v : Server = record { schema = i.served; world = w; opened = i.opened } in
    let now = c.post_all.new.self in
    let all : map post_of c.push.new.self.items ≡ answers_to ns s d r = search (rules, map-append) in
    IfOk-weaker c.post_all.result _ _ (λ queued h.
    ap (in_world (λ (u : World). succeed s d r (post_notices ns u))) (sym c.self.view_is)
    ∙ ap (placed v) (answers_as ns s d r w (map post_of c.push.new.self.items) now.sessions all (ap (λ (b : Book). b.sessions) h))
    ∙ (λ j. placed v (record { db = sym (ap (λ (b : Book). b.db) h) j; commits = sym (ap (λ (b : Book). b.commits) h) j; earlier = sym (ap (λ (b : Book). b.earlier) h) j; now = w.now; waiting = w.waiting; locks = w.locks; sessions = now.sessions }))) c.post_all.ensures.ok

pub invariant_of-self : goal.invariant_of-self
invariant_of-self c =
    let s = c.args.session in
    let d = request_data c.args.request.now in
    let ns = notices_of c.args.lock_notices.now in
    let r = view c.args.value.now in
    let i = c.self.inside in
    let all : map post_of c.push.new.self.items ≡ answers_to ns s d r = search (rules, map-append) in
    either_if _ c.post_all.result c.post_all.ensures.ok c.post_all.ensures.err
    (λ queued h. whole_answered i.served i.sessions i.waiting i.locks i.moment i.opened s d r ns (map post_of c.push.new.self.items) c.post_all.new.self all h c.self.invariant)
    (λ e. subst (Whole i.served i.sessions i.waiting i.locks i.moment i.opened) (sym e) c.self.invariant)
