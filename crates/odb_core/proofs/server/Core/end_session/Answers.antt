use Rattle.std.proofs.Common.{rules, ◌≡◌, ◌==◌, Bool, not, map, filter, sym, ap, ◌∙◌, subst}
use Rattle.odb_atoms.specs.FinMap as finite
use Rattle.odb_locks.specs.Locks.{drop_session}
use Rattle.odb_queue.specs.Represented.Post.{post_of, told_of}
use Rattle.odb_sessions.specs.Posts.{all_posted}
use Rattle.odb_service.specs.Server.{Server, served_by}
use Rattle.odb_service.specs.World.{Waiting, World, close, is_untried, split_first, untried}
use Rattle.odb_sessions.specs.Book.{Book}
use Rattle.odb_core.specs.Represented.Steps.{AreTried, by_service}
use Rattle.odb_core.proofs.CanceledTransactions.{closed_as, closed_tried}
use Rattle.odb_core.proofs.CoreInvariant.{valid_closed}
use Rattle.odb_core.proofs.ServerSteps.{placed}
use Rattle.odb_tables.specs.Database.{Db}
use Rattle.odb_core.proofs.HeldTransactions.{all_filter}
use Rattle.odb_core.specs.Represented.Core.{IsWhole, server_of}
use Rattle.odb_core.specs.Stuck.{AreStuck, IsKept, IsStuckIf}
use Rattle.odb_core.proofs.server.Core.end_session.Goals as goal

pub returns-clause-ok : goal.returns-clause-ok
returns-clause-ok c =
    let n = c.args.session in
    let i = c.self.inside in
    let h = served_by i.served in
    let w : World = record { db = i.sessions.db; commits = i.sessions.commits; earlier = i.sessions.earlier; now = i.moment; waiting = i.waiting; locks = i.locks; sessions = i.sessions.sessions } in
    let released : c.forget_session.new.self ≡ (drop_session w.locks n).0 = search rules in
    let told : map post_of c.in_ok-posts.posts.items ≡ map told_of (drop_session w.locks n).1 = search rules in
    let gone : c.close.new.self ≡ record { db = w.db; commits = w.commits; earlier = w.earlier; sessions = finite.remove (all_posted w.sessions (map post_of c.in_ok-posts.posts.items)) n } = search rules in
    let left : c.end_session.new.self ≡ filter (λ (p : Waiting). not (p.session == n)) w.waiting = c.end_session.ensures in
    let v : Server = record { schema = i.served; world = w; opened = i.opened } in
    ap (by_service (λ h. close h n)) (sym c.self.view_is)
    ∙ ap (placed v) (closed_as h n w c.forget_session.new.self c.close.new.self.sessions c.end_session.new.self released (ap (λ (b : Book). b.sessions) gone ∙ ap (λ ps. finite.remove (all_posted w.sessions ps) n) told) left)
    ∙ (λ j. placed v (record { db = sym (ap (λ (b : Book). b.db) gone) j; commits = sym (ap (λ (b : Book). b.commits) gone) j; earlier = sym (ap (λ (b : Book). b.earlier) gone) j; now = w.now; waiting = c.end_session.new.self; locks = c.forget_session.new.self; sessions = c.close.new.self.sessions }))

pub invariant_of-self : goal.invariant_of-self
invariant_of-self c = subst (λ (b : Book). IsWhole c.self.inside.served b c.self.inside.waiting c.self.inside.locks c.self.inside.moment c.self.inside.opened) (sym c.in_err-post_all.ensures.err) c.self.invariant

pub invariant_of-self-2 : goal.invariant_of-self-2
invariant_of-self-2 c =
    let same : c.close.new.self.db ≡ c.self.inside.sessions.db = ap (λ (b : Book). b.db) c.close.ensures ∙ ap (λ (b : Book). b.db) c.in_ok-post_all.ensures.ok in
    let i = c.self.inside in
    let ones : Waiting → Bool = λ p. not (p.session == c.args.session) in
    let left : c.end_session.new.self ≡ filter ones i.waiting = c.end_session.ensures in
    let stuck : AreStuck i.served i.sessions.db c.end_session.new.self = subst (AreStuck i.served i.sessions.db) (sym left) (all_filter (IsStuckIf i.served i.sessions.db) ones i.waiting c.self.invariant.0.1) in
    let kept : IsKept i.served c.close.new.self.db c.end_session.new.self = subst (λ (d : Db). IsKept i.served d c.end_session.new.self) (sym same) (c.self.invariant.0.0, stuck) in
    let n = c.args.session in
    let h = served_by i.served in
    let v : Server = server_of i.served i.sessions i.waiting i.locks i.moment i.opened in
    let w : World = v.world in
    let u : Server = server_of i.served c.close.new.self c.end_session.new.self c.forget_session.new.self i.moment i.opened in
    let released : c.forget_session.new.self ≡ (drop_session w.locks n).0 = search rules in
    let told : map post_of c.in_ok-posts.posts.items ≡ map told_of (drop_session w.locks n).1 = search rules in
    let gone : c.close.new.self ≡ record { db = w.db; commits = w.commits; earlier = w.earlier; sessions = finite.remove (all_posted w.sessions (map post_of c.in_ok-posts.posts.items)) n } = search rules in
    let closed : by_service (λ h. close h n) v ≡ u =
    ap (placed v) (closed_as h n w c.forget_session.new.self c.close.new.self.sessions c.end_session.new.self released (ap (λ (b : Book). b.sessions) gone ∙ ap (λ ps. finite.remove (all_posted w.sessions ps) n) told) left)
    ∙ (λ j. placed v (record { db = sym (ap (λ (b : Book). b.db) gone) j; commits = sym (ap (λ (b : Book). b.commits) gone) j; earlier = sym (ap (λ (b : Book). b.earlier) gone) j; now = w.now; waiting = c.end_session.new.self; locks = c.forget_session.new.self; sessions = c.close.new.self.sessions }))
    in
    let tried : AreTried u = λ k.
    ap (λ (b : Book). split_first (is_untried b.commits) c.end_session.new.self) gone ∙ closed_tried k n w c.end_session.new.self left (c.self.invariant.1.0 k)
    in
    (kept, valid_closed n v u closed tried c.self.invariant.1)
