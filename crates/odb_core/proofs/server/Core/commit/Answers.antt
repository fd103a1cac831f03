use Rattle.std.proofs.Common.{rules, ◌≡◌, ◌+◌, List, [], map, ap, sym, ◌∙◌, subst}
use Rattle.odb_ops.specs.Represented.Ran.{results_of}
use Rattle.odb_rpc.specs.Message.{reply}
use Rattle.odb_schema.specs.Json.{array_of}
use Rattle.odb_tables.specs.Change.{all_changed_by}
use Rattle.odb_wire.specs.Message.{id_of}
use Rattle.odb_wire.specs.Shown.{request_data}
use Rattle.odb_queue.specs.Represented.Item.{item_of}
use Rattle.odb_queue.specs.Represented.Post.{post_of}
use Rattle.odb_queue.specs.declared.post.Post.{Post}
use Rattle.odb_service.specs.Session.{say, to, with_content}
use Rattle.odb_service.specs.Server.{Server}
use Rattle.odb_sessions.specs.Asked.{ended_in}
use Rattle.odb_sessions.specs.Book.{Book}
use Rattle.odb_sessions.specs.Committed.{ended_with}
use Rattle.odb_sessions.specs.Posts.{at_number}
use Rattle.odb_core.proofs.Attempts.{commit_as, done_is}
use Rattle.odb_core.proofs.ServerSteps.{placed}
use Rattle.odb_core.proofs.ValidSteps.{whole_committed}
use Rattle.odb_commit.specs.Sound.{IsSound}
use Rattle.odb_core.specs.Represented.Core.{IsWhole}
use Rattle.odb_tables.specs.Installing.{IsChangeOf}
use Rattle.odb_core.specs.Represented.Waiting.{outcome_in}
use Rattle.odb_core.proofs.server.Core.commit.Goals as goal

pub returns-clause-ok : goal.returns-clause-ok
returns-clause-ok c =
    let s = c.args.self.now.schema in
    let w = c.args.self.now.world in
    let n = c.args.asked.now.session in
    let d = request_data c.args.asked.now.request in
    let r = array_of (results_of c.args.results) in
    let old : Book = c.self.inside.sessions in
    let none : c.new-posts.result.items ≡ [] = search rules in
    let item : item_of c.in_ok-reply.reply ≡ say (to d) (reply (id_of d) r) = search rules in
    let is : c.commit.new.self ≡ ended_with s n (item_of c.in_ok-reply.reply) (map post_of c.new-posts.result.items) c.args.change old = c.in_ok-commit.ensures.ok s in
    let told : c.commit.new.self ≡ record { db = all_changed_by w.db c.args.change; commits = w.commits + 1; earlier = with_content w.db w.earlier; sessions = at_number (ended_in s (say (to d) (reply (id_of d) r))) w.sessions n } =
    is ∙ ap (λ (ps : List Post). ended_with s n (item_of c.in_ok-reply.reply) (map post_of ps) c.args.change old) none
    ∙ ap (λ i. ended_with s n i [] c.args.change old) item
    ∙ ap (λ (u : Server). let e : Book = record { db = all_changed_by u.world.db c.args.change; commits = u.world.commits + 1; earlier = with_content u.world.db u.world.earlier; sessions = at_number (ended_in s (say (to d) (reply (id_of d) r))) u.world.sessions n } in e) c.self.view_is
    in
    ap (placed c.args.self.now) (commit_as s n d r (all_changed_by w.db c.args.change) w)
    ∙ (λ i. record {
      schema = (sym c.self.view_is i).schema;
      world = record { db = (sym told i).db; commits = (sym told i).commits; earlier = (sym told i).earlier; now = (sym c.self.view_is i).world.now; waiting = (sym c.self.view_is i).world.waiting; locks = (sym c.self.view_is i).world.locks; sessions = (sym told i).sessions };
      opened = (sym c.self.view_is i).opened;
    })

pub commit-requires : goal.commit-requires
commit-requires c =
    let v : Server = c.args.self.now in
    let is : IsChangeOf v.world.db c.args.change × IsSound v.schema (all_changed_by v.world.db c.args.change) = done_is v.schema v.world.db c.args.results c.args.change (outcome_in v.schema v.world c.args.asked.now) c.requires.outcome in
    subst (λ (u : Server). IsChangeOf u.world.db c.args.change) (sym c.self.view_is) is.0

pub invariant_of-self : goal.invariant_of-self
invariant_of-self c = subst (λ (b : Book). IsWhole c.self.inside.served b c.self.inside.waiting c.self.inside.locks c.self.inside.moment c.self.inside.opened) (sym c.in_err-commit.ensures.err) c.self.invariant

pub invariant_of-self-2 : goal.invariant_of-self-2
invariant_of-self-2 c =
    let v : Server = c.args.self.now in
    let i = c.self.inside in
    let is : IsChangeOf v.world.db c.args.change × IsSound v.schema (all_changed_by v.world.db c.args.change) = done_is v.schema v.world.db c.args.results c.args.change (outcome_in v.schema v.world c.args.asked.now) c.requires.outcome in
    let sound : IsSound i.served (all_changed_by i.sessions.db c.args.change) = subst (λ (u : Server). IsSound u.schema (all_changed_by u.world.db c.args.change)) (sym c.self.view_is) is.1 in
    let none : i.waiting ≡ [] = ap (λ (u : Server). u.world.waiting) c.self.view_is ∙ c.requires.none in
    let n = c.args.asked.now.session in
    let d = request_data c.args.asked.now.request in
    let r = array_of (results_of c.args.results) in
    let posts : c.new-posts.result.items ≡ [] = search rules in
    let item : item_of c.in_ok-reply.reply ≡ say (to d) (reply (id_of d) r) = search rules in
    let told : c.commit.new.self ≡ ended_with i.served n (say (to d) (reply (id_of d) r)) [] c.args.change i.sessions =
    c.in_ok-commit.ensures.ok i.served ∙ ap (λ (ps : List Post). ended_with i.served n (item_of c.in_ok-reply.reply) (map post_of ps) c.args.change i.sessions) posts
    ∙ ap (λ x. ended_with i.served n x [] c.args.change i.sessions) item
    in
    whole_committed i.served i.sessions i.waiting i.locks i.moment i.opened n d r (all_changed_by i.sessions.db c.args.change) c.commit.new.self told sound none c.self.invariant
