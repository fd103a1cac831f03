use Rattle.std.proofs.Common.{rules, ◌≡◌, [], ◌∷◌, Some, sym, ap, subst, ◌∙◌}
use Rattle.std.specs.Prelude.{slice_get}
use Rattle.std.specs.List.{position, remove}
use Rattle.serde_json.specs.Written.{compact_text}
use Rattle.odb_rpc.specs.Message.{canceled, failure}
use Rattle.odb_rpc.specs.Represented.Printable.{printable_data}
use Rattle.odb_wire.specs.Message.{id_of}
use Rattle.odb_service.specs.Server.{Server, served_by}
use Rattle.odb_service.specs.Session.{say, to}
use Rattle.odb_service.specs.World.{Waiting, World, is_of, post}
use Rattle.odb_queue.specs.Represented.Item.{item_of}
use Rattle.odb_core.specs.Represented.Steps.{in_world}
use Rattle.odb_core.specs.Represented.Waiting.{is_named}
use Rattle.odb_core.proofs.Attempts.{post_as}
use Rattle.odb_core.proofs.CanceledTransactions.{below, cancels_as}
use Rattle.odb_core.proofs.ClosedSessions.{cancels_none}
use Rattle.odb_core.proofs.ServerSteps.{placed}
use Rattle.odb_core.proofs.ValidSteps.{WholeWith, whole_removed}
use Rattle.odb_core.proofs.server.Core.cancel.Goals as goal

pub returns-in_default-clause-ok : goal.returns-in_default-clause-ok
returns-in_default-clause-ok c =
    let s = c.args.self.now.schema in
    let n = c.args.session in
    let d = printable_data c.args.id in
    let w : World = c.args.self.now.world in
    let named : c.deref.result.now ≡ compact_text d = search rules in
    let found : c.place_of.result ≡ position (is_named n c.deref.result.now) w.waiting = search rules in
    ap (placed c.args.self.now) (cancels_none (served_by s) n d w (ap (λ t. position (is_named n t) w.waiting) (sym named) ∙ sym found ∙ c.in_default.is))

pub at-requires : goal.at-requires
at-requires c =
    let found : c.place_of.result ≡ position (is_named c.args.session c.deref.result.now) c.self.inside.waiting = search rules in
    below (is_named c.args.session c.deref.result.now) c.self.inside.waiting c.in-Some.place (sym found ∙ c.in-Some.is)

pub remove-requires : goal.remove-requires
remove-requires c =
    let w : World = c.args.self.now.world in
    let found : c.place_of.result ≡ position (is_named c.args.session c.deref.result.now) w.waiting = search rules in
    let same : w.waiting ≡ c.self-2.inside.waiting = sym (ap (λ (u : World). u.waiting) (post_as c.args.session (item_of c.in_ok-reply.reply ∷ []) w)) ∙ ap (λ (u : Server). u.world.waiting) (c.in_ok-post.ensures.ok ∙ sym c.self-2.view_is) in
    below (is_named c.args.session c.deref.result.now) c.self-2.inside.waiting c.in-Some.place (ap (position (is_named c.args.session c.deref.result.now)) (sym same) ∙ sym found ∙ c.in-Some.is)

pub invariant_of-self : goal.invariant_of-self
invariant_of-self c =
    let i = c.self-2.inside in
    let left : c.remove.new.self ≡ remove i.waiting c.in-Some.place = search rules in
    subst (WholeWith i.served i.sessions i.waiting i.locks i.moment i.opened) (sym left) (whole_removed i.served i.sessions i.waiting i.locks i.moment i.opened c.in-Some.place c.self-2.invariant)

pub returns-clause-ok : goal.returns-clause-ok
returns-clause-ok c =
    let s = c.args.self.now.schema in
    let n = c.args.session in
    let d = printable_data c.args.id in
    let w : World = c.args.self.now.world in
    let i = c.self-2.inside in
    let v : World = record { db = i.sessions.db; commits = i.sessions.commits; earlier = i.sessions.earlier; now = i.moment; waiting = i.waiting; locks = i.locks; sessions = i.sessions.sessions } in
    let k = c.in-Some.place in
    let x : Waiting = c.at.result.now in
    let named : c.deref.result.now ≡ compact_text d = search rules in
    let found : c.place_of.result ≡ position (is_named n c.deref.result.now) w.waiting = search rules in
    let there : position (is_of (served_by s) n d) w.waiting ≡ Some k = ap (λ t. position (is_named n t) w.waiting) (sym named) ∙ sym found ∙ c.in-Some.is in
    let at : slice_get w.waiting k ≡ Some x = ap (λ (u : Server). slice_get u.world.waiting k) (sym c.self.view_is) ∙ c.at.ensures in
    let replies : item_of c.in_ok-reply.reply ≡ say (to x.request) (failure (id_of x.request) canceled) = search rules in
    let after : in_world (post n (item_of c.in_ok-reply.reply ∷ [])) c.args.self.now ≡ record { schema = i.served; world = v; opened = i.opened } = c.in_ok-post.ensures.ok ∙ sym c.self-2.view_is in
    let posts : post n (item_of c.in_ok-reply.reply ∷ []) w ≡ v = ap (λ (u : Server). u.world) after in
    let left : c.remove.new.self ≡ remove v.waiting k = search rules in
    ap (placed c.args.self.now) (cancels_as (served_by s) n w v k (item_of c.in_ok-reply.reply) c.remove.new.self d x there at replies posts left)
    ∙ (λ j. record { schema = (after j).schema; world = record v { waiting = c.remove.new.self }; opened = (after j).opened })
