use Rattle.std.proofs.Common.{rules, ◌≡◌, [], ◌∷◌, sym, ap, ◌∙◌, subst}
use Rattle.std.specs.Prelude.{option_map}
use Rattle.odb_atoms.specs.Uuid.{uuid_from}
use Rattle.odb_request.specs.Represented.Notation.{notation_of}
use Rattle.odb_rpc.specs.Represented.Printable.{printable_data}
use Rattle.odb_wire.specs.Shown.{request_data}
use Rattle.odb_service.specs.Session.{Item, start}
use Rattle.odb_service.specs.World.{World, push}
use Rattle.odb_sessions.specs.Posts.{at_number}
use Rattle.odb_core.proofs.Attempts.{post_as}
use Rattle.odb_core.proofs.ServerSteps.{placed}
use Rattle.odb_core.proofs.ValidSteps.{whole_posted}
use Rattle.odb_round.specs.OfSchema.{AreOfSchema}
use Rattle.odb_service.specs.Server.{Server}
use Rattle.odb_core.specs.Represented.Core.{IsWhole}
use Rattle.odb_sessions.specs.Book.{Book}
use Rattle.odb_core.proofs.server.Core.begin.Goals as goal

pub returns-clause-ok : goal.returns-clause-ok
returns-clause-ok c =
    let w : World = c.args.self.now.world in
    let i : Item = start (request_data c.args.request.now) (record { id = printable_data c.args.asked.id; notation = notation_of c.args.asked.notation; requests = c.args.requests.items; since = option_map uuid_from c.args.asked.since }) in
    let told : c.start.new.self ≡ record { db = w.db; commits = w.commits; earlier = w.earlier; sessions = at_number (push (i ∷ [])) w.sessions c.args.session } = search rules in
    ap (placed c.args.self.now) (post_as c.args.session (i ∷ []) w)
    ∙ (λ j. record {
      schema = (sym c.self.view_is j).schema;
      world = record { db = (sym told j).db; commits = (sym told j).commits; earlier = (sym told j).earlier; now = (sym c.self.view_is j).world.now; waiting = (sym c.self.view_is j).world.waiting; locks = (sym c.self.view_is j).world.locks; sessions = (sym told j).sessions };
      opened = (sym c.self.view_is j).opened;
    })

pub invariant_of-self : goal.invariant_of-self
invariant_of-self c = subst (λ (b : Book). IsWhole c.self.inside.served b c.self.inside.waiting c.self.inside.locks c.self.inside.moment c.self.inside.opened) (sym c.in_err-start.ensures.err) c.self.invariant

pub invariant_of-self-2 : goal.invariant_of-self-2
invariant_of-self-2 c =
    let i = c.self.inside in
    let asked : Item = start (request_data c.args.request.now) (record { id = printable_data c.args.asked.id; notation = notation_of c.args.asked.notation; requests = c.args.requests.items; since = option_map uuid_from c.args.asked.since }) in
    let told : c.start.new.self ≡ record (i.sessions) { sessions = at_number (push (asked ∷ [])) i.sessions.sessions c.args.session } = search rules in
    let of : AreOfSchema i.served c.args.requests.items = subst (λ (u : Server). AreOfSchema u.schema c.args.requests.items) (sym c.self.view_is) c.requires.of in
    whole_posted i.served i.sessions i.waiting i.locks i.moment i.opened c.args.session (asked ∷ []) c.start.new.self (of, tt) told c.self.invariant
