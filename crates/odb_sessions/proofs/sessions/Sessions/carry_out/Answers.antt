use Rattle.std.proofs.Common.{Option, refl, ap, subst, sym, ◌∙◌}
use Rattle.std.specs.Prelude.{option_and_then}
use Rattle.odb_atoms.specs.FinMap as finite
use Rattle.odb_service.specs.Server.{served_by}
use Rattle.odb_service.specs.Session.{Out, Session}
use Rattle.odb_recent.specs.Recent.{recent_of}
use Rattle.odb_sessions.specs.Book.{Book, book_with, revision_in}
use Rattle.odb_sessions.specs.Marked.{all_seen}
use Rattle.odb_sessions.specs.Carried.{last_finished, used_by, UsesUp}
use Rattle.odb_sessions.specs.Owed.{book_seen}
use Rattle.odb_sessions.specs.Posts.{at_number}
use Rattle.odb_sessions.proofs.Carried.{ready_at}
use Rattle.odb_sessions.proofs.OwedSessions.{together, used_rest}
use Rattle.odb_sessions.proofs.AnySchema.{no_schema}
use Rattle.odb_sessions.proofs.CarriedOut.{seen_after, text_seen, tied_after}
use Rattle.odb_sessions.proofs.sessions.Sessions.carry_out.Goals as goal

pub carry_out-requires : goal.carry_out-requires
carry_out-requires c = λ x there. ready_at c.self.inside.past c.self.inside.sessions c.args.session x c.self.invariant.0 there

pub invariant_of-self : goal.invariant_of-self
invariant_of-self c =
    let old = c.self.inside in
    let b : Book = book_seen old.past old.sessions in
    let s = c.args.session in
    let f : Session → Session = used_by (served_by no_schema) b.db c.args.items c.args.monitors in
    let seen : Book = book_with old.past.db old.recent (all_seen old.sessions) in
    let uses : UsesUp seen s c.args.items c.args.monitors = subst (λ (d : Book). UsesUp d s c.args.items c.args.monitors) (sym c.self.view_is) c.requires in
    together c.carry_out.new.past c.carry_out.new.self old.owed old.interest (record b { sessions = at_number f b.sessions s })
    (tied_after old.past c.carry_out.new.past old.sessions c.carry_out.new.self s c.args.items c.args.monitors c.carry_out.ensures.carried c.self.invariant.0)
    (seen_after old.past c.carry_out.new.past old.sessions c.carry_out.new.self s c.args.items c.args.monitors c.carry_out.ensures.carried (recent_of 0 0) no_schema)
    (used_rest old.owed old.interest b s f (λ x there quiet. uses no_schema x there ∙ ap (λ (t : Option Out × Session). t.1) (quiet.1 no_schema (revision_in seen) refl)) c.self.invariant.1)

pub returns-clause-book : goal.returns-clause-book
returns-clause-book c = λ s.
    seen_after c.self.inside.past c.carry_out.new.past c.self.inside.sessions c.carry_out.new.self c.args.session c.args.items c.args.monitors c.carry_out.ensures.carried c.self.inside.recent s
    ∙ ap (λ (b : Book). let y : Book = record b { sessions = at_number (used_by (served_by s) b.db c.args.items c.args.monitors) b.sessions c.args.session } in y) c.self.view_is

pub returns-clause-text : goal.returns-clause-text
returns-clause-text c =
    c.carry_out.ensures.text ∙ text_seen c.args.items c.args.session c.self.inside.sessions
    ∙ ap (λ (b : Book). option_and_then (λ (x : Session). last_finished c.args.items x.queue) (finite.get b.sessions c.args.session)) c.self.view_is
