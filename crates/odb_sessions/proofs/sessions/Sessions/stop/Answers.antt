use Rattle.std.proofs.Common.{rules, true, List, map, subst, sym, ap, ◌∙◌}
use Rattle.std.specs.BTreeSet.{Updates}
use Rattle.std.specs.Ordering.{nat_cmp}
use Rattle.odb_rpc.specs.Represented.Printable.{printable_data}
use Rattle.odb_service.specs.Session.{Session, stopped, sync}
use Rattle.odb_wire.specs.Shown.{request_data}
use Rattle.odb_recent.specs.Recent.{recent_of}
use Rattle.odb_sessions.specs.Book.{Book, book_with}
use Rattle.odb_sessions.specs.Marked.{MarkedItem, Sessions, all_seen}
use Rattle.odb_sessions.specs.Posts.{at_number}
use Rattle.odb_sessions.specs.Represented.Item.{marked_item_of}
use Rattle.odb_sessions.specs.Stopped.{stopped_in}
use Rattle.odb_sessions.specs.Owed.{HangTogether, book_seen}
use Rattle.odb_sessions.specs.Tied.{IsTied}
use Rattle.odb_sessions.proofs.OwedSessions.{grown_rest, posted_rest, together}
use Rattle.odb_sessions.proofs.Stops.{two_seen, two_tied}
use Rattle.odb_sessions.proofs.sessions.Sessions.stop.Goals as goal

pub invariant_of-self-in_err-post_each : goal.invariant_of-self-in_err-post_each
invariant_of-self-in_err-post_each c =
    let old = c.self.inside in
    let grown : Updates nat_cmp old.owed c.insert.new.self c.args.session true = search rules in
    subst (λ (n : Sessions). HangTogether old.past n c.insert.new.self old.interest) (sym c.in_err-post_each.ensures.err)
    (c.self.invariant.0, grown_rest old.owed c.insert.new.self old.interest (book_seen old.past old.sessions) c.args.session c.self.invariant.1 grown)

pub invariant_of-self-2 : goal.invariant_of-self-2
invariant_of-self-2 c =
    let old = c.self.inside in
    let b : Book = book_seen old.past old.sessions in
    let s = c.args.session in
    let qs : List MarkedItem = map marked_item_of c.in_ok-items.items.items in
    let grown : Updates nat_cmp old.owed c.insert.new.self s true = search rules in
    let f : Session → Session = stopped_in (request_data c.args.request.now) (printable_data c.args.id) in
    together old.past c.post_each.new.self c.insert.new.self old.interest (record b { sessions = at_number f b.sessions s })
    (subst (IsTied old.past) (sym c.in_ok-post_each.ensures.ok) (two_tied (sync (printable_data c.args.id)) (stopped (request_data c.args.request.now) (printable_data c.args.id)) qs c.in_ok-items.ensures old.past old.sessions s c.self.invariant.0))
    (λ i. book_with b.db (recent_of 0 0) ((ap all_seen c.in_ok-post_each.ensures.ok ∙ two_seen (sync (printable_data c.args.id)) (stopped (request_data c.args.request.now) (printable_data c.args.id)) qs c.in_ok-items.ensures old.sessions s) i))
    (posted_rest old.owed c.insert.new.self old.interest b s f c.self.invariant.1 grown)

pub returns-clause-ok : goal.returns-clause-ok
returns-clause-ok c =
    let m : Sessions = c.self.inside.sessions in
    let qs : List MarkedItem = map marked_item_of c.in_ok-items.items.items in
    (λ i. book_with c.self.inside.past.db c.self.inside.recent ((ap all_seen c.in_ok-post_each.ensures.ok ∙ two_seen (sync (printable_data c.args.id)) (stopped (request_data c.args.request.now) (printable_data c.args.id)) qs c.in_ok-items.ensures m c.args.session) i))
    ∙ ap (λ (b : Book). let y : Book = record b { sessions = at_number (stopped_in (request_data c.args.request.now) (printable_data c.args.id)) b.sessions c.args.session } in y) c.self.view_is
