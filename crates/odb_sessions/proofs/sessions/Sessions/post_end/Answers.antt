use Rattle.std.proofs.Common.{rules, ◌≡◌, true, List, Some, None, map, option_map, subst, sym, ap, ◌∙◌}
use Rattle.std.proofs.lemmas.Result.{IfOk-weaker, on_err_weaker}
use Rattle.std.specs.Arc.{arc_value}
use Rattle.odb_atoms.specs.FinMap as finite
use Rattle.odb_queue.specs.Represented.Item.{item_of}
use Rattle.odb_sessions.specs.Asked.{ended_in}
use Rattle.odb_recent.specs.Recent.{recent_of}
use Rattle.odb_sessions.specs.Book.{Book, book_with}
use Rattle.odb_sessions.specs.Marked.{MarkedItem, MarkedSession, Sessions, all_seen, seen}
use Rattle.odb_sessions.specs.Posts.{at_number}
use Rattle.odb_sessions.specs.Represented.Item.{marked_item_of}
use Rattle.std.specs.BTreeSet.{Updates}
use Rattle.std.specs.Ordering.{nat_cmp}
use Rattle.odb_service.specs.Session.{Session}
use Rattle.odb_sessions.specs.Owed.{HangTogether, book_seen}
use Rattle.odb_sessions.specs.Tied.{IsTied}
use Rattle.odb_sessions.proofs.OwedSessions.{grown_rest, posted_rest, together}
use Rattle.odb_sessions.proofs.AnySchema.{no_schema}
use Rattle.odb_sessions.proofs.Endings.{ending_seen, ending_tied}
use Rattle.odb_sessions.proofs.Posts.{at_shut}
use Rattle.odb_sessions.proofs.Seen.{either_posted, unposts_seen}
use Rattle.odb_sessions.proofs.Ties.{get-seen}
use Rattle.odb_sessions.proofs.sessions.Sessions.post_end.Goals as goal

pub returns-in_default-clause-ok : goal.returns-in_default-clause-ok
returns-in_default-clause-ok c = λ schema.
    let m : Sessions = c.self.inside.sessions in
    let s = c.args.session in
    let shut : finite.get m s ≡ None = search rules in
    let none : finite.get (all_seen m) s ≡ None = get-seen m s ∙ ap (option_map seen) shut in
    subst (λ (b : Book). b ≡ (let y : Book = record b { sessions = at_number (ended_in schema (item_of c.args.reply)) b.sessions s } in y)) c.self.view_is
    (λ i. book_with c.self.inside.past.db c.self.inside.recent (sym (at_shut (ended_in schema (item_of c.args.reply)) (all_seen m) s none) i))

pub invariant_of-self-2 : goal.invariant_of-self-2
invariant_of-self-2 c =
    let old = c.self.inside in
    let k = old.past in
    let m : Sessions = old.sessions in
    let b : Book = book_seen k m in
    let s = c.args.session in
    let o = c.insert.new.self in
    let x : MarkedSession = c.in-Some.of.now in
    let there : finite.get m s ≡ Some x = search rules in
    let qs : List MarkedItem = map marked_item_of c.in_ok-items.items.items in
    let grown : Updates nat_cmp old.owed o s true = search rules in
    let f : Session → Session = ended_in no_schema (item_of c.args.reply) in
    either_posted c.post_each.result (HangTogether k c.post_each.new.self o old.interest)
    (c.post_each.ensures.ok) (c.post_each.ensures.err)
    (λ p is. together k c.post_each.new.self o old.interest (record b { sessions = at_number f b.sessions s }) (subst (IsTied k) (sym is) (ending_tied arc_value (item_of c.args.reply) k m s qs c.in_ok-ids.ids.items c.in_ok-items.ensures c.self.invariant.0))
    (λ i. book_with k.db (recent_of 0 0) ((ap all_seen is ∙ ending_seen arc_value (item_of c.args.reply) no_schema m s x qs c.in_ok-ids.ids.items there c.in_ok-items.ensures c.in_ok-ids.ensures) i))
    (posted_rest old.owed o old.interest b s f c.self.invariant.1 grown))
    (λ is. subst (λ (n : Sessions). HangTogether k n o old.interest) (sym is) (c.self.invariant.0, grown_rest old.owed o old.interest b s c.self.invariant.1 grown))

pub returns-clause-ok : goal.returns-clause-ok
returns-clause-ok c =
    let m : Sessions = c.self.inside.sessions in
    let s = c.args.session in
    let x : MarkedSession = c.in-Some.of.now in
    let there : finite.get m s ≡ Some x = search rules in
    let qs : List MarkedItem = map marked_item_of c.in_ok-items.items.items in
    IfOk-weaker c.post_each.result _ _
    (λ p is schema. (λ i. book_with c.self.inside.past.db c.self.inside.recent ((ap all_seen is ∙ ending_seen arc_value (item_of c.args.reply) schema m s x qs c.in_ok-ids.ids.items there c.in_ok-items.ensures c.in_ok-ids.ensures) i)) ∙ ap (λ (b : Book). let y : Book = record b { sessions = at_number (ended_in schema (item_of c.args.reply)) b.sessions s } in y) c.self.view_is)
    c.post_each.ensures.ok

pub returns-clause-back : goal.returns-clause-back
returns-clause-back c =
    IfOk-weaker c.post_each.result _ _
    (λ p is. sym (unposts_seen p.items c.post_each.new.self) ∙ ap all_seen is ∙ ap (λ (b : Book). b.sessions) c.self.view_is)
    c.post_each.ensures.back

pub returns-clause-err : goal.returns-clause-err
returns-clause-err c =
    on_err_weaker c.post_each.result
    (λ is. (λ i. book_with c.self.inside.past.db c.self.inside.recent (all_seen (is i))) ∙ c.self.view_is)
    c.post_each.ensures.err
