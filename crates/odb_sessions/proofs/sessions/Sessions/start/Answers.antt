use Rattle.std.proofs.Common.{rules, ◌≡◌, true, [], ◌∷◌, Some, None, option_map, subst, sym, ap, ◌∙◌}
use Rattle.odb_atoms.specs.FinMap as finite
use Rattle.odb_chain.specs.Chains.{Chains}
use Rattle.odb_service.specs.World.{push}
use Rattle.odb_recent.specs.Recent.{recent_of}
use Rattle.odb_sessions.specs.Book.{Book, book_with}
use Rattle.odb_sessions.specs.Marked.{MarkedItem, MarkedSession, Sessions, all_seen, due, marks_due, marks_in, seen}
use Rattle.odb_sessions.specs.Posts.{at_number, posted}
use Rattle.odb_sessions.specs.Represented.Item.{marked_item_of}
use Rattle.odb_sessions.specs.Started.{started}
use Rattle.std.specs.BTreeSet.{Updates}
use Rattle.std.specs.Ordering.{nat_cmp}
use Rattle.odb_service.specs.Session.{Session}
use Rattle.odb_sessions.specs.Owed.{book_seen}
use Rattle.odb_sessions.specs.Tied.{Frees, IsTied}
use Rattle.odb_sessions.proofs.OwedSessions.{grown_rest, posted_rest, together}
use Rattle.odb_sessions.specs.declared.item.Item.{Item}
use Rattle.odb_sessions.proofs.Books.{there_is}
use Rattle.odb_sessions.proofs.Moved.{given_back, tied_handed}
use Rattle.odb_sessions.proofs.Posts.{at_shut}
use Rattle.odb_sessions.proofs.Seen.{handed_seen}
use Rattle.odb_sessions.proofs.Ties.{get-seen}
use Rattle.odb_sessions.proofs.sessions.Sessions.start.Goals as goal

pub returns-in_default-clause-ok : goal.returns-in_default-clause-ok
returns-in_default-clause-ok c =
    let m : Sessions = c.self.inside.sessions in
    let s = c.args.session in
    let shut : finite.get m s ≡ None = search rules in
    let none : finite.get (all_seen m) s ≡ None = get-seen m s ∙ ap (option_map seen) shut in
    subst (λ (b : Book). b ≡ (let y : Book = record b { sessions = posted b.sessions (s, started c.args.starting) } in y)) c.self.view_is
    (λ i. book_with c.self.inside.past.db c.self.inside.recent (sym (at_shut (push (started c.args.starting ∷ [])) (all_seen m) s none) i))

pub invariant_of-self-in_err-start : goal.invariant_of-self-in_err-start
invariant_of-self-in_err-start c =
    let m : Sessions = c.self.inside.sessions in
    let b : Book = book_seen c.self.inside.past m in
    let o = c.insert.new.self in
    let grown : Updates nat_cmp c.self.inside.owed o c.args.session true = search rules in
    together c.begin.new.past m o c.self.inside.interest b
    (subst (λ (k : Chains). IsTied k m) (sym c.in_err-start.ensures.err) c.self.invariant.0)
    (λ j. book_seen (c.in_err-start.ensures.err j) m)
    (grown_rest c.self.inside.owed o c.self.inside.interest b c.args.session c.self.invariant.1 grown)

pub invariant_of-self-in-Ok : goal.invariant_of-self-in-Ok
invariant_of-self-in-Ok c =
    let m : Sessions = c.self.inside.sessions in
    let s = c.args.session in
    let new : Chains = c.begin.new.past in
    let q : MarkedItem = due c.in_ok-start.start.origin c.in_ok-start.start.monitor in
    let found : (x : MarkedSession) × (finite.get m s ≡ Some x) = there_is (finite.get m s) c.in-Ok.ensures.is_open in
    let b : Book = book_seen c.self.inside.past m in
    let o = c.insert.new.self in
    let grown : Updates nat_cmp c.self.inside.owed o s true = search rules in
    let f : Session → Session = push (started c.args.starting ∷ []) in
    together new c.hand.new.self o c.self.inside.interest (record b { sessions = at_number f b.sessions s })
    (subst (IsTied new) (sym c.in-Ok.ensures.ok) (tied_handed c.self.inside.past new m s q c.self.invariant.0 found.0 found.1 c.in_ok-start.ensures.ok))
    (λ i. book_with (c.in_ok-start.ensures.ok.0 i) (recent_of 0 0) ((ap all_seen c.in-Ok.ensures.ok ∙ handed_seen m q s ∙ ap (λ j. at_number (push (j ∷ [])) (all_seen m) s) c.in_ok-start.ensures.item) i))
    (posted_rest c.self.inside.owed o c.self.inside.interest b s f c.self.invariant.1 grown)

pub invariant_of-self-in-Err : goal.invariant_of-self-in-Err
invariant_of-self-in-Err c =
    let m : Sessions = c.self.inside.sessions in
    let made : Chains = c.begin.new.past in
    let new : Chains = c.release.new.past in
    let frees : Frees made new (marks_in c.in_ok-start.start.monitor) = subst (λ (i : Item). Frees made new (marks_due (marked_item_of i))) c.in-Err.ensures.handed_back c.release.ensures in
    let k : Chains = c.self.inside.past in
    let o = c.insert.new.self in
    let b : Book = book_seen k m in
    let grown : Updates nat_cmp c.self.inside.owed o c.args.session true = search rules in
    let same : new.db ≡ k.db = frees.0 ∙ c.in_ok-start.ensures.ok.0 in
    together new c.hand.new.self o c.self.inside.interest b
    (subst (IsTied new) (sym c.in-Err.ensures.err) (given_back k made new m (marks_in c.in_ok-start.start.monitor) c.self.invariant.0 c.in_ok-start.ensures.ok frees))
    (λ i. book_with (same i) (recent_of 0 0) (all_seen (c.in-Err.ensures.err i)))
    (grown_rest c.self.inside.owed o c.self.inside.interest b c.args.session c.self.invariant.1 grown)

pub returns-in-Ok-clause-ok : goal.returns-in-Ok-clause-ok
returns-in-Ok-clause-ok c =
    let m : Sessions = c.self.inside.sessions in
    let s = c.args.session in
    let q : MarkedItem = due c.in_ok-start.start.origin c.in_ok-start.start.monitor in
    (λ i. book_with (c.in_ok-start.ensures.ok.0 i) c.self.inside.recent ((ap all_seen c.in-Ok.ensures.ok ∙ handed_seen m q s ∙ ap (λ j. at_number (push (j ∷ [])) (all_seen m) s) c.in_ok-start.ensures.item) i))
    ∙ ap (λ (b : Book). let y : Book = record b { sessions = posted b.sessions (s, started c.args.starting) } in y) c.self.view_is
