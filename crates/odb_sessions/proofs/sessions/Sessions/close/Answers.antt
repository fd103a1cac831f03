use Rattle.std.proofs.Common.{rules, ◌≡◌, false, Some, None, subst, sym, ap, ◌∙◌}
use Rattle.odb_atoms.specs.FinMap as finite
use Rattle.odb_recent.specs.Recent.{recent_of}
use Rattle.odb_sessions.specs.Book.{Book, book_with}
use Rattle.odb_sessions.specs.Marked.{Sessions, all_seen}
use Rattle.std.specs.BTreeSet.{Updates}
use Rattle.std.specs.Ordering.{nat_cmp}
use Rattle.odb_sessions.specs.Owed.{book_seen}
use Rattle.odb_sessions.specs.Tied.{IsTied}
use Rattle.odb_sessions.proofs.OwedSessions.{closed_rest, together}
use Rattle.odb_sessions.proofs.Ties.{has_all, seen-remove, tied_closed, tied_shut}
use Rattle.odb_sessions.proofs.sessions.Sessions.close.Goals as goal

pub release-requires : goal.release-requires
release-requires c =
    let m : Sessions = c.self.inside.sessions in
    let there : finite.get m c.args.session ≡ Some c.in-Some.closed = search rules in
    has_all c.self.inside.past m c.args.session c.in-Some.closed c.self.invariant.0 there

pub invariant_of-self-2 : goal.invariant_of-self-2
invariant_of-self-2 c =
    let m : Sessions = c.self.inside.sessions in
    let there : finite.get m c.args.session ≡ Some c.in-Some.closed = search rules in
    let s = c.args.session in
    let b : Book = book_seen c.self.inside.past m in
    let out : Updates nat_cmp c.self.inside.owed c.remove.new.self s false = search rules in
    together c.release.new.past c.remove-2.new.self c.remove.new.self c.forget.new.self (record b { sessions = finite.remove b.sessions s })
    (subst (IsTied c.release.new.past) (sym c.remove-2.ensures.sessions) (tied_closed c.self.inside.past c.release.new.past m s c.in-Some.closed c.self.invariant.0 there c.release.ensures))
    (λ i. book_with (c.release.ensures.0 i) (recent_of 0 0) ((ap all_seen c.remove-2.ensures.sessions ∙ seen-remove m s) i))
    (closed_rest c.self.inside.owed c.remove.new.self c.self.inside.interest c.forget.new.self b s c.self.invariant.1 out c.forget.ensures)

pub returns : goal.returns
returns c =
    let m : Sessions = c.self.inside.sessions in
    let s = c.args.session in
    (λ i. book_with (c.release.ensures.0 i) c.self.inside.recent ((ap all_seen c.remove-2.ensures.sessions ∙ seen-remove m s) i)) ∙ ap (λ (b : Book). let y : Book = record b { sessions = finite.remove b.sessions s } in y) c.self.view_is

pub invariant_of-self : goal.invariant_of-self
invariant_of-self c =
    let m : Sessions = c.self.inside.sessions in
    let shut : finite.get m c.args.session ≡ None = search rules in
    let s = c.args.session in
    let k = c.self.inside.past in
    let b : Book = book_seen k m in
    let out : Updates nat_cmp c.self.inside.owed c.remove.new.self s false = search rules in
    together k c.remove-2.new.self c.remove.new.self c.forget.new.self (record b { sessions = finite.remove b.sessions s })
    (subst (IsTied k) (sym c.remove-2.ensures.sessions) (tied_shut k m s c.self.invariant.0 shut))
    (λ i. book_with k.db (recent_of 0 0) ((ap all_seen c.remove-2.ensures.sessions ∙ seen-remove m s) i))
    (closed_rest c.self.inside.owed c.remove.new.self c.self.inside.interest c.forget.new.self b s c.self.invariant.1 out c.forget.ensures)

pub returns-in_default : goal.returns-in_default
returns-in_default c =
    let m : Sessions = c.self.inside.sessions in
    let s = c.args.session in
    (λ i. book_with c.self.inside.past.db c.self.inside.recent ((ap all_seen c.remove-2.ensures.sessions ∙ seen-remove m s) i)) ∙ ap (λ (b : Book). let y : Book = record b { sessions = finite.remove b.sessions s } in y) c.self.view_is
