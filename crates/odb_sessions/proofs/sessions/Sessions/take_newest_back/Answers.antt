use Rattle.std.proofs.Common.{rules, ◌≡◌, [], ◌∷◌, Some, None, subst, sym, ap, ◌∙◌}
use Rattle.odb_recent.specs.Recent.{recent_of}
use Rattle.odb_sessions.specs.Book.{Book, book_with}
use Rattle.odb_sessions.specs.Marked.{MarkedItem, Sessions, all_seen}
use Rattle.odb_sessions.specs.Posts.{newest_at}
use Rattle.odb_sessions.specs.Represented.Item.{marked_item_of}
use Rattle.odb_sessions.specs.Owed.{HangTogether, book_seen}
use Rattle.odb_sessions.specs.Tied.{IsTied}
use Rattle.odb_sessions.proofs.OwedSessions.{together, unposted_rest}
use Rattle.odb_sessions.proofs.Books.{back_one}
use Rattle.odb_sessions.proofs.Moved.{has_newest, none_taken_back, tied_taken_back}
use Rattle.odb_sessions.proofs.Seen.{taken_back_seen}
use Rattle.odb_sessions.proofs.sessions.Sessions.take_newest_back.Goals as goal

pub release-requires : goal.release-requires
release-requires c =
    let m : Sessions = c.self.inside.sessions in
    let q : MarkedItem = marked_item_of c.in-Some.item in
    let newest : newest_at m c.args.session ≡ Some q = search rules in
    has_newest c.self.inside.past m c.args.session q c.self.invariant.0 newest

pub invariant_of-self-2 : goal.invariant_of-self-2
invariant_of-self-2 c =
    let m : Sessions = c.self.inside.sessions in
    let q : MarkedItem = marked_item_of c.in-Some.item in
    let newest : newest_at m c.args.session ≡ Some q = search rules in
    let s = c.args.session in
    let b : Book = book_seen c.self.inside.past m in
    together c.release.new.past c.take_newest.new.self c.self.inside.owed c.self.inside.interest (back_one s b)
    (subst (IsTied c.release.new.past) (sym c.take_newest.ensures.sessions) (tied_taken_back c.self.inside.past c.release.new.past m s q c.self.invariant.0 newest c.release.ensures))
    (λ i. book_with (c.release.ensures.0 i) (recent_of 0 0) ((ap all_seen c.take_newest.ensures.sessions ∙ taken_back_seen m s) i))
    (unposted_rest c.self.inside.owed c.self.inside.interest b (s ∷ []) c.self.invariant.1)

pub returns : goal.returns
returns c =
    let m : Sessions = c.self.inside.sessions in
    let s = c.args.session in
    (λ i. book_with (c.release.ensures.0 i) c.self.inside.recent ((ap all_seen c.take_newest.ensures.sessions ∙ taken_back_seen m s) i)) ∙ ap (back_one s) c.self.view_is

pub invariant_of-self : goal.invariant_of-self
invariant_of-self c =
    let m : Sessions = c.self.inside.sessions in
    let none : newest_at m c.args.session ≡ None = search rules in
    subst (λ (n : Sessions). HangTogether c.self.inside.past n c.self.inside.owed c.self.inside.interest) (sym (c.take_newest.ensures.sessions ∙ none_taken_back m c.args.session none)) c.self.invariant

pub returns-in_default : goal.returns-in_default
returns-in_default c =
    let m : Sessions = c.self.inside.sessions in
    let s = c.args.session in
    (λ i. book_with c.self.inside.past.db c.self.inside.recent ((ap all_seen c.take_newest.ensures.sessions ∙ taken_back_seen m s) i)) ∙ ap (back_one s) c.self.view_is
