use Rattle.std.proofs.Common.{rules, ◌≡◌, [], ◌∷◌, ◌++◌, sym, ap, ◌∙◌}
use Rattle.odb_sessions.specs.Book.{Book}
use Rattle.odb_sessions.specs.Committed.{without_posts}
use Rattle.odb_sessions.proofs.Books.{back-append, back_one}
use Rattle.odb_sessions.proofs.sessions.Sessions.take_back.Goals as goal

pub loop-session-preserved : goal.loop-session-preserved
loop-session-preserved c =
    let left = c.pop.new.self.items in
    let old : Book = c.loop-session.self in
    let popped : c.loop-session.posted_to.items ≡ left ++ c.in-Some.session ∷ [] = search rules in
    let taken : c.take_newest_back.new.self ≡ back_one c.in-Some.session old = c.take_newest_back.ensures in
    ap (without_posts left) taken ∙ sym (back-append left c.in-Some.session old) ∙ ap (λ ss. without_posts ss old) (sym popped) ∙ c.loop-session.invariant

pub returns : goal.returns
returns c =
    let old : Book = c.loop-session.self in
    let none : c.loop-session.posted_to.items ≡ [] = search rules in
    sym (ap (λ ss. without_posts ss old) none) ∙ c.loop-session.invariant
