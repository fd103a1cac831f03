use Rattle.std.proofs.Common.{rules, ◌≡◌, [], ◌∷◌, ◌++◌, sym, ap, ◌∙◌}
use Rattle.odb_sessions.specs.Posts.{at_number, marked_unposted, without_newest}
use Rattle.odb_sessions.proofs.Posts.{marked_unposted-append}
use Rattle.odb_sessions.proofs.numbered.Numbered.unpost.Goals as goal

pub loop-session-preserved : goal.loop-session-preserved
loop-session-preserved c =
    let left = c.pop.new.self.items in
    let popped : c.loop-session.posted_to.items ≡ left ++ c.in-Some.session ∷ [] = search rules in
    let taken : c.take_newest.new.self ≡ at_number without_newest c.loop-session.self c.in-Some.session = search rules in
    ap (marked_unposted left) taken ∙ sym (marked_unposted-append left c.in-Some.session c.loop-session.self)
    ∙ ap (λ ts. marked_unposted ts c.loop-session.self) (sym popped) ∙ c.loop-session.invariant
