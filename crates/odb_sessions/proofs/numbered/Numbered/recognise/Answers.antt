use Rattle.std.proofs.Common.{◌≡◌, subst, sym, ap, ◌∙◌}
use Rattle.odb_sessions.specs.Marked.{Sessions, all_seen}
use Rattle.odb_sessions.specs.Posts.{at_number}
use Rattle.odb_sessions.specs.Tied.{IsTied}
use Rattle.odb_sessions.specs.Watches.{with_watch}
use Rattle.odb_sessions.proofs.WatchTies.{named_seen, named_tied}
use Rattle.odb_sessions.proofs.numbered.Numbered.recognise.Goals as goal

pub returns-clause-seen : goal.returns-clause-seen
returns-clause-seen c =
    ap all_seen (c.set_watch.ensures ∙ ap (λ (m : Sessions). at_number (with_watch c.in-Some.watch.number) m c.args.session) c.share.ensures)
    ∙ named_seen c.args.self.now c.args.session c.in-Some.watch.number

pub returns-clause-tied : goal.returns-clause-tied
returns-clause-tied c = λ k h.
    subst (IsTied k) (sym (c.set_watch.ensures ∙ ap (λ (m : Sessions). at_number (with_watch c.in-Some.watch.number) m c.args.session) c.share.ensures))
    (named_tied k c.args.self.now c.args.session c.in-Some.watch.number c.in-Some.ensures h)
