use Rattle.std.proofs.Common.{rules, ◌≡◌, ◌+◌, Some, subst, sym, ◌∙◌}
use Rattle.std.proofs.lemmas.Option.{same_Some}
use Rattle.odb_atoms.specs.FinMap as finite
use Rattle.odb_sessions.specs.Marked.{MarkedSession}
use Rattle.odb_sessions.specs.Watches.{Joins, with_watch}
use Rattle.odb_sessions.proofs.WatchNumbers.{joins_new}
use Rattle.odb_sessions.proofs.numbered.Numbered.watch_for.Goals as goal

pub returns-in-Some-watch_like : goal.returns-in-Some-watch_like
returns-in-Some-watch_like c = λ x at.
    let of : MarkedSession = c.in-Some.of.now in
    let there : finite.get c.args.self.now c.args.session ≡ Some of = search rules in
    subst (λ (y : MarkedSession). Joins c.args.self.now (with_watch c.in-Some-watch_like.number y)) (same_Some of x (sym there ∙ at)) c.in-Some-watch_like.ensures

pub returns : goal.returns
returns c = λ x at.
    let next : c.in_ok-number.number ≡ c.greatest_watch.result + 1 = search rules in
    joins_new c.args.self.now c.greatest_watch.result c.in_ok-number.number x c.greatest_watch.ensures next
