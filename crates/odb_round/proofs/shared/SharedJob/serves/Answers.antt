use Rattle.std.proofs.Common.{rules, ◌≡◌, true, sym, ap, ◌∙◌}
use Rattle.odb_sessions.specs.Marked.{MarkedMonitor}
use Rattle.odb_round.specs.Jobs.{Shared}
use Rattle.odb_round.proofs.SharedPlaces.{serves_like}
use Rattle.odb_round.proofs.shared.SharedJob.serves.Goals as goal

pub returns-then-same_watch : goal.returns-then-same_watch
returns-then-same_watch c = λ is m alike shared known.
    let e : Shared = c.args.self.now in
    let x : MarkedMonitor = c.self.inside.monitor.now in
    let likeness = ap (λ (d : Shared). d.likeness) (sym c.self.view_is) in
    let same : c.same_watch.result ≡ true = search rules in
    likeness ∙ serves_like m e x c.args.monitor.now c.args.watch alike shared known (ap (λ (d : Shared). d.watch) (sym c.self.view_is) ∙ c.same_watch.ensures same) likeness (c.stands_as.ensures is)
