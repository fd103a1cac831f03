use Rattle.std.proofs.Common.{refl, ap, subst}
use Rattle.std.specs.List.{All}
use Rattle.odb_sessions.specs.Book.{revision_at}
use Rattle.odb_sessions.specs.FirstTexts.{IsOfNow}
use Rattle.odb_round.specs.Jobs.{AreEachOnce, Wanted}
use Rattle.odb_round.proofs.wanted.Wanted.into_jobs.Goals as goal

pub returns-clause-jobs : goal.returns-clause-jobs
returns-clause-jobs c = ap (λ (w : Wanted). w.jobs) c.self.view_is

pub returns-clause-now : goal.returns-clause-now
returns-clause-now c = subst (λ (w : Wanted). All (IsOfNow w.chains.db) c.self.inside.listed.jobs.items) c.self.view_is c.self.invariant.0.2

pub returns-clause-once : goal.returns-clause-once
returns-clause-once c =
    subst (λ (w : Wanted). AreEachOnce w.chains (revision_at w.chains w.recent) c.self.inside.listed.jobs.items c.self.inside.listed.askings.items) c.self.view_is
    (c.self.invariant.0.4, (c.self.inside.recent.now.undos, refl, c.self.invariant.0.5))

pub returns-clause-likenesses : goal.returns-clause-likenesses
returns-clause-likenesses c = ap (λ (w : Wanted). w.likenesses) c.self.view_is
