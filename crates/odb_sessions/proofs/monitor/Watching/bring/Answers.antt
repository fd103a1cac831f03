use Rattle.std.proofs.Common.{[], ◌∷◌, subst, sym}
use Rattle.odb_sessions.specs.Marked.{Watched}
use Rattle.odb_sessions.specs.Moved.{Moves}
use Rattle.odb_sessions.specs.Tied.{HasAll}
use Rattle.odb_sessions.proofs.monitor.Watching.bring.Goals as goal

pub advance-requires-clause-has : goal.advance-requires-clause-has
advance-requires-clause-has c = subst (λ (x : Watched). HasAll c.args.past.now (x.mark ∷ [])) (sym c.self.view_is) c.requires.has

pub returns-clause-moved : goal.returns-clause-moved
returns-clause-moved c = subst (λ (x : Watched). Moves c.args.past.now c.advance.new.self (x.mark ∷ [])) c.self.view_is c.advance.ensures.moved
