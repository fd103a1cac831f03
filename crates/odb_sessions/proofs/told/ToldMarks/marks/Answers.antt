use Rattle.std.proofs.Common.{map, ap, subst, sym, ◌∙◌}
use Rattle.std.proofs.lemmas.Result.{IfOk-weaker}
use Rattle.odb_chain.specs.Marks.{AreAllMarks}
use Rattle.odb_sessions.specs.Tied.{all_marks}
use Rattle.odb_sessions.specs.Told.{ToldMarks}
use Rattle.odb_sessions.proofs.told.ToldMarks.marks.Goals as goal

pub returns-clause-marks : goal.returns-clause-marks
returns-clause-marks c = IfOk-weaker c.marks.result _ _ (λ marks are. are ∙ ap (λ (t : ToldMarks). all_marks t.sessions) c.self.view_is) c.marks.ensures

pub returns-clause-all : goal.returns-clause-all
returns-clause-all c =
    IfOk-weaker c.marks.result _ _ (λ marks are. subst (λ (t : ToldMarks). AreAllMarks t.chains (map (λ m. m.now) marks.items)) c.self.view_is (subst (AreAllMarks c.self.inside.chains.now) (sym are) c.self.invariant)) c.marks.ensures
