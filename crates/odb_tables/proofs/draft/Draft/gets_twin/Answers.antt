use Rattle.std.proofs.Common.{sym, ◌∙◌}
use Rattle.std.proofs.lemmas.Result.{IfOk-weaker}
use mathlib.Core.Bool.{true≢false}
use mathlib.Core.Logic.{inl, inr}
use Rattle.odb_tables.proofs.draft.Draft.gets_twin.Goals as goal

pub returns-then-is_alike : goal.returns-then-is_alike
returns-then-is_alike c = record { twin = λ e. absurd (true≢false (sym e)); apart = λ _. inl (c.is_alike.ensures c.if-is_alike.true) }

pub returns-clause-twin : goal.returns-clause-twin
returns-clause-twin c = IfOk-weaker c.has_twin.result _ _ (λ twin is e. sym is ∙ e) c.has_twin.ensures

pub returns-clause-apart : goal.returns-clause-apart
returns-clause-apart c = IfOk-weaker c.has_twin.result _ _ (λ twin is e. inr (sym is ∙ e)) c.has_twin.ensures
