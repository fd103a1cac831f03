use Rattle.std.proofs.Common.{rules, ◌≡◌, ◌<◌, true, List, Some, length, slice_index_or, subst, sym, ap, ◌∙◌}
use Rattle.std.specs.Bool.{OnTrue}
use Rattle.odb_sessions.specs.FirstTexts.{AsksSo, FirstText, IsFirstText}
use Rattle.odb_sessions.specs.Marked.{MarkedMonitor}
use Rattle.odb_sessions.proofs.KeptTexts.{found_first}
use Rattle.odb_sessions.proofs.first_texts.FirstTexts.find.Goals as goal

pub returns-then-serves : goal.returns-then-serves
returns-then-serves c = λ db all.
    let xs : List FirstText = c.self.inside.texts.items in
    let i = c.loop-first.first-index in
    let x : FirstText = c.first-item.result in
    let y : MarkedMonitor = c.args.monitor.now in
    let inside : i < length xs = search rules in
    let is : x ≡ slice_index_or xs i x = search rules in
    let one : IsFirstText db x = subst (IsFirstText db) (sym is) (subst (λ (fs : List FirstText). IsFirstText db (slice_index_or fs i x)) (sym c.self.view_is) (all i x (subst (λ (fs : List FirstText). i < length fs) c.self.view_is inside))) in
    let serves : c.serves.result ≡ true = search rules in
    let so : AsksSo x y = subst (λ b. OnTrue b (AsksSo x y)) serves c.serves.ensures in
    ap Some c.text.ensures ∙ found_first db x y so one
