use Rattle.std.proofs.Common.{rules, ◌≡◌, ℕ, Bor, List, [], Option, flat_map, subst, sym, ap, ◌∙◌}
use Rattle.std.specs.BTreeMap.{IsOrdered}
use Rattle.std.specs.Ordering.{nat_cmp}
use Rattle.odb_chain.specs.Chains.{Mark}
use Rattle.odb_sessions.specs.Marked.{MarkedSession}
use Rattle.odb_sessions.specs.Tied.{all_marks, entry_marks}
use Rattle.odb_sessions.proofs.Lent.{Lends, lends_all}
use Rattle.odb_sessions.proofs.Numbers.{entries-under, marks-filled, marks_under}
use Rattle.odb_sessions.proofs.numbered.Numbered.marks.Goals as goal

pub returns : goal.returns
returns c =
    let old = c.loop-key in
    let index : List (ℕ × ℕ) = c.self.inside.keys.entries in
    let slots : List (Option MarkedSession) = c.self.inside.sessions.slots in
    let ordered : IsOrdered nat_cmp c.self.inside.keys = c.iter-key-items.ensures.ordered in
    let all : c.into_iter-key-iterator.result ≡ index = search rules in
    let none : old.key-iterator ≡ [] = c.in-None.ensures.steps.0 in
    let start : c.new-marks.result.items ≡ [] = search rules in
    lends_all (marks_under slots) [] old.marks.items index old.key-iterator none
    (subst (λ (ms : List (Bor Mark)). Lends (marks_under slots) ms index old.marks.items old.key-iterator) start (subst (λ (es : List (ℕ × ℕ)). Lends (marks_under slots) c.new-marks.result.items es old.marks.items old.key-iterator) all old.invariant))
    ∙ marks-filled slots index ∙ ap (flat_map entry_marks) (sym (entries-under index slots ordered)) ∙ ap all_marks c.self.view_is
