use Rattle.std.proofs.Common.{rules, ◌≡◌, ◌++◌, List, [], ◌∷◌, append-nil, append_assoc, length, sym, ap, ◌∙◌}
use Rattle.std.proofs.lemmas.List.{nil_from_length}
use Rattle.odb_monitor.specs.Job.{Part}
use Rattle.odb_par.proofs.picking.known_parts.Goals as goal

pub loop-part-init : goal.loop-part-init
loop-part-init g c =
    let none : c.in_ok-known.known.items ≡ [] = search rules in
    ap (λ (ks : List Part). ks ++ c.into_iter-part-iterator.result.rest.items) none

pub loop-part-preserved : goal.loop-part-preserved
loop-part-preserved g c =
    let known : List Part = c.loop-part.known.items in
    let found : Part = c.in_ok-found.found in
    let p : Part = c.in-Some.part in
    let ps : List Part = c.next.new.self.rest.items in
    let steps : c.loop-part.part-iterator.rest.items ≡ p ∷ ps = c.in-Some.ensures.steps.0 in
    let grown : c.push.new.self.items ≡ known ++ found ∷ [] = search rules in
    let same : found ≡ p = c.in_ok-found.ensures in
    ap (λ (ks : List Part). ks ++ ps) grown ∙ append_assoc known (found ∷ []) ps ∙ ap (λ (q : Part). known ++ q ∷ ps) same ∙ ap (λ (qs : List Part). known ++ qs) (sym steps) ∙ c.loop-part.invariant

pub returns : goal.returns
returns g c =
    let known : List Part = c.loop-part.known.items in
    let zero : length c.loop-part.part-iterator.rest.items ≡ 0 = search rules in
    let none : c.loop-part.part-iterator.rest.items ≡ [] = nil_from_length c.loop-part.part-iterator.rest.items zero in
    let all : c.into_iter-part-iterator.result.rest.items ≡ c.args.parts.items = c.into_iter-part-iterator.ensures.into_iter_gives.0 in
    sym (append-nil known) ∙ ap (λ (qs : List Part). known ++ qs) (sym none) ∙ c.loop-part.invariant ∙ all
