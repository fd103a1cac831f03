use Rattle.std.proofs.Common.{rules, ◌≡◌, ◌+◌, ◌<◌, ◌^◌, List, [], ◌∷◌, length, sym, ap, subst, ◌∙◌}
use Rattle.std.proofs.lemmas.List.{nil_from_length}
use Rattle.odb_recent.specs.Recent.{Recent, noted}
use Rattle.odb_recent.specs.Undo.{Undo}
use Rattle.odb_sessions.specs.Committed.{all_noted}
use Rattle.odb_sessions.proofs.InTurn.{one_fits, rest_fits}
use Rattle.odb_sessions.proofs.ends.push_commits.Goals as goal

pub push-requires : goal.push-requires
push-requires c =
    let old = c.loop-undo in
    let rest : List Undo = c.next.new.self.rest.items in
    let step : old.undo-iterator.rest.items ≡ c.in-Some.undo ∷ rest = search rules in
    one_fits (2 ^ 64) old.recent.commits (length old.undo-iterator.rest.items) (length rest) (ap length step) old.invariant.few

pub loop-undo-preserved : goal.loop-undo-preserved
loop-undo-preserved c =
    let old = c.loop-undo in
    let rest : List Undo = c.next.new.self.rest.items in
    let step : old.undo-iterator.rest.items ≡ c.in-Some.undo ∷ rest = search rules in
    let is : c.push.new.self ≡ noted c.in-Some.undo old.recent = search rules in
    record {
      noted = ap (all_noted rest) is ∙ ap (λ (us : List Undo). all_noted us old.recent) (sym step) ∙ old.invariant.noted;
      few = subst (λ (r : Recent). r.commits + length rest < 2 ^ 64) (sym is) (rest_fits (2 ^ 64) old.recent.commits (length old.undo-iterator.rest.items) (length rest) (ap length step) old.invariant.few);
    }

pub returns : goal.returns
returns c =
    let old = c.loop-undo in
    let all : c.into_iter-undo-iterator.result.rest.items ≡ c.args.undos.items = search rules in
    let long : length old.undo-iterator.rest.items ≡ old.undo-iterator.rest.len = search rules in
    let none : old.undo-iterator.rest.items ≡ [] = nil_from_length old.undo-iterator.rest.items (long ∙ c.in-None.ensures.steps.0) in
    sym (ap (λ (us : List Undo). all_noted us old.recent) none) ∙ old.invariant.noted
    ∙ ap (λ (us : List Undo). all_noted us c.args.recent.now) all
