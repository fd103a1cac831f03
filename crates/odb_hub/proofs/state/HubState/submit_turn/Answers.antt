use Rattle.std.proofs.Common.{rules, ◌≡◌, List, [], ◌∷◌, ◌++◌}
use Rattle.odb_hub.specs.Guarded.{Takes}
use Rattle.odb_hub.specs.Represented.Submission.{event_of}
use Rattle.odb_hub.specs.declared.submission.Submission.{Submission}
use Rattle.odb_hub.proofs.Batches.{took_turn}
use Rattle.odb_hub.proofs.state.HubState.submit_turn.Goals as goal

pub loop-taken-preserved : goal.loop-taken-preserved
loop-taken-preserved g c =
    let xs : List Submission = c.loop-taken.batch.items in
    let ys : List Submission = c.pop.new.self.items in
    let x : Submission = c.in-Some.submission in
    let popped : xs ≡ ys ++ x ∷ [] = search rules in
    let takes : Takes (event_of c.args.session c.args.now x) c.loop-taken.self c.submit.new.self [] = search rules in
    let rings : c.submit.new.self.rings ≡ c.loop-taken.self.rings = search rules in
    took_turn c.args.session c.args.now c.args.batch.now.items xs ys x c.args.self.now c.loop-taken.self c.submit.new.self c.loop-taken.taken c.loop-taken.invariant popped takes rings

pub returns-then-is_empty-clause-taken : goal.returns-then-is_empty-clause-taken
returns-then-is_empty-clause-taken g c =
    let xs : List Submission = c.loop-taken.batch.items in
    let ys : List Submission = c.pop.new.self.items in
    let x : Submission = c.in-Some.submission in
    let popped : xs ≡ ys ++ x ∷ [] = search rules in
    let takes : Takes (event_of c.args.session c.args.now x) c.loop-taken.self c.submit.new.self [] = search rules in
    let rings : c.submit.new.self.rings ≡ c.loop-taken.self.rings = search rules in
    (took_turn c.args.session c.args.now c.args.batch.now.items xs ys x c.args.self.now c.loop-taken.self c.submit.new.self c.loop-taken.taken c.loop-taken.invariant popped takes rings).0
