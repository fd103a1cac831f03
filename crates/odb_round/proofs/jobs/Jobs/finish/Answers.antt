use Rattle.std.proofs.Common.{rules, ◌≡◌, ◌≤◌, List, [], arith, length, map, sym, ap, ◌∙◌}
use Rattle.std.specs.Prelude.{vec_capacity}
use Rattle.odb_monitor.specs.Job.{Job}
use Rattle.odb_round.specs.Jobs.{Round}
use Rattle.odb_sessions.specs.Composed.{composition}
use Rattle.odb_sessions.specs.Represented.Composed.{bytes_in}
use Rattle.odb_round.proofs.Pendings.{as_many_ready}
use Rattle.odb_round.proofs.jobs.Jobs.finish.Goals as goal

pub invariant_of-result : goal.invariant_of-result
invariant_of-result c =
    let js : List Job = c.self.inside.jobs.items in
    let bodies : map bytes_in c.args.bodies.now ≡ map composition js = c.requires ∙ ap (λ (r : Round). map composition r.jobs) (sym c.self.view_is) in
    let many : length c.in_ok-takings.takings.items ≡ length c.self.inside.takings.items = as_many_ready js c.in_ok-takings.takings.items c.self.inside.takings.items (c.in_ok-takings.ensures js bodies) in
    let none : c.in_ok-outs.outs.items ≡ [] = search rules in
    let room : length c.self.inside.takings.items ≤ vec_capacity c.in_ok-outs.outs = search rules in
    (none, omega (arith, many, room))

pub returns : goal.returns
returns c =
    let js : List Job = c.self.inside.jobs.items in
    let bodies : map bytes_in c.args.bodies.now ≡ map composition js = c.requires ∙ ap (λ (r : Round). map composition r.jobs) (sym c.self.view_is) in
    c.in_ok-takings.ensures js bodies ∙ ap (λ (r : Round). r.takings) c.self.view_is
