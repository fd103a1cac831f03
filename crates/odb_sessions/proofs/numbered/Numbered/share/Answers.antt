use Rattle.std.proofs.Common.{rules, ◌≡◌, Some, option_map, ◌∙◌}
use Rattle.odb_atoms.specs.FinMap as finite
use Rattle.odb_sessions.specs.Marked.{MarkedSession}
use Rattle.odb_sessions.proofs.Posts.{kept_at}
use Rattle.odb_sessions.proofs.numbered.Numbered.share.Goals as goal

pub returns : goal.returns
returns c =
    let there : finite.get c.args.self.now c.args.session ≡ Some c.in-Some.of.now = search rules in
    let new : MarkedSession = record { queue = c.of.inside.queue; monitors = c.share_each.new.monitors.items; watch = option_map (λ w. w.number) c.of.inside.watch } in
    let same : new ≡ c.in-Some.of.now = (λ j. let y : MarkedSession = record { queue = c.of.inside.queue; monitors = c.share_each.ensures.monitors j; watch = option_map (λ w. w.number) c.of.inside.watch } in y) ∙ c.of.view_is in
    kept_at c.args.self.now c.args.session c.in-Some.of.now new there same
