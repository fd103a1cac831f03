use Rattle.std.proofs.Common.{rules, ◌≡◌, ◌++◌, refl, ap, ◌∙◌}
use Rattle.serde_json.specs.Written.{compact_text}
use Rattle.odb_rpc.specs.Represented.Shared.{after_updates}
use Rattle.odb_sessions.proofs.monitor.Monitor.around_updates.Goals as goal

pub returns : goal.returns
returns c =
    let after : c.in_ok-after.after.items ≡ after_updates = search rules in
    (refl, λ d. ap (λ t. c.in_ok-before.before.items ++ (compact_text d ++ t)) after ∙ c.in_ok-before.ensures d)
