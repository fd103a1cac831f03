use Rattle.std.proofs.Common.{rules, ◌≡◌, ◌++◌, refl, ap, ◌∙◌}
use Rattle.std.specs.List.{each_same}
use Rattle.serde_json.specs.Written.{compact_text}
use Rattle.odb_rpc.specs.Message.{reply}
use Rattle.odb_rpc.specs.Represented.Shared.{after_result}
use Rattle.odb_schema.specs.Json.{Data}
use Rattle.odb_sessions.proofs.origin.Origin.reply.Goals as goal
use Rattle.odb_wire.specs.Message.{id_of}

pub returns : goal.returns
returns c =
    let before : c.in_ok-before.before.items ≡ c.self.inside.before.items = search (rules, each_same) in
    let after : c.in_ok-after.after.items ≡ after_result = search rules in
    (refl, λ d. (λ i. before i ++ (compact_text d ++ after i)) ∙ c.self.invariant d ∙ ap (λ (r : Data). compact_text (reply (id_of r) d)) c.self.view_is)
