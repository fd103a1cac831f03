use Rattle.std.proofs.Common.{rules, ◌≡◌, ◌++◌, refl, subst, ap, ◌∙◌}
use Rattle.std.specs.List.{each_same}
use Rattle.serde_json.specs.Written.{compact_text}
use Rattle.odb_rpc.specs.Represented.Shared.{after_result, after_updates}
use Rattle.odb_schema.specs.Json.{Data}
use Rattle.odb_sessions.specs.Represented.Origin.{BeginsReply}
use Rattle.odb_sessions.proofs.origin.Origin.numbered_reply.Goals as goal
use Rattle.odb_wire.specs.Message.{id_of}

pub returns : goal.returns
returns c =
    let begun : Data = c.args.self.now in
    let same : c.in_ok-clone.field-0.items ≡ c.self.inside.before.items = search (rules, each_same) in
    let begins : BeginsReply c.in_ok-clone.field-0.items begun = subst (λ (r : Data). BeginsReply c.in_ok-clone.field-0.items r) c.self.view_is (λ r. ap (λ t. t ++ (compact_text r ++ after_result)) same ∙ c.self.invariant r) in
    let after : c.in_ok-after.after.items ≡ after_updates = search rules in
    (refl, λ d. ap (λ t. c.in_ok-before.before.items ++ (compact_text d ++ t)) after ∙ c.in_ok-before.ensures (id_of begun) d begins)
