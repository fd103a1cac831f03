use Rattle.std.proofs.Common.{rules, ◌≡◌, ◌++◌, codes, sym, ap, ◌∙◌}
use Rattle.serde_json.specs.Data.{string}
use Rattle.serde_json.specs.Written.{compact_text}
use Rattle.odb_rpc.proofs.Texts.{in_a_row, notification_text}
use Rattle.odb_rpc.proofs.text.notice.Goals as goal

pub returns : goal.returns
returns c ds e =
    let front = codes "{\"id\":null,\"method\":" in
    let method = compact_text (string c.args.method.now) in
    let built : c.push.new.self.items ≡ (((front ++ method) ++ codes ",\"params\":") ++ c.args.params.now) ++ codes "}" = search rules in
    built ∙ in_a_row front method (codes ",\"params\":") c.args.params.now (codes "}")
    ∙ ap (λ t. front ++ (method ++ (codes ",\"params\":" ++ (t ++ codes "}")))) e
    ∙ sym (notification_text c.args.method.now ds)
