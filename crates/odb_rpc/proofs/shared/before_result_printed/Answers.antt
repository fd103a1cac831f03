use Rattle.std.proofs.Common.{rules, ◌≡◌, ◌∙◌, ◌++◌, ap, codes}
use Rattle.serde_json.specs.Written.{compact_text}
use Rattle.odb_rpc.specs.Represented.Shared.{after_result}
use Rattle.odb_rpc.proofs.Texts.{reply_around}
use Rattle.odb_rpc.proofs.shared.before_result_printed.Goals as goal

pub returns : goal.returns
returns c = λ i d id.
    let built : c.extend_from_slice-2.new.self.items ≡ (codes "{\"error\":null,\"id\":" ++ c.args.id.now) ++ codes ",\"result\":" = search rules in
    ap (λ t. t ++ (compact_text d ++ after_result)) (built ∙ ap (λ t. (codes "{\"error\":null,\"id\":" ++ t) ++ codes ",\"result\":") id) ∙ reply_around i d
