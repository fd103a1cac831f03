use Rattle.std.proofs.Common.{rules, ◌≡◌, ◌∙◌, ◌++◌, ap, codes}
use Rattle.serde_json.specs.Written.{compact_text}
use Rattle.odb_request.specs.Represented.Notation.{notation_of}
use Rattle.odb_rpc.specs.Represented.Shared.{after_updates, before_id}
use Rattle.odb_rpc.proofs.Texts.{update_around}
use Rattle.odb_rpc.proofs.shared.before_updates.Goals as goal

pub returns : goal.returns
returns c = λ i d id.
    let n = notation_of c.args.notation in
    let built : c.push.new.self.items ≡ (before_id n ++ c.args.monitor.now) ++ codes "," = search rules in
    ap (λ t. t ++ (compact_text d ++ after_updates)) (built ∙ ap (λ t. (before_id n ++ t) ++ codes ",") id) ∙ update_around n i d
