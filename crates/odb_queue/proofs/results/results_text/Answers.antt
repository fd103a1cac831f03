use Rattle.std.proofs.Common.{rules, ◌≡◌, ◌++◌, ◌∙◌, append_assoc}
use Rattle.serde_json.specs.Written.{compact_text}
use Rattle.odb_rpc.specs.Message.{reply}
use Rattle.odb_rpc.specs.Represented.Shared.{after_result}
use Rattle.odb_schema.specs.Json.{Data, array_of}
use Rattle.odb_queue.proofs.results.results_text.Goals as goal

pub returns : goal.returns
returns c = λ i id.
    let d = array_of c.args.results.now in
    let front = c.in_ok-text.text.items in
    let built : c.extend_from_slice.new.self.items ≡ (front ++ compact_text d) ++ after_result = search rules in
    let whole : (i d : Data) → c.args.id.now ≡ compact_text i → front ++ (compact_text d ++ after_result) ≡ compact_text (reply i d) = c.in_ok-text.ensures in
    built ∙ append_assoc front (compact_text d) after_result ∙ whole i d id
