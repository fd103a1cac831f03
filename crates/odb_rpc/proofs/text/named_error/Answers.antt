use Rattle.std.proofs.Common.{rules, ◌≡◌, ◌++◌, codes, sym, ◌∙◌}
use Rattle.serde_json.specs.Data.{string}
use Rattle.serde_json.specs.Written.{compact_text}
use Rattle.odb_rpc.proofs.Texts.{one_text}
use Rattle.odb_rpc.proofs.text.named_error.Goals as goal

pub returns : goal.returns
returns c =
    let name = string c.args.name.now in
    let built : c.push.new.self.items ≡ codes "{\"error\":" ++ (compact_text name ++ codes "}") = search rules in
    built ∙ sym (one_text name)
