use Rattle.std.proofs.Common.{rules, ◌≡◌, ◌∙◌, ◌++◌, ℕ, List, ap, codes}
use Rattle.serde_json.specs.Data.{string}
use Rattle.serde_json.specs.Written.{compact_text}
use Rattle.odb_atoms.specs.Represented.Atom.{uuid_of}
use Rattle.odb_atoms.specs.Uuid.{uuid_text}
use Rattle.odb_rpc.specs.Represented.Shared.{after_updates}
use Rattle.odb_rpc.proofs.Texts.{update3_around}
use Rattle.odb_rpc.proofs.since.before_update3.Goals as goal

abbrev around : List ℕ → List ℕ → List ℕ
around t n = (((codes "{\"id\":null,\"method\":\"update3\",\"params\":[" ++ t) ++ codes ",") ++ compact_text (string n)) ++ codes ","

pub returns : goal.returns
returns c = λ i d id.
    let n : List ℕ = uuid_text (uuid_of c.args.number) in
    let built : c.push-2.new.self.items ≡ around c.args.monitor.now n = search rules in
    ap (λ t. t ++ (compact_text d ++ after_updates)) (built ∙ ap (λ t. around t n) id) ∙ update3_around i d n
