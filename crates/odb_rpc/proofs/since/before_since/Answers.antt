use Rattle.std.proofs.Common.{rules, ◌≡◌, ◌∙◌, ◌++◌, ℕ, List, ap, codes}
use Rattle.serde_json.specs.Data.{string}
use Rattle.serde_json.specs.Written.{compact_text}
use Rattle.odb_atoms.specs.Represented.Atom.{uuid_of}
use Rattle.odb_atoms.specs.Uuid.{uuid_text}
use Rattle.odb_rpc.specs.Represented.Shared.{after_updates}
use Rattle.odb_rpc.specs.Represented.Since.{before_found}
use Rattle.odb_rpc.proofs.Texts.{since_around}
use Rattle.odb_rpc.proofs.since.before_since.Goals as goal

pub returns : goal.returns
returns c id d begins =
    let before : List ℕ = c.args.before.items in
    let n : List ℕ = uuid_text (uuid_of c.args.number) in
    let built : c.push.new.self.items ≡ ((before ++ before_found c.args.found) ++ compact_text (string n)) ++ codes "," = search rules in
    ap (λ t. t ++ (compact_text d ++ after_updates)) built ∙ since_around before id c.args.found n d begins
