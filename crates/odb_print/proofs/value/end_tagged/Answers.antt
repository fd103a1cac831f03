use Rattle.std.proofs.Common.{rules, ◌≡◌, ◌∙◌, ◌++◌, ◌∷◌, [], OnOk, append_assoc}
use Rattle.std.proofs.lemmas.Result.{on_ok_weaker}
use Rattle.json.specs.Token.{end_array}
use Rattle.odb_print.proofs.value.end_tagged.Goals as goal

pub returns : goal.returns
returns c =
    let old = c.args.out.now in
    let built : OnOk c.put-2.result (c.put-2.new.self ≡ (old ++ end_array ∷ []) ++ end_array ∷ []) = search rules in
    on_ok_weaker c.put-2.result (λ e. e ∙ append_assoc old (end_array ∷ []) (end_array ∷ [])) built
