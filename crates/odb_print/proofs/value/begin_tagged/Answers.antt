use Rattle.std.proofs.Common.{rules, ◌≡◌, ◌∙◌, ◌++◌, ◌∷◌, [], OnOk, append_assoc}
use Rattle.std.proofs.lemmas.Result.{on_ok_weaker}
use Rattle.json.specs.Token.{begin_array, string}
use Rattle.odb_print.proofs.value.begin_tagged.Goals as goal

pub returns : goal.returns
returns c =
    let old = c.args.out.now in
    let tag = string c.args.tag.now in
    let built : OnOk c.put-3.result (c.put-3.new.self ≡ ((old ++ begin_array ∷ []) ++ tag ∷ []) ++ begin_array ∷ []) = search rules in
    on_ok_weaker c.put-3.result (λ e. e ∙ append_assoc (old ++ begin_array ∷ []) (tag ∷ []) (begin_array ∷ []) ∙ append_assoc old (begin_array ∷ []) (tag ∷ begin_array ∷ [])) built
