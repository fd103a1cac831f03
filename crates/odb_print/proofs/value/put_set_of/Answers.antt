use Rattle.std.proofs.Common.{rules, ◌≡◌, ◌∙◌, ◌++◌, ◌∷◌, [], OnOk, ap, codes, flat_map, map, sym}
use Rattle.std.proofs.lemmas.Result.{on_ok_weaker}
use Rattle.json.specs.Token.{begin_array, end_array, string}
use Rattle.odb_atoms.specs.Represented.Atom.{atom_of}
use Rattle.odb_print.specs.Tokens.{tokens_of}
use Rattle.odb_print.proofs.Tokens.{around_all, tagged_tokens}
use Rattle.odb_schema.specs.Notation.{write_atom}
use Rattle.odb_print.proofs.value.put_set_of.Goals as goal

pub returns : goal.returns
returns c =
    let old = c.args.out.now in
    let xs = map atom_of c.args.atoms.now in
    let ts = flat_map (λ x. tokens_of (write_atom x)) xs in
    let built : OnOk c.end_tagged.result (c.end_tagged.new.out ≡ ((old ++ begin_array ∷ string (codes "set") ∷ begin_array ∷ []) ++ ts) ++ end_array ∷ end_array ∷ []) = search rules in
    on_ok_weaker c.end_tagged.result (λ e. e ∙ around_all old (begin_array ∷ string (codes "set") ∷ begin_array ∷ []) ts (end_array ∷ end_array ∷ []) ∙ ap (λ l. old ++ l) (sym (tagged_tokens (codes "set") write_atom xs))) built
