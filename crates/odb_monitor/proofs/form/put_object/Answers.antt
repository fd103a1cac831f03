use Rattle.std.proofs.Common.{rules, ◌≡◌, ◌∙◌, ◌++◌, ◌∷◌, [], OnOk, ap, flat_map, map, sym}
use Rattle.std.proofs.lemmas.Result.{on_ok_weaker}
use Rattle.json.specs.Token.{begin_object, end_object}
use Rattle.odb_monitor.specs.Represented.Form.{column_tokens, named_by}
use Rattle.odb_print.proofs.Tokens.{around}
use Rattle.odb_monitor.proofs.Tokens.{object_tokens}
use Rattle.odb_request.specs.Represented.Parts.{monitored_as}
use Rattle.odb_monitor.proofs.form.put_object.Goals as goal

pub returns : goal.returns
returns c =
    let old = c.args.out.now in
    let f = named_by c.args.form.now in
    let cs = map (monitored_as c.args.columns.now) c.args.named.now in
    let ts = flat_map (column_tokens f) cs in
    let built : OnOk c.put-2.result (c.put-2.new.self ≡ ((old ++ begin_object ∷ []) ++ ts) ++ end_object ∷ []) = search rules in
    on_ok_weaker c.put-2.result (λ e. e ∙ around old ts begin_object end_object ∙ ap (λ l. old ++ l) (sym (object_tokens f cs))) built
