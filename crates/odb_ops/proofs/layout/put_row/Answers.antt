use Rattle.std.proofs.Common.{rules, ◌≡◌, ◌∙◌, ◌++◌, ◌∷◌, [], List, OnOk, ap, flat_map, map, sym}
use Rattle.std.proofs.lemmas.Result.{on_ok_weaker}
use Rattle.json.specs.Token.{begin_object, end_object}
use Rattle.odb_atoms.specs.Row.{Selector}
use Rattle.odb_cond.specs.Represented.Clause.{selector_of}
use Rattle.odb_ops.specs.Represented.Layout.{by_name, cell_tokens}
use Rattle.odb_ops.proofs.Layouts.{row_is}
use Rattle.odb_print.proofs.Tokens.{around}
use Rattle.odb_ops.proofs.layout.put_row.Goals as goal

pub returns : goal.returns
returns c =
    let old = c.args.out.now in
    let cs = c.args.layout.now.declared.now in
    let columns : List Selector = map selector_of c.args.layout.now.columns.now in
    let e = c.args.cells.now in
    let ordered : map selector_of c.as_slice.result.now ≡ by_name cs columns = search rules in
    let built : OnOk c.put-2.result (c.put-2.new.self ≡ ((old ++ begin_object ∷ []) ++ flat_map (cell_tokens cs e) (map selector_of c.as_slice.result.now)) ++ end_object ∷ []) = search rules in
    on_ok_weaker c.put-2.result (λ h.
    h ∙ ap (λ ss. ((old ++ begin_object ∷ []) ++ flat_map (cell_tokens cs e) ss) ++ end_object ∷ []) ordered
    ∙ around old (flat_map (cell_tokens cs e) (by_name cs columns)) begin_object end_object ∙ ap (λ ts. old ++ ts) (sym (row_is cs columns e))) built
