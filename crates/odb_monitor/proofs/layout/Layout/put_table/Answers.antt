use Rattle.std.proofs.Common.{rules, ◌≡◌, ◌==◌, ◌∙◌, ◌++◌, ◌∷◌, [], OnOk, ap, false, flat_map, length, map, sym}
use Rattle.std.proofs.lemmas.Result.{on_ok_weaker}
use Rattle.json.specs.Token.{begin_object, end_object, key}
use Rattle.odb_monitor.specs.Represented.Layout.{row_tokens}
use Rattle.odb_monitor.specs.Represented.Line.{line_in}
use Rattle.odb_monitor.proofs.TableTexts.{table_tokens}
use Rattle.odb_print.proofs.Tokens.{around_named}
use Rattle.odb_monitor.proofs.layout.Layout.put_table.Goals as goal

pub returns : goal.returns
returns c =
    let l = c.args.self.now in
    let old = c.args.out.now in
    let name = c.args.name.now in
    let lines = c.args.lines.now in
    let some : (length lines == 0) ≡ false = search rules in
    let ts = flat_map (row_tokens l) (map (line_in l.columns) lines) in
    let built : OnOk c.put-3.result (c.put-3.new.self ≡ (((old ++ key name ∷ []) ++ begin_object ∷ []) ++ ts) ++ end_object ∷ []) = search rules in
    on_ok_weaker c.put-3.result (λ e. e ∙ around_named old ts (key name) begin_object end_object ∙ ap (λ xs. old ++ xs) (sym (table_tokens l (line_in l.columns) name lines some))) built
