use Rattle.std.proofs.Common.{rules, ◌≡◌, ◌∙◌, List, ap, map}
use Rattle.json.specs.Print.{print}
use Rattle.serde_json.specs.Written.{compact_text}
use Rattle.serde_json.proofs.Texts.{print-outline}
use Rattle.odb_atoms.specs.Row.{Selector}
use Rattle.odb_cond.specs.Represented.Clause.{selector_of}
use Rattle.odb_ops.specs.Execution.{distinct, rows_result, selected}
use Rattle.odb_print.specs.Tokens.{tokens_of}
use Rattle.odb_schema.specs.Json.{Data}
use Rattle.odb_schema.specs.Schema.{Column}
use Rattle.odb_tables.specs.Database.{Table, table_at}
use Rattle.odb_tables.specs.Matching.{matching}
use Rattle.odb_ops.proofs.select.select.Goals as goal

pub of_rows-requires : goal.of_rows-requires
of_rows-requires c =
    let l = c.in_ok-layout.layout in
    let target = c.args.target.now in
    let asked = c.args.asked.now in
    let result : List Column → List Selector → Table → Data = λ cs columns table. rows_result cs columns (distinct (selected columns (matching asked.conditions table))) in
    let columns : l.columns.now ≡ asked.columns.items = c.in_ok-layout.ensures.columns ∙ c.as_slice.ensures.value in
    let same : result l.declared.now (map selector_of l.columns.now) (table_at c.args.draft.now.now l.table) ≡ result target.columns.now (map selector_of asked.columns.items) (table_at c.args.draft.now.now target.table) =
    λ i. result (c.in_ok-layout.ensures.declared i) (map selector_of (columns i)) (table_at c.args.draft.now.now (c.in_ok-layout.ensures.table i)) in
    let tokens : c.put_result.new.out ≡ tokens_of (result l.declared.now (map selector_of l.columns.now) (table_at c.args.draft.now.now l.table)) = search rules in
    let text : c.finish.result.items ≡ print c.put_result.new.out = search rules in
    text ∙ ap print tokens ∙ print-outline (result l.declared.now (map selector_of l.columns.now) (table_at c.args.draft.now.now l.table)) ∙ ap compact_text same
