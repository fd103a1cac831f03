use Rattle.std.proofs.Common.{filter_map, ap, ◌∙◌}
use Rattle.std.proofs.lemmas.Result.{on_ok_weaker}
use Rattle.odb_integrity.specs.Steps.{pruning, with_rows}
use Rattle.odb_integrity.proofs.Prunings.{all_pruned, prunings_inside}
use Rattle.odb_integrity.proofs.pruning.prune.Goals as goal

pub put_all-requires : goal.put_all-requires
put_all-requires c = prunings_inside c.args.schema.now c.args.draft.now.now c.deref.result.now _ c.in_ok-changes.ensures

pub returns-clause-pruned : goal.returns-clause-pruned
returns-clause-pruned c =
    let s = c.args.schema.now in
    let db = c.args.draft.now.now in
    let rows = c.in_ok-rows.rows.items in
    let made = c.in_ok-changes.ensures ∙ ap (filter_map (pruning s db)) c.deref.ensures.value in
    on_ok_weaker c.put_all.result (λ e. e ∙ ap (λ cs. with_rows cs db) made ∙ all_pruned s db rows c.in_ok-rows.ensures c.requires.typed) c.put_all.ensures.put
