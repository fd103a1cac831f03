use Rattle.std.proofs.Common.{◌++◌, map, sym, ap, ◌∙◌}
use Rattle.std.proofs.lemmas.List.{append-nil}
use Rattle.std.proofs.lemmas.Slice.Zip.{either_empty_from_Zip}
use Rattle.odb_integrity.specs.Settlement.{pruned_value}
use Rattle.odb_integrity.proofs.Named.{zip_done}
use Rattle.odb_integrity.proofs.pruning.pruned_values.Goals as goal

pub returns : goal.returns
returns c =
    let done = zip_done _ _ (either_empty_from_Zip c.loop-column.column-iterator c.next.new.self c.next.result c.in-None.is c.next.ensures.steps) in
    let before = c.loop-column.pruned.items in
    sym (append-nil before) ∙ ap (λ es. before ++ map (λ e. pruned_value c.args.schema.now c.args.draft.now.now e.0.type e.1) es) (sym done) ∙ c.loop-column.invariant.pruned
