use Rattle.std.proofs.Common.{◌++◌, flat_map, sym, ap, ◌∙◌}
use Rattle.std.proofs.lemmas.List.{append-nil}
use Rattle.std.proofs.lemmas.Slice.Zip.{either_empty_from_Zip}
use Rattle.odb_integrity.specs.Settlement.{strong_of_value}
use Rattle.odb_integrity.proofs.Named.{zip_done}
use Rattle.odb_integrity.proofs.references.append_strong.Goals as goal

pub returns : goal.returns
returns c =
    let it = c.loop-column.column-iterator in
    let done = zip_done _ _ (either_empty_from_Zip it c.next.new.self c.next.result c.in-None.is c.next.ensures.steps) in
    let before = c.loop-column.rows.items in
    sym (append-nil before) ∙ ap (λ es. before ++ flat_map (λ e. strong_of_value c.args.schema.now e.0.type e.1) es) (sym done) ∙ c.loop-column.invariant
