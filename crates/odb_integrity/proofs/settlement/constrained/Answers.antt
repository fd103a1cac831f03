use Rattle.std.proofs.Common.{rules, ◌≡◌, true, false, zip, sym, ◌∙◌}
use Rattle.std.specs.List.{list_all, list_any}
use Rattle.odb_integrity.specs.Settlement.{any_row, has_duplicates, has_too_few, row_count, within_max_rows}
use Rattle.std.specs.Prelude.{nat_le}
use Rattle.odb_integrity.proofs.Settled.{last_test}
use Rattle.odb_integrity.proofs.Touched.{covers_old}
use Rattle.odb_integrity.proofs.Prunings.{not_is}
use Rattle.odb_integrity.proofs.settlement.constrained.Goals as goal

pub has_too_few-requires : goal.has_too_few-requires
has_too_few-requires c = covers_old c.args.draft.now.old c.args.draft.now.now _ (search rules) (has_too_few c.args.schema.now) c.requires.base.filled

pub returns-then-exceeds_limit : goal.returns-then-exceeds_limit
returns-then-exceeds_limit c =
    let s = c.args.schema.now in
    let db = c.args.draft.now.now in
    let few : any_row (has_too_few s) db ≡ false = sym c.has_too_few.ensures ∙ c.if-has_too_few.false in
    let many : list_all within_max_rows (zip s.tables db) ≡ true = not_is _ _ c.has_too_many.ensures false c.if-has_too_many.false in
    let twice : list_any has_duplicates (zip s.tables db) ≡ false = sym c.in_ok-has_duplicates.ensures ∙ c.if-branch.false in
    let limit : nat_le (row_count db) c.args.max_rows ≡ false = not_is _ _ c.exceeds_limit.ensures true c.if-exceeds_limit.true in
    sym (last_test s c.args.max_rows db few many twice false limit)

pub returns : goal.returns
returns c =
    let s = c.args.schema.now in
    let db = c.args.draft.now.now in
    let few : any_row (has_too_few s) db ≡ false = sym c.has_too_few.ensures ∙ c.if-has_too_few.false in
    let many : list_all within_max_rows (zip s.tables db) ≡ true = not_is _ _ c.has_too_many.ensures false c.if-has_too_many.false in
    let twice : list_any has_duplicates (zip s.tables db) ≡ false = sym c.in_ok-has_duplicates.ensures ∙ c.if-branch.false in
    let limit : nat_le (row_count db) c.args.max_rows ≡ true = not_is _ _ c.exceeds_limit.ensures false c.if-exceeds_limit.false in
    sym (last_test s c.args.max_rows db few many twice true limit)
