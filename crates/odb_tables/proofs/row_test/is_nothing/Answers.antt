use Rattle.std.proofs.Common.{◌≡◌, ◌==◌, true, false, not, ◌&&◌, sym, ap, ◌∙◌}
use Rattle.odb_atoms.specs.Value.{is_map, size}
use Rattle.odb_tables.proofs.Twins.{same_nothing}
use Rattle.odb_tables.proofs.row_test.is_nothing.Goals as goal

pub returns-then-is_empty : goal.returns-then-is_empty
returns-then-is_empty c =
    let v = c.args.value.now in
    let none : (size v == 0) ≡ true = sym c.is_empty.ensures ∙ c.if-is_empty.true in
    ap not c.is_map.ensures ∙ ap (λ b. b && not (is_map v)) (sym none) ∙ same_nothing v

pub returns-else-is_empty : goal.returns-else-is_empty
returns-else-is_empty c =
    let v = c.args.value.now in
    let some : (size v == 0) ≡ false = sym c.is_empty.ensures ∙ c.if-is_empty.false in
    c.if-is_empty.false ∙ ap (λ b. b && not (is_map v)) (sym some) ∙ same_nothing v
