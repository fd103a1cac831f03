use Rattle.std.proofs.Common.{rules, ◌≡◌, [], ◌∷◌, ◌++◌, sym, ap, ◌∙◌}
use Rattle.odb_ops.specs.Execution as model
use Rattle.odb_ops.specs.Represented.Parts.{with_value}
use Rattle.odb_ops.proofs.Rows.{replaced-push}
use Rattle.odb_ops.proofs.insert.set_all.Goals as goal

pub loop-column-preserved : goal.loop-column-preserved
loop-column-preserved c =
    let popped : c.loop-column.given.items ≡ c.pop.new.self.items ++ (c.in-Some.column, c.in-Some.value) ∷ [] = search rules in
    let set : c.set.new.row ≡ with_value c.in-Some.column c.in-Some.value c.loop-column.row = search rules in
    ap (model.replaced c.pop.new.self.items) set ∙ sym (replaced-push c.pop.new.self.items (c.in-Some.column, c.in-Some.value) c.loop-column.row)
    ∙ ap (λ es. model.replaced es c.loop-column.row) (sym popped) ∙ c.loop-column.invariant
