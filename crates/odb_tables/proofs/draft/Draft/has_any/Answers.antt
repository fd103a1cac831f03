use Rattle.std.proofs.Common.{◌≡◌, false, IfSome, sym, subst, ◌∙◌}
use Rattle.std.specs.List.{list_any}
use Rattle.odb_tables.specs.Database.{Table, table_at}
use Rattle.odb_tables.specs.Represented.RowIndex.{LacksNothing, Suffices}
use Rattle.odb_tables.proofs.Touching.{none-else, one-passes, passes_here}
use Rattle.odb_tables.proofs.draft.Draft.has_any.Goals as goal

pub returns-then-has_any_of : goal.returns-then-has_any_of
returns-then-has_any_of g c =
    let p = g.T.Test.passes c.args.test.now in
    let now = table_at c.args.self.now.now c.args.table in
    sym (one-passes p now c.as_slice.result.now (sym c.has_any_of.ensures ∙ c.if-has_any_of.true))

pub returns : goal.returns
returns g c =
    let p = g.T.Test.passes c.args.test.now in
    let old = table_at c.args.self.now.old c.args.table in
    let now = table_at c.args.self.now.now c.args.table in
    let kept = c.args.touched.now in
    let t = c.requires.0 in
    let some : Suffices c.in-Some.before.items p old = subst (λ o. IfSome o (λ keys. Suffices keys.items p old)) c.in-Some.is c.in_ok-before.ensures in
    let before : Suffices c.as_slice.result.now p old = subst (λ us. Suffices us p old) (sym c.as_slice.ensures.value) some in
    let rest : Suffices c.in-Some-2.now.items p t = subst (λ o. IfSome o (λ keys. (t : Table) → LacksNothing kept t → Suffices keys.items p t)) c.in-Some-2.is c.in_ok-now.ensures t c.requires.1 in
    let touched : Suffices c.as_slice-2.result.now p t = subst (λ us. Suffices us p t) (sym c.as_slice-2.ensures.value) rest in
    let none : list_any (passes_here p now) c.as_slice.result.now ≡ false = sym c.has_any_of.ensures ∙ c.if-has_any_of.false in
    c.has_any_of-2.ensures ∙ none-else p now old t c.as_slice.result.now c.as_slice-2.result.now before touched c.requires.2 none
