use mathlib.Core.Path.{sym, ap, ◌∙◌}
use Rattle.std.proofs.Common.{Some, rules}
use Rattle.std.proofs.lemmas.Fn.{always_returns_same}
use Rattle.odb_atoms.specs.Text.{text_cmp}
use Rattle.odb_schema.specs.Schema.{table_place}
use Rattle.odb_schema.proofs.Places.{found_in, missed_in}
use Rattle.odb_schema.proofs.schema.Schema.table.Goals as goal

pub returns-in-Ok : goal.returns-in-Ok
returns-in-Ok c =
    let at = c.in-Ok.ensures.position (λ x. text_cmp x.name c.args.name.now) (always_returns_same _ _ _ (λ a r f' k. search rules)) in
    ap Some c.at.ensures
    ∙ sym (found_in (λ x. x.name) c.args.name.now c.deref.result.now c.self.inside.tables.items c.in-Ok.place c.deref.ensures.value c.self.invariant.ascending c.in-Ok.ensures.bound at)
    ∙ ap (λ s. table_place s c.args.name.now) c.self.view_is

pub returns-in-Err : goal.returns-in-Err
returns-in-Err c =
    let apart = c.in-Err.ensures.position (λ x. text_cmp x.name c.args.name.now) (always_returns_same _ _ _ (λ a r f' k. search rules)) in
    sym (missed_in (λ x. x.name) c.args.name.now c.deref.result.now c.self.inside.tables.items c.in-Err.field-0 c.deref.ensures.value c.self.invariant.ascending apart)
    ∙ ap (λ s. table_place s c.args.name.now) c.self.view_is
