use Rattle.std.proofs.Common.{rules, ◌≡◌, true, false, cond, Some, None, option_and_then, sym, ap, ◌∙◌}
use Rattle.odb_atoms.specs.FinMap as finite
use Rattle.odb_cond.specs.Filter.{selects}
use Rattle.odb_tables.proofs.Found.{get-passing, if_passes}
use Rattle.odb_tables.proofs.table.Table.get_selected.Goals as goal

pub returns-in_default : goal.returns-in_default
returns-in_default c =
    let p = selects c.args.filter.now in
    let t = c.args.self.now in
    let q = c.args.key in
    let none : finite.get t q ≡ None = search rules in
    sym (get-passing p t q ∙ ap (option_and_then (if_passes p q)) none)

pub returns-then-not-holds : goal.returns-then-not-holds
returns-then-not-holds c =
    let p = selects c.args.filter.now in
    let t = c.args.self.now in
    let q = c.args.key in
    let row = c.in-Some.row.now in
    let here : finite.get t q ≡ Some row = search rules in
    let off : p q row ≡ false = search rules in
    sym (get-passing p t q ∙ ap (option_and_then (if_passes p q)) here ∙ ap (λ b. cond b (Some row) None) off)

pub returns : goal.returns
returns c =
    let p = selects c.args.filter.now in
    let t = c.args.self.now in
    let q = c.args.key in
    let row = c.in-Some.row.now in
    let here : finite.get t q ≡ Some row = search rules in
    let on : p q row ≡ true = search rules in
    sym (get-passing p t q ∙ ap (option_and_then (if_passes p q)) here ∙ ap (λ b. cond b (Some row) None) on)
