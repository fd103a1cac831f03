use Rattle.std.proofs.Common.{rules, ◌≡◌, true}
use Rattle.std.proofs.lemmas.Result.{on_ok_weaker}
use Rattle.odb_atoms.specs.Represented.ColType.{type_of}
use Rattle.odb_integrity.specs.Gained.{leads_back}
use Rattle.odb_integrity.proofs.Differing.{appended_back}
use Rattle.odb_integrity.proofs.gained.append_differing.Goals as goal

pub returns-then-leads_back-clause-lost : goal.returns-then-leads_back-clause-lost
returns-then-leads_back-clause-lost c =
    let t = type_of c.args.column.now in
    let before = c.args.before.now in
    let now = c.args.now.now in
    let back : leads_back t before now ≡ true = search rules in
    on_ok_weaker c.append_of_change-then-leads_back.result (appended_back c.args.schema.now t before now c.args.lost.now.items c.append_of_change-then-leads_back.new.rows.items c.in_ok-change.change c.in_ok-change.ensures.value back) c.append_of_change-then-leads_back.ensures
