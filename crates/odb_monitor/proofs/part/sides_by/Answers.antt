use Rattle.std.proofs.Common.{map, subst, sym}
use Rattle.std.proofs.lemmas.Result.{IfOk-weaker}
use Rattle.odb_monitor.specs.Represented.Candidates.{Covers}
use Rattle.odb_monitor.specs.Represented.Sides.{sides_in}
use Rattle.odb_monitor.specs.Represented.Sought.{AreSought}
use Rattle.odb_monitor.specs.declared.told.Told.TheVariants.{Asked, Nothing, Under}
use Rattle.odb_tables.specs.Represented.Table.{listed}
use Rattle.odb_monitor.proofs.Covered.{all_apart, all_changed, all_fresh}
use Rattle.odb_monitor.proofs.Soughts.{apart_sought, selected_sought}
use Rattle.odb_monitor.proofs.part.sides_by.Goals as goal

pub returns-in-Nothing : goal.returns-in-Nothing
returns-in-Nothing c =
    let t = c.args.rows.now in
    let rows = map listed c.args.found.now in
    IfOk-weaker c.fresh.result _ _
    (λ sides h first q then sought was.
    subst (λ w. Covers (map sides_in sides.items) first w q then t) (sym c.in-Nothing.is)
    (subst (λ es. Covers es first Nothing q then t) (sym h) (all_fresh first q rows then t (selected_sought q.filter rows t (subst (λ w. AreSought w q.filter rows t) c.in-Nothing.is sought)))))
    c.fresh.ensures

pub returns-in-Asked : goal.returns-in-Asked
returns-in-Asked c =
    let t = c.args.rows.now in
    let cs = c.args.changes.now in
    IfOk-weaker c.changed.result _ _
    (λ sides h first q then sought was.
    subst (λ w. Covers (map sides_in sides.items) first w q then t) (sym c.in-Asked.is) (subst (λ es. Covers es first Asked q then t) (sym h) (all_changed cs then t c.requires was first q)))
    c.changed.ensures

pub returns-in-Under : goal.returns-in-Under
returns-in-Under c =
    let t = c.args.rows.now in
    let cs = c.args.changes.now in
    let rows = map listed c.args.found.now in
    let g = c.in-Under.field-0 in
    let w = Under g in
    IfOk-weaker c.told_apart.result _ _
    (λ sides h first q then sought was.
    let apart = apart_sought g q.filter rows t (subst (λ v. AreSought v q.filter rows t) c.in-Under.is sought) in
    subst (λ v. Covers (map sides_in sides.items) first v q then t) (sym c.in-Under.is)
    (subst (λ es. Covers es first w q then t) (sym h) (all_apart cs rows apart.0 then t c.requires was apart.1 first w q apart.2)))
    c.told_apart.ensures
