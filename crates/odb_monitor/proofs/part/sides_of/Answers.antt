use Rattle.std.proofs.Common.{IfSome, map, subst, sym}
use Rattle.std.proofs.lemmas.Result.{IfOk-weaker}
use Rattle.odb_monitor.specs.Represented.Sought.{AreSought}
use Rattle.odb_tables.specs.Represented.Table.{listed}
use Rattle.odb_monitor.proofs.part.sides_of.Goals as goal

pub returns-in-Some : goal.returns-in-Some
returns-in-Some c =
    let k = c.args.comparison.now in
    let f = k.request.now.filter in
    let t = c.args.rows.now in
    let found : AreSought k.told f (map listed c.in-Some.found.items) t = subst (λ o. IfSome o (λ list. AreSought k.told f (map listed list.items) t)) c.in-Some.is c.requires.found in
    IfOk-weaker c.sides_by.result _ _
    (λ sides h then was. h k.first k.request.now then (subst (λ rows. AreSought k.told f (map listed rows) t) (sym c.deref.ensures.value) found) was)
    c.sides_by.ensures

pub returns-in_ok-found-in-None : goal.returns-in_ok-found-in-None
returns-in_ok-found-in-None c =
    let k = c.args.comparison.now in
    let f = k.request.now.filter in
    let t = c.args.rows.now in
    IfOk-weaker c.sides_by-in-None.result _ _
    (λ sides h then was. h k.first k.request.now then (subst (λ rows. AreSought k.told f (map listed rows) t) (sym c.deref-in-None.ensures.value) c.in_ok-found-in-None.ensures) was)
    c.sides_by-in-None.ensures
