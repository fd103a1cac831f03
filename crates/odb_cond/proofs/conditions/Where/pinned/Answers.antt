use mathlib.Core.Path.{sym, ap, ◌∙◌}
use Rattle.std.proofs.Common.{◌≡◌, suc, drop, Some}
use Rattle.odb_atoms.specs.Represented.Atom.{uuid_of}
use Rattle.odb_cond.specs.Pinned.{or_later, pinned}
use Rattle.odb_cond.proofs.Pins.{no_other, pinned-drop}
use Rattle.odb_cond.proofs.conditions.Where.pinned.Goals as goal

pub returns-in-Some : goal.returns-in-Some
returns-in-Some c =
    let clauses = c.deref-clause-items.result.now in
    let here = pinned-drop clauses c.loop-clause.clause-index c.clause-item.result c.loop-clause-test.true c.clause-item.is in
    let found : Some (uuid_of c.in-Some.uuid) ≡ pinned c.args.self.now =
    ap (λ o. or_later o (pinned (drop (suc c.loop-clause.clause-index) clauses))) c.in-Some.ensures ∙ sym here ∙ c.loop-clause.invariant in
    record {
      first = found;
      no_other_row_matches = λ u r matches. no_other c.args.self.now u (uuid_of c.in-Some.uuid) r (sym found) matches;
    }
