use Rattle.std.proofs.Common.{rules}
use Rattle.odb_locks.proofs.Outcomes.{on_ok, on_err}
use Rattle.odb_locks.proofs.Tables.{claimed, claimed_anew, kept}
use Rattle.odb_locks.proofs.lock_table.LockTable.claim.Goals as goal

pub returns-in-Some-clause-ok : goal.returns-in-Some-clause-ok
returns-in-Some-clause-ok c = on_ok _ _ c.claim.result c.claim.ensures.ok (claimed _ _ c.self.inside.locks (c.get_mut.follows.lender c.claim.new.self) _ _ _ c.self.view_is c.in-Some.ensures.value (c.get_mut.follows.holds c.claim.new.self).3)

pub returns-in-Some-clause-err : goal.returns-in-Some-clause-err
returns-in-Some-clause-err c = on_err _ _ c.claim.result c.claim.ensures.err (kept _ _ c.self.inside.locks (c.get_mut.follows.lender c.claim.new.self) _ _ c.self.view_is c.in-Some.ensures.value (c.get_mut.follows.holds c.claim.new.self).3)

pub returns-clause-ok : goal.returns-clause-ok
returns-clause-ok c =
    claimed_anew _ _ c.self.inside.locks c.get_mut.follows.lender-at-none c.insert.new.self c.claim-2.new.self _ c.in_ok-from_str.field-0 c.self.view_is c.get_mut.follows.holds-at-none c.in_default.ensures.value c.in_ok-from_str.ensures.ok c.in_ok-insert.ensures.updates (search rules)
