use Rattle.std.proofs.Common.{rules, ◌≡◌, ◌+◌, ◌≤◌, true, false, length, refl, ap, ◌∙◌, true≢false, arith}
use Rattle.odb_service.proofs.Retried.{retried_none}
use Rattle.odb_core.proofs.RetriedInTurn.{one_if}
use Rattle.odb_service.specs.Server.{Server, served_by}
use Rattle.odb_core.proofs.ServerSteps.{placed}
use Rattle.odb_core.proofs.upcoming.Upcoming.retry_all.Goals as goal

pub loop-changed-init : goal.loop-changed-init
loop-changed-init c = (refl, λ e. absurd (true≢false e), refl)

pub loop-changed-preserved : goal.loop-changed-preserved
loop-changed-preserved c =
    (c.loop-changed.invariant.0 ∙ c.in_ok-changed.ensures.ok, c.in_ok-changed.ensures.tried, c.in_ok-changed.ensures.base ∙ c.loop-changed.invariant.2)

pub loop-changed-smaller : goal.loop-changed-smaller
loop-changed-smaller c =
    let w : Server = c.loop-changed.self.next in
    let v : Server = c.retry_until_commit.new.self.next in
    let few : one_if c.in_ok-changed.changed + length v.world.waiting ≤ length w.world.waiting = c.in_ok-changed.ensures.fewer in
    let is : c.loop-changed.changed ≡ true = search rules in
    let more : one_if c.loop-changed.changed ≡ 1 = ap one_if is in
    omega (arith, few, more)

pub returns-clause-ok : goal.returns-clause-ok
returns-clause-ok c =
    let v : Server = c.loop-changed.self.next in
    let done : c.loop-changed.changed ≡ false = search rules in
    c.loop-changed.invariant.0 ∙ ap (placed v) (retried_none (served_by v.schema) v.world (c.loop-changed.invariant.1 done (served_by v.schema)))

pub returns-clause-tried : goal.returns-clause-tried
returns-clause-tried c =
    let done : c.loop-changed.changed ≡ false = search rules in
    c.loop-changed.invariant.1 done
