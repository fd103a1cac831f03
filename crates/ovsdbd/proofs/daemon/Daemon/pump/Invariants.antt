use Rattle.std.proofs.Common.{◌≡◌}
use Rattle.odb_waking.specs.Pump.{begins}
use Rattle.ovsdbd.proofs.daemon.Daemon.pump.Given as goal

abbrev pub invariant-loop : goal.invariant-loop
invariant-loop g l =
    (goal.iterator-loop g).can_next l.iterator' × (goal.iterator-loop g).is_finite l.iterator' × (l.stage ≡ begins)
