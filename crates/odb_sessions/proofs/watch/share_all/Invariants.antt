use Rattle.std.proofs.Common.{◌≡◌}
use Rattle.odb_sessions.proofs.watch.share_all.Given as goal

abbrev pub invariant-loop-place : goal.invariant-loop-place
invariant-loop-place l = l.tables.items ≡ l.initial.tables.items
