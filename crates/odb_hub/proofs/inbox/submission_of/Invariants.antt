use Rattle.std.proofs.Common.{◌≡◌, length}
use Rattle.odb_hub.proofs.inbox.submission_of.Given as goal

abbrev pub invariant-loop-made : goal.invariant-loop-made
invariant-loop-made g l = length l.fresh.items ≡ l.made
