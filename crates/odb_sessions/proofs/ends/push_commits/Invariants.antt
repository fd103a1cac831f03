use Rattle.std.proofs.Common.{◌≡◌, ◌+◌, ◌<◌, ◌^◌, length}
use Rattle.odb_sessions.specs.Committed.{all_noted}
use Rattle.odb_sessions.proofs.ends.push_commits.Given as goal

abbrev pub invariant-loop-undo : goal.invariant-loop-undo
invariant-loop-undo l = record {
  noted : all_noted l.undo-iterator.rest.items l.recent ≡ all_noted l.initial.undo-iterator.rest.items l.initial.recent;
  few : l.recent.commits + length l.undo-iterator.rest.items < 2 ^ 64;
}
