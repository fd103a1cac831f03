use Rattle.std.proofs.Common.{◌≡◌}
use Rattle.odb_sessions.specs.Posts.{marked_unposted}
use Rattle.odb_sessions.proofs.numbered.Numbered.unpost.Given as goal

abbrev pub invariant-loop-session : goal.invariant-loop-session
invariant-loop-session l = marked_unposted l.posted_to.items l.self ≡ marked_unposted l.initial.posted_to.items l.initial.self

abbrev pub decreases-loop-session : goal.decreases-loop-session
decreases-loop-session l = goal.left-loop-session l
