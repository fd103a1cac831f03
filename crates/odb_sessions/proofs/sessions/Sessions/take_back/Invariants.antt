use Rattle.std.proofs.Common.{◌≡◌}
use Rattle.odb_sessions.specs.Committed.{without_posts}
use Rattle.odb_sessions.proofs.sessions.Sessions.take_back.Given as goal

abbrev pub invariant-loop-session : goal.invariant-loop-session
invariant-loop-session l = without_posts l.posted_to.items l.self ≡ without_posts l.initial.posted_to.items l.initial.self

abbrev pub decreases-loop-session : goal.decreases-loop-session
decreases-loop-session l = goal.left-loop-session l
