use Rattle.std.proofs.Common.{◌≡◌, drop, map}
use Rattle.odb_cond.specs.Represented.Filter.{member_of}
use Rattle.odb_sessions.specs.Represented.Digest.{after_filter}
use Rattle.odb_sessions.proofs.digest.feed_members.Given as goal

abbrev pub invariant-loop-member : goal.invariant-loop-member
invariant-loop-member l = after_filter l.state (map member_of (drop l.member-index l.members)) ≡ after_filter l.initial.state (map member_of l.members)
