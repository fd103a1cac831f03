use Rattle.std.proofs.Common.{ℕ, [], drop, map}
use Rattle.std.specs.BTreeSet.{BTreeSet}
use Rattle.odb_queue.specs.Represented.Post.{post_of}
use Rattle.odb_sessions.specs.Owed.{AreAdded, addressed}
use Rattle.odb_sessions.proofs.sessions.add_addressed.Given as goal

abbrev pub invariant-loop-post : goal.invariant-loop-post
invariant-loop-post l =
    AreAdded l.initial.owed l.owed []
    × ((o : BTreeSet ℕ) → AreAdded l.owed o (addressed (map post_of (drop l.post-index l.posts))) → AreAdded l.initial.owed o (addressed (map post_of l.posts)))
