use Rattle.std.proofs.Common.{◌≡◌, ◌+◌, ◌≤◌, length, map}
use Rattle.std.specs.Prelude.{vec_capacity, vec_len}
use Rattle.odb_schema.specs.Schema.{Schema}
use Rattle.odb_service.specs.World.{World, revision_of}
use Rattle.odb_round.specs.Planned.{AreOnce}
use Rattle.odb_sessions.specs.Represented.Out.{sent_in}
use Rattle.odb_round.specs.Represented.Taking.{pending_of}
use Rattle.odb_round.specs.Taken.{AreReady, sessions_in}
use Rattle.odb_round.proofs.Rounds.{GoesOn}
use Rattle.odb_round.proofs.round.take_all.Given as goal
use Rattle.odb_sessions.specs.Book.{revision_in}

abbrev pub invariant-loop-planned : goal.invariant-loop-planned
invariant-loop-planned l =
    ((s : Schema) → AreReady s l.sessions (map pending_of l.planned-iterator.rest.items))
    × AreOnce (sessions_in (map pending_of l.planned-iterator.rest.items))
    × ((s : Schema) (w : World) → revision_of w ≡ revision_in l.initial.sessions → w.sessions ≡ l.initial.sessions.sessions
    → GoesOn s (sessions_in (map pending_of l.initial.planned-iterator.rest.items)) w l.sessions.sessions (map pending_of l.planned-iterator.rest.items) (map sent_in l.sent.items))
    × (revision_in l.sessions ≡ revision_in l.initial.sessions)
    × (vec_len l.sent + length l.planned-iterator.rest.items ≤ vec_capacity l.sent)
