use Rattle.std.proofs.Common.{◌≡◌, ◌≤◌, List, length, map, take}
use Rattle.std.specs.Prelude.{vec_capacity, vec_len}
use Rattle.odb_monitor.specs.Job.{Job}
use Rattle.odb_schema.specs.Schema.{Schema}
use Rattle.odb_sessions.specs.Alike.{Likeness}
use Rattle.odb_sessions.specs.Book.{book_with, revision_at}
use Rattle.odb_sessions.specs.Marked.{all_seen}
use Rattle.odb_round.specs.Jobs.{AreByLikenesses, AreMadeOf, Keeps}
use Rattle.odb_round.specs.Represented.Taking.{pending_by}
use Rattle.odb_round.specs.Taken.{AreReady}
use Rattle.odb_round.specs.declared.jobs.Planned.{Planned}
use Rattle.odb_round.proofs.round.takings_at.Given as goal

abbrev pub invariant-loop-session : goal.invariant-loop-session
invariant-loop-session l =
    (map (λ (p : Planned). p.session) l.takings.items ≡ take l.session-index l.listed)
    × ((s : Schema) (all : List Job) → Keeps l.planner.jobs all → AreReady s (book_with l.initial.planner.chains.db l.initial.planner.recent (all_seen l.sessions)) (map (pending_by all) l.takings.items))
    × (vec_len l.takings ≡ l.session-index) × (length l.listed ≤ vec_capacity l.takings)
    × (l.planner.chains ≡ l.initial.planner.chains)
    × ((s : Schema) (all : List Job) → Keeps l.planner.jobs all → AreMadeOf s (book_with l.initial.planner.chains.db l.initial.planner.recent (all_seen l.sessions)) all (map (pending_by all) l.takings.items))
    × (l.planner.recent ≡ l.initial.planner.recent)
    × (l.planner.basis ≡ l.initial.planner.basis)
    × ((s : Schema) (all : List Job) (ls : List Likeness) → Keeps l.planner.likenesses ls → AreByLikenesses s (revision_at l.initial.planner.chains l.initial.planner.recent) l.sessions all ls (map (pending_by all) l.takings.items))
