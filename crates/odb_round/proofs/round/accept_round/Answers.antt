use Rattle.std.proofs.Common.{List, [], map, refl, ap, subst, sym, ◌∙◌}
use Rattle.std.specs.Prelude.{flat_map}
use Rattle.odb_atoms.specs.FinMap.{empty}
use Rattle.odb_service.specs.Run.{take_each}
use Rattle.odb_service.specs.Server.{printed, served_by}
use Rattle.odb_service.specs.World.{World}
use Rattle.odb_sessions.specs.Book.{Book}
use Rattle.odb_round.specs.Planned.{AreOnce}
use Rattle.odb_round.specs.Represented.Taking.{pending_of}
use Rattle.odb_round.specs.Taken.{AreReady, Pending, given_by, sessions_in}
use Rattle.odb_round.proofs.Rounds.{all_given}
use Rattle.odb_sessions.proofs.AnySchema.{no_schema}
use Rattle.odb_round.proofs.round.accept_round.Goals as goal

pub take_all-requires-clause-once : goal.take_all-requires-clause-once
take_all-requires-clause-once c = subst (λ (ps : List Pending). AreOnce (sessions_in ps)) (sym c.prepared.view_is) c.requires.once

pub take_all-requires-clause-ready : goal.take_all-requires-clause-ready
take_all-requires-clause-ready c = λ s. subst (AreReady s c.args.sessions.now) (sym c.prepared.view_is) (c.requires.ready s)

pub take_all-requires-clause-none : goal.take_all-requires-clause-none
take_all-requires-clause-none c = c.prepared.invariant.0

pub take_all-requires-clause-room : goal.take_all-requires-clause-room
take_all-requires-clause-room c = c.prepared.invariant.1

pub returns-clause-round : goal.returns-clause-round
returns-clause-round c = λ s w revision sessions.
    let r = c.take_all.ensures.round s w revision sessions in (
      ap (λ (ps : List Pending). (take_each (served_by s) (sessions_in ps) w).0) (sym c.prepared.view_is) ∙ r.0,
      ap (λ (ps : List Pending). map printed (take_each (served_by s) (sessions_in ps) w).1) (sym c.prepared.view_is) ∙ r.1,
    )

pub returns-clause-texts : goal.returns-clause-texts
returns-clause-texts c =
    let b : Book = c.args.sessions.now in
    let w : World = record { db = b.db; commits = b.commits; earlier = b.earlier; now = 0; waiting = []; locks = empty; sessions = b.sessions } in
    let ps : List Pending = map pending_of c.prepared.inside.takings.items in
    let once : AreOnce (sessions_in ps) = subst (λ (qs : List Pending). AreOnce (sessions_in qs)) (sym c.prepared.view_is) c.requires.once in
    let ready : AreReady no_schema b ps = subst (AreReady no_schema b) (sym c.prepared.view_is) (c.requires.ready no_schema) in
    sym (c.take_all.ensures.round no_schema w refl refl).1 ∙ all_given no_schema b w ps refl refl once ready ∙ ap (flat_map (given_by b)) c.prepared.view_is
