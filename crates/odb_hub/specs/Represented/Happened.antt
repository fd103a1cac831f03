-- Which event of the machine the code notes.
use Rattle.std.specs.Prelude.{[], ◌∷◌, map}
use Rattle.odb_atoms.specs.Represented.Atom.{uuid_of}
use Rattle.odb_wire.specs.Shown.{request_data}
use Rattle.odb_service.specs.Run as run
use Rattle.odb_service.specs.Run.{Event}
use Rattle.odb_hub.specs.declared.journal.happened.Happened.{Happened}
use Rattle.odb_hub.specs.declared.journal.happened.Happened.TheVariants.{Opened, Submitted, Ticked, Closed, Round, RoundOf}

abbrev pub event_of : Happened → Event
event_of (Opened s) = run.opened s
event_of (Submitted s request fresh now) = run.submitted s (request_data request.value) (map uuid_of fresh.value.items) now
event_of (Ticked now) = run.ticked now
event_of (Closed s) = run.closed s
event_of (Round listed) = run.round listed.value.items
event_of (RoundOf s) = run.round (s ∷ [])
