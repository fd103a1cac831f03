-- Which events of the machine submissions are.
use Rattle.std.specs.Prelude.{ℕ, List, map}
use mathlib.Core.List.{reverse}
use Rattle.odb_atoms.specs.Represented.Atom.{uuid_of}
use Rattle.odb_wire.specs.Shown.{request_data}
use Rattle.odb_service.specs.Run.{Event, submitted}
use Rattle.odb_hub.specs.declared.submission.Submission.{Submission}

abbrev pub event_of : ℕ → ℕ → Submission → Event
event_of session now x = submitted session (request_data x.request) (map uuid_of x.fresh.items) now

-- those of a batch, from its last to its first
abbrev pub events_of : ℕ → ℕ → List Submission → List Event
events_of session now xs = reverse (map (event_of session now) xs)
