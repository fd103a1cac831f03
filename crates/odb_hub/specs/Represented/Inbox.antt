-- What the submissions of an inbox stand for.
use Rattle.std.specs.Prelude.{◌-◌, List, length, map, take}
use mathlib.Core.List.{reverse}
use Rattle.serde_json.specs.Data.{Data}
use Rattle.odb_atoms.specs.Represented.Atom.{uuid_of}
use Rattle.odb_wire.specs.Shown.{request_data}
use Rattle.odb_hub.specs.Inbox.{Pending, messages_of}
use Rattle.odb_hub.specs.declared.submission.Submission.{Submission}
use Rattle.odb_hub.specs.declared.submitted.BatchStep.{BatchStep}

abbrev pub pending_in : Submission → Pending
pending_in x = record { message = request_data x.request; fresh = map uuid_of x.fresh.items }

-- those of a batch, from its last to its first
abbrev pub pending_of : List Submission → List Pending
pending_of xs = reverse (map pending_in xs)

-- the requests that a turn took of a batch: the first, as many as are gone
abbrev pub submitted_in : BatchStep → List Data
submitted_in s = messages_of (take (length s.before.value.items - length s.left.value.items) (pending_of s.before.value.items))
