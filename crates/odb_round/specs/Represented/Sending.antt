-- What messages tell, by the jobs of which they are composed.
use Rattle.std.specs.Prelude.{List, Option, option_and_then, option_map, slice_get, ◌≡◌}
use Rattle.odb_monitor.specs.Job.{Job, updates_of}
use Rattle.odb_round.specs.Jobs.{Keeps, certainly}
use Rattle.odb_round.specs.Sending.{Framed, Sending, sent_with}
use Rattle.odb_sessions.specs.Composed.{whole_text}
use Rattle.odb_sessions.specs.declared.composing.Envelope.{Envelope}
use Rattle.serde_json.specs.Written.{compact_text}

-- the message of this job
abbrev pub framing : Envelope → Job → Framed
framing m j = record { job = j; text = λ d. whole_text m.before.items (compact_text d) m.after.items }

-- what is sent by a message, by what is composed of its job; nothing, where nothing is
abbrev pub sending_under : List Job → Envelope → Option Sending
sending_under js m = option_and_then (λ j. option_map (sent_with (framing m j)) (updates_of j)) (slice_get js m.place)

-- this is sent by the message, if there is one, by these jobs and by each list that keeps them
abbrev pub Tells : List Job → Option Envelope → Option Sending → Type 0
Tells js m sending = (all : List Job) → Keeps js all → option_map (sending_under all) m ≡ option_map certainly sending
