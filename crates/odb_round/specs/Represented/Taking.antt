-- The text that comes by a taking, once the jobs are composed.
use Rattle.std.specs.Prelude.{◌≡◌, ℕ, List, Option, Some, None, option_and_then, option_map}
use Rattle.odb_monitor.specs.Job.{Job}
use Rattle.odb_service.specs.Session.{Item}
use Rattle.odb_sessions.specs.Carried.{finished_text}
use Rattle.odb_round.specs.Foreseen.{last_used}
use Rattle.odb_round.specs.Jobs.{Keeps, composition_at}
use Rattle.odb_sessions.specs.Represented.Composed.{bytes_in}
use Rattle.odb_round.specs.Represented.Sending.{sending_under}
use Rattle.odb_round.specs.Sending.{Sending, finished}
use Rattle.odb_round.specs.Taken as model
use Rattle.odb_round.specs.Taken.{Pending, composed_text, last_text, no_text}
use Rattle.odb_sessions.specs.Composed.{whole_text}
use Rattle.odb_round.specs.declared.jobs.Planned.{Planned}
use Rattle.odb_round.specs.declared.taking.Coming.{Coming}
use Rattle.odb_round.specs.declared.taking.Coming.TheVariants.{Composed, Queued}
use Rattle.odb_round.specs.declared.taking.Taking.{Taking}

-- what comes by a message with this before and this after a composition: nothing, where nothing is composed
abbrev pub text_around : List ℕ → Option (List ℕ) → List ℕ → model.Text
text_around before None after = no_text
text_around before (Some body) after = composed_text before body after

abbrev pub text_planned : List Job → Option Coming → model.Text
text_planned js None = no_text
text_planned js (Some Queued) = last_text
text_planned js (Some (Composed m)) = text_around m.before.items (composition_at js m.place) m.after.items

-- what is sent, where this is the last item that is used up
abbrev pub coming_sending : List Job → Option Coming → Option Item → Option Sending
coming_sending js None last = None
coming_sending js (Some Queued) last = option_map finished (option_and_then finished_text last)
coming_sending js (Some (Composed m)) last = sending_under js m

-- what is sent to a session with this queue
abbrev pub taking_sending : List Job → Taking → List Item → Option Sending
taking_sending js t is = coming_sending js t.coming (last_used t.items is)

-- this is sent, by these jobs and by each list that keeps them
abbrev pub Comes : List Job → Option Coming → Option Item → Option Sending → Type 0
Comes js c last sending = (all : List Job) → Keeps js all → coming_sending all c last ≡ sending

-- the same to a session with this queue
abbrev pub Gives : List Job → Taking → List Item → Option Sending → Type 0
Gives js t is sending = (all : List Job) → Keeps js all → taking_sending all t is ≡ sending

-- the same, once this is composed of the job
abbrev pub text_coming : Option Coming → Option (List ℕ) → model.Text
text_coming None body = no_text
text_coming (Some Queued) body = last_text
text_coming (Some (Composed m)) body = text_around m.before.items body m.after.items

-- the text itself, where this is that of the last item that is used up
abbrev pub text_by : Option Coming → (queued body : Option (List ℕ)) → Option (List ℕ)
text_by None queued body = None
text_by (Some Queued) queued body = queued
text_by (Some (Composed m)) queued body = option_map (λ b. whole_text m.before.items b m.after.items) body

abbrev pub ready_by : List Job → Taking → model.Ready
ready_by js t = record { items = t.items; monitors = t.monitors; text = text_planned js t.coming }

abbrev pub pending_by : List Job → Planned → Pending
pending_by js p = (p.session, ready_by js p.taking)

-- the same of one whose job is composed
abbrev pub ready_of : Planned → model.Ready
ready_of p = record { items = p.taking.items; monitors = p.taking.monitors; text = text_coming p.taking.coming (bytes_in p.body) }

abbrev pub pending_of : Planned → Pending
pending_of p = (p.session, ready_of p)
