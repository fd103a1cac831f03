-- The codes of what contracts see of the code's types.
use Rattle.std.specs.Coded.{Coded, code_by, coded_bool, coded_list, coded_option, coded_ℕ, coded×}
use Rattle.std.specs.Prelude.{Bool, List, None, Option, Some, refl, ℕ, ◌≡◌}
use Rattle.odb_chain.specs.Chains.{Chains}
use Rattle.odb_chain.specs.Represented.Codes.{chains_code}
use Rattle.odb_cond.specs.Filter.{Filter}
use Rattle.odb_monitor.specs.Job.{Job}
use Rattle.odb_monitor.specs.Represented.Part.{job_code}
use Rattle.odb_recent.specs.Recent.{Recent}
use Rattle.odb_recent.specs.Represented.Codes.{recent_code}
use Rattle.odb_request.specs.Represented.Codes.{filter_code, notation_code, request_code}
use Rattle.odb_request.specs.Request.{Notation, Request}
use Rattle.odb_round.specs.Foreseen.{Ahead, Foreseen}
use Rattle.odb_round.specs.Jobs.{Decision, Round, Shared, Wanted}
use Rattle.odb_round.specs.Known.{Basis}
use Rattle.odb_round.specs.Taken.{Pending, Ready, Text, composed_text, last_text, no_text}
use Rattle.odb_schema.specs.Represented.Codes.{schema_code}
use Rattle.odb_schema.specs.Schema.{Schema}
use Rattle.odb_service.specs.Session.{Monitor}
use Rattle.odb_service.specs.WorldCode.{monitor_code}
use Rattle.odb_sessions.specs.Alike.{Likeness, Stand}
use Rattle.odb_sessions.specs.Filtered.{Filters}
use Rattle.odb_sessions.specs.Marked.{MarkedMonitor, Sessions}
use Rattle.odb_sessions.specs.Represented.Codes.{marked_monitor_code, sessions_code, told_code}
use Rattle.odb_sessions.specs.Told.{ToldMarks}

abbrev pub basis_code : Coded Basis
basis_code = code_by (Schema × Sessions) (coded× schema_code sessions_code) (λ g. (g.schema, g.sessions)) (λ p. record { schema = p.0; sessions = p.1 }) (λ g. refl)

abbrev pub filters_code : Coded Filters
filters_code = coded_list (coded× (coded_list coded_ℕ) filter_code)

abbrev pub ahead_code : Coded Ahead
ahead_code = code_by (MarkedMonitor × Option Filters) (coded× marked_monitor_code (coded_option filters_code)) (λ a. (a.marked, a.told)) (λ p. record { marked = p.0; told = p.1 }) (λ a. refl)

abbrev pub stand_code : Coded Stand
stand_code =
    code_by (Request × (Option Filter × Option (ℕ × ℕ))) (coded× request_code (coded× (coded_option filter_code) (coded_option (coded× coded_ℕ coded_ℕ))))
    (λ s. (s.request, (s.told, s.version))) (λ p. record { request = p.0; told = p.1.0; version = p.1.1 }) (λ s. refl)

abbrev pub likeness_code : Coded Likeness
likeness_code =
    code_by (Notation × (Bool × (Option ℕ × List Stand))) (coded× notation_code (coded× coded_bool (coded× (coded_option coded_ℕ) (coded_list stand_code))))
    (λ l. (l.notation, (l.first, (l.ago, l.stands)))) (λ p. record { notation = p.0; first = p.1.0; ago = p.1.1.0; stands = p.1.1.1 }) (λ l. refl)

abbrev pub decision_code : Coded Decision
decision_code = code_by (Likeness × Option ℕ) (coded× likeness_code (coded_option coded_ℕ)) (λ d. (d.likeness, d.place)) (λ p. record { likeness = p.0; place = p.1 }) (λ d. refl)

abbrev pub shared_code : Coded Shared
shared_code = code_by ((ℕ × ℕ) × (Likeness × Option ℕ)) (coded× (coded× coded_ℕ coded_ℕ) (coded× likeness_code (coded_option coded_ℕ))) (λ s. (s.watch, (s.likeness, s.place))) (λ p. record { watch = p.0; likeness = p.1.0; place = p.1.1 }) (λ s. refl)

abbrev pub bucket_code : Coded (List Decision)
bucket_code = coded_list decision_code

abbrev pub shareds_code : Coded (List Shared)
shareds_code = coded_list shared_code

abbrev pub wanted_code : Coded Wanted
wanted_code =
    code_by (Basis × (Chains × (Recent × (List Job × List Likeness)))) (coded× basis_code (coded× chains_code (coded× recent_code (coded× (coded_list job_code) (coded_list likeness_code)))))
    (λ w. (w.basis, (w.chains, (w.recent, (w.jobs, w.likenesses))))) (λ p. record { basis = p.0; chains = p.1.0; recent = p.1.1.0; jobs = p.1.1.1.0; likenesses = p.1.1.1.1 }) (λ w. refl)

abbrev pub foreseen_code : Coded Foreseen
foreseen_code =
    code_by (Basis × (Chains × (Recent × (List Job × (List Likeness × (List MarkedMonitor × List Monitor))))))
    (coded× basis_code (coded× chains_code (coded× recent_code (coded× (coded_list job_code) (coded× (coded_list likeness_code) (coded× (coded_list marked_monitor_code) (coded_list monitor_code)))))))
    (λ f. (f.basis, (f.chains, (f.recent, (f.jobs, (f.likenesses, (f.marked, f.monitors))))))) (λ p. record { basis = p.0; chains = p.1.0; recent = p.1.1.0; jobs = p.1.1.1.0; likenesses = p.1.1.1.1.0; marked = p.1.1.1.1.1.0; monitors = p.1.1.1.1.1.1 }) (λ f. refl)

-- ---- takings

abbrev Parts : Type 0
Parts = List ℕ × (List ℕ × List ℕ)

abbrev text_parts : Text → Option (Option Parts)
text_parts no_text = None
text_parts last_text = Some None
text_parts (composed_text before body after) = Some (Some (before, (body, after)))

abbrev text_of_parts : Option (Option Parts) → Text
text_of_parts None = no_text
text_of_parts (Some None) = last_text
text_of_parts (Some (Some p)) = composed_text p.0 p.1.0 p.1.1

pub text_of_parts-text_parts : (t : Text) → text_of_parts (text_parts t) ≡ t
text_of_parts-text_parts no_text = refl
text_of_parts-text_parts last_text = refl
text_of_parts-text_parts (composed_text before body after) = refl

abbrev pub text_code : Coded Text
text_code =
    code_by (Option (Option Parts)) (coded_option (coded_option (coded× (coded_list coded_ℕ) (coded× (coded_list coded_ℕ) (coded_list coded_ℕ)))))
    text_parts text_of_parts text_of_parts-text_parts

abbrev pub ready_code : Coded Ready
ready_code = code_by (ℕ × (ℕ × Text)) (coded× coded_ℕ (coded× coded_ℕ text_code)) (λ r. (r.items, (r.monitors, r.text))) (λ p. record { items = p.0; monitors = p.1.0; text = p.1.1 }) (λ r. refl)

abbrev pub pendings_code : Coded (List Pending)
pendings_code = coded_list (coded× coded_ℕ ready_code)

abbrev pub round_code : Coded Round
round_code =
    code_by (ToldMarks × (List Job × (List Likeness × List Pending))) (coded× told_code (coded× (coded_list job_code) (coded× (coded_list likeness_code) pendings_code)))
    (λ r. (r.told, (r.jobs, (r.likenesses, r.takings)))) (λ p. record { told = p.0; jobs = p.1.0; likenesses = p.1.1.0; takings = p.1.1.1 }) (λ r. refl)
