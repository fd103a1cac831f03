use Rattle.std.proofs.Common.{rules, ◌≡◌, true, List, is_some, sym, ap, ◌∙◌}
use Rattle.std.proofs.lemmas.Result.{IfOk-weaker}
use Rattle.odb_monitor.specs.Job.{Job, Part}
use Rattle.odb_sessions.specs.Composed.{asked_of, first_job, first_part, own_job}
use Rattle.odb_sessions.specs.Marked.{MarkedMonitor, Watched}
use Rattle.odb_sessions.specs.Represented.Job.{filters_by, job_in}
use Rattle.odb_sessions.specs.Represented.Under.{filters_in}
use Rattle.odb_sessions.specs.declared.way.Way.TheVariants as way
use Rattle.odb_sessions.proofs.Replays.{map-map}
use Rattle.odb_round.proofs.Ways.{again_is, changed_is, is_again, is_changed, refiltered, told_by}
use Rattle.odb_tables.specs.Database.{Db}
use Rattle.odb_round.proofs.job.RoundJob.differences.Goals as goal

-- a first reply is of what is asked, whatever the client was told
first_is : (db : Db) (x : MarkedMonitor) → own_job true db x ≡ first_job db x.notation (asked_of x.tables)
first_is db x = ap (λ (ps : List Part). let j : Job = record { notation = x.notation; first = true; reply = true; parts = ps } in j) (sym (map-map (λ (w : Watched). w.request) (first_part db) x.tables))

pub returns-in-First : goal.returns-in-First
returns-in-First c =
    let db = c.self.inside.chains.now.db in
    let x : MarkedMonitor = c.self.inside.monitor.now in
    let is : c.self.inside.way ≡ way.First = search rules in
    IfOk-weaker c.own_job.result _ _ (λ job e. e ∙ first_is db x ∙ ap (job_in db x) (sym is) ∙ c.self.view_is) c.own_job.ensures

pub returns-in-Asked : goal.returns-in-Asked
returns-in-Asked c =
    let is : c.self.inside.way ≡ way.Asked = search rules in
    IfOk-weaker c.own_job-in-Asked.result _ _ (λ job e. e ∙ ap (job_in c.self.inside.chains.now.db c.self.inside.monitor.now) (sym is) ∙ c.self.view_is) c.own_job-in-Asked.ensures

pub changed_job-requires-clause-requests : goal.changed_job-requires-clause-requests
changed_job-requires-clause-requests c =
    let x : MarkedMonitor = c.self.inside.monitor.now in
    let slice : c.as_slice-requests.result.now ≡ c.self.inside.requests.items = search rules in
    let some : is_some (filters_by c.self.inside.way) ≡ true = search rules in
    refiltered c.self.inside.way x.tables c.as_slice-requests.result.now some (slice ∙ c.self.invariant.1)

pub returns-in-Changed : goal.returns-in-Changed
returns-in-Changed c =
    let x : MarkedMonitor = c.self.inside.monitor.now in
    let slice : c.as_slice-requests.result.now ≡ c.self.inside.requests.items = search rules in
    let changed : is_changed c.self.inside.way ≡ true = search rules in
    IfOk-weaker c.changed_job.result _ _
    (λ job e. e ∙ changed_is c.self.inside.chains.now.db x c.self.inside.way c.as_slice-requests.result.now changed (slice ∙ c.self.invariant.1) ∙ c.self.view_is)
    c.changed_job.ensures

pub again_job-requires-clause-requests : goal.again_job-requires-clause-requests
again_job-requires-clause-requests c =
    let x : MarkedMonitor = c.self.inside.monitor.now in
    let slice : c.as_slice-requests.result.now ≡ c.self.inside.requests.items = search rules in
    let some : is_some (filters_by c.self.inside.way) ≡ true = search rules in
    refiltered c.self.inside.way x.tables c.as_slice-requests.result.now some (slice ∙ c.self.invariant.1)

pub returns-in-Again : goal.returns-in-Again
returns-in-Again c =
    let x : MarkedMonitor = c.self.inside.monitor.now in
    let slice : c.as_slice-requests.result.now ≡ c.self.inside.requests.items = search rules in
    let again : is_again c.self.inside.way ≡ true = search rules in
    let told : filters_in c.in-Again.told ≡ told_by c.self.inside.way = search rules in
    IfOk-weaker c.again_job.result _ _
    (λ job e. e ∙ again_is c.self.inside.chains.now.db x c.self.inside.way (filters_in c.in-Again.told) c.as_slice-requests.result.now again told (slice ∙ c.self.invariant.1) ∙ c.self.view_is)
    c.again_job.ensures

pub returns-in-Since : goal.returns-in-Since
returns-in-Since c =
    let db = c.self.inside.chains.now.db in
    let x : MarkedMonitor = c.self.inside.monitor.now in
    let is : c.self.inside.way ≡ way.Since c.in-Since.recent c.in-Since.ago = search rules in
    IfOk-weaker c.resumed_job.result (λ (job : Job). job ≡ job_in db x (way.Since c.in-Since.recent c.in-Since.ago)) _ (λ job e. e ∙ ap (job_in db x) (sym is) ∙ c.self.view_is) c.resumed_job.ensures
