use Rattle.std.proofs.Common.{◌≡◌, List, map, ap, subst, sym, ◌∙◌}
use Rattle.odb_chain.specs.Chains.{Chains}
use Rattle.odb_monitor.specs.Job.{Job}
use Rattle.odb_recent.specs.Recent.{Recent}
use Rattle.std.specs.List.{All}
use Rattle.odb_schema.specs.Schema.{Schema}
use Rattle.odb_service.specs.Session.{Revision}
use Rattle.odb_sessions.specs.Book.{Book, book_with, revision_at, revision_in}
use Rattle.odb_sessions.specs.FirstTexts.{AreFirstTexts, IsOfNow}
use Rattle.odb_tables.specs.Database.{Db}
use Rattle.odb_round.specs.Foreseen.{Foreseen}
use Rattle.odb_sessions.specs.Alike.{Likeness}
use Rattle.odb_sessions.specs.Marked.{Sessions, all_seen}
use Rattle.odb_round.specs.Jobs.{AreByLikenesses, AreEachOnce, AreMadeOf, Round}
use Rattle.odb_round.specs.OfSchema.{AreSessionsOf}
use Rattle.odb_round.specs.Represented.Taking.{pending_by}
use Rattle.odb_round.specs.Taken.{AreReady, sessions_in}
use Rattle.odb_sessions.specs.Tied.{AreAllLive}
use Rattle.odb_sessions.specs.Told.{IsToldOf}
use Rattle.odb_sessions.specs.Watches.{AreAlike}
use Rattle.odb_round.proofs.Pendings.{sessions_by}
use Rattle.odb_round.proofs.Places.{keeps_same}
use Rattle.odb_round.proofs.round.plan_round.Goals as goal

-- what a round is planned on is what contracts see of the sessions
parts : (b : Book) (k : Chains) (r : Recent) (m n : Sessions) → n ≡ m → k.db ≡ b.db → all_seen m ≡ b.sessions → book_with b.db r b.sessions ≡ b → book_with k.db r (all_seen n) ≡ b
parts b k r m n same db sessions recent = (λ i. book_with (db i) r ((ap all_seen same ∙ sessions) i)) ∙ recent

pub new-planner-requires-clause-firsts : goal.new-planner-requires-clause-firsts
new-planner-requires-clause-firsts c =
    let db : c.chains.result.now.db ≡ c.args.sessions.now.db = ap (λ (k : Chains). k.db) c.chains.ensures ∙ c.told-told.ensures.of.0 in
    subst (λ (d : Db). AreFirstTexts d c.firsts.result.now) (sym db) c.firsts.ensures

pub new-planner-requires-clause-alike : goal.new-planner-requires-clause-alike
new-planner-requires-clause-alike c = subst AreAlike (sym c.sessions-numbered.ensures) c.told-told.ensures.tied.3

pub takings_at-requires-clause-of : goal.takings_at-requires-clause-of
takings_at-requires-clause-of c =
    let planner : c.new-planner.result.basis.schema ≡ c.args.schema.now = ap (λ (f : Foreseen). f.basis.schema) c.new-planner.ensures in
    let seen : all_seen c.sessions-numbered.result.now ≡ c.args.sessions.now.sessions = ap all_seen c.sessions-numbered.ensures ∙ c.told-told.ensures.of.1 in
    subst (λ (s : Schema). AreSessionsOf s (all_seen c.sessions-numbered.result.now)) (sym planner) (subst (AreSessionsOf c.args.schema.now) (sym seen) c.requires)

pub takings_at-requires-clause-known : goal.takings_at-requires-clause-known
takings_at-requires-clause-known c = ap (λ (f : Foreseen). f.basis.sessions) c.new-planner.ensures

pub takings_at-requires-clause-live : goal.takings_at-requires-clause-live
takings_at-requires-clause-live c =
    let planner : c.new-planner.result.chains ≡ c.told-told.result.chains = ap (λ (f : Foreseen). f.chains) c.new-planner.ensures ∙ c.chains.ensures in
    subst (λ (k : Chains). AreAllLive k c.sessions-numbered.result.now) (sym planner) (subst (AreAllLive c.told-told.result.chains) (sym c.sessions-numbered.ensures) c.told-told.ensures.tied.2)

pub returns-clause-sessions : goal.returns-clause-sessions
returns-clause-sessions c = ap (λ (r : Round). sessions_in r.takings) c.new.ensures ∙ sessions_by c.into_jobs.result.jobs.items c.in_ok-takings.takings.items ∙ c.in_ok-takings.ensures.sessions

pub returns-clause-ready : goal.returns-clause-ready
returns-clause-ready c = λ s.
    let js : List Job = c.into_jobs.result.jobs.items in
    let n : Sessions = c.sessions-numbered.result.now in
    let planner : c.new-planner.result.chains ≡ c.told-told.result.chains = ap (λ (f : Foreseen). f.chains) c.new-planner.ensures ∙ c.chains.ensures in
    let recent : c.new-planner.result.recent ≡ c.recent.result.now = ap (λ (f : Foreseen). f.recent) c.new-planner.ensures in
    let same = (λ i. let k : Chains = planner i in book_with k.db (recent i) (all_seen n)) ∙ parts c.args.sessions.now c.told-told.result.chains c.recent.result.now c.told-told.result.sessions n c.sessions-numbered.ensures c.told-told.ensures.of.0 c.told-told.ensures.of.1 c.recent.ensures in
    let ready = c.in_ok-takings.ensures.ready s js (keeps_same c.takings_at.new.planner.jobs js c.into_jobs.ensures.jobs) in
    subst (λ (r : Round). AreReady s c.args.sessions.now r.takings) (sym c.new.ensures) (subst (λ (b : Book). AreReady s b (map (pending_by js) c.in_ok-takings.takings.items)) same ready)

pub returns-clause-jobs : goal.returns-clause-jobs
returns-clause-jobs c = λ s.
    let js : List Job = c.into_jobs.result.jobs.items in
    let n : Sessions = c.sessions-numbered.result.now in
    let planner : c.new-planner.result.chains ≡ c.told-told.result.chains = ap (λ (f : Foreseen). f.chains) c.new-planner.ensures ∙ c.chains.ensures in
    let recent : c.new-planner.result.recent ≡ c.recent.result.now = ap (λ (f : Foreseen). f.recent) c.new-planner.ensures in
    let same = (λ i. let k : Chains = planner i in book_with k.db (recent i) (all_seen n)) ∙ parts c.args.sessions.now c.told-told.result.chains c.recent.result.now c.told-told.result.sessions n c.sessions-numbered.ensures c.told-told.ensures.of.0 c.told-told.ensures.of.1 c.recent.ensures in
    let made = c.in_ok-takings.ensures.made s js (keeps_same c.takings_at.new.planner.jobs js c.into_jobs.ensures.jobs) in
    subst (λ (r : Round). AreMadeOf s c.args.sessions.now r.jobs r.takings) (sym c.new.ensures) (subst (λ (b : Book). AreMadeOf s b js (map (pending_by js) c.in_ok-takings.takings.items)) same made)

pub returns-clause-now : goal.returns-clause-now
returns-clause-now c =
    let planner : c.new-planner.result.chains ≡ c.told-told.result.chains = ap (λ (f : Foreseen). f.chains) c.new-planner.ensures ∙ c.chains.ensures in
    let db : c.takings_at.new.planner.chains.db ≡ c.args.sessions.now.db = ap (λ (k : Chains). k.db) (c.in_ok-takings.ensures.chains ∙ planner) ∙ c.told-told.ensures.of.0 in
    subst (λ (r : Round). All (IsOfNow c.args.sessions.now.db) r.jobs) (sym c.new.ensures) (subst (λ (d : Db). All (IsOfNow d) c.into_jobs.result.jobs.items) db c.into_jobs.ensures.now)

pub returns-clause-told : goal.returns-clause-told
returns-clause-told c = subst (λ (r : Round). IsToldOf c.args.sessions.now r.told) (sym c.new.ensures) c.told-told.ensures.of

pub returns-clause-once : goal.returns-clause-once
returns-clause-once c =
    let planner : c.new-planner.result.chains ≡ c.told-told.result.chains = ap (λ (f : Foreseen). f.chains) c.new-planner.ensures ∙ c.chains.ensures in
    let recent : c.new-planner.result.recent ≡ c.recent.result.now = ap (λ (f : Foreseen). f.recent) c.new-planner.ensures in
    let chains : c.takings_at.new.planner.chains ≡ c.told-told.result.chains = c.in_ok-takings.ensures.chains ∙ planner in
    let commits : c.takings_at.new.planner.recent ≡ c.recent.result.now = c.in_ok-takings.ensures.recent ∙ recent in
    let same = parts c.args.sessions.now c.told-told.result.chains c.recent.result.now c.told-told.result.sessions c.sessions-numbered.result.now c.sessions-numbered.ensures c.told-told.ensures.of.0 c.told-told.ensures.of.1 c.recent.ensures in
    let revision : revision_at c.takings_at.new.planner.chains c.takings_at.new.planner.recent ≡ revision_in c.args.sessions.now = (λ i. revision_at (chains i) (commits i)) ∙ ap revision_in same in
    subst (λ (r : Round). AreEachOnce r.told.chains (revision_in c.args.sessions.now) r.jobs r.likenesses) (sym c.new.ensures)
    (subst (λ (k : Chains). AreEachOnce k (revision_in c.args.sessions.now) c.into_jobs.result.jobs.items c.into_jobs.result.askings.items) chains
    (subst (λ (v : Revision). AreEachOnce c.takings_at.new.planner.chains v c.into_jobs.result.jobs.items c.into_jobs.result.askings.items) revision c.into_jobs.ensures.once))

pub returns-clause-marks : goal.returns-clause-marks
returns-clause-marks c = λ s.
    let js : List Job = c.into_jobs.result.jobs.items in
    let ls : List Likeness = c.into_jobs.result.askings.items in
    let planner : c.new-planner.result.chains ≡ c.told-told.result.chains = ap (λ (f : Foreseen). f.chains) c.new-planner.ensures ∙ c.chains.ensures in
    let recent : c.new-planner.result.recent ≡ c.recent.result.now = ap (λ (f : Foreseen). f.recent) c.new-planner.ensures in
    let same = parts c.args.sessions.now c.told-told.result.chains c.recent.result.now c.told-told.result.sessions c.sessions-numbered.result.now c.sessions-numbered.ensures c.told-told.ensures.of.0 c.told-told.ensures.of.1 c.recent.ensures in
    let revision : revision_at c.new-planner.result.chains c.new-planner.result.recent ≡ revision_in c.args.sessions.now = (λ i. revision_at (planner i) (recent i)) ∙ ap revision_in same in
    let marks = c.in_ok-takings.ensures.marks s js ls (keeps_same c.takings_at.new.planner.likenesses ls c.into_jobs.ensures.likenesses) in
    subst (λ (r : Round). AreByLikenesses s (revision_in c.args.sessions.now) r.told.sessions r.jobs r.likenesses r.takings) (sym c.new.ensures)
    (subst (λ (m : Sessions). AreByLikenesses s (revision_in c.args.sessions.now) m js ls (map (pending_by js) c.in_ok-takings.takings.items)) c.sessions-numbered.ensures
    (subst (λ (v : Revision). AreByLikenesses s v c.sessions-numbered.result.now js ls (map (pending_by js) c.in_ok-takings.takings.items)) revision marks))
