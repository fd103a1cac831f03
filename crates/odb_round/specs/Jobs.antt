-- The compositions that a round needs, each once, as a list of jobs. A message names by a place in the list what it tells. [P 9.2, 10.3]
use Rattle.std.specs.Prelude.{◌≡◌, ℕ, List, [], ◌∷◌, drop, Option, Some, option_and_then, option_map, slice_get}
use Rattle.std.specs.List.{AllZip}
use Rattle.serde_json.specs.Written.{compact_text}
use Rattle.odb_atoms.specs.FinMap.{get}
use Rattle.odb_chain.specs.Chains.{Chains}
use Rattle.odb_monitor.specs.Job.{Job, updates_of}
use Rattle.odb_recent.specs.Findable.{findable}
use Rattle.odb_recent.specs.Recent.{Recent}
use Rattle.odb_recent.specs.Undo.{Undo}
use Rattle.odb_schema.specs.Schema.{Schema}
use Rattle.odb_service.specs.Server.{served_by}
use Rattle.odb_service.specs.Session.{Revision, Session}
use Rattle.odb_round.specs.Alike.{AreUnlike, IsLike}
use Rattle.odb_sessions.specs.Alike.{Likeness}
use Rattle.odb_sessions.specs.Book.{Book, revision_in}
use Rattle.odb_sessions.specs.Marked.{MarkedMonitor, MarkedSession, Sessions, seen}
use Rattle.odb_round.specs.Planned.{plan}
use Rattle.odb_round.specs.Sending.{Framed, framed_due}
use Rattle.odb_round.specs.Taken.{Pending, Text, composed_text, last_text, no_text}
use Rattle.odb_sessions.specs.Composed.{whole_text, composition}
use Rattle.odb_round.specs.ByMarks.{IsByMarks, IsDueTo, contents, monitors_of}
use Rattle.odb_sessions.specs.Told.{ToldMarks}
use Rattle.odb_round.specs.Known.{Basis}

-- what is composed of the job at this place
abbrev pub composition_at : List Job → ℕ → Option (List ℕ)
composition_at js n = option_and_then composition (slice_get js n)

-- each element of the old list stands where it stood
abbrev pub Keeps : {A : Type 0} → List A → List A → Type 0
Keeps {A = A} old new = (n : ℕ) (x : A) → slice_get old n ≡ Some x → slice_get new n ≡ Some x

-- the job, if something is sent
abbrev pub if_sent : Job → Option Job
if_sent j = option_map (λ u. j) (updates_of j)

abbrev pub certainly : {A : Type 0} → A → Option A
certainly x = Some x

-- the place of this job, if there is one, also in each list that keeps these jobs
abbrev pub IsFor : List Job → Option Job → Option ℕ → Type 0
IsFor js job place = (all : List Job) → Keeps js all → option_map (slice_get all) place ≡ option_map certainly job

-- what the round stands on, the database with its past, its last commits, the jobs so far, and what each is alike by
pub record Wanted : Type 0 where
  pub basis : Basis
  pub chains : Chains
  pub recent : Recent
  pub jobs : List Job
  pub likenesses : List Likeness

-- a likeness, and the place of its job, if something is sent
pub record Decision : Type 0 where
  pub likeness : Likeness
  pub place : Option ℕ

-- the number of what a session's monitors ask and the place of one of them, the likeness of what its client lacks, and the place of its job, if something is sent
pub record Shared : Type 0 where
  pub watch : ℕ × ℕ
  pub likeness : Likeness
  pub place : Option ℕ

-- a round as it is planned: what clients were told as it is kept, the jobs, what each is alike by, and each taking with the text that comes of it once the jobs are composed
pub record Round : Type 0 where
  pub told : ToldMarks
  pub jobs : List Job
  pub likenesses : List Likeness
  pub takings : List Pending

-- the message that is due to the session, if it is one that is composed
abbrev pub framed_for : Schema → Revision → Option Session → Option Framed
framed_for s revision o = option_and_then (framed_due (served_by s) revision) (option_and_then (λ x. (plan (served_by s) revision.db x).out) o)

-- The composition in what comes to the session is that of one of these jobs: of the job of what is due to it, and what stands around the composition is what the protocol has there around any table updates
abbrev pub IsOfJob : Schema → Revision → List Job → Option Session → Text → Type 0
IsOfJob s revision js o no_text = Unit {0}
IsOfJob s revision js o last_text = Unit {0}
IsOfJob s revision js o (composed_text before body after) =
    (n : ℕ) × (j : Job) × (slice_get js n ≡ Some j) × (composition j ≡ Some body)
    × (framed_for s revision o ≡ Some (record { job = j; text = λ d. whole_text before (compact_text d) after }))

abbrev pub AreMadeOf : Schema → Book → List Job → List Pending → Type 0
AreMadeOf s b js [] = Unit {0}
AreMadeOf s b js (p ∷ ps) = IsOfJob s (revision_in b) js (get b.sessions p.0) p.1.text × AreMadeOf s b js ps

-- the same, whatever the schema
abbrev pub AreOfJobs : Book → List Job → List Pending → Type 0
AreOfJobs b js ps = (s : Schema) → AreMadeOf s b js ps

-- No two likenesses are the same, and each job is that of its likeness: for what the chains keep of the tables at the places that it names, and for what the last commits replaced, which leads back from now to the contents that can be found.
abbrev pub AreEachOnce : Chains → Revision → List Job → List Likeness → Type 0
AreEachOnce k revision js ls =
    AreUnlike ls
    × ((us : List Undo) × (revision.earlier.contents ≡ drop 1 (findable revision.db us)) × AllZip (IsLike (contents k) us revision.db) js ls)

-- What is composed for the session is composed of a job whose likeness has the marks of the monitor to which this is due
abbrev pub IsByLikeness : Schema → Revision → List Job → List Likeness → Option MarkedSession → Text → Type 0
IsByLikeness s revision js ls o no_text = Unit {0}
IsByLikeness s revision js ls o last_text = Unit {0}
IsByLikeness s revision js ls o (composed_text before body after) =
    (n : ℕ) × (l : Likeness) × (h : MarkedMonitor) × (composition_at js n ≡ Some body) × (slice_get ls n ≡ Some l)
    × IsDueTo (option_and_then (λ x. (plan (served_by s) revision.db (seen x)).out) o) (monitors_of o) h × IsByMarks l h

abbrev pub AreByLikenesses : Schema → Revision → Sessions → List Job → List Likeness → List Pending → Type 0
AreByLikenesses s revision m js ls [] = Unit {0}
AreByLikenesses s revision m js ls (p ∷ ps) = IsByLikeness s revision js ls (get m p.0) p.1.text × AreByLikenesses s revision m js ls ps

-- the same, whatever the schema
abbrev pub AreByMarks : Book → ToldMarks → List Job → List Likeness → List Pending → Type 0
AreByMarks b t js ls ps = (s : Schema) → AreByLikenesses s (revision_in b) t.sessions js ls ps
