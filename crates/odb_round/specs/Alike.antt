-- Which job a likeness has. [P 9.2, 10.1, 10.3]
use Rattle.std.specs.Prelude.{IfSome, List, None, Option, Some, false, is_some, length, map, slice_get, take, true, ℕ, ◌||◌, ◌≡◌, ◌≤◌}
use Rattle.odb_cond.specs.Filter.{Filter}
use Rattle.odb_monitor.specs.Job.{Job, Part}
use Rattle.odb_monitor.specs.View.{selected}
use Rattle.odb_recent.specs.Undo.{Undo}
use Rattle.odb_request.specs.Request.{Request}
use Rattle.odb_sessions.specs.Alike.{Likeness, Stand}
use Rattle.odb_sessions.specs.Composed.{first_part, resumed_job}
use Rattle.odb_tables.specs.Database.{Db, Table, table_at}

-- what the tables were at each of their changes
abbrev pub Contents : Type 0
Contents = ℕ → ℕ → Table

abbrev pub content_at : Contents → Db → ℕ → Option (ℕ × ℕ) → Table
content_at past db t None = table_at db t
content_at past db t (Some p) = past p.0 p.1

abbrev pub part_told : Contents → Db → Request → Option (ℕ × ℕ) → Option Filter → Part
part_told past db q p None = first_part db q
part_told past db q p (Some f) = record { request = q; told = selected (record q { filter = f }) (content_at past db q.place p); asked = selected q (table_at db q.place) }

-- the job of who is like this: a first reply with all, what a client lacks, or the reply to one that had what it asks so many commits ago
abbrev pub job_ago : Contents → List Undo → Db → Likeness → Option ℕ → Job
job_ago past us db l None = record { notation = l.notation; first = l.first; reply = l.first; parts = map (λ s. part_told past db s.request s.version s.told) l.stands }
job_ago past us db l (Some n) = resumed_job (take n us) db l.notation (map (λ s. s.request) l.stands)

-- where the last commits replaced these
abbrev pub job_like : Contents → List Undo → Db → Likeness → Job
job_like past us db l = job_ago past us db l l.ago

-- of a reply nothing counts but what is asked, and of which commit the client has it
abbrev pub stand_first : Request → Stand
stand_first q = record { request = q; told = None; version = None }

abbrev pub IsOfRequests : Likeness → Type 0
IsOfRequests l = (l.first || is_some l.ago) ≡ true → l.stands ≡ map (λ s. stand_first s.request) l.stands

-- a commit that is found is one of these, and the reply isn't one with all
abbrev pub IsOfCommits : List Undo → Likeness → Type 0
IsOfCommits us l = IfSome l.ago (λ n. (l.first ≡ false) × (n ≤ length us))

-- it is the job of this likeness
abbrev pub IsLike : Contents → List Undo → Db → Job → Likeness → Type 0
IsLike past us db j l = (j ≡ job_like past us db l) × IsOfRequests l × IsOfCommits us l

-- no two have one likeness
abbrev pub AreUnlike : List Likeness → Type 0
AreUnlike ls = (m n : ℕ) (l : Likeness) → slice_get ls m ≡ Some l → slice_get ls n ≡ Some l → m ≡ n
