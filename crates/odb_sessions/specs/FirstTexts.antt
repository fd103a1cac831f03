-- First replies that were composed: who asks the same is told the same, until the database changes. [P 9.2, 10.3]
use Rattle.std.specs.Prelude.{◌≡◌, true, ℕ, List, map, Some}
use Rattle.std.specs.List.{All}
use Rattle.odb_monitor.specs.Job.{Job}
use Rattle.odb_request.specs.Request.{Notation, Request}
use Rattle.odb_sessions.specs.Composed.{asked_of, first_job, composition}
use Rattle.odb_sessions.specs.Marked.{MarkedMonitor}
use Rattle.odb_tables.specs.Database.{Db}

-- the table updates of a first reply as text, and what was asked
pub record FirstText : Type 0 where
  pub notation : Notation
  pub requests : List Request
  pub text : List ℕ

-- it is what is told first of this database
abbrev pub IsFirstText : Db → FirstText → Type 0
IsFirstText db f = composition (first_job db f.notation f.requests) ≡ Some f.text

abbrev pub AreFirstTexts : Db → List FirstText → Type 0
AreFirstTexts db fs = All (IsFirstText db) fs

-- a monitor asks so
abbrev pub AsksSo : FirstText → MarkedMonitor → Type 0
AsksSo f x = (f.notation ≡ x.notation) × (f.requests ≡ asked_of x.tables)

-- the job is, where it is that of a first reply, one of this database
abbrev pub IsOfNow : Db → Job → Type 0
IsOfNow db j = j.first ≡ true → j ≡ first_job db j.notation (map (λ p. p.request) j.parts)
