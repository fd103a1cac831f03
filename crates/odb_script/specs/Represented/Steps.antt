-- What a part of a command does: the script after it, and the text so far with what it prints.
use Rattle.std.specs.Prelude.{◌≡◌, ℕ, List, ◌++◌}
use Rattle.odb_service.specs.Server.{served_by}
use Rattle.odb_service.specs.Service.{Service}
use Rattle.odb_script.specs.Running.{Running}
use Rattle.odb_script.specs.Script.{Script}

abbrev pub Does : (Script → Script × List ℕ) → Script → List ℕ → Script → List ℕ → Type 0
Does f p t q u = ((f p).0 ≡ q) × (t ++ (f p).1 ≡ u)

-- the same of a script that runs, by its server's service
abbrev pub Performs : (Service → Script → Script × List ℕ) → Running → List ℕ → Running → List ℕ → Type 0
Performs f old t new u = Does (f (served_by old.schema)) old.script t new.script u
