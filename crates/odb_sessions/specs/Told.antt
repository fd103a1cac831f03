-- What clients were told, as it is kept: by marks in chains that all sessions share. What is alike is so by the versions of these marks. [P 9.2, 10.1, 10.3]
use Rattle.std.specs.Prelude.{◌≡◌}
use Rattle.odb_chain.specs.Chains.{Chains}
use Rattle.odb_chain.specs.Marks.{AreAllMarks}
use Rattle.odb_sessions.specs.Book.{Book}
use Rattle.odb_sessions.specs.Marked.{Sessions, all_seen}
use Rattle.odb_sessions.specs.Tied.{all_marks}

-- the database with its past, and the open sessions with their marks
pub record ToldMarks : Type 0 where
  pub chains : Chains
  pub sessions : Sessions

-- The chains are of the database, clients have what the marks of their monitors stand for, and the chains count these marks and no others
abbrev pub IsToldOf : Book → ToldMarks → Type 0
IsToldOf b t = (t.chains.db ≡ b.db) × (all_seen t.sessions ≡ b.sessions) × AreAllMarks t.chains (all_marks t.sessions)
