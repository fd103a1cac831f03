-- The contents that can be found: those that the last commits made.
use Rattle.std.specs.Prelude.{◌≡◌, ℕ, suc, ◌<◌, ◌≤◌, ◌-◌, length, slice_get, take, unwrap_or, List, [], ◌∷◌, Some}
use Rattle.odb_recent.specs.Recent.{Recent, committed}
use Rattle.odb_recent.specs.Undo.{Undo, all_undone_by, table_ago, undo_of}
use Rattle.odb_tables.specs.Change.{Changes, all_changed_by}
use Rattle.odb_tables.specs.Database.{Db, table_at}
use Rattle.odb_tables.specs.Installing.{IsChangeOf}

-- the newest first, where the database is db now
abbrev pub findable : Db → List Undo → List Db
findable db [] = db ∷ []
findable db (u ∷ us) = db ∷ findable (all_undone_by db u) us

-- what the database was that many commits ago
abbrev pub content_ago : Db → List Undo → ℕ → Db
content_ago db us n = unwrap_or (slice_get (findable db us) n) db

-- what a change replaced leads back
abbrev pub UndoLeadsBack : Type 0
UndoLeadsBack = (db : Db) (cs : List Changes) → IsChangeOf db cs → all_undone_by (all_changed_by db cs) (undo_of cs) ≡ db

-- after a commit the content that it made comes before those that were findable, of which the earliest goes
abbrev pub ContentsAreFindable : Type 0
ContentsAreFindable = (db : Db) (cs : List Changes) (r : Recent) → IsChangeOf db cs
    → findable (all_changed_by db cs) (committed cs r).undos ≡ take (suc (r.most - 1)) (all_changed_by db cs ∷ findable db r.undos)

-- as many commits ago as something is kept of there is a content
abbrev pub ContentsAreThere : Type 0
ContentsAreThere = (db : Db) (us : List Undo) (n : ℕ) → n ≤ length us → slice_get (findable db us) n ≡ Some (content_ago db us n)

-- a table of a content that is findable
abbrev pub TablesAreThoseOfContents : Type 0
TablesAreThoseOfContents = (db : Db) (us : List Undo) (n k : ℕ) → n ≤ length us → k < length db
    → table_at (content_ago db us n) k ≡ table_ago k (take n us) (table_at db k)
