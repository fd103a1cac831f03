-- What can be found of earlier contents, after one commit more.
use Rattle.std.proofs.Common.{◌≡◌, ◌-◌, drop, take, List, [], ◌∷◌, refl, ap, ◌∙◌}
use Rattle.odb_recent.specs.Findable.{findable}
use Rattle.odb_recent.specs.Recent.{Recent, kept_undo, noted}
use Rattle.odb_recent.specs.Undo.{Undo}
use Rattle.odb_recent.proofs.Undoing.{contents_are_findable}
use Rattle.odb_service.specs.Session.{Earlier}
use Rattle.odb_sessions.specs.Book.{Book, Sessions, book_with}
use Rattle.odb_sessions.specs.Committed.{changed_with}
use Rattle.odb_tables.specs.Change.{Changes, all_changed_by}
use Rattle.odb_tables.specs.Database.{Db}
use Rattle.odb_tables.specs.Installing.{IsChangeOf}

-- the content of now comes first
pub now_first : (db : Db) (us : List Undo) → findable db us ≡ db ∷ drop 1 (findable db us)
now_first db [] = refl
now_first db (u ∷ us) = refl

module _ (db : Db) (cs : List Changes) (r : Recent) (is : IsChangeOf db cs) (u : Undo) (kept : u ≡ kept_undo r.most cs) where
  contents_after : drop 1 (findable (all_changed_by db cs) (noted u r).undos) ≡ take (r.most - 1) (db ∷ drop 1 (findable db r.undos))
  contents_after =
      ap (λ (v : Undo). drop 1 (findable (all_changed_by db cs) (noted v r).undos)) kept
      ∙ ap (drop 1) (contents_are_findable db cs r is)
      ∙ ap (take (r.most - 1)) (now_first db r.undos)

  -- the book after the commit
  pub book_committed : (m : Sessions) → book_with (all_changed_by db cs) (noted u r) m ≡ changed_with cs (book_with db r m)
  book_committed m = λ i. let b : Book = record {
    db = all_changed_by db cs;
    commits = (noted u r).commits;
    earlier = (let e : Earlier = record { run = r.run; most = r.most; contents = contents_after i } in e);
    sessions = m;
  } in b
