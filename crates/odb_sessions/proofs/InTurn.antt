-- Transactions that ended one after another: what they post, and what their changes come to.
use Rattle.std.proofs.Common.{◌≡◌, ◌+◌, ◌-◌, ◌<◌, ℕ, suc, arith, List, [], ◌∷◌, ◌++◌, length, map, slice_index_or, take, option_to_list, Option, Some, None, refl, ap, ◌∙◌}
use Rattle.std.specs.Prelude.{IfSome}
use Rattle.std.proofs.lemmas.Grind.{flat_map-append}
use Rattle.std.proofs.lemmas.List.{append-nil, map-append}
use Rattle.odb_recent.specs.Recent.{Recent, kept_undo, noted}
use Rattle.odb_recent.specs.Undo.{Undo}
use Rattle.odb_schema.specs.Schema.{Schema}
use Rattle.odb_service.specs.Session.{Item}
use Rattle.odb_sessions.specs.Book.{Book, Sessions, book_with}
use Rattle.odb_sessions.specs.Committed.{AreChangesFrom, AreInTurn, Ending, all_ended, all_left, all_noted, changed_in_turn, changes_of, each_changed_with, ended_by, ends_posted, left_by}
use Rattle.odb_tables.specs.Change.{Changes, all_changed_by}
use Rattle.odb_tables.specs.Database.{Db}
use Rattle.odb_tables.specs.Installing.{IsChangeOf}
use Rattle.odb_sessions.proofs.Earlier.{book_committed}
use Rattle.odb_sessions.proofs.Loops.{mapped_more}

-- posts read no database, and commits no queue
pub ended_apart : (s : Schema) (es : List Ending) (b : Book) → all_ended s b es ≡ each_changed_with (changes_of es) (ends_posted s es b)
ended_apart s [] b = refl
ended_apart s (e ∷ es) b = by e.0 e.1.0 e.1.1 (λ c. ended_apart s es c)
  where
    Rest : Type 0
    Rest = (c : Book) → all_ended s c es ≡ each_changed_with (changes_of es) (ends_posted s es c)

    by : (n : ℕ) (reply : Item) (o : Option (List Changes)) → Rest → all_ended s (ended_by s n reply o b) es ≡ each_changed_with (option_to_list o ++ changes_of es) (ends_posted s ((n, (reply, o)) ∷ es) b)
    by n reply None rest = rest (ended_by s n reply None b)
    by n reply (Some cs) rest = rest (ended_by s n reply (Some cs) b)

pub left_in_turn : (es : List Ending) (db : Db) → all_left db es ≡ changed_in_turn db (changes_of es)
left_in_turn [] db = refl
left_in_turn (e ∷ es) db = by e.1.1 (λ d. left_in_turn es d)
  where
    by : (o : Option (List Changes)) → ((d : Db) → all_left d es ≡ changed_in_turn d (changes_of es)) → all_left (left_by o db) es ≡ changed_in_turn db (option_to_list o ++ changes_of es)
    by None rest = rest db
    by (Some cs) rest = rest (all_changed_by db cs)

pub are_in_turn : (es : List Ending) (db : Db) → AreChangesFrom db es → AreInTurn db (changes_of es)
are_in_turn [] db each = tt
are_in_turn (e ∷ es) db each = by e.1.1 each.0 each.1 (λ d h. are_in_turn es d h)
  where
    by : (o : Option (List Changes)) → IfSome o (IsChangeOf db) → AreChangesFrom (left_by o db) es → ((d : Db) → AreChangesFrom d es → AreInTurn d (changes_of es)) → AreInTurn db (option_to_list o ++ changes_of es)
    by None is h rest = rest db h
    by (Some cs) is h rest = (is, rest (all_changed_by db cs) h)

-- the book after the commits
pub books_committed : (css : List (List Changes)) (db : Db) (r : Recent) (us : List Undo) (m : Sessions) → AreInTurn db css → us ≡ map (kept_undo r.most) css
    → book_with (changed_in_turn db css) (all_noted us r) m ≡ each_changed_with css (book_with db r m)
books_committed css db r us m turns kept = ap (λ (vs : List Undo). book_with (changed_in_turn db css) (all_noted vs r) m) kept ∙ by css db r turns
  where
    by : (ds : List (List Changes)) (d : Db) (q : Recent) → AreInTurn d ds → book_with (changed_in_turn d ds) (all_noted (map (kept_undo q.most) ds) q) m ≡ each_changed_with ds (book_with d q m)
    by [] d q h = refl
    by (cs ∷ ds) d q h = by ds (all_changed_by d cs) (noted (kept_undo q.most cs) q) h.1 ∙ ap (each_changed_with ds) (book_committed d cs q h.0 (kept_undo q.most cs) refl m)

-- what one more that ended replaces comes last
pub prepared_more : {X : Type 0} (g : X → Ending) (most : ℕ) (xs : List X) (i : ℕ) (x : X) → i < length xs → x ≡ slice_index_or xs i x
    → map (kept_undo most) (changes_of (map g (take (i + 1) xs))) ≡ map (kept_undo most) (changes_of (map g (take i xs))) ++ map (kept_undo most) (option_to_list (g x).1.1)
prepared_more g most xs i x inside at =
    ap (λ (es : List Ending). map (kept_undo most) (changes_of es)) (mapped_more g xs i x inside at)
    ∙ ap (map (kept_undo most)) (flat_map-append (λ (e : Ending). option_to_list e.1.1) (map g (take i xs)) (g x ∷ []) ∙ ap (λ css. changes_of (map g (take i xs)) ++ css) (append-nil (option_to_list (g x).1.1)))
    ∙ map-append (kept_undo most) (changes_of (map g (take i xs))) (option_to_list (g x).1.1)

-- one commit is noted where there is room for it and those after it
pub one_fits : (most commits left rest : ℕ) → left ≡ suc rest → commits + left < most → commits < most - 1
one_fits most commits left rest long few = omega (arith, long, few)

pub rest_fits : (most commits left rest : ℕ) → left ≡ suc rest → commits + left < most → (commits + 1) + rest < most
rest_fits most commits left rest long few = omega (arith, long, few)
