-- The database and the sessions after a commit. [P 9.3, 12.1]
use Rattle.std.specs.Prelude.{◌≡◌, ℕ, ◌+◌, ⊤, cond, List, [], ◌∷◌, flat_map, fold, map, Option, Some, None, IfSome, is_some, option_to_list}
use Rattle.std.specs.Ordering.{nat_cmp}
use Rattle.odb_atoms.specs.FinMap.{FinMap}
use Rattle.odb_recent.specs.Recent.{Recent, kept_undo, noted}
use Rattle.odb_recent.specs.Undo.{Undo}
use Rattle.odb_schema.specs.Schema.{Schema}
use Rattle.odb_service.specs.Session.{Item, Session, with_content}
use Rattle.odb_sessions.specs.Asked.{ended_in}
use Rattle.odb_sessions.specs.Book.{Book}
use Rattle.odb_sessions.specs.Posts.{all_posted, at_number, posted, unposted}
use Rattle.odb_tables.specs.Change.{Changes, all_changed_by}
use Rattle.odb_tables.specs.Database.{Db}
use Rattle.odb_tables.specs.Installing.{IsChangeOf}

-- the database with a change, as one commit more
abbrev pub changed_with : List Changes → Book → Book
changed_with cs b = record b { db = all_changed_by b.db cs; commits = b.commits + 1; earlier = with_content b.db b.earlier }

-- the same, and the sessions with posts
abbrev pub posted_with : List (ℕ × Item) → List Changes → Book → Book
posted_with ps cs b = record (changed_with cs b) { sessions = all_posted b.sessions ps }

-- the same, where a session was first posted the reply of a transaction that ended with a commit
abbrev pub ended_with : Schema → ℕ → Item → List (ℕ × Item) → List Changes → Book → Book
ended_with s session reply ps cs b = posted_with ps cs (record b { sessions = at_number (ended_in s reply) b.sessions session })

-- ---- transactions that ended, one after another

-- one that ended: its session, its reply, and its change of the database, if it made one
abbrev pub Ending : Type 0
Ending = ℕ × (Item × Option (List Changes))

abbrev pub ended_by : Schema → ℕ → Item → Option (List Changes) → Book → Book
ended_by s session reply None b = record b { sessions = posted b.sessions (session, reply) }
ended_by s session reply (Some cs) b = ended_with s session reply [] cs b

abbrev pub one_ended : Schema → Book → Ending → Book
one_ended s b e = ended_by s e.0 e.1.0 e.1.1 b

abbrev pub all_ended : Schema → Book → List Ending → Book
all_ended s = fold (one_ended s)

-- the database as they leave it
abbrev pub left_by : Option (List Changes) → Db → Db
left_by None db = db
left_by (Some cs) db = all_changed_by db cs

abbrev pub all_left : Db → List Ending → Db
all_left = fold (λ db e. left_by e.1.1 db)

-- each change is one of the database as the ones before it left it
abbrev pub AreChangesFrom : Db → List Ending → Type 0
AreChangesFrom db [] = ⊤
AreChangesFrom db (e ∷ es) = IfSome e.1.1 (IsChangeOf db) × AreChangesFrom (left_by e.1.1 db) es

-- what one that ended posts to its session: the reply, after a sync for each monitor as asked where it made a change
abbrev pub end_posted : Schema → FinMap nat_cmp Session → Ending → FinMap nat_cmp Session
end_posted s m e = cond (is_some e.1.1) (at_number (ended_in s e.1.0) m e.0) (posted m (e.0, e.1.0))

-- the sessions with what they all post
abbrev pub ends_posted : Schema → List Ending → Book → Book
ends_posted s es b = record b { sessions = fold (end_posted s) b.sessions es }

-- without the newest items of these sessions
abbrev pub without_posts : List ℕ → Book → Book
without_posts ss b = record b { sessions = unposted ss b.sessions }

-- ---- several changes, one after another

-- those that were made
abbrev pub changes_of : List Ending → List (List Changes)
changes_of = flat_map (λ e. option_to_list e.1.1)

-- each is one of the database as the ones before left it
abbrev pub AreInTurn : Db → List (List Changes) → Type 0
AreInTurn db [] = ⊤
AreInTurn db (cs ∷ css) = IsChangeOf db cs × AreInTurn (all_changed_by db cs) css

-- the database as they leave it
abbrev pub changed_in_turn : Db → List (List Changes) → Db
changed_in_turn = fold all_changed_by

-- the database with each, as one commit more each
abbrev pub each_changed_with : List (List Changes) → Book → Book
each_changed_with css b = fold (λ c cs. changed_with cs c) b css

-- the last commits, with as many more, which replaced these
abbrev pub all_noted : List Undo → Recent → Recent
all_noted us r = fold (λ q u. noted u q) r us

-- they come to the one change, and replace these
abbrev pub ComeTo : Book → List Undo → List Changes → List (List Changes) → Type 0
ComeTo b us cs css = AreInTurn b.db css × (all_changed_by b.db cs ≡ changed_in_turn b.db css) × (us ≡ map (kept_undo b.earlier.most) css)
