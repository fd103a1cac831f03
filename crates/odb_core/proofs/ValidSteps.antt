-- A server stays valid by each step that is made of its parts: posts, ends of transactions, and others that wait.
use Rattle.std.proofs.Common.{◌≡◌, ℕ, ◌+◌, Bool, true, false, cond, not, List, [], ◌∷◌, ◌++◌, length, map, Option, Some, None, refl, sym, ap, subst, ◌∙◌}
use Rattle.std.specs.List.{AllByRecursion, remove}
use borrow.Author.Tests.{eq-eqb}
use Rattle.std.specs.Ordering.{eq_by_cmp, nat_cmp}
use Rattle.std.proofs.lemmas.Option.{none-some}
use Rattle.odb_atoms.specs.FinMap.{empty, get, insert}
use Rattle.odb_commit.proofs.Sound.{empty_sound}
use Rattle.odb_commit.specs.Sound.{IsSound}
use Rattle.odb_locks.specs.Locks.{Locks, Notice}
use Rattle.odb_round.specs.OfSchema.{AreSessionsOf, IsItemOf}
use Rattle.odb_rpc.specs.Message.{reply}
use Rattle.odb_schema.specs.Json.{Data}
use Rattle.odb_schema.specs.Schema.{Schema}
use Rattle.odb_service.proofs.OnlyPosts as only
use Rattle.odb_service.proofs.OnlyPosts.{Rest, rest}
use Rattle.odb_service.proofs.SessionMaps.{get-insert, same_key}
use Rattle.odb_service.specs.Server.{Server, served_by}
use Rattle.odb_service.specs.Service.{Service}
use Rattle.odb_service.specs.Session.{Item, Revision, Session, say, sync, to, with_content}
use Rattle.odb_service.specs.World.{Waiting, World, asked_of, end_transaction, is_untried, post, post_notices, push, split_first, succeed}
use Rattle.odb_sessions.specs.Asked.{ended_in}
use Rattle.odb_sessions.specs.Book.{Book, Sessions, fresh_session, revision_in}
use Rattle.odb_sessions.specs.Committed.{Ending, all_ended, ended_by, one_ended}
use Rattle.odb_sessions.specs.Posts.{all_posted, at_number}
use Rattle.odb_tables.specs.Change.{Changes}
use Rattle.odb_tables.specs.Database.{Db}
use Rattle.odb_wire.specs.Message.{id_of}
use Rattle.odb_core.specs.Represented.Core.{AreUnused, IsValid, IsWhole, empty_world, server_of}
use Rattle.odb_core.specs.Represented.Rounds.{IsRoundOf, book_in}
use Rattle.odb_core.specs.Represented.Steps.{AreTried, OnlySessions, by_service, in_world}
use Rattle.odb_core.specs.Stuck.{AreStuck, IsKept, IsStuckIf}
use Rattle.odb_core.specs.Represented.Upcoming.{after_ended}
use Rattle.odb_core.proofs.Attempts.{commit_as, post_as}
use Rattle.odb_core.proofs.ClosedSessions.{none_pushed, none_removed}
use Rattle.odb_core.proofs.CoreInvariant.{new_valid, valid_after, valid_opened, valid_taken}
use Rattle.odb_core.proofs.HeldTransactions.{all_append, all_removed}
use Rattle.odb_core.proofs.LockPosts.{answers_as, answers_to}
use Rattle.odb_core.proofs.ServerSteps.{placed}
use Rattle.odb_core.proofs.SessionsOfSchema as of_schema
use Rattle.odb_core.proofs.SessionsOfSchema.{Keeps}

-- ---- posts

-- a step that only posts
pub valid_posts : (f : Service → World → World) → ((h : Service) (w : World) → rest (f h w) ≡ rest w) → (v u : Server) → Keeps v.schema v.world (f (served_by v.schema) v.world) → by_service f v ≡ u → IsValid v → IsValid u
valid_posts f posts v u keeps e h =
    let same : rest u.world ≡ rest v.world = ap (λ (x : Server). rest x.world) (sym e) ∙ posts (served_by v.schema) v.world in
    let tried : AreTried u = λ k. ap (λ (r : Rest). split_first (is_untried r.1) r.4) same ∙ h.0 k in
    valid_after f (λ k w q. ap (λ (r : Rest). r.3 q) (posts k w)) v u keeps e tried h

-- items for one session
pub valid_posted : (n : ℕ) (is : List Item) (v u : Server) → AllByRecursion (IsItemOf v.schema) is → in_world (post n is) v ≡ u → IsValid v → IsValid u
valid_posted n is v u all e h = valid_posts (λ k. post n is) (λ k w. only.posts k n is w) v u (of_schema.posts v.schema n is v.world all) e h

-- notices, and then a reply
pub valid_answered : (n : ℕ) (d r : Data) (ns : List Notice) (v u : Server) → in_world (λ w. succeed n d r (post_notices ns w)) v ≡ u → IsValid v → IsValid u
valid_answered n d r ns v u e h =
    let m : Data = reply (id_of d) r in
    valid_posts (λ k w. succeed n d r (post_notices ns w)) (λ k w. only.answers k n d m (post_notices ns w) ∙ only.notes k ns w) v u
    (λ of. of_schema.answers v.schema n d m (post_notices ns v.world) (of_schema.notes v.schema ns v.world of)) e h

-- ---- transactions that end

-- one that ends with a commit
pub valid_committed : (n : ℕ) (d results : Data) (db : Db) (v u : Server) → by_service (λ h. end_transaction h n d results (Some db)) v ≡ u → AreTried u → IsValid v → IsValid u
valid_committed n d results db v u e tried h =
    valid_after (λ k. end_transaction k n d results (Some db)) (λ k w q. ap (λ (r : Rest). r.3 q)
    (only.posts k n (map (λ i. sync i.id) (asked_of k (get w.sessions n)) ++ say (to d) (reply (id_of d) results) ∷ []) (record w { db = db; commits = w.commits + 1; earlier = with_content w.db w.earlier })))
    v u (of_schema.ends v.schema n d results (Some db) v.world) e tried h

-- no session has a number still to come, where one that is open is changed
unused_changed : (f : Session → Session) (m : Sessions) (n k : ℕ) → AreUnused m k → AreUnused (at_number f m n) k
unused_changed f m n k unused q above = by (get m n) refl
  where
    by : (o : Option Session) → get m n ≡ o → get (elim o as (λ _. Sessions) [ None ↦ m | Some x ↦ insert m n (f x) ]) q ≡ None
    by None e = unused q above
    by (Some x) e = get-insert m n (f x) q ∙ here (eq_by_cmp nat_cmp q n) refl
      where
        here : (b : Bool) → eq_by_cmp nat_cmp q n ≡ b → cond b (Some (f x)) (get m q) ≡ None
        here true tie = absurd (none-some x (sym (unused q above) ∙ ap (get m) (same_key q n tie) ∙ e))
        here false apart = unused q above

unused_ended : (s : Schema) (es : List Ending) (b : Book) (k : ℕ) → AreUnused b.sessions k → AreUnused (all_ended s b es).sessions k
unused_ended s [] b k unused = unused
unused_ended s (e ∷ es) b k unused = unused_ended s es (one_ended s b e) k (by e.1.1)
  where
    by : (o : Option (List Changes)) → AreUnused (ended_by s e.0 e.1.0 o b).sessions k
    by None = unused_changed (push (e.1.0 ∷ [])) b.sessions e.0 k unused
    by (Some cs) = unused_changed (ended_in s e.1.0) b.sessions e.0 k unused

-- several that end one after another, where that is what a step of the server makes
pub valid_ended : (v u : Server) (es : List Ending) (ps : List Waiting) → u ≡ after_ended v es ps → AreTried u → Keeps v.schema v.world u.world → IsValid v → IsValid (after_ended v es ps)
valid_ended v u es ps e tried keeps h =
    (subst AreTried e tried, unused_ended v.schema es (book_in v.world) v.opened h.1, subst (λ (x : Server). AreSessionsOf v.schema x.world.sessions) e (keeps h.2))

-- ---- the invariant of a core, by its parts

-- it is that of a server
abbrev pub IsWholeServer : Server → Type 0
IsWholeServer u = IsKept u.schema u.world.db u.world.waiting × IsValid u

module _ (s : Schema) (b : Book) (ps : List Waiting) (l : Locks) (now opened : ℕ) where
  abbrev v : Server
  v = server_of s b ps l now opened

  -- with this book
  abbrev pub Whole : Book → Type 0
  Whole k = IsWhole s k ps l now opened

  -- where these wait
  abbrev pub WholeWith : List Waiting → Type 0
  WholeWith qs = IsWhole s b qs l now opened

  -- items were posted to a session
  pub whole_posted : (n : ℕ) (is : List Item) (k : Book) → AllByRecursion (IsItemOf s) is → k ≡ record b { sessions = at_number (push is) b.sessions n } → Whole b → Whole k
  whole_posted n is k all told h =
      let w : World = record (v.world) { sessions = at_number (push is) b.sessions n } in
      subst Whole (sym told) (h.0, valid_posted n is v (placed v w) all (ap (placed v) (post_as n is v.world)) h.1)

  -- notices were, and then a reply
  pub whole_answered : (n : ℕ) (d r : Data) (ns : List Notice) (xs : List (ℕ × Item)) (k : Book) → xs ≡ answers_to ns n d r → k ≡ record b { sessions = all_posted b.sessions xs } → Whole b → Whole k
  whole_answered n d r ns xs k are told h =
      let w : World = record (v.world) { sessions = all_posted b.sessions xs } in
      subst Whole (sym told) (h.0, valid_answered n d r ns v (placed v w) (ap (placed v) (answers_as ns n d r v.world xs (all_posted b.sessions xs) are refl)) h.1)

  -- a transaction ended with a commit, where none waits
  pub whole_committed : (n : ℕ) (d r : Data) (db : Db) (k : Book)
      → k ≡ record { db = db; commits = b.commits + 1; earlier = with_content b.db b.earlier; sessions = at_number (ended_in s (say (to d) (reply (id_of d) r))) b.sessions n }
      → IsSound s db → ps ≡ [] → Whole b → Whole k
  whole_committed n d r db k told sound none h =
      let w : World = record (v.world) { db = db; commits = b.commits + 1; earlier = with_content b.db b.earlier; sessions = at_number (ended_in s (say (to d) (reply (id_of d) r))) b.sessions n } in
      let kept : IsKept s db ps = (sound, subst (AreStuck s db) (sym none) tt) in
      let tried : AreTried (placed v w) = λ _. ap (split_first (is_untried (b.commits + 1))) none in
      subst Whole (sym told) (kept, valid_committed n d r db v (placed v w) (ap (placed v) (commit_as s n d r db v.world)) tried h.1)

  -- a round was given
  pub whole_taken : (ss : List ℕ) (k : Book) (outs : List (ℕ × List ℕ)) → revision_in k ≡ revision_in b → IsRoundOf ss v (server_of s k ps l now opened) outs → Whole b → Whole k
  whole_taken ss k outs same round h =
      let only : OnlySessions v (server_of s k ps l now opened) = λ j. server_of s (record { db = (same j).db; commits = (same j).commits; earlier = (same j).earlier; sessions = k.sessions }) ps l now opened in
      (subst (λ (r : Revision). IsKept s r.db ps) (sym same) h.0, valid_taken ss v (server_of s k ps l now opened) outs only round h.1)

  -- a session was opened
  pub whole_opened : (k : Book) → k ≡ record b { sessions = insert b.sessions opened fresh_session } → Whole b → IsWhole s k ps l now (opened + 1)
  whole_opened k told h = subst (λ (x : Book). IsWhole s x ps l now (opened + 1)) (sym told) (h.0, valid_opened v h.1)

  -- one more waits, which was tried
  pub whole_waiting : (q : Waiting) → q.tried ≡ b.commits → IsStuckIf s b.db q → Whole b → WholeWith (ps ++ q ∷ [])
  whole_waiting q tried stuck h =
      let none : split_first (is_untried b.commits) (ps ++ q ∷ []) ≡ None = none_pushed (is_untried b.commits) ps q (h.1.0 (served_by s)) (ap not (eq-eqb q.tried b.commits tried)) in
      ((h.0.0, all_append (IsStuckIf s b.db) ps (q ∷ []) h.0.1 (stuck, tt)), (λ _. none, h.1.1, h.1.2))

  -- one waits no more
  pub whole_removed : (place : ℕ) → Whole b → WholeWith (remove ps place)
  whole_removed place h = ((h.0.0, all_removed (IsStuckIf s b.db) ps place h.0.1), (λ _. none_removed (is_untried b.commits) ps place (h.1.0 (served_by s)), h.1.1, h.1.2))

  -- but for sessions and locks it is another server, and these are as there
  pub whole_back : (w u : Server) (k : Book) (m : Locks) (x : Sessions) → v ≡ u → OnlySessions w u → k ≡ record b { sessions = x } → m ≡ l → x ≡ w.world.sessions → IsWholeServer w → IsWhole s k ps m now opened
  whole_back w u k m x is only told locks back h =
      let rest : v ≡ record w { world = record (w.world) { sessions = u.world.sessions } } = is ∙ only in
      let here : server_of s k ps m now opened ≡ server_of s (record b { sessions = x }) ps l now opened = λ j. server_of s (told j) ps (locks j) now opened in
      let there : server_of s (record b { sessions = x }) ps l now opened ≡ w = λ j. record {
        schema = (rest j).schema;
        world = record { db = (rest j).world.db; commits = (rest j).world.commits; earlier = (rest j).world.earlier; now = (rest j).world.now; waiting = (rest j).world.waiting; locks = (rest j).world.locks; sessions = back j };
        opened = (rest j).opened;
      } in
      subst IsWholeServer (sym (here ∙ there)) h

-- it is that of a new server
pub whole_new : (run most : ℕ) (s t : Schema) (b : Book) (ps : List Waiting) (l : Locks) → t ≡ s → b ≡ book_in (empty_world run most (length s.tables)) → ps ≡ [] → l ≡ empty → IsWhole t b ps l 0 0
whole_new run most s t b ps l served made none free =
    let new : IsWhole s (book_in (empty_world run most (length s.tables))) [] empty 0 0 = ((empty_sound s, tt), new_valid run most s) in
    subst (λ (x : Schema). IsWhole x b ps l 0 0) (sym served)
    (subst (λ (x : Book). IsWhole s x ps l 0 0) (sym made)
    (subst (λ (x : List Waiting). IsWhole s (book_in (empty_world run most (length s.tables))) x l 0 0) (sym none)
    (subst (λ (x : Locks). IsWhole s (book_in (empty_world run most (length s.tables))) [] x 0 0) (sym free) new)))
