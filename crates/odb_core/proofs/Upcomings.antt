-- What transactions that end one after another make of a server.
use Rattle.std.proofs.Common.{◌≡◌, ℕ, ◌+◌, Bool, true, false, true≢false, List, [], ◌∷◌, ◌++◌, length, Option, Some, None, refl, sym, ap, subst, ◌∙◌}
use Rattle.std.specs.Prelude.{Vec, IfSome, map}
use Rattle.std.specs.declared.alloc.Global.{Global}
use Rattle.std.proofs.lemmas.List.Sums.{fold-append}
use Rattle.odb_commit.specs.Sound.{IsSound}
use Rattle.odb_ops.specs.Represented.Ran.{results_of}
use Rattle.odb_schema.specs.Json.{Data, array_of}
use Rattle.odb_schema.specs.Schema.{Schema}
use Rattle.odb_service.specs.Server.{Server}
use Rattle.odb_service.specs.Session.{Item}
use Rattle.odb_service.specs.World.{Waiting}
use Rattle.odb_sessions.specs.Book.{Book}
use Rattle.odb_sessions.specs.Committed.{AreChangesFrom, Ending, all_ended, all_left, ended_by, left_by, one_ended}
use Rattle.odb_sessions.specs.Represented.Ended.{ending_of}
use Rattle.odb_tables.specs.Change.{Changes, all_changed_by}
use Rattle.odb_tables.specs.Database.{Db}
use Rattle.odb_tables.specs.Installing.{IsChangeOf}
use Rattle.odb_tables.specs.Pending.{Pending, pending_of}
use Rattle.odb_wire.specs.Shown.{request_data}
use Rattle.odb_core.specs.declared.submitted.Submitted.{Submitted}
use Rattle.odb_core.specs.Represented.Rounds.{book_in}
use Rattle.odb_core.specs.Represented.Steps.{by_service, let_wait}
use Rattle.odb_core.specs.declared.upcoming.Plan.{Plan}
use Rattle.odb_core.specs.Represented.Upcoming.{after_ended, with_book, Agrees, IsPlanOf, Leads}
use Rattle.odb_core.specs.Represented.Waiting.{ends, reply_with}
use Rattle.odb_core.specs.Marked.{AreLeft, AreSame}
use Rattle.odb_core.specs.Stuck.{AreStuck, IsKept}
use Rattle.odb_core.proofs.Attempts.{commit_as, post_as}
use Rattle.odb_core.proofs.MarkedTables.{same_on}
use Rattle.odb_core.proofs.ServerSteps.{placed}

-- one more that ended
pub ended_more : (s : Schema) (b : Book) (es : List Ending) (e : Ending) → all_ended s b (es ++ e ∷ []) ≡ one_ended s (all_ended s b es) e
ended_more s b es e = fold-append (one_ended s) b es (e ∷ [])

pub left_more : (db : Db) (es : List Ending) (e : Ending) → all_left db (es ++ e ∷ []) ≡ left_by e.1.1 (all_left db es)
left_more db es e = fold-append (λ (d : Db) (x : Ending). left_by x.1.1 d) db es (e ∷ [])

one_left : (s : Schema) (n : ℕ) (i : Item) (o : Option (List Changes)) (b : Book) → (ended_by s n i o b).db ≡ left_by o b.db
one_left s n i None b = refl
one_left s n i (Some cs) b = refl

-- the database as they leave it
pub ended_leave : (s : Schema) (b : Book) (es : List Ending) → (all_ended s b es).db ≡ all_left b.db es
ended_leave s b [] = refl
ended_leave s b (e ∷ es) = ended_leave s (one_ended s b e) es ∙ ap (λ db. all_left db es) (one_left s e.0 e.1.0 e.1.1 b)

pub changes_more : (db : Db) (es : List Ending) (e : Ending) → AreChangesFrom db es → IfSome e.1.1 (IsChangeOf (all_left db es)) → AreChangesFrom db (es ++ e ∷ [])
changes_more db [] e h is = (is, tt)
changes_more db (x ∷ es) e h is = (h.0, changes_more (left_by x.1.1 db) es e h.1 is)

module _ (v : Server) (es : List Ending) (ps : List Waiting) (a : Submitted) (results : Vec Data Global) where
  abbrev u : Server
  u = after_ended v es ps

  abbrev d : Data
  d = request_data a.request

  -- a transaction that ends, and changes nothing
  pub reply_next : by_service (ends a results None) u ≡ after_ended v (es ++ (let e : Ending = (a.session, (reply_with a results, None)) in e) ∷ []) ps
  reply_next =
      let e : Ending = (a.session, (reply_with a results, None)) in
      ap (placed u) (post_as a.session (reply_with a results ∷ []) u.world) ∙ ap (with_book v ps) (sym (ended_more v.schema (book_in v.world) es e))

  -- one that ends with a change
  pub commit_next : (cs : List Changes) → by_service (ends a results (Some (all_changed_by u.world.db cs))) u ≡ after_ended v (es ++ (let e : Ending = (a.session, (reply_with a results, Some cs)) in e) ∷ []) ps
  commit_next cs =
      let e : Ending = (a.session, (reply_with a results, Some cs)) in
      ap (placed u) (commit_as v.schema a.session d (array_of (results_of results)) (all_changed_by u.world.db cs) u.world) ∙ ap (with_book v ps) (sym (ended_more v.schema (book_in v.world) es e))

-- ---- what is put over the database

pub begun : (s : Schema) (b : Book) (spoilt : Bool) (marks : List Bool) (ps : List Waiting) → IsKept s b.db ps → Agrees spoilt s b (pending_of b.db) b.commits [] marks ps
begun s b spoilt marks ps h = record { pending = λ _. refl; base = refl; commits = refl; each = tt; sound = h.0; marked = λ _ t is. refl; stuck = h.1 }

module _ (s : Schema) (b : Book) (spoilt : Bool) (p : Pending) (n : ℕ) (es : List Ending) (marks : List Bool) (ps : List Waiting) (h : Agrees spoilt s b p n es marks ps) where
  -- the next database is what is put over
  pub next_is : (all_ended s b es).db ≡ all_left b.db es
  next_is = ended_leave s b es

  pub is_put : spoilt ≡ false → p.now ≡ (all_ended s b es).db
  is_put whole = h.pending whole ∙ sym next_is

  -- where memory is refused meanwhile
  pub broken : (q : Pending) (left : List Bool) → q.old ≡ p.old → Agrees true s b q n es left ps
  broken q left same = record { pending = λ e. absurd (true≢false e); base = same ∙ h.base; commits = h.commits; each = h.each; sound = h.sound; marked = λ e. absurd (true≢false e); stuck = h.stuck }

  -- with others that wait
  pub with_others : (qs : List Waiting) → AreStuck s b.db qs → Agrees spoilt s b p n es marks qs
  with_others qs stuck = record { pending = h.pending; base = h.base; commits = h.commits; each = h.each; sound = h.sound; marked = h.marked; stuck = stuck }

  -- one more that changes nothing
  pub replied : (session : ℕ) (i : Item) → Agrees spoilt s b p n (es ++ (let e : Ending = (session, (i, None)) in e) ∷ []) marks ps
  replied session i =
      let e : Ending = (session, (i, None)) in
      let left : all_left b.db (es ++ e ∷ []) ≡ all_left b.db es = left_more b.db es e in
      record {
        pending = λ whole. h.pending whole ∙ sym left;
        base = h.base;
        commits = h.commits ∙ sym (ap (λ (x : Book). x.commits) (ended_more s b es e));
        each = changes_more b.db es e h.each tt;
        sound = subst (IsSound s) (sym left) h.sound;
        marked = h.marked;
        stuck = h.stuck;
      }

  -- one more with a change
  pub changed : (session : ℕ) (i : Item) (cs : List Changes) (q : Pending) (still : List Bool) → spoilt ≡ false → IsChangeOf (all_ended s b es).db cs → IsSound s (all_changed_by (all_ended s b es).db cs)
      → q.now ≡ all_changed_by p.now cs → q.old ≡ p.old → AreLeft marks still cs → Agrees false s b q (n + 1) (es ++ (let e : Ending = (session, (i, Some cs)) in e) ∷ []) still ps
  changed session i cs q still whole is sound made same unmarked =
      let e : Ending = (session, (i, Some cs)) in
      let left : all_left b.db (es ++ e ∷ []) ≡ all_changed_by (all_left b.db es) cs = left_more b.db es e in
      record {
        pending = λ _. made ∙ ap (λ (db : Db). all_changed_by db cs) (h.pending whole) ∙ sym left;
        base = same ∙ h.base;
        commits = ap (λ (k : ℕ). k + 1) h.commits ∙ sym (ap (λ (x : Book). x.commits) (ended_more s b es e));
        each = changes_more b.db es e h.each (subst (λ (db : Db). IsChangeOf db cs) next_is is);
        sound = subst (IsSound s) (ap (λ (db : Db). all_changed_by db cs) next_is ∙ sym left) sound;
        marked = λ _. subst (AreSame still b.db) (sym made) (same_on marks still b.db p.now cs (is.0 ∙ ap length (sym (is_put whole))) unmarked (h.marked whole));
        stuck = h.stuck;
      }

-- what leads from the server without those that wait leads from it, and to each server that is the same
pub led_on : (v b u t : Server) (p : Plan) → b ≡ let_wait [] v → u ≡ t → Leads b p u → Leads v p t
led_on v b u t p base same h =
    let from : Leads (let_wait [] v) p u = subst (λ (x : Server). Leads x p u) base h in
    let k : IsPlanOf (let_wait [] v) p = from.0 in
    let planned : IsPlanOf v p = record { each = k.each; whole = k.whole; leads_to = k.leads_to; sound = k.sound } in
    (planned, sym same ∙ from.1)

-- where those that wait are stuck in that server, they are on what the plan's change makes
pub left_on : (v u : Server) (p : Plan) → Leads v p u → AreStuck v.schema u.world.db u.world.waiting → AreStuck v.schema (all_changed_by v.world.db p.change) p.left
left_on v u p h stuck =
    let es : List Ending = map ending_of p.ended.items in
    let there : AreStuck v.schema (all_ended v.schema (book_in v.world) es).db p.left = subst (λ (x : Server). AreStuck v.schema x.world.db x.world.waiting) h.1 stuck in
    subst (λ (db : Db). AreStuck v.schema db p.left) (ended_leave v.schema (book_in v.world) es ∙ sym h.0.leads_to) there
