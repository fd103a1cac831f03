-- What a try of a transaction makes of the world, by what the transaction comes to.
use Rattle.std.proofs.Common.{◌≡◌, ℕ, ◌+◌, Bool, cond, nat_lt, List, [], ◌∷◌, ◌++◌, map, Option, Some, None, refl, sym, ◌∙◌, ap, subst}
use Rattle.std.specs.Prelude.{Vec}
use Rattle.std.specs.List.{list_any}
use Rattle.std.specs.declared.alloc.Global.{Global}
use Rattle.odb_atoms.specs.FinMap.{get, insert, len}
use Rattle.odb_commit.specs.Represented.Outcome.{Answers}
use Rattle.odb_commit.specs.Transaction as transaction
use Rattle.odb_commit.specs.declared.transaction.Outcome.TheVariants as outcome
use Rattle.odb_ops.specs.Represented.Ran.{results_of}
use Rattle.odb_rpc.specs.Message.{reply}
use Rattle.odb_schema.specs.Json.{Data, array_of}
use Rattle.odb_schema.specs.Schema.{Schema}
use Rattle.odb_tables.specs.Change.{Changes, all_changed_by, change_between}
use Rattle.odb_tables.specs.Database.{Db}
use Rattle.odb_tables.specs.Installing.{IsChangeOf}
use Rattle.odb_commit.specs.Sound.{IsSound}
use Rattle.odb_wire.specs.Message.{id_of}
use Rattle.odb_wire.specs.Shown.{request_data}
use Rattle.odb_service.specs.Server.{served_by}
use Rattle.odb_service.specs.Service.{outcome_of}
use Rattle.odb_service.specs.Session.{Item, Session, say, sync, to, with_content}
use Rattle.odb_service.specs.World.{Waiting, World, asked_of, attempt, end_transaction, on_outcome, post, post_to, push}
use Rattle.odb_core.specs.declared.submitted.Submitted.{Submitted}
use Rattle.odb_core.specs.Represented.Waiting.{outcome_in, waiting_as}
use Rattle.odb_sessions.specs.Book.{Sessions}
use Rattle.odb_sessions.specs.Asked.{ended_in}
use Rattle.odb_sessions.specs.Posts.{at_number}

-- posting changes the sessions alone
pub post_as : (n : ℕ) (is : List Item) (w : World) → post n is w ≡ record w { sessions = at_number (push is) w.sessions n }
post_as n is w = by (get w.sessions n)
  where
    by : (o : Option Session) → post_to n is o w ≡ record w { sessions = elim o as (λ _. Sessions) [ None ↦ w.sessions | Some x ↦ insert w.sessions n (push is x) ] }
    by None = refl
    by (Some x) = refl

-- a commit changes the database, its count and the session that asked for it
pub commit_as : (s : Schema) (n : ℕ) (d r : Data) (db : Db) (w : World)
    → end_transaction (served_by s) n d r (Some db) w ≡ record w { db = db; commits = w.commits + 1; earlier = with_content w.db w.earlier; sessions = at_number (ended_in s (say (to d) (reply (id_of d) r))) w.sessions n }
commit_as s n d r db w = by (get w.sessions n)
  where
    i : Item
    i = say (to d) (reply (id_of d) r)

    by : (o : Option Session) → post_to n (map (λ k. sync k.id) (asked_of (served_by s) o) ++ i ∷ []) o (record w { db = db; commits = w.commits + 1; earlier = with_content w.db w.earlier })
        ≡ record w { db = db; commits = w.commits + 1; earlier = with_content w.db w.earlier; sessions = elim o as (λ _. Sessions) [ None ↦ w.sessions | Some x ↦ insert w.sessions n (ended_in s i x) ] }
    by None = refl
    by (Some x) = refl

module _ (s : Schema) (w : World) (a : Submitted) (deadline : Option ℕ) (n : ℕ) where
  abbrev p : Waiting
  p = waiting_as a deadline n

  abbrev d : Data
  d = request_data a.request

  abbrev Tried : Type 0
  Tried = World × Option Waiting

  abbrev ended_as : Vec Data Global → Option Db → Tried
  ended_as results db = (end_transaction (served_by s) a.session d (array_of (results_of results)) db w, None)

  pub fails_as : (results : Vec Data Global) → Answers s w.db (outcome.Failed results) (outcome_in s w a) → attempt (served_by s) p w ≡ ended_as results None
  fails_as results k = by (outcome_in s w a) k
    where
      by : (m : transaction.Outcome) → Answers s w.db (outcome.Failed results) m → on_outcome (served_by s) p (outcome_of w.db m) w ≡ ended_as results None
      by (transaction.done answer new) k = absurd k
      by (transaction.refused answer) k = ap (λ (r : List Data). let t : Tried = (end_transaction (served_by s) a.session d (array_of r) None w, None) in t) k
      by (transaction.waiting moment) k = absurd k

  pub waits_as : (moment : Option ℕ) → Answers s w.db (outcome.Waiting moment) (outcome_in s w a) → attempt (served_by s) p w ≡ (w, Some (waiting_as a moment w.commits))
  waits_as moment k = by (outcome_in s w a) k
    where
      by : (m : transaction.Outcome) → Answers s w.db (outcome.Waiting moment) m → on_outcome (served_by s) p (outcome_of w.db m) w ≡ (w, Some (waiting_as a moment w.commits))
      by (transaction.done answer new) k = absurd k
      by (transaction.refused answer) k = absurd k
      by (transaction.waiting t) k = ap (λ (t : Option ℕ). let r : Tried = (w, Some (waiting_as a t w.commits)) in r) k

  -- whether a change has rows
  abbrev pub has_rows : List Changes → Bool
  has_rows cs = list_any (λ c. nat_lt 0 (len c)) cs

  -- a change with rows is a commit, and one without is none
  changes_as : (results : List Data) (answer : List Data) (change : List Changes) (new : Db) (b : Bool) → has_rows change ≡ b → answer ≡ results → change ≡ change_between w.db new → all_changed_by w.db change ≡ new
      → on_outcome (served_by s) p (outcome_of w.db (transaction.done answer new)) w ≡ (end_transaction (served_by s) a.session d (array_of results) (cond b (Some (all_changed_by w.db change)) None) w, None)
  changes_as results answer change new b is same leads gives =
      ap (λ (r : List Data). let t : Tried = (on_outcome (served_by s) p (outcome_of w.db (transaction.done r new)) w) in t) same
      ∙ ap (λ (cs : List Changes). let t : Tried = (end_transaction (served_by s) a.session d (array_of results) (cond (has_rows cs) (Some new) None) w, None) in t) (sym leads)
      ∙ ap (λ (c : Bool). let t : Tried = (end_transaction (served_by s) a.session d (array_of results) (cond c (Some new) None) w, None) in t) is
      ∙ ap (λ (db : Db). let t : Tried = (end_transaction (served_by s) a.session d (array_of results) (cond b (Some db) None) w, None) in t) (sym gives)

  pub done_as : (results : Vec Data Global) (change : List Changes) (b : Bool) → has_rows change ≡ b → Answers s w.db (outcome.Done results change) (outcome_in s w a) → attempt (served_by s) p w ≡ ended_as results (cond b (Some (all_changed_by w.db change)) None)
  done_as results change b is k = by (outcome_in s w a) k
    where
      by : (m : transaction.Outcome) → Answers s w.db (outcome.Done results change) m → on_outcome (served_by s) p (outcome_of w.db m) w ≡ ended_as results (cond b (Some (all_changed_by w.db change)) None)
      by (transaction.done answer new) k = changes_as (results_of results) answer change new b is k.0 k.1 k.3
      by (transaction.refused answer) k = absurd k
      by (transaction.waiting t) k = absurd k

-- what an outcome that is done says beside it
module _ (s : Schema) (db : Db) (results : Vec Data Global) (change : List Changes) where
  pub done_is : (m : transaction.Outcome) → Answers s db (outcome.Done results change) m → IsChangeOf db change × IsSound s (all_changed_by db change)
  done_is (transaction.done answer new) k = (k.2, subst (IsSound s) (sym k.3) k.4)
  done_is (transaction.refused answer) k = absurd k
  done_is (transaction.waiting t) k = absurd k

-- one that waits comes to that
pub waiting_is : (s : Schema) (db : Db) (moment : Option ℕ) (m : transaction.Outcome) → Answers s db (outcome.Waiting moment) m → m ≡ transaction.waiting moment
waiting_is s db moment (transaction.done answer new) k = absurd k
waiting_is s db moment (transaction.refused answer) k = absurd k
waiting_is s db moment (transaction.waiting t) k = ap transaction.waiting k
