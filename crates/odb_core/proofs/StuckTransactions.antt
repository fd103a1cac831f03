-- A transaction that rests on one table waits for as long as that stays, until one deadline.
use Rattle.std.proofs.Common.{◌≡◌, ℕ, Bool, true, false, cond, not, ◌&&◌, ◌||◌, List, [], ◌∷◌, length, Option, Some, None, Result, Ok, Err, refl, sym, ap, ◌∙◌, true≢false}
use Rattle.std.specs.Prelude.{⊤, IsSome, codes, map}
use Rattle.std.specs.List.{list_any}
use Rattle.std.proofs.lemmas.Option.{none-some, same_Some}
use Rattle.odb_atoms.specs.Error.{Error, timed_out}
use Rattle.odb_atoms.specs.Uuid.{Uuid}
use Rattle.odb_commit.specs.Transaction as transaction
use Rattle.odb_commit.specs.Transaction.{Outcome, outcome, settled, transact}
use Rattle.odb_integrity.specs.Settlement.{settle}
use Rattle.odb_json.specs.Operation.{Op, read_op}
use Rattle.odb_ops.specs.Execution as ops
use Rattle.odb_ops.specs.Execution.{Context, Draft, Ran, Stop, deadline, draft_of, error_result, expected, fails, failed, finished, first_fresh, fresh_after, go_on, has_passed, is_reached, must_wait, names_of, or_fault, or_stop, perform, read_and_perform, run, run_from, same_rows, selected, stopped, unmet, with_result}
use Rattle.odb_schema.proofs.Holds.{Holds, in_read, next}
use Rattle.odb_schema.specs.Json.{Data, string_member}
use Rattle.odb_schema.specs.Notation.{Names}
use Rattle.odb_schema.specs.Schema.{Schema, columns_at, table_place}
use Rattle.odb_service.specs.Service.{max_rows}
use Rattle.odb_service.specs.World.{Waiting, is_due}
use Rattle.odb_tables.specs.Database.{Db, Table, table_at}
use Rattle.odb_tables.specs.Matching.{matching}
use Rattle.odb_core.specs.Stuck.{IsSameAt, IsStuck, comes_to, is_wait, waits_on}
use Rattle.odb_core.proofs.WaitReadings.{EndsAtOnce, WaitsAt, ends_read, waits_read}

-- ---- operations that don't wait

abbrev Performed : Type 0
Performed = Result (Draft × Data) Stop

abbrev Goes : Performed → Type 0
Goes (Ok p) = ⊤
Goes (Err (fails e)) = ⊤
Goes (Err (must_wait moment)) = ⊥

abbrev Ends : Ran → Type 0
Ends (finished d results) = ⊤
Ends (failed results) = ⊤
Ends (ops.waiting moment) = ⊥

or_stop_goes : (r : Result (Draft × Data) Error) → Goes (or_stop r)
or_stop_goes (Ok p) = tt
or_stop_goes (Err e) = tt

or_fault_goes : (o : Option Error) (p : Draft × Data) → Goes (or_fault o p)
or_fault_goes None p = tt
or_fault_goes (Some e) p = tt

go_on_goes : (b : Bool) (d : Draft) (e : Error) → Goes (go_on b d (fails e))
go_on_goes true d e = tt
go_on_goes false d e = tt

with_ends : (result : Data) (r : Ran) → Ends r → Ends (with_result result r)
with_ends result (finished d results) h = tt
with_ends result (failed results) h = tt
with_ends result (ops.waiting moment) h = absurd h

module _ (s : Schema) (c : Context) where
  goes : (u : Uuid) (d : Draft) (o : Op) → EndsAtOnce o → Goes (perform s c u d o)
  unfolding perform
  goes u d (Op.insert t given name own) h = or_stop_goes _
  goes u d (Op.select t clauses columns) h = tt
  goes u d (Op.update t clauses given) h = tt
  goes u d (Op.mutate t clauses ms) h = or_fault_goes _ _
  goes u d (Op.delete t clauses) h = tt
  goes u d (Op.wait t clauses columns until rows timeout) h = absurd h
  goes u d (Op.commit durable) h = go_on_goes _ _ _
  goes u d Op.abort h = tt
  goes u d Op.comment h = tt
  goes u d (Op.assert lock) h = go_on_goes _ _ _

  module _ (names : Names) where
    one_goes : (u : Uuid) (d : Draft) (op : Data) → is_wait op ≡ false → Goes (read_and_perform s c names u d op)
    one_goes u d op isnt = by (read_op s names op) (ends_read s names op isnt)
      where
        by : (r : Result Op Error) → Holds EndsAtOnce r → Goes (next (or_stop r) (perform s c u d))
        by (Ok o) h = goes u d o (in_read Error EndsAtOnce o h)
        by (Err e) h = tt

    either : (a b : Bool) → (a || b) ≡ false → (a ≡ false) × (b ≡ false)
    either true b e = absurd (true≢false e)
    either false b e = (refl, e)

    step : (left : List Uuid) (rest : List Data) → ((d : Draft) → Ends (run_from s c names left d rest)) → (r : Performed) → Goes r
        → Ends (elim r as (λ _. Ran) [ Ok p ↦ with_result p.1 (run_from s c names left p.0 rest) | Err stop ↦ stopped stop (length rest) ])
    step left rest ih (Ok p) h = with_ends p.1 (run_from s c names left p.0 rest) (ih p.0)
    step left rest ih (Err (fails e)) h = tt
    step left rest ih (Err (must_wait moment)) h = absurd h

    rest_ends : (fresh : List Uuid) (rest : List Data) → list_any is_wait rest ≡ false → (d : Draft) → Ends (run_from s c names fresh d rest)
    rest_ends fresh [] none d = tt
    rest_ends fresh (op ∷ rest) none d =
        let e : (is_wait op ≡ false) × (list_any is_wait rest ≡ false) = either (is_wait op) (list_any is_wait rest) none in
        step (fresh_after op fresh) rest (rest_ends (fresh_after op fresh) rest e.1) (read_and_perform s c names (first_fresh fresh) d op) (one_goes (first_fresh fresh) d op e.0)

-- ---- the first, which waits

-- whether it is a `wait` that is met on the database
abbrev is_met : Schema → Op → Db → Bool
is_met s (Op.insert t given name own) db = true
is_met s (Op.select t clauses columns) db = true
is_met s (Op.update t clauses given) db = true
is_met s (Op.mutate t clauses ms) db = true
is_met s (Op.delete t clauses) db = true
is_met s (Op.wait t clauses columns until rows timeout) db = is_reached until (same_rows (selected columns (matching clauses (table_at db t))) (map (expected (columns_at s t) columns) rows))
is_met s (Op.commit durable) db = true
is_met s Op.abort db = true
is_met s Op.comment db = true
is_met s (Op.assert lock) db = true

-- until when it waits
abbrev until_of : Context → Op → Option ℕ
until_of c (Op.insert t given name own) = None
until_of c (Op.select t clauses columns) = None
until_of c (Op.update t clauses given) = None
until_of c (Op.mutate t clauses ms) = None
until_of c (Op.delete t clauses) = None
until_of c (Op.wait t clauses columns until rows timeout) = deadline c timeout
until_of c (Op.commit durable) = None
until_of c Op.abort = None
until_of c Op.comment = None
until_of c (Op.assert lock) = None

performs : (s : Schema) (c : Context) (u : Uuid) (d : Draft) (place : Option ℕ) (o : Op) → WaitsAt place o → perform s c u d o ≡ go_on (is_met s o d.db) d (unmet c (until_of c o))
unfolding perform
performs s c u d place (Op.insert t given name own) h = absurd h
performs s c u d place (Op.select t clauses columns) h = absurd h
performs s c u d place (Op.update t clauses given) h = absurd h
performs s c u d place (Op.mutate t clauses ms) h = absurd h
performs s c u d place (Op.delete t clauses) h = absurd h
performs s c u d place (Op.wait t clauses columns until rows timeout) h = refl
performs s c u d place (Op.commit durable) h = absurd h
performs s c u d place Op.abort h = absurd h
performs s c u d place Op.comment h = absurd h
performs s c u d place (Op.assert lock) h = absurd h

-- it is met alike where its table is the same
alike : (s : Schema) (old new : Db) (place : Option ℕ) (o : Op) → WaitsAt place o → ((t : ℕ) → place ≡ Some t → table_at new t ≡ table_at old t) → is_met s o new ≡ is_met s o old
alike s old new place (Op.insert t given name own) h same = absurd h
alike s old new place (Op.select t clauses columns) h same = absurd h
alike s old new place (Op.update t clauses given) h same = absurd h
alike s old new place (Op.mutate t clauses ms) h same = absurd h
alike s old new place (Op.delete t clauses) h same = absurd h
alike s old new place (Op.wait t clauses columns until rows timeout) h same =
    ap (λ (table : Table). is_reached until (same_rows (selected columns (matching clauses table)) (map (expected (columns_at s t) columns) rows))) (same t h)
alike s old new place (Op.commit durable) h same = absurd h
alike s old new place Op.abort h same = absurd h
alike s old new place Op.comment h same = absurd h
alike s old new place (Op.assert lock) h same = absurd h

abbrev moment_of : Outcome → Option (Option ℕ)
moment_of (transaction.done results db) = None
moment_of (transaction.refused results) = None
moment_of (transaction.waiting moment) = Some moment

module _ (s : Schema) (number : ℕ) (db : Db) where
  abbrev out : Ran → Outcome
  out r = outcome s max_rows number db r

  ended : (r : Ran) → Ends r → moment_of (out r) ≡ None
  ended (finished d results) h = by (settle s max_rows d.db)
    where
      by : (r : Result Db Error) → moment_of (settled number db results r) ≡ None
      by (Ok new) = refl
      by (Err e) = refl
  ended (failed results) h = refl
  ended (ops.waiting moment) h = absurd h

-- a transaction by what its first operation is read as
module _ (s : Schema) (number : ℕ) (c : Context) (db : Db) (op : Data) (rest : List Data) (name : List ℕ) where
  abbrev names : Names
  names = names_of (op ∷ rest) c.fresh

  abbrev left : List Uuid
  left = fresh_after op c.fresh

  abbrev u : Uuid
  u = first_fresh c.fresh

  abbrev d : Draft
  d = draft_of db

  abbrev ran : Performed → Ran
  ran r = elim r as (λ _. Ran) [ Ok p ↦ with_result p.1 (run_from s c names left p.0 rest) | Err stop ↦ stopped stop (length rest) ]

  abbrev by_op : Result Op Error → Outcome
  by_op r = outcome s max_rows number db (ran (next (or_stop r) (perform s c u d)))

  begun : transact s max_rows number c db (op ∷ rest) ≡ by_op (read_op s names op)
  unfolding transact run
  begun = refl

  -- where it is this one
  abbrev as_met : Bool → Option ℕ → Outcome
  as_met b moment = outcome s max_rows number db (ran (go_on b d (unmet c moment)))

  read_as : (r : Result Op Error) (o : Op) → WaitsAt (table_place s name) o → r ≡ Ok o → by_op r ≡ as_met (is_met s o db) (until_of c o)
  read_as r o at e = ap by_op e ∙ ap (λ (p : Performed). outcome s max_rows number db (ran p)) (performs s c u d (table_place s name) o at)

  -- a `wait` that isn't met waits until its moment
  pub goes_on : (o : Op) → WaitsAt (table_place s name) o → read_op s names op ≡ Ok o → is_met s o db ≡ false → has_passed c (until_of c o) ≡ false
      → transact s max_rows number c db (op ∷ rest) ≡ transaction.waiting (until_of c o)
  goes_on o at e isnt time =
      begun ∙ read_as (read_op s names op) o at e ∙ ap (λ b. as_met b (until_of c o)) isnt
      ∙ ap (λ b. outcome s max_rows number db (stopped (cond b (fails timed_out) (must_wait (until_of c o))) (length rest))) time

  -- what is so where the transaction waits
  abbrev Waits : Option ℕ → Type 0
  Waits moment = (o : Op) × (read_op s names op ≡ Ok o) × WaitsAt (table_place s name) o × (is_met s o db ≡ false) × (has_passed c (until_of c o) ≡ false) × (moment ≡ until_of c o)

  abbrev Found : Bool → Bool → Option ℕ → Option ℕ → Type 0
  Found met passed until moment = (met ≡ false) × (passed ≡ false) × (moment ≡ until)

  timed : (passed : Bool) (until moment : Option ℕ) → outcome s max_rows number db (stopped (cond passed (fails timed_out) (must_wait until)) (length rest)) ≡ transaction.waiting moment → Found false passed until moment
  timed true until moment e = absurd (none-some moment (ap moment_of e))
  timed false until moment e = (refl, refl, sym (same_Some until moment (ap moment_of e)))

  found : list_any is_wait rest ≡ false → (met : Bool) (until moment : Option ℕ) → as_met met until ≡ transaction.waiting moment → Found met (has_passed c until) until moment
  found alone true until moment e =
      let none : moment_of (as_met true until) ≡ None = ended s number db (with_result ops.empty_result (run_from s c names left d rest)) (with_ends ops.empty_result (run_from s c names left d rest) (rest_ends s c names left rest alone d)) in
      absurd (none-some moment (sym none ∙ ap moment_of e))
  found alone false until moment e = timed (has_passed c until) until moment e

  pub waits_by : is_wait op ≡ true → list_any is_wait rest ≡ false → string_member (codes "table") op ≡ Some name → (moment : Option ℕ)
      → transact s max_rows number c db (op ∷ rest) ≡ transaction.waiting moment → Waits moment
  waits_by is alone at moment e = by (read_op s names op) refl (waits_read s names op name is at) (sym begun ∙ e)
    where
      by : (r : Result Op Error) → read_op s names op ≡ r → Holds (WaitsAt (table_place s name)) r → by_op r ≡ transaction.waiting moment → Waits moment
      by (Ok o) same h e =
          let k : WaitsAt (table_place s name) o = in_read Error (WaitsAt (table_place s name)) o h in
          let f : Found (is_met s o db) (has_passed c (until_of c o)) (until_of c o) moment = found alone (is_met s o db) (until_of c o) moment (sym (read_as (Ok o) o k refl) ∙ e) in
          (o, same, k, f.0, f.1, f.2)
      by (Err x) same h e = absurd (none-some moment (ap moment_of e))

-- ---- transactions that rest on one table

passed_is : (c : Context) (o : Option ℕ) → has_passed c o ≡ is_due c.now o
passed_is c None = refl
passed_is c (Some moment) = refl

abbrev given : List Uuid → (arrival now : ℕ) → (List ℕ → Bool) → Context
given fresh arrival now owns = record { fresh = fresh; arrival = arrival; now = now; owns = owns }

module _ (fresh : List Uuid) (arrival now later : ℕ) (owns others : List ℕ → Bool) where
  due_alike : (timeout : Option ℕ) → deadline (given fresh arrival now owns) timeout ≡ deadline (given fresh arrival later others) timeout
  due_alike None = refl
  due_alike (Some timeout) = refl

  until_alike : (o : Op) → until_of (given fresh arrival now owns) o ≡ until_of (given fresh arrival later others) o
  until_alike (Op.insert t values name own) = refl
  until_alike (Op.select t clauses columns) = refl
  until_alike (Op.update t clauses values) = refl
  until_alike (Op.mutate t clauses ms) = refl
  until_alike (Op.delete t clauses) = refl
  until_alike (Op.wait t clauses columns until rows timeout) = due_alike timeout
  until_alike (Op.commit durable) = refl
  until_alike Op.abort = refl
  until_alike Op.comment = refl
  until_alike (Op.assert lock) = refl

abbrev IsNamed : List Data → List ℕ → Type 0
IsNamed all name = (op : Data) × (rest : List Data) × (all ≡ op ∷ rest) × (is_wait op ≡ true) × (list_any is_wait rest ≡ false) × (string_member (codes "table") op ≡ Some name)

named : (all : List Data) (name : List ℕ) → waits_on all ≡ Some name → IsNamed all name
named [] name e = absurd (none-some name e)
named (op ∷ rest) name e = by (is_wait op) (list_any is_wait rest) refl refl e
  where
    by : (a b : Bool) → is_wait op ≡ a → list_any is_wait rest ≡ b → cond (a && not b) (string_member (codes "table") op) None ≡ Some name → IsNamed (op ∷ rest) name
    by true true is more e = absurd (none-some name e)
    by true false is more e = (op, rest, refl, is, more, e)
    by false b is more e = absurd (none-some name e)

module _ (s : Schema) (p : Waiting) (name : List ℕ) (rests : waits_on p.operations ≡ Some name) where
  abbrev parts : IsNamed p.operations name
  parts = named p.operations name rests

  abbrev op : Data
  op = parts.0

  abbrev rest : List Data
  rest = parts.1

  abbrev came : Db → (number now : ℕ) → (List ℕ → Bool) → Outcome
  came db number now owns = transact s max_rows number (given p.fresh p.arrival now owns) db (op ∷ rest)

  in_parts : (db : Db) (number now : ℕ) (owns : List ℕ → Bool) → comes_to s p db number now owns ≡ came db number now owns
  in_parts db number now owns = ap (λ all. transact s max_rows number (given p.fresh p.arrival now owns) db all) parts.2

  abbrev Here : (db : Db) → (number now : ℕ) → (List ℕ → Bool) → Option ℕ → Type 0
  Here db number now owns moment = Waits s number (given p.fresh p.arrival now owns) db op rest name moment

  here : (db : Db) (number now : ℕ) (owns : List ℕ → Bool) (moment : Option ℕ) → comes_to s p db number now owns ≡ transaction.waiting moment → Here db number now owns moment
  here db number now owns moment e = waits_by s number (given p.fresh p.arrival now owns) db op rest name parts.3 parts.4 parts.5 moment (sym (in_parts db number now owns) ∙ e)

  module _ (old new : Db) (number other now later : ℕ) (owns others : List ℕ → Bool) (moment : Option ℕ) (e : comes_to s p old number now owns ≡ transaction.waiting moment) where
    abbrev h : Here old number now owns moment
    h = here old number now owns moment e

    abbrev o : Op
    o = h.0

    abbrev c : Context
    c = given p.fresh p.arrival now owns

    abbrev k : Context
    k = given p.fresh p.arrival later others

    -- where it waits it waits wherever its table is the same, and its deadline hasn't come
    waits_again : IsSameAt s name old new → is_due later moment ≡ false → comes_to s p new other later others ≡ transaction.waiting moment
    waits_again same before =
        let until : moment ≡ until_of k o = h.5 ∙ until_alike p.fresh p.arrival now later owns others o in
        let time : has_passed k (until_of k o) ≡ false = passed_is k (until_of k o) ∙ ap (is_due later) (sym until) ∙ before in
        in_parts new other later others ∙ goes_on s other k new op rest name o h.2 h.1 (alike s old new (table_place s name) o h.2 same ∙ h.3) time ∙ ap transaction.waiting (sym until)

    -- it waits nowhere until another
    one_moment : (next : Option ℕ) → comes_to s p new other later others ≡ transaction.waiting next → next ≡ moment
    one_moment next f =
        let g : Here new other later others next = here new other later others next f in
        g.5 ∙ ap (until_of k) (same_Ok g.0 o (sym g.1 ∙ h.1)) ∙ sym (until_alike p.fresh p.arrival now later owns others o) ∙ sym h.5
      where
        of_result : Result Op Error → Op
        of_result (Ok x) = x
        of_result (Err x) = o

        same_Ok : (x y : Op) → (let r : Result Op Error = Ok x in r) ≡ Ok y → x ≡ y
        same_Ok x y e = ap of_result e

  -- one that waits is stuck from now on, until that
  pub stuck_named : (db : Db) (number now n : ℕ) (owns : List ℕ → Bool) (moment : Option ℕ) → comes_to s p db number now owns ≡ transaction.waiting moment → IsStuck s db (record p { deadline = moment; tried = n })
  stuck_named db number now n owns moment e = record {
    waits = λ other later others before. waits_again db db number other now later owns others moment e (λ t at. refl) before;
    until = λ new other later others next f. one_moment db new number other now later owns others moment e next f;
  }

  -- one that is stuck is stuck wherever its table is the same
  pub stuck_alike : (old new : Db) → IsSameAt s name old new → IsStuck s old p → IsStuck s new p
  stuck_alike old new same h = record {
    waits = λ number now owns before. waits_again old new number number now now owns owns p.deadline (h.waits number now owns before) same before;
    until = h.until;
  }

some_in : {A : Type 0} (o : Option A) → IsSome o → (x : A) × (o ≡ Some x)
some_in None e = absurd (true≢false (sym e))
some_in (Some x) e = (x, refl)

pub stuck_here : (s : Schema) (p : Waiting) (db : Db) (number now n : ℕ) (owns : List ℕ → Bool) (moment : Option ℕ) → IsSome (waits_on p.operations) → comes_to s p db number now owns ≡ transaction.waiting moment
    → IsStuck s db (record p { deadline = moment; tried = n })
stuck_here s p db number now n owns moment rests e =
    let name : (x : List ℕ) × (waits_on p.operations ≡ Some x) = some_in (waits_on p.operations) rests in
    stuck_named s p name.0 name.1 db number now n owns moment e
