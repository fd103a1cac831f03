-- Operations one after another.
use Rattle.std.proofs.Common.{◌≡◌, ℕ, List, [], ◌∷◌, ◌++◌, length, replicate, Option, Some, None, OnOk, Result, Ok, Err, Vec, refl, sym, ap, subst, ◌∙◌}
use Rattle.std.specs.declared.alloc.Global.{Global}
use Rattle.odb_atoms.specs.FinMap as map
use Rattle.odb_atoms.specs.First.{◌>>=◌}
use Rattle.odb_atoms.specs.Uuid.{Uuid}
use Rattle.odb_json.specs.Operation.{Op, read_op}
use Rattle.odb_json.specs.Suited.{IsFor}
use Rattle.odb_ops.specs.Execution as model
use Rattle.odb_ops.specs.Execution.{Context, Ran, error_result, failed, fails, finished, fresh_after, first_fresh, waiting, perform, read_and_perform, run_from, stopped, must_wait, with_result}
use Rattle.odb_ops.specs.Represented.Draft.{begun, naming}
use Rattle.odb_ops.specs.Represented.Parts.{AreTaken}
use Rattle.odb_ops.specs.Represented.Ran.{Answers, Ends}
use Rattle.odb_ops.specs.declared.execution.Ran as declared
use Rattle.odb_ops.specs.declared.execution.Ran.TheVariants as ran
use Rattle.odb_ops.specs.Represented.Stop.{Carried, IsStopped, Performs, named_after, stop_of}
use Rattle.odb_ops.specs.declared.stop.Stop.{Stop}
use Rattle.odb_ops.proofs.Bindings.{none_taken}
use Rattle.odb_ops.proofs.Typed.{perform_typed}
use Rattle.odb_schema.specs.Json.{Data, null}
use Rattle.odb_schema.specs.Notation.{Names}
use Rattle.odb_schema.specs.Schema.{Schema}
use Rattle.odb_schema.proofs.Holds.{Holds, in_read}
use Rattle.odb_tables.specs.Database.{Db}
use Rattle.odb_tables.specs.Draft.{Draft}
use Rattle.odb_tables.specs.Typed.{IsTyped}

-- ---- one operation

module _ (s : Schema) (c : Context) (names : Names) (u : Uuid) (d new : Draft) (taken after : Names) (text : Data) (op : Op) (named : List (List ℕ)) where
  reads_is : read_op s names text ≡ Ok op → read_and_perform s c names u (naming named d) text ≡ perform s c u (naming named d) op
  reads_is e = ap (λ r. ◌>>=◌ (model.or_stop r) (λ o. perform s c u (naming named d) o)) e

  -- what was read is carried out
  pub carried : (result : Result Data Stop) → read_op s names text ≡ Ok op → IsFor s op → IsTyped s d.now → AreTaken taken named
      → Performs (λ v. (naming (named_after op named) new, v)) result (perform s c u (naming named d) op)
      → OnOk result ((named : List (List ℕ)) → AreTaken taken named → AreTaken after (named_after op named))
      → Carried s result after new (read_and_perform s c names u (naming named d) text)
  carried (Ok v) e suits typed h performs claims = (
    in_read model.Stop (λ (p : model.Draft × Data). IsTyped s p.0.db) (naming (named_after op named) new, v) (subst (Holds (λ (p : model.Draft × Data). IsTyped s p.0.db)) performs (perform_typed s c u (naming named d) op suits typed)),
    (named_after op named, claims named h, reads_is e ∙ performs),
  )
  carried (Err x) e suits typed h performs claims = subst (IsStopped (stop_of x)) (sym (reads_is e)) performs

-- ---- operations in a row

-- these results in front
abbrev pub with_results : List Data → Ran → Ran
with_results [] r = r
with_results (x ∷ xs) r = with_result x (with_results xs r)

with_results-push : (xs : List Data) (y : Data) (r : Ran) → with_results (xs ++ y ∷ []) r ≡ with_results xs (with_result y r)
with_results-push [] y r = refl
with_results-push (x ∷ xs) y r = ap (with_result x) (with_results-push xs y r)

with_results-finished : (xs : List Data) (d : model.Draft) → with_results xs (finished d []) ≡ finished d xs
with_results-finished [] d = refl
with_results-finished (x ∷ xs) d = ap (with_result x) (with_results-finished xs d)

with_results-failed : (xs ys : List Data) → with_results xs (failed ys) ≡ failed (xs ++ ys)
with_results-failed [] ys = refl
with_results-failed (x ∷ xs) ys = ap (with_result x) (with_results-failed xs ys)

with_results-waits : (xs : List Data) (moment : Option ℕ) → with_results xs (waiting moment) ≡ waiting moment
with_results-waits [] moment = refl
with_results-waits (x ∷ xs) moment = ap (with_result x) (with_results-waits xs moment)

module _ (s : Schema) (c : Context) (names : Names) where
  -- what remains of the operations, after these results
  abbrev pub remains : List Data → List Uuid → model.Draft → List Data → Ran
  remains results fresh d ops = with_results results (run_from s c names fresh d ops)

  -- one operation more went through
  pub gone_on : (whole : Ran) (results : List Data) (fresh : List Uuid) (d new : model.Draft) (op : Data) (ops : List Data) (result : Data)
      → remains results fresh d (op ∷ ops) ≡ whole → read_and_perform s c names (first_fresh fresh) d op ≡ Ok (new, result)
      → remains (results ++ result ∷ []) (fresh_after op fresh) new ops ≡ whole
  gone_on whole results fresh d new op ops result so_far went =
      with_results-push results result (run_from s c names (fresh_after op fresh) new ops)
      ∙ ap (λ r. with_results results (next r)) (sym went) ∙ so_far
    where
      next : Result (model.Draft × Data) model.Stop → Ran
      next r = elim r as (λ _. Ran) [
        | Ok p ↦ with_result p.1 (run_from s c names (fresh_after op fresh) p.0 ops)
        | Err stop ↦ stopped stop (length ops)
      ]

  -- an operation stopped
  pub stopped_at : (whole : Ran) (results : List Data) (fresh : List Uuid) (d : model.Draft) (op : Data) (ops : List Data) (stop : model.Stop)
      → remains results fresh d (op ∷ ops) ≡ whole → read_and_perform s c names (first_fresh fresh) d op ≡ Err stop
      → with_results results (stopped stop (length ops)) ≡ whole
  stopped_at whole results fresh d op ops stop so_far went = ap (λ r. with_results results (next r)) (sym went) ∙ so_far
    where
      next : Result (model.Draft × Data) model.Stop → Ran
      next r = elim r as (λ _. Ran) [
        | Ok p ↦ with_result p.1 (run_from s c names (fresh_after op fresh) p.0 ops)
        | Err stop ↦ model.stopped stop (length ops)
      ]

-- with names that inserts have had, what remains is the whole
abbrev pub Going : Schema → Context → Names → Ran → List Data → List Uuid → Names → Draft → List Data → Type 0
Going s c names whole results fresh taken d ops = (named : List (List ℕ)) × AreTaken taken named × (remains s c names results fresh (naming named d) ops ≡ whole)

module _ (s : Schema) (c : Context) (names : Names) where
  pub begins : (fresh : List Uuid) (taken : Names) (d : Draft) (ops : List Data) → taken ≡ map.empty → Going s c names (run_from s c names fresh (begun d) ops) [] fresh taken d ops
  begins fresh taken d ops e = ([], subst (λ m. AreTaken m []) (sym e) none_taken, refl)

  -- one more, and what stops
  pub goes_on : (whole : Ran) (results : List Data) (fresh : List Uuid) (taken after : Names) (d new : Draft) (op : Data) (ops : List Data) (v : Data)
      → Going s c names whole results fresh taken d (op ∷ ops)
      → ((named : List (List ℕ)) → AreTaken taken named → Carried s (Ok v) after new (read_and_perform s c names (first_fresh fresh) (naming named d) op))
      → Going s c names whole (results ++ v ∷ []) (fresh_after op fresh) after new ops
  goes_on whole results fresh taken after d new op ops v going ran =
      let done : Carried s (Ok v) after new (read_and_perform s c names (first_fresh fresh) (naming going.0 d) op) = ran going.0 going.1 in
      (done.1.0, done.1.1, gone_on s c names whole results fresh (naming going.0 d) (naming done.1.0 new) op ops v going.2 done.1.2)

  pub stops : (whole : Ran) (results : List Data) (fresh : List Uuid) (taken after : Names) (d new : Draft) (op : Data) (ops : List Data) (e : Stop) (stop : model.Stop)
      → Going s c names whole results fresh taken d (op ∷ ops)
      → ((named : List (List ℕ)) → AreTaken taken named → Carried s (Err e) after new (read_and_perform s c names (first_fresh fresh) (naming named d) op))
      → stop_of e ≡ Some stop
      → with_results results (stopped stop (length ops)) ≡ whole
  stops whole results fresh taken after d new op ops e stop going ran is =
      stopped_at s c names whole results fresh (naming going.0 d) op ops stop going.2
      (subst (λ o. IsStopped o (read_and_perform s c names (first_fresh fresh) (naming going.0 d) op)) is (ran going.0 going.1))

  -- all went through
  pub finishes : (whole : Ran) (results : List Data) (fresh : List Uuid) (taken : Names) (d : Draft) → Going s c names whole results fresh taken d [] → (named : List (List ℕ)) × (whole ≡ finished (naming named d) results)
  finishes whole results fresh taken d going = (going.0, sym going.2 ∙ with_results-finished results (naming going.0 d))

-- ---- what the code answers

-- all went through
pub answers_finished : (results : Vec Data Global) (d : Draft) (whole : Ran) → ((named : List (List ℕ)) × (whole ≡ finished (naming named d) results.items)) → Answers (ran.Finished results) d.now whole
answers_finished results d whole h = subst (Answers (ran.Finished results) d.now) (sym h.1) (refl, refl)

-- an operation stopped
pub answers_stopped : (answer : declared.Ran) (db : Db) (whole : Ran) (results : List Data) (stop : Option model.Stop) (later : ℕ)
    → Ends answer results stop later → ((x : model.Stop) → stop ≡ Some x → with_results results (stopped x later) ≡ whole) → Answers answer db whole
answers_stopped (ran.Failed vs) db whole results (Some (fails e)) later ends h =
    subst (Answers (ran.Failed vs) db) (sym (with_results-failed results (error_result e ∷ replicate later null)) ∙ h (fails e) refl) (sym ends)
answers_stopped (ran.Waiting moment) db whole results (Some (must_wait answer)) later ends h =
    subst (Answers (ran.Waiting moment) db) (sym (with_results-waits results answer) ∙ h (must_wait answer) refl) (sym ends)
answers_stopped (ran.Failed vs) db whole results (Some (must_wait answer)) later ends h = absurd ends
answers_stopped (ran.Failed vs) db whole results None later ends h = absurd ends
answers_stopped (ran.Waiting moment) db whole results (Some (fails e)) later ends h = absurd ends
answers_stopped (ran.Waiting moment) db whole results None later ends h = absurd ends
answers_stopped (ran.Finished vs) db whole results (Some (fails e)) later ends h = absurd ends
answers_stopped (ran.Finished vs) db whole results (Some (must_wait answer)) later ends h = absurd ends
answers_stopped (ran.Finished vs) db whole results None later ends h = absurd ends
