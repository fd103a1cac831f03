-- Texts of first replies: those that jobs have.
use Rattle.std.proofs.Common.{List, None, Option, Some, [], ap, map, refl, subst, sym, true≢false, ℕ, ◌∙◌, ◌∷◌, ◌≡◌}
use Rattle.std.specs.Prelude.{IfSome}
use Rattle.odb_monitor.specs.Job.{Job, Part}
use Rattle.odb_request.specs.Request.{Notation, Request}
use Rattle.odb_sessions.specs.Composed.{asked_of, composition, first_job, first_part}
use Rattle.odb_sessions.specs.FirstTexts.{IsOfNow}
use Rattle.odb_sessions.specs.Marked.{MarkedMonitor}
use Rattle.odb_sessions.specs.Represented.Job.{job_in}
use Rattle.odb_sessions.specs.declared.way.Way.TheVariants as way
use Rattle.odb_sessions.specs.declared.way.Way.{Way}
use Rattle.odb_tables.specs.Database.{Db}

-- the parts of a first reply are of its requests
requests_in : (db : Db) (qs : List Request) → qs ≡ map (λ (p : Part). p.request) (map (first_part db) qs)
requests_in db [] = refl
requests_in db (q ∷ qs) = ap (λ (rs : List Request). q ∷ rs) (requests_in db qs)

pub of_now : (db : Db) (x : MarkedMonitor) (w : Way) → IsOfNow db (job_in db x w)
of_now db x way.First e = ap (first_job db x.notation) (requests_in db (asked_of x.tables))
of_now db x way.Asked e = absurd (true≢false (sym e))
of_now db x (way.Changed u) e = absurd (true≢false (sym e))
of_now db x (way.Again told u) e = absurd (true≢false (sym e))
of_now db x (way.Since r n) e = absurd (true≢false (sym e))

-- what is composed of a job of a first reply is told first of the database that it is of
pub told_first : (db then : Db) (n : Notation) (qs : List Request) (j : Job) (text : List ℕ) → j ≡ first_job then n qs → Some text ≡ composition j → IsOfNow db j → composition (first_job db n qs) ≡ Some text
told_first db then n qs j text is told own =
    let one : j ≡ first_job db j.notation (map (λ (p : Part). p.request) j.parts) = own (ap (λ (k : Job). k.first) is) in
    let notation : j.notation ≡ n = ap (λ (k : Job). k.notation) is in
    let requests : map (λ (p : Part). p.request) j.parts ≡ qs = ap (λ (k : Job). map (λ (p : Part). p.request) k.parts) is ∙ sym (requests_in then qs) in
    (λ i. composition (first_job db (sym notation i) (sym requests i))) ∙ ap composition (sym one) ∙ sym told

-- what follows for what is there
pub some_then : {X : Type 0} (o : Option X) (Before After : X → Type 0) → ((x : X) → Before x → After x) → IfSome o Before → IfSome o After
some_then None Before After f e = tt
some_then (Some x) Before After f e = f x e

-- what is kept of a text that is there
pub kept_in : {X : Type 0} (o : Option X) (x : X) (P : X → Type 0) → o ≡ Some x → IfSome o P → P x
kept_in o x P e h = subst (λ p. IfSome p P) e h
