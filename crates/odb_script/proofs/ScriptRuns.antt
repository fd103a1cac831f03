-- A run under way: what is written so far, and what the rest of the input prints.
use Rattle.std.proofs.Common.{◌≡◌, ℕ, ◌+◌, List, [], ◌∷◌, ◌++◌, None, Some, IfSome, Ok, Err, refl, ap, sym, subst, ◌∙◌, append_assoc, append-nil}
use Rattle.std.specs.declared.option.Option.{Option}
use Rattle.std.specs.Io.KnownBytes.{Appends}
use Rattle.odb_service.specs.Service.{Service}
use Rattle.odb_script.specs.Script.{Script, perform_lines, command_of, lines_of}
use Rattle.odb_script.specs.declared.fault.RunFault.{RunFault}
use Rattle.odb_script.specs.declared.fault.RunFault.TheVariants.{BadCommand, Memory, Read, Write}
use Rattle.odb_script.specs.Represented.Run.{line_step, AppendsFront, CarriesOut, Ends, IsOfReading}
use Rattle.odb_script.proofs.AppendedParts.{appends_nothing, appends_more, appends_kept}
use Rattle.odb_script.proofs.LineStep.{Printed, after_step, line_first}

abbrev pub behind : List ℕ → Printed → Printed
behind done printed = (done ++ printed.0, printed.1)

-- so much is written, and the rest of the input prints the rest
abbrev pub Going : Service → Printed → Option (List ℕ) → Option (List ℕ) → Option (List ℕ) → ℕ → Script → Type 0
Going h all before now left n p =
    (done : List ℕ) × (rest : List ℕ) × (left ≡ Some rest) × Appends before now done × (behind done (perform_lines h command_of n (lines_of rest) p) ≡ all)

pub begun : (h : Service) (a left : Option (List ℕ)) (text : List ℕ) (p : Script) → left ≡ Some text → Going h (perform_lines h command_of 1 (lines_of text) p) a a left 1 p
begun h a left text p is = ([], text, is, appends_nothing a, refl)

-- what a line before the rest makes of it
abbrev Then : Service → Printed → ℕ → List (List ℕ) → List ℕ → Option (Script × List ℕ) → Type 0
Then h all n lines done step = behind done (after_step h n lines step) ≡ all

the_step : (h : Service) (all : Printed) (n : ℕ) (text line rest done : List ℕ) (p : Script) (step : Option (Script × List ℕ)) → behind done (perform_lines h command_of n (lines_of text) p) ≡ all
    → lines_of text ≡ line ∷ lines_of rest → line_step h line p ≡ step → Then h all n (lines_of rest) done step
the_step h all n text line rest done p step e first is =
    sym (ap (λ ls. behind done (perform_lines h command_of n ls p)) first ∙ ap (behind done) (line_first h n line (lines_of rest) p) ∙ ap (λ s. behind done (after_step h n (lines_of rest) s)) is) ∙ e

pub at_end : (h : Service) (all : Printed) (before now left : Option (List ℕ)) (n : ℕ) (p : Script) → Going h all before now left n p → IfSome left (λ text. lines_of text ≡ [])
    → Ends all (Ok tt) before now
at_end h all before now left n p g none =
    let ended : lines_of g.1 ≡ [] = subst (λ o. IfSome o (λ text. lines_of text ≡ [])) g.2 none in
    let printed : (g.0 ++ [], None) ≡ all = ap (λ ls. behind g.0 (perform_lines h command_of n ls p)) (sym ended) ∙ g.4 in
    (subst (λ t. Appends before now t) (sym (append-nil g.0) ∙ ap (λ r. r.0) printed) g.3, sym (ap (λ r. r.1) printed))

pub so_far : (h : Service) (all : Printed) (before now left : Option (List ℕ)) (n : ℕ) (p : Script) → Going h all before now left n p → AppendsFront before now all.0
so_far h all before now left n p g = (g.0, (perform_lines h command_of n (lines_of g.1) p).0, sym (ap (λ r. r.0) g.4), g.3)

pub unread : (h : Service) (all : Printed) (before now left : Option (List ℕ)) (n : ℕ) (p : Script) (e : RunFault) → Going h all before now left n p → IsOfReading e → Ends all (Err e) before now
unread h all before now left n p (BadCommand k) g is = absurd is
unread h all before now left n p Memory g is = so_far h all before now left n p g
unread h all before now left n p Read g is = so_far h all before now left n p g
unread h all before now left n p Write g is = absurd is

-- a line was read
abbrev pub Taken : Option (List ℕ) → Option (List ℕ) → List ℕ → Type 0
Taken left new line = IfSome left (λ text. (rest : List ℕ) × (new ≡ Some rest) × (lines_of text ≡ line ∷ lines_of rest))

pub goes_on : (h : Service) (all : Printed) (before now after left new : Option (List ℕ)) (n : ℕ) (p q : Script) (line : List ℕ) → Going h all before now left n p → Taken left new line
    → CarriesOut n (line_step h line p) q (Ok tt) now after → Going h all before after new (n + 1) q
goes_on h all before now after left new n p q line g taken done =
    let t : Taken (Some g.1) new line = subst (λ o. Taken o new line) g.2 taken in
    let e = the_step h all n g.1 line t.0 g.0 p (Some (q, done.0)) g.4 t.2 done.1 in
    let text = (perform_lines h command_of (n + 1) (lines_of t.0) q).0 in (
      g.0 ++ done.0,
      t.0,
      t.1,
      appends_more before now after g.0 done.0 g.3 done.2,
      (λ i. let printed : Printed = (append_assoc g.0 done.0 text i, (perform_lines h command_of (n + 1) (lines_of t.0) q).1) in printed) ∙ e,
    )

-- a front of what a line prints is a front of all
front_of_line : (h : Service) (all : Printed) (before now after left new : Option (List ℕ)) (n : ℕ) (p : Script) (line : List ℕ) → Going h all before now left n p → Taken left new line
    → (r : Script × List ℕ) × (line_step h line p ≡ Some r) × AppendsFront now after r.1 → AppendsFront before after all.0
front_of_line h all before now after left new n p line g taken done =
    let t : Taken (Some g.1) new line = subst (λ o. Taken o new line) g.2 taken in
    let e = the_step h all n g.1 line t.0 g.0 p (Some done.0) g.4 t.2 done.1 in
    let text = (perform_lines h command_of (n + 1) (lines_of t.0) done.0.0).0 in
    let f = done.2 in (
      g.0 ++ f.0,
      f.1 ++ text,
      sym (ap (λ r. r.0) e) ∙ ap (λ l. g.0 ++ (l ++ text)) f.2 ∙ ap (λ l. g.0 ++ l) (append_assoc f.0 f.1 text) ∙ sym (append_assoc g.0 f.0 (f.1 ++ text)),
      appends_more before now after g.0 f.0 g.3 f.3,
    )

pub stops : (h : Service) (all : Printed) (before now after left new : Option (List ℕ)) (n : ℕ) (p q : Script) (line : List ℕ) (e : RunFault) → Going h all before now left n p → Taken left new line
    → CarriesOut n (line_step h line p) q (Err e) now after → Ends all (Err e) before after
stops h all before now after left new n p q line (BadCommand k) g taken done =
    let t : Taken (Some g.1) new line = subst (λ o. Taken o new line) g.2 taken in
    let e : (g.0 ++ [], Some n) ≡ all = the_step h all n g.1 line t.0 g.0 p None g.4 t.2 done.1 in (
      subst (λ s. Appends before after s) (sym (append-nil g.0) ∙ ap (λ r. r.0) e) (appends_kept before now after g.0 g.3 done.2),
      sym (ap (λ r. r.1) e) ∙ ap Some (sym done.0),
    )
stops h all before now after left new n p q line Memory g taken done = front_of_line h all before now after left new n p line g taken done
stops h all before now after left new n p q line Read g taken done = absurd done
stops h all before now after left new n p q line Write g taken done = front_of_line h all before now after left new n p line g taken done

-- the same where the input may be unknown
pub begun_if : (h : Service) (a left : Option (List ℕ)) (p : Script) → IfSome left (λ text. Going h (perform_lines h command_of 1 (lines_of text) p) a a left 1 p)
begun_if h a None p = tt
begun_if h a (Some text) p = begun h a (Some text) text p refl

module _ (input : Option (List ℕ)) (all : List ℕ → Printed) (h : Service) (before now left : Option (List ℕ)) (n : ℕ) (p : Script) where
  abbrev pub GoingIf : Type 0
  GoingIf = IfSome input (λ text. Going h (all text) before now left n p)

  pub at_end_if : GoingIf → IfSome left (λ text. lines_of text ≡ []) → IfSome input (λ text. Ends (all text) (Ok tt) before now)
  at_end_if g none = by input g
    where
      by : (o : Option (List ℕ)) → IfSome o (λ text. Going h (all text) before now left n p) → IfSome o (λ text. Ends (all text) (Ok tt) before now)
      by None g = tt
      by (Some text) g = at_end h (all text) before now left n p g none

  pub unread_if : (e : RunFault) → GoingIf → IsOfReading e → IfSome input (λ text. Ends (all text) (Err e) before now)
  unread_if e g is = by input g
    where
      by : (o : Option (List ℕ)) → IfSome o (λ text. Going h (all text) before now left n p) → IfSome o (λ text. Ends (all text) (Err e) before now)
      by None g = tt
      by (Some text) g = unread h (all text) before now left n p e g is

  pub goes_on_if : (after new : Option (List ℕ)) (q : Script) (line : List ℕ) → GoingIf → Taken left new line → CarriesOut n (line_step h line p) q (Ok tt) now after
      → IfSome input (λ text. Going h (all text) before after new (n + 1) q)
  goes_on_if after new q line g taken done = by input g
    where
      by : (o : Option (List ℕ)) → IfSome o (λ text. Going h (all text) before now left n p) → IfSome o (λ text. Going h (all text) before after new (n + 1) q)
      by None g = tt
      by (Some text) g = goes_on h (all text) before now after left new n p q line g taken done

  pub stops_if : (after new : Option (List ℕ)) (q : Script) (line : List ℕ) (e : RunFault) → GoingIf → Taken left new line → CarriesOut n (line_step h line p) q (Err e) now after
      → IfSome input (λ text. Ends (all text) (Err e) before after)
  stops_if after new q line e g taken done = by input g
    where
      by : (o : Option (List ℕ)) → IfSome o (λ text. Going h (all text) before now left n p) → IfSome o (λ text. Ends (all text) (Err e) before after)
      by None g = tt
      by (Some text) g = stops h (all text) before now after left new n p q line e g taken done
