-- Lines one after another.
use Rattle.std.proofs.Common.{◌≡◌, ℕ, ◌+◌, List, [], ◌∷◌, ◌++◌, None, Some, Result, Ok, Err, OnOk, IfErr, false, nat_eq, length, refl, ap, option_map, arith}
use Rattle.std.specs.Io.KnownBytes.{Appends}
use Rattle.odb_script.specs.declared.fault.RunFault.{RunFault}
use Rattle.odb_script.specs.declared.fault.RunFault.TheVariants.{BadCommand, Memory, Read, Write}
use Rattle.std.specs.declared.option.Option.{Option}
use Rattle.odb_service.specs.Service.{Service}
use Rattle.odb_script.specs.Script.{Command, Script, perform, perform_lines, command_of}
use Rattle.odb_script.specs.Represented.Run.{line_step, AppendsFront, CarriesOut, IsOfWriting}

abbrev pub Printed : Type 0
Printed = List ℕ × Option ℕ

-- what a line prints, and then what the next ones do
abbrev pub after_step : Service → ℕ → List (List ℕ) → Option (Script × List ℕ) → Printed
after_step h n lines None = ([], Some n)
after_step h n lines (Some r) = (r.1 ++ (perform_lines h command_of (n + 1) lines r.0).0, (perform_lines h command_of (n + 1) lines r.0).1)

pub line_first : (h : Service) (n : ℕ) (line : List ℕ) (lines : List (List ℕ)) (p : Script) → perform_lines h command_of n (line ∷ lines) p ≡ after_step h n lines (line_step h line p)
line_first h n [] lines p = refl
line_first h n (c ∷ cs) lines p = by (command_of (c ∷ cs))
  where
    by : (o : Option Command) → (elim o as (λ _. Printed) [ None ↦ ([], Some n) | Some k ↦ (let r = perform h k p in let rest = perform_lines h command_of (n + 1) lines r.0 in (r.1 ++ rest.0, rest.1)) ])
        ≡ after_step h n lines (option_map (λ k. perform h k p) o)
    by None = refl
    by (Some k) = refl

pub step_is : (h : Service) (line : List ℕ) (p : Script) (k : Command) → nat_eq (length line) 0 ≡ false → command_of line ≡ Some k → line_step h line p ≡ Some (perform h k p)
step_is h [] p k some is = absurd (grind (arith, some))
step_is h (c ∷ cs) p k some is = ap (option_map (λ k. perform h k p)) is

pub step_none : (h : Service) (line : List ℕ) (p : Script) → nat_eq (length line) 0 ≡ false → command_of line ≡ None → line_step h line p ≡ None
step_none h [] p some is = absurd (grind (arith, some))
step_none h (c ∷ cs) p some is = ap (option_map (λ k. perform h k p)) is

pub carried : (n : ℕ) (step : Option (Script × List ℕ)) (new : Script) (text : List ℕ) (r : Result (Unit {0}) RunFault) (before after : Option (List ℕ))
    → step ≡ Some (new, text) → OnOk r (Appends before after text) → AppendsFront before after text → IfErr r IsOfWriting → CarriesOut n step new r before after
carried n step new text (Ok done) before after is ok front err = (text, is, ok)
carried n step new text (Err (BadCommand k)) before after is ok front err = absurd err
carried n step new text (Err Memory) before after is ok front err = absurd err
carried n step new text (Err Read) before after is ok front err = absurd err
carried n step new text (Err Write) before after is ok front err = ((new, text), is, front)
