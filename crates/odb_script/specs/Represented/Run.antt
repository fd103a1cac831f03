-- How a script runs: what is written, line by line, and how the run ends.
use Rattle.std.specs.Prelude.{◌≡◌, ℕ, List, [], ◌∷◌, ◌++◌, ⊤, Option, None, Some, Result, Ok, Err, option_map}
use Rattle.std.specs.Io.KnownBytes.{Appends, Keeps}
use Rattle.odb_service.specs.Service.{Service}
use Rattle.odb_script.specs.Script.{Script, perform, command_of}
use Rattle.odb_script.specs.declared.fault.RunFault.{RunFault}
use Rattle.odb_script.specs.declared.fault.RunFault.TheVariants.{BadCommand, Memory, Read, Write}

-- known bytes grow by a beginning of the text
abbrev pub AppendsFront : Option (List ℕ) → Option (List ℕ) → List ℕ → Type 0
AppendsFront before after text = (front : List ℕ) × (back : List ℕ) × (text ≡ front ++ back) × Appends before after front

-- what a line does and prints; none where it is no command
abbrev pub line_step : Service → List ℕ → Script → Option (Script × List ℕ)
line_step h [] p = Some (p, [])
line_step h (c ∷ cs) p = option_map (λ k. perform h k p) (command_of (c ∷ cs))

-- a line of this number was carried out
abbrev pub CarriesOut : ℕ → Option (Script × List ℕ) → Script → Result (Unit {0}) RunFault → Option (List ℕ) → Option (List ℕ) → Type 0
CarriesOut n step new (Ok done) before after = (text : List ℕ) × (step ≡ Some (new, text)) × Appends before after text
CarriesOut n step new (Err (BadCommand k)) before after = (k ≡ n) × (step ≡ None) × Keeps before after
CarriesOut n step new (Err Memory) before after = (r : Script × List ℕ) × (step ≡ Some r) × AppendsFront before after r.1
CarriesOut n step new (Err Read) before after = ⊥
CarriesOut n step new (Err Write) before after = (r : Script × List ℕ) × (step ≡ Some r) × AppendsFront before after r.1

-- what a read that fails answers
abbrev pub IsOfReading : RunFault → Type 0
IsOfReading (BadCommand k) = ⊥
IsOfReading Memory = ⊤
IsOfReading Read = ⊤
IsOfReading Write = ⊥

-- what a write that fails answers
abbrev pub IsOfWriting : RunFault → Type 0
IsOfWriting (BadCommand k) = ⊥
IsOfWriting Memory = ⊥
IsOfWriting Read = ⊥
IsOfWriting Write = ⊤

-- A run of which this is the text, and the number of the first line that is no command: at its end and at that line all of
-- the text is written, and otherwise a beginning of it.
abbrev pub Ends : List ℕ × Option ℕ → Result (Unit {0}) RunFault → Option (List ℕ) → Option (List ℕ) → Type 0
Ends all (Ok done) before after = Appends before after all.0 × (all.1 ≡ None)
Ends all (Err (BadCommand n)) before after = Appends before after all.0 × (all.1 ≡ Some n)
Ends all (Err Memory) before after = AppendsFront before after all.0
Ends all (Err Read) before after = AppendsFront before after all.0
Ends all (Err Write) before after = AppendsFront before after all.0
