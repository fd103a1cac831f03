-- Rows that are written column by column.
use Rattle.std.proofs.Common.{◌≡◌, ℕ, zero, suc, ◌+◌, ◌<◌, ◌==◌, arith, Bool, true, false, cond, List, [], ◌∷◌, ◌++◌, map, find, slice_set, unwrap_or, option_map, Option, Some, refl, sym, ap, ◌∙◌}
use Rattle.std.proofs.lemmas.Bool.Decides.{nat_tests}
use Rattle.std.specs.List.{enumerate_from}
use Rattle.odb_atoms.specs.ColType.{default_of}
use Rattle.odb_atoms.specs.Row.{Row}
use Rattle.odb_atoms.specs.Uuid.{zero_uuid}
use Rattle.odb_atoms.specs.Value.{Value}
use Rattle.odb_ops.specs.Execution.{new_row, replaced, value_for}
use Rattle.odb_ops.specs.Represented.Parts.{with_value}
use Rattle.odb_schema.specs.Schema.{Column}

-- the last of the values is written first
pub replaced-push : (es : List (ℕ × Value)) (e : ℕ × Value) (r : Row) → replaced (es ++ e ∷ []) r ≡ replaced es (with_value e.0 e.1 r)
replaced-push [] e r = refl
replaced-push (x ∷ es) e r = ap (with_value x.0 x.1) (replaced-push es e r)

below_none : (n k : ℕ) → n < k → (n == k) ≡ false
below_none n k h = grind (arith, nat_tests)

same_place : (n k : ℕ) → n ≡ k + 0 → (n == k) ≡ true
same_place n k h = grind (arith, nat_tests)

later_place : (n k i : ℕ) → n ≡ k + suc i → (n == k) ≡ false
later_place n k i h = grind (arith, nat_tests)

module _ (g : ℕ × Column → Value) (n : ℕ) (v : Value) where
  -- g, but v at the place n
  abbrev changed : ℕ × Column → Value
  changed c = cond (n == c.0) v (g c)

  behind : (k : ℕ) (cs : List Column) → n < k → map changed (enumerate_from k cs) ≡ map g (enumerate_from k cs)
  behind k [] h = refl
  behind k (c ∷ cs) h = let no = below_none n k h in let rest = behind (k + 1) cs (omega arith) in λ i. cond (no i) v (g (k, c)) ∷ rest i

  at_place : (k i : ℕ) (cs : List Column) → n ≡ k + i → map changed (enumerate_from k cs) ≡ slice_set (map g (enumerate_from k cs)) i v
  at_place k i [] e = refl
  at_place k zero (c ∷ cs) e = let here = same_place n k e in let rest = behind (k + 1) cs (omega arith) in λ i. cond (here i) v (g (k, c)) ∷ rest i
  at_place k (suc i) (c ∷ cs) e = let no = later_place n k i e in let rest = at_place (k + 1) i cs (omega arith) in λ j. cond (no j) v (g (k, c)) ∷ rest j

abbrev defaults : List Column → List Value
defaults cs = map (λ c. default_of c.type) cs

none_given : (k : ℕ) (cs : List Column) → map (value_for []) (enumerate_from k cs) ≡ defaults cs
none_given k [] = refl
none_given k (c ∷ cs) = ap (λ vs. default_of c.type ∷ vs) (none_given (k + 1) cs)

first_given : (b : Bool) (e : ℕ × Value) (o : Option (ℕ × Value)) (d : Value) → unwrap_or (option_map (λ x. x.1) (cond b (Some e) o)) d ≡ cond b e.1 (unwrap_or (option_map (λ x. x.1) o) d)
first_given true e o d = refl
first_given false e o d = refl

given_columns : (cs : List Column) (es : List (ℕ × Value)) → (replaced es (record { version = zero_uuid; columns = defaults cs })).columns ≡ map (value_for es) (enumerate_from 0 cs)
given_columns cs [] = sym (none_given 0 cs)
given_columns cs (e ∷ es) =
    let split : (c : ℕ × Column) → value_for (e ∷ es) c ≡ cond (e.0 == c.0) e.1 (value_for es c) = λ c. first_given (e.0 == c.0) e (find (λ x. x.0 == c.0) es) (default_of c.1.type) in
    ap (λ vs. slice_set vs e.0 e.1) (given_columns cs es) ∙ sym (at_place (value_for es) e.0 e.1 0 e.0 cs (omega arith)) ∙ (λ i. map (λ c. sym (split c) i) (enumerate_from 0 cs))

version_kept : (es : List (ℕ × Value)) (r : Row) → (replaced es r).version ≡ r.version
version_kept [] r = refl
version_kept (e ∷ es) r = version_kept es r

-- the values given, written over the defaults
pub given_row : (cs : List Column) (es : List (ℕ × Value)) → replaced es (record { version = zero_uuid; columns = defaults cs }) ≡ new_row cs es
given_row cs es =
    let versions = version_kept es (record { version = zero_uuid; columns = defaults cs }) in
    let columns = given_columns cs es in
    λ i. record { version = versions i; columns = columns i }
