-- What is written of a value is read back, by kind and by a type that admits it.
use Rattle.std.specs.Prelude.{◌≡◌, Bool, true, false, cond, not, ◌||◌, ◌==◌, is_none, Option, Some}
use mathlib.Core.Path.{refl, ap, ◌∙◌}
use Rattle.odb_atoms.specs.ColType.{AdmitFault, ColType, admits, has_kind, is_scalar, wrong_kind}
use Rattle.odb_atoms.specs.Error.{Error, constraint_violation, resources_exhausted, syntax_error}
use Rattle.odb_atoms.specs.First.{Ok, Result, demand, ◌>>=◌, ◌>>◌}
use Rattle.odb_atoms.specs.Value.{Value, size, within_limit}
use Rattle.odb_json.specs.ColumnValue.{read_by_kind, read_value}
use Rattle.odb_json.specs.Written.{IsWritable, ReadsBack}
use Rattle.odb_schema.specs.Notation.{Names, write_value}
use Rattle.odb_schema.proofs.Written.{read_any-write_value}

abbrev next : Result Value Error → (Value → Result Value Error) → Result Value Error
next = ◌>>=◌

-- both tests are passed
passes : (a b : Bool) (e f : Error) (v : Value) → a ≡ true → b ≡ true → ◌>>◌ (demand a e) (◌>>◌ (demand b f) (Ok v)) ≡ Ok v
passes a b e f v h g = λ i. ◌>>◌ (demand (h i) e) (◌>>◌ (demand (g i) f) (Ok v))

of_kind : (b : Bool) (o : Option AdmitFault) → is_none (cond (not b) (Some wrong_kind) o) ≡ true → b ≡ true
of_kind true o e = refl
of_kind false o e = e

module _ (names : Option Names) (t : ColType) (v : Value) (w : IsWritable v) where
  by_kind : has_kind t v ≡ true → (not (is_scalar t) || (size v == 1)) ≡ true → read_by_kind names t (write_value v) ≡ Ok v
  by_kind kind one =
      ap (λ r. next r (λ v. ◌>>◌ (demand (not (is_scalar t) || (size v == 1)) syntax_error) (◌>>◌ (demand (within_limit v) resources_exhausted) (Ok v)))) (read_any-write_value names t v kind w.0)
      ∙ passes (not (is_scalar t) || (size v == 1)) (within_limit v) syntax_error resources_exhausted v one w.1

  admitted : admits t v ≡ true → read_value names t (write_value v) ≡ Ok v
  admitted fits =
      ap (λ r. next r (λ v. ◌>>◌ (demand (within_limit v) resources_exhausted) (◌>>◌ (demand (admits t v) constraint_violation) (Ok v)))) (read_any-write_value names t v (of_kind (has_kind t v) _ fits) w.0)
      ∙ passes (within_limit v) (admits t v) resources_exhausted constraint_violation v w.1 fits

pub reads_back : (v : Value) → ReadsBack v (write_value v)
reads_back v = λ names t w. (by_kind names t v w, admitted names t v w)
