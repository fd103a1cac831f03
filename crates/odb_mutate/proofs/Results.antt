-- The results of arithmetic: their set, or the fault that some have become equal.
use Rattle.std.specs.Prelude.{◌≡◌, Bool, true, false, cond, not, List, Some, None, Ok, Err}
use Rattle.std.specs.List.{list_all}
use mathlib.Core.Path.{refl, sym, ap, ◌∙◌}
use Rattle.std.proofs.lemmas.Option.{none-some}
use Rattle.odb_atoms.specs.FinSet as set
use Rattle.odb_atoms.specs.Atom.{Atom, integers}
use Rattle.odb_atoms.specs.ColType.{is_a}
use Rattle.odb_atoms.specs.Error.{constraint_violation}
use Rattle.odb_atoms.specs.First.{demand, ◌>>◌}
use Rattle.odb_atoms.specs.Members.{ListFault, repeated, repeats, set_fault}
use Rattle.odb_atoms.specs.Value.{atoms, set_of}
use Rattle.odb_mutate.specs.Mutation.{result_of, calculate_each, set_of_results}
use Rattle.odb_mutate.specs.Represented.Mutation.{operator_of}
use Rattle.odb_mutate.specs.declared.operator.Operator.{Operator}
use Rattle.odb_mutate.specs.declared.operator.Operator.TheVariants.{Add, Subtract, Multiply, Divide, Remainder}
use Rattle.odb_mutate.proofs.Distinct.{counted, set_fault-repeats}

by_repeats : (list : List Atom) → set_of_results list ≡ ◌>>◌ (demand (not (repeats list)) constraint_violation) (Ok (set_of (atoms list)))
by_repeats list = ap (λ b. ◌>>◌ (demand b constraint_violation) (Ok (set_of (atoms list)))) (counted list)

pub distinct_results : (list : List Atom) → list_all (is_a integers) list ≡ true → None ≡ set_fault list → Ok (set_of (atoms list)) ≡ set_of_results list
distinct_results list one is = sym (by_repeats list ∙ by (repeats list) (is ∙ set_fault-repeats integers list one))
  where
    by : (b : Bool) → None ≡ cond b (Some repeated) None → ◌>>◌ (demand (not b) constraint_violation) (Ok (set_of (atoms list))) ≡ Ok (set_of (atoms list))
    by true e = absurd (none-some repeated e)
    by false e = refl

pub equal_results : (list : List Atom) (f : ListFault) → list_all (is_a integers) list ≡ true → Some f ≡ set_fault list → Err constraint_violation ≡ set_of_results list
equal_results list f one is = sym (by_repeats list ∙ by (repeats list) (is ∙ set_fault-repeats integers list one))
  where
    by : (b : Bool) → Some f ≡ cond b (Some repeated) None → ◌>>◌ (demand (not b) constraint_violation) (Ok (set_of (atoms list))) ≡ Err constraint_violation
    by true e = refl
    by false e = absurd (none-some f (sym e))

-- arithmetic is the operator on each element
pub calculated : (operator : Operator) (s t : _) → result_of (operator_of operator) (set_of s) (set_of t) ≡ calculate_each (operator_of operator) s (set.items t)
calculated Add s t = refl
calculated Subtract s t = refl
calculated Multiply s t = refl
calculated Divide s t = refl
calculated Remainder s t = refl
