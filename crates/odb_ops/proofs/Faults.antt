-- Of the faults of rows the first in the order of faults, one after another as at once.
use Rattle.std.proofs.Common.{◌≡◌, Bool, true, false, cond, ◌||◌, List, [], ◌∷◌, ◌++◌, append_assoc, option_map, option_to_list, Option, Some, None, refl, sym, ap, ◌∙◌}
use Rattle.std.specs.List.{list_any}
use Rattle.odb_atoms.specs.Error.{Error, constraint_violation, domain_error, range_error, resources_exhausted}
use Rattle.odb_mutate.specs.Represented.Mutation.{error_of}
use Rattle.odb_mutate.specs.declared.mutation.MutationFault.{MutationFault}
use Rattle.odb_mutate.specs.declared.mutation.MutationFault.TheVariants as fault
use Rattle.odb_ops.specs.Execution.{first_fault, same_error}

any-++ : {A : Type 0} (p : A → Bool) (xs ys : List A) → list_any p (xs ++ ys) ≡ (list_any p xs || list_any p ys)
any-++ p [] ys = refl
any-++ p (x ∷ xs) ys = elim (p x) as (λ b. (b || list_any p (xs ++ ys)) ≡ ((b || list_any p xs) || list_any p ys)) [ true ↦ refl | false ↦ any-++ p xs ys ]

-- the first fault, by which of them there are
abbrev of_these : Bool → Bool → Bool → Bool → Option Error
of_these a b c d = cond a (Some domain_error) (cond b (Some range_error) (cond c (Some resources_exhausted) (cond d (Some constraint_violation) None)))

abbrev has : Error → List Error → Bool
has e es = list_any (same_error e) es

abbrev with_more : Option Error → Bool → Bool → Bool → Bool → Option Error
with_more o p q r s = of_these (has domain_error (option_to_list o) || p) (has range_error (option_to_list o) || q) (has resources_exhausted (option_to_list o) || r) (has constraint_violation (option_to_list o) || s)

stands_for : (a b c d p q r s : Bool) → with_more (of_these a b c d) p q r s ≡ of_these (a || p) (b || q) (c || r) (d || s)
stands_for true b c d p q r s = refl
stands_for false true c d p q r s = refl
stands_for false false true d p q r s = refl
stands_for false false false true p q r s = refl
stands_for false false false false p q r s = refl

joined : (es fs : List Error) → first_fault (es ++ fs) ≡ of_these (has domain_error es || has domain_error fs) (has range_error es || has range_error fs) (has resources_exhausted es || has resources_exhausted fs) (has constraint_violation es || has constraint_violation fs)
joined es fs = λ i. of_these (any-++ (same_error domain_error) es fs i) (any-++ (same_error range_error) es fs i) (any-++ (same_error resources_exhausted) es fs i) (any-++ (same_error constraint_violation) es fs i)

-- the first of some faults stands for them
pub first_of_first : (es fs : List Error) → first_fault (option_to_list (first_fault es) ++ fs) ≡ first_fault (es ++ fs)
first_of_first es fs =
    joined (option_to_list (first_fault es)) fs
    ∙ stands_for (has domain_error es) (has range_error es) (has resources_exhausted es) (has constraint_violation es) (has domain_error fs) (has range_error fs) (has resources_exhausted fs) (has constraint_violation fs)
    ∙ sym (joined es fs)

-- one more fault
pub first_more : (so_far here new : Option Error) (rest : List Error) → new ≡ first_fault (option_to_list so_far ++ option_to_list here) → first_fault (option_to_list new ++ rest) ≡ first_fault (option_to_list so_far ++ (option_to_list here ++ rest))
first_more so_far here new rest e =
    ap (λ o. first_fault (option_to_list o ++ rest)) e ∙ first_of_first (option_to_list so_far ++ option_to_list here) rest
    ∙ ap first_fault (append_assoc (option_to_list so_far) (option_to_list here) rest)

-- no fault more
pub first_at_end : (o : Option MutationFault) → first_fault (option_to_list (option_map error_of o) ++ []) ≡ option_map error_of o
first_at_end None = refl
first_at_end (Some fault.DomainError) = refl
first_at_end (Some fault.RangeError) = refl
first_at_end (Some fault.ResourcesExhausted) = refl
first_at_end (Some fault.ConstraintViolation) = refl
