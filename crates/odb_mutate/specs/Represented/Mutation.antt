-- What a mutator, a mutation and a fault of the code stand for, and what a call answered.
use Rattle.std.specs.Prelude.{Result, Ok, Err}
use Rattle.odb_atoms.specs.Error.{Error, constraint_violation, domain_error, range_error, resources_exhausted}
use Rattle.odb_mutate.specs.Mutation as model
use Rattle.odb_mutate.specs.declared.mutation.MutationFault.{MutationFault}
use Rattle.odb_mutate.specs.declared.mutation.MutationFault.TheVariants as fault
use Rattle.odb_mutate.specs.declared.mutation.Mutator.{Mutator}
use Rattle.odb_mutate.specs.declared.mutation.Mutator.TheVariants.{Calculate, Insert, Delete}
use Rattle.odb_mutate.specs.declared.mutation.Mutation.TheInside.{Inside}
use Rattle.odb_mutate.specs.declared.operator.Operator.{Operator}
use Rattle.odb_mutate.specs.declared.operator.Operator.TheVariants.{Add, Subtract, Multiply, Divide, Remainder}

abbrev pub operator_of : Operator → model.Mutator
operator_of Add = model.add
operator_of Subtract = model.subtract
operator_of Multiply = model.multiply
operator_of Divide = model.divide
operator_of Remainder = model.remainder

abbrev pub mutator_of : Mutator → model.Mutator
mutator_of (Calculate operator) = operator_of operator
mutator_of Insert = model.insert
mutator_of Delete = model.delete

abbrev pub mutation_of : Inside → model.Mutation
mutation_of a = record { column = a.column; mutator = mutator_of a.mutator; value = a.value }

abbrev pub error_of : MutationFault → Error
error_of fault.DomainError = domain_error
error_of fault.RangeError = range_error
error_of fault.ResourcesExhausted = resources_exhausted
error_of fault.ConstraintViolation = constraint_violation

-- what was answered, with what the code's result stands for
abbrev pub answered : {A B : Type 0} → (A → B) → Result A MutationFault → Result B Error
answered view (Ok a) = Ok (view a)
answered view (Err e) = Err (error_of e)
