-- Examples of the notation of values. [P 2.2]
use Rattle.odb_examples.proofs.TestSchemas.{quoted}
use Rattle.std.specs.Prelude.{◌≡◌, ℕ, List, codes, refl, None, Ok, Err, Result}
use Rattle.serde_json.specs.Written.{compact_text}
use Rattle.odb_atoms.specs.Atom.{uuids, Kind, integers, strings}
use Rattle.odb_atoms.specs.ColType.{ColType, plain, scalar}
use Rattle.odb_atoms.specs.Error.{Error, syntax_error}
use Rattle.odb_atoms.specs.First.{◌>>=◌}
use Rattle.odb_examples.proofs.Examples.{computes, parsed}
use Rattle.odb_schema.specs.Notation.{read_any, write_value}

abbrev set_type : Kind → ColType
set_type k = record { key = plain k; value = None; min = 0; max = None }

-- what is read is printed again
abbrev again : Kind → List ℕ → Result (List ℕ) Error
again k s = do
  v ← read_any None (set_type k) (parsed s)
  Ok (compact_text (write_value v))

pub one_element_is_an_atom : again integers ((quoted (codes "['set',[7]]"))) ≡ Ok (codes "7")
unfolding computes
one_element_is_an_atom = refl

pub elements_ascend : again strings ((quoted (codes "['set',['b','a']]"))) ≡ Ok ((quoted (codes "['set',['a','b']]")))
unfolding computes
elements_ascend = refl

pub no_element_twice : again integers ((quoted (codes "['set',[1,1]]"))) ≡ Err syntax_error
unfolding computes
no_element_twice = refl

pub no_names_outside_a_transaction : read_any None (scalar uuids) (parsed ((quoted (codes "['named-uuid','a']")))) ≡ Err syntax_error
unfolding computes
no_names_outside_a_transaction = refl
