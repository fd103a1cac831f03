-- Examples of conditions and mutations. [P 3.1]
use Rattle.odb_examples.proofs.TestSchemas.{quoted}
use Rattle.std.specs.Prelude.{◌≡◌, ℕ, pos, Bool, true, List, map as map_list, [], ◌∷◌, codes, refl, Some, None, Ok, Err, Result}
use Rattle.serde_json.specs.Written.{compact_text}
use Rattle.odb_atoms.specs.FinSet as set
use Rattle.odb_atoms.specs.Atom.{integer, integers, strings}
use Rattle.odb_atoms.specs.ColType.{ColType, plain, scalar}
use Rattle.odb_atoms.specs.Error.{Error, constraint_violation, domain_error, range_error, syntax_error, unknown_column}
use Rattle.odb_atoms.specs.First.{◌>>=◌}
use Rattle.odb_atoms.specs.Row.{Row}
use Rattle.odb_atoms.specs.Uuid.{zero_uuid}
use Rattle.odb_atoms.specs.Value.{Value, set_of}
use Rattle.odb_cond.specs.Condition.{holds}
use Rattle.odb_examples.proofs.Examples.{computes, parsed}
use Rattle.odb_json.specs.ConditionNotation.{read_clause}
use Rattle.odb_json.specs.MutationNotation.{read_mutation}
use Rattle.odb_mutate.specs.Mutation.{mutate}
use Rattle.odb_schema.specs.Notation.{read_any, write_value}
use Rattle.odb_schema.specs.Schema.{Column}

-- n, an integer; s, a set of integers; o, a map of strings to integers
abbrev columns : List Column
columns =
    record { name = codes "n"; type = scalar integers; ephemeral = Bool.false; mutable = true }
    ∷ record { name = codes "o"; type = record { key = plain strings; value = Some (plain integers); min = 0; max = None }; ephemeral = Bool.false; mutable = true }
    ∷ record { name = codes "s"; type = record { key = plain integers; value = None; min = 0; max = None }; ephemeral = Bool.false; mutable = true }
    ∷ []

abbrev one_two : Value
one_two = set_of (set.from_list (integer (pos 1) ∷ integer (pos 2) ∷ []))

abbrev row : Row
row = record { version = zero_uuid; columns = set_of (set.from_list (integer (pos 9) ∷ [])) ∷ set_of set.empty ∷ one_two ∷ [] }

abbrev asked : List ℕ → Result Bool Error
asked s = do
  c ← read_clause None columns (parsed s)
  Ok (holds c zero_uuid row)

pub includes_nothing : asked ((quoted (codes "['s','includes',['set',[]]]"))) ≡ Ok true
unfolding computes
includes_nothing = refl

pub excludes_nothing : asked ((quoted (codes "['s','excludes',['set',[]]]"))) ≡ Ok true
unfolding computes
excludes_nothing = refl

pub includes_an_element : asked ((quoted (codes "['s','includes',1]"))) ≡ Ok true
unfolding computes
includes_an_element = refl

pub equals_in_any_order : asked ((quoted (codes "['s','==',['set',[2,1]]]"))) ≡ Ok true
unfolding computes
equals_in_any_order = refl

pub no_order_on_sets : asked ((quoted (codes "['s','<',3]"))) ≡ Err syntax_error
unfolding computes
no_order_on_sets = refl

-- one after another, of the 9 in n
abbrev each_asked : List (List ℕ) → List (Result Bool Error)
each_asked = map_list asked

pub ordered_functions : each_asked ((quoted (codes "['n','<',9]")) ∷ (quoted (codes "['n','<=',9]")) ∷ (quoted (codes "['n','>=',9]")) ∷ (quoted (codes "['n','>',9]")) ∷ (quoted (codes "['n','!=',9]")) ∷ (quoted (codes "['n','<',10]")) ∷ (quoted (codes "['n','>',8]")) ∷ [])
    ≡ Ok Bool.false ∷ Ok true ∷ Ok true ∷ Ok Bool.false ∷ Ok Bool.false ∷ Ok true ∷ Ok true ∷ []
unfolding computes
ordered_functions = refl

pub a_scalar_takes_one_element : each_asked ((quoted (codes "['n','==',['set',[9]]]")) ∷ (quoted (codes "['n','==',['set',[]]]")) ∷ (quoted (codes "['n','includes',['set',[8,9]]]")) ∷ []) ≡ Ok true ∷ Err syntax_error ∷ Err syntax_error ∷ []
unfolding computes
a_scalar_takes_one_element = refl

pub excludes_none_of_them : each_asked ((quoted (codes "['s','excludes',['set',[2,3]]]")) ∷ (quoted (codes "['s','excludes',['set',[3,4]]]")) ∷ (quoted (codes "['s','includes',['set',[2,3]]]")) ∷ []) ≡ Ok Bool.false ∷ Ok true ∷ Ok Bool.false ∷ []
unfolding computes
excludes_none_of_them = refl

pub the_form_of_a_condition : each_asked ((quoted (codes "['x']")) ∷ (quoted (codes "['x','==',1]")) ∷ (quoted (codes "['n','=',1]")) ∷ (quoted (codes "['n','==',1.5]")) ∷ []) ≡ Err syntax_error ∷ Err unknown_column ∷ Err syntax_error ∷ Err syntax_error ∷ []
unfolding computes
the_form_of_a_condition = refl

-- the text of what a mutation makes of the value that the first text has in the column at a place
abbrev mutated : ColType → List ℕ → List ℕ → Result (List ℕ) Error
mutated t old s = do
  m ← read_mutation None columns (parsed s)
  v ← read_any None t (parsed old)
  w ← mutate m.mutator m.value t v
  Ok (compact_text (write_value w))

abbrev map_type : ColType
map_type = record { key = plain strings; value = Some (plain integers); min = 0; max = None }

pub insert_keeps_present_keys : mutated map_type ((quoted (codes "['map',[['k',1]]]"))) ((quoted (codes "['o','insert',['map',[['k',2],['j',3]]]]"))) ≡ Ok ((quoted (codes "['map',[['j',3],['k',1]]]")))
unfolding computes
insert_keeps_present_keys = refl

pub delete_wants_the_same_value : mutated map_type ((quoted (codes "['map',[['j',3],['k',1]]]"))) ((quoted (codes "['o','delete',['map',[['k',2]]]]"))) ≡ Ok ((quoted (codes "['map',[['j',3],['k',1]]]")))
unfolding computes
delete_wants_the_same_value = refl

pub delete_by_key : mutated map_type ((quoted (codes "['map',[['j',3],['k',1]]]"))) ((quoted (codes "['o','delete','k']"))) ≡ Ok ((quoted (codes "['map',[['j',3]]]")))
unfolding computes
delete_by_key = refl

pub division_truncates : mutated (scalar integers) (codes "-7") ((quoted (codes "['n','/=',2]"))) ≡ Ok (codes "-3")
unfolding computes
division_truncates = refl

pub remainder_of_the_dividend : mutated (scalar integers) (codes "-3") ((quoted (codes "['n','%=',2]"))) ≡ Ok (codes "-1")
unfolding computes
remainder_of_the_dividend = refl

pub no_zero_divisor : mutated (scalar integers) (codes "-3") ((quoted (codes "['n','/=',0]"))) ≡ Err domain_error
unfolding computes
no_zero_divisor = refl

pub past_64_bits : mutated (scalar integers) (codes "9223372036854775807") ((quoted (codes "['n','+=',1]"))) ≡ Err range_error
unfolding computes
past_64_bits = refl

pub least_divided_by_minus_one : mutated (scalar integers) (codes "-9223372036854775808") ((quoted (codes "['n','/=',-1]"))) ≡ Err range_error
unfolding computes
least_divided_by_minus_one = refl

pub remainder_of_least_by_minus_one : mutated (scalar integers) (codes "-9223372036854775808") ((quoted (codes "['n','%=',-1]"))) ≡ Ok (codes "0")
unfolding computes
remainder_of_least_by_minus_one = refl

pub elements_become_equal : mutated (record { key = plain integers; value = None; min = 0; max = None }) ((quoted (codes "['set',[1,2]]"))) ((quoted (codes "['s','*=',0]"))) ≡ Err constraint_violation
unfolding computes
elements_become_equal = refl
