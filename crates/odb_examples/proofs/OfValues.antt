-- Examples of values and their notation, one a rule. [P 2.1, 2.6]
use Rattle.odb_examples.proofs.TestSchemas.{quoted}
use Rattle.std.specs.Prelude.{◌≡◌, ℕ, List, [], ◌∷◌, codes, refl, Ok, Result, Some, None, Option, pos}
use Rattle.serde_json.specs.Written.{compact_text}
use Rattle.odb_atoms.specs.Atom.{booleans, integer, integers, strings, uuids}
use Rattle.odb_atoms.specs.ColType.{AdmitFault, Base, ColType, admit_fault, broken_constraint, default_of, plain, scalar, too_few}
use Rattle.odb_atoms.specs.Difference.{apply, difference}
use Rattle.odb_atoms.specs.Error.{Error}
use Rattle.odb_atoms.specs.First.{◌>>=◌}
use Rattle.odb_atoms.specs.Value.{Value, atoms}
use Rattle.odb_examples.proofs.Examples.{computes, parsed}
use Rattle.odb_schema.specs.Notation.{read_any, write_value}
use Rattle.odb_schema.specs.SchemaText.{SchemaFault, schema_of_text, write_schema}

abbrev type_of : Base → Option Base → ℕ → Option ℕ → ColType
type_of key value min max = record { key = key; value = value; min = min; max = max }

abbrev ints : Option ℕ → ColType
ints max = type_of (plain integers) None 0 max

abbrev dict : Option ℕ → ColType
dict max = type_of (plain strings) (Some (plain integers)) 0 max

abbrev printed : Value → List ℕ
printed v = compact_text (write_value v)

abbrev two : (Value → Value → ColType → Value) → ColType → List ℕ → List ℕ → Result (List ℕ) Error
two f t a b = do
  v ← read_any None t (parsed a)
  w ← read_any None t (parsed b)
  Ok (printed (f v w t))

abbrev judged : ColType → List ℕ → Result (Option AdmitFault) Error
judged t a = do
  v ← read_any None t (parsed a)
  Ok (admit_fault t v)

abbrev again : List ℕ → Result (List ℕ) SchemaFault
again s = do
  schema ← schema_of_text s
  Ok (compact_text (write_schema schema))

pub diff_optional : two difference (ints (Some 1)) (codes "5") ((quoted (codes "['set',[]]"))) ≡ Ok ((quoted (codes "['set',[]]")))
unfolding computes
diff_optional = refl

pub diff_optional_other : two difference (ints (Some 1)) (codes "5") (codes "6") ≡ Ok (codes "6")
unfolding computes
diff_optional_other = refl

pub diff_single_map : two difference (dict (Some 1)) ((quoted (codes "['map',[['a',1]]]"))) ((quoted (codes "['map',[['b',2]]]"))) ≡ Ok ((quoted (codes "['map',[['b',2]]]")))
unfolding computes
diff_single_map = refl

pub diff_set : two difference (ints None) ((quoted (codes "['set',[1,2,3]]"))) ((quoted (codes "['set',[2,3,4]]"))) ≡ Ok ((quoted (codes "['set',[1,4]]")))
unfolding computes
diff_set = refl

pub diff_set_max2 : two difference (ints (Some 2)) (codes "5") (codes "6") ≡ Ok ((quoted (codes "['set',[5,6]]")))
unfolding computes
diff_set_max2 = refl

pub diff_same : two difference (ints None) ((quoted (codes "['set',[1,2]]"))) ((quoted (codes "['set',[2,1]]"))) ≡ Ok ((quoted (codes "['set',[]]")))
unfolding computes
diff_same = refl

pub diff_map : two difference (dict None) ((quoted (codes "['map',[['a',1],['b',2],['d',4]]]"))) ((quoted (codes "['map',[['b',3],['c',4],['d',4]]]"))) ≡ Ok ((quoted (codes "['map',[['a',1],['b',3],['c',4]]]")))
unfolding computes
diff_map = refl

pub apply_optional : two apply (ints (Some 1)) (codes "5") ((quoted (codes "['set',[]]"))) ≡ Ok ((quoted (codes "['set',[]]")))
unfolding computes
apply_optional = refl

pub apply_optional2 : two apply (ints (Some 1)) (codes "5") (codes "5") ≡ Ok (codes "5")
unfolding computes
apply_optional2 = refl

pub apply_set : two apply (ints None) ((quoted (codes "['set',[1,2,3]]"))) ((quoted (codes "['set',[1,4]]"))) ≡ Ok ((quoted (codes "['set',[2,3,4]]")))
unfolding computes
apply_set = refl

pub apply_map : two apply (dict None) ((quoted (codes "['map',[['a',1],['b',2],['c',3]]]"))) ((quoted (codes "['map',[['a',1],['b',5],['d',4]]]"))) ≡ Ok ((quoted (codes "['map',[['b',5],['c',3],['d',4]]]")))
unfolding computes
apply_map = refl

pub default_int : printed (default_of (scalar integers)) ≡ codes "0"
unfolding computes
default_int = refl

pub default_bool : printed (default_of (scalar booleans)) ≡ codes "false"
unfolding computes
default_bool = refl

pub default_text : printed (default_of (scalar strings)) ≡ (quoted (codes "''"))
unfolding computes
default_text = refl

pub default_uuid : printed (default_of (scalar uuids)) ≡ (quoted (codes "['uuid','00000000-0000-0000-0000-000000000000']"))
unfolding computes
default_uuid = refl

pub default_set : printed (default_of (ints (Some 1))) ≡ (quoted (codes "['set',[]]"))
unfolding computes
default_set = refl

pub default_set1 : printed (default_of (type_of (plain booleans) None 1 None)) ≡ codes "false"
unfolding computes
default_set1 = refl

pub default_map : printed (default_of (dict None)) ≡ (quoted (codes "['map',[]]"))
unfolding computes
default_map = refl

pub default_map1 : printed (default_of (type_of (plain strings) (Some (plain uuids)) 1 None)) ≡ (quoted (codes "['map',[['',['uuid','00000000-0000-0000-0000-000000000000']]]]"))
unfolding computes
default_map1 = refl

pub map_value_bound : judged (type_of (plain strings) (Some (record (plain integers) { max_integer = Some (pos 5) })) 0 None) ((quoted (codes "['map',[['a',6]]]"))) ≡ Ok (Some broken_constraint)
unfolding computes
map_value_bound = refl

pub map_key_bound : judged (type_of (record (plain strings) { max_length = Some (pos 1) }) (Some (plain integers)) 0 None) ((quoted (codes "['map',[['ab',6]]]"))) ≡ Ok (Some broken_constraint)
unfolding computes
map_key_bound = refl

pub map_ok : judged (type_of (record (plain strings) { max_length = Some (pos 1) }) (Some (plain integers)) 1 (Some 1)) ((quoted (codes "['map',[['a',6]]]"))) ≡ Ok (None)
unfolding computes
map_ok = refl

pub map_too_few : judged (type_of (plain strings) (Some (plain integers)) 1 None) ((quoted (codes "['map',[]]"))) ≡ Ok (Some too_few)
unfolding computes
map_too_few = refl

pub enum_and_bound : judged (type_of (record (plain integers) { enum = Some (atoms (integer (pos 7) ∷ integer (pos 3) ∷ [])); max_integer = Some (pos 5) }) None 1 (Some 1)) (codes "7") ≡ Ok (Some broken_constraint)
unfolding computes
enum_and_bound = refl

pub min_int : judged (type_of (record (plain integers) { min_integer = Some (pos 5) }) None 1 (Some 1)) (codes "5") ≡ Ok (None)
unfolding computes
min_int = refl

pub min_int2 : judged (type_of (record (plain integers) { min_integer = Some (pos 5) }) None 1 (Some 1)) (codes "4") ≡ Ok (Some broken_constraint)
unfolding computes
min_int2 = refl

pub min_len : judged (type_of (record (plain strings) { min_length = Some (pos 2) }) None 1 (Some 1)) ((quoted (codes "'\\u00e9'"))) ≡ Ok (Some broken_constraint)
unfolding computes
min_len = refl

pub print_ints : two apply (type_of (plain integers) None 0 None) ((quoted (codes "['set',[]]"))) ((quoted (codes "['set',[10,-9223372036854775808,9,-1]]"))) ≡ Ok ((quoted (codes "['set',[-9223372036854775808,-1,9,10]]")))
unfolding computes
print_ints = refl

pub print_bools : two apply (type_of (plain booleans) None 0 None) ((quoted (codes "['set',[]]"))) ((quoted (codes "['set',[true,false]]"))) ≡ Ok ((quoted (codes "['set',[false,true]]")))
unfolding computes
print_bools = refl

pub print_texts : two apply (type_of (plain strings) None 0 None) ((quoted (codes "['set',[]]"))) ((quoted (codes "['set',['~','z','','Z','a\\u0001']]"))) ≡ Ok ((quoted (codes "['set',['','Z','a\\u0001','z','~']]")))
unfolding computes
print_texts = refl

pub print_uuids : two apply (type_of (plain uuids) None 0 None) ((quoted (codes "['set',[]]"))) ((quoted (codes "['set',[['uuid','A0000000-0000-0000-0000-000000000000'],['uuid','9FFFFFFF-ffff-ffff-ffff-ffffffffffff']]]"))) ≡ Ok ((quoted (codes "['set',[['uuid','9fffffff-ffff-ffff-ffff-ffffffffffff'],['uuid','a0000000-0000-0000-0000-000000000000']]]")))
unfolding computes
print_uuids = refl
