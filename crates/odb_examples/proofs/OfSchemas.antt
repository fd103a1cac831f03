-- Examples of schemas.
use Rattle.odb_examples.proofs.TestSchemas.{quoted}
use Rattle.std.specs.Prelude.{◌≡◌, ℕ, zero, suc, List, [], ◌∷◌, ◌++◌, codes, refl, Ok, Err, Result}
use Rattle.serde_json.specs.Written.{compact_text}
use Rattle.odb_atoms.specs.First.{◌>>=◌}
use Rattle.odb_examples.proofs.Examples.{computes, parsed}
use Rattle.odb_schema.specs.Json.{Data, Members, member, no_members, null, object}
use Rattle.odb_schema.specs.SchemaText.{SchemaFault, bad_id, bad_index, bad_type, read_schema, syntax, too_large, unknown_ref_table, write_schema}

abbrev pub cnt : List ℕ
cnt = (quoted (codes "{'name':'cnt','version':'1.0.0','tables':{'C':{'columns':{'n':{'type':'integer'},'s':{'type':{'key':'integer','min':0,'max':'unlimited'}}}}}}"))

abbrev again : List ℕ → Result (List ℕ) SchemaFault
again s = do
  schema ← read_schema (parsed s)
  Ok (compact_text (write_schema schema))

pub printed_in_byte_order : again cnt ≡ Ok ((quoted (codes "{'name':'cnt','tables':{'C':{'columns':{'n':{'type':'integer'},'s':{'type':{'key':'integer','max':'unlimited','min':0}}}}},'version':'1.0.0'}")))
unfolding computes
printed_in_byte_order = refl

-- a schema of one table T with these columns, and with these members after them
abbrev of_columns : List ℕ → List ℕ → List ℕ
of_columns columns more = (quoted (codes "{'name':'d','version':'1.0.0','tables':{'T':{'columns':{")) ++ columns ++ codes "}" ++ more ++ codes "}}}"

pub version_has_three_numbers : again ((quoted (codes "{'name':'d','version':'1.0','tables':{}}"))) ≡ Err syntax
unfolding computes
version_has_three_numbers = refl

pub no_name_begins_with_an_underscore : again (of_columns ((quoted (codes "'_x':{'type':'integer'}"))) []) ≡ Err bad_id
unfolding computes
no_name_begins_with_an_underscore = refl

pub integer_bounds_stand_with_integers : again (of_columns ((quoted (codes "'x':{'type':{'key':{'type':'string','minInteger':1}}}"))) []) ≡ Err bad_type
unfolding computes
integer_bounds_stand_with_integers = refl

pub references_name_a_table : again (of_columns ((quoted (codes "'x':{'type':{'key':{'type':'uuid','refTable':'U'}}}"))) []) ≡ Err unknown_ref_table
unfolding computes
references_name_a_table = refl

pub no_index_on_an_ephemeral_column : again (of_columns ((quoted (codes "'x':{'type':'integer','ephemeral':true}"))) ((quoted (codes ",'indexes':[['x']]")))) ≡ Err bad_index
unfolding computes
no_index_on_an_ephemeral_column = refl

pub no_empty_index : again (of_columns ((quoted (codes "'x':{'type':'integer'}"))) ((quoted (codes ",'indexes':[[]]")))) ≡ Err bad_index
unfolding computes
no_empty_index = refl

pub no_lower_bound_above_the_upper : again (of_columns ((quoted (codes "'x':{'type':{'key':{'type':'integer','minInteger':2,'maxInteger':1}}}"))) []) ≡ Err bad_type
unfolding computes
no_lower_bound_above_the_upper = refl

-- every member that isn't its default is printed
abbrev full : List ℕ
full = (quoted (codes "{'cksum':'1 2','name':'d','tables':{'T':{'columns':{'a':{'ephemeral':true,'mutable':false,'type':{'key':{'enum':['set',['x','y']],'maxLength':3,'minLength':1,'type':'string'}}},'b':{'type':{'key':{'maxInteger':9,'minInteger':-1,'type':'integer'},'max':4,'min':0,'value':{'refTable':'T','refType':'weak','type':'uuid'}}}},'indexes':[['b']],'isRoot':true,'maxRows':7}},'version':'1.2.3'}"))

pub all_members_are_printed : again full ≡ Ok full
unfolding computes
all_members_are_printed = refl

-- n tables
abbrev many : ℕ → Members
many zero = no_members
many (suc n) = member (n ∷ []) null (many n)

abbrev of_tables : ℕ → Data
of_tables n = object (member (codes "tables") (object (many n)) no_members)

pub too_many_tables : read_schema (of_tables 257) ≡ Err too_large
unfolding computes
too_many_tables = refl

pub not_too_many_tables : read_schema (of_tables 256) ≡ Err syntax
unfolding computes
not_too_many_tables = refl
