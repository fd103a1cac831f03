-- Examples of schemas that are read, printed or refused, one a rule and one a pair of neighbouring faults. [P 1.5]
use Rattle.odb_examples.proofs.TestSchemas.{quoted}
use Rattle.std.specs.Prelude.{◌≡◌, ℕ, List, codes, refl, Ok, Err, Result}
use Rattle.serde_json.specs.Written.{compact_text}
use Rattle.odb_atoms.specs.First.{◌>>=◌}
use Rattle.odb_examples.proofs.Examples.{computes, parsed}
use Rattle.odb_schema.specs.SchemaText.{SchemaFault, bad_id, bad_index, bad_type, read_schema, schema_of_text, syntax, too_large, unknown_ref_table, write_schema}

abbrev again : List ℕ → Result (List ℕ) SchemaFault
again s = do
  schema ← schema_of_text s
  Ok (compact_text (write_schema schema))

pub id_name_underscore : again ((quoted (codes "{'name':'_d','version':'1.0.0','tables':{'T':{'columns':{}}}}"))) ≡ Err bad_id
unfolding computes
id_name_underscore = refl

pub id_name_empty : again ((quoted (codes "{'name':'','version':'1.0.0','tables':{'T':{'columns':{}}}}"))) ≡ Err bad_id
unfolding computes
id_name_empty = refl

pub id_name_number : again ((quoted (codes "{'name':'1d','version':'1.0.0','tables':{'T':{'columns':{}}}}"))) ≡ Err bad_id
unfolding computes
id_name_number = refl

pub id_name_notext : again ((quoted (codes "{'name':5,'version':'1.0.0','tables':{'T':{'columns':{}}}}"))) ≡ Err syntax
unfolding computes
id_name_notext = refl

pub id_name_ok : again ((quoted (codes "{'name':'d_9Z','version':'1.0.0','tables':{'T':{'columns':{}}}}"))) ≡ Ok ((quoted (codes "{'name':'d_9Z','tables':{'T':{'columns':{}}},'version':'1.0.0'}")))
unfolding computes
id_name_ok = refl

pub name_absent : again ((quoted (codes "{'version':'x','tables':{}}"))) ≡ Err syntax
unfolding computes
name_absent = refl

pub name_before_version : again ((quoted (codes "{'name':'_d','version':'1','tables':{'T':{'columns':{}}}}"))) ≡ Err bad_id
unfolding computes
name_before_version = refl

pub version_before_tables : again ((quoted (codes "{'name':'d','version':'1.0','tables':{'_':{}}}"))) ≡ Err syntax
unfolding computes
version_before_tables = refl

pub cksum_kind : again ((quoted (codes "{'name':'d','version':'1.0.0','cksum':5,'tables':{'_':{}}}"))) ≡ Err syntax
unfolding computes
cksum_kind = refl

pub cksum_null : again ((quoted (codes "{'name':'d','version':'1.0.0','cksum':null,'tables':{}}"))) ≡ Err syntax
unfolding computes
cksum_null = refl

pub tables_absent : again ((quoted (codes "{'name':'d','version':'1.0.0'}"))) ≡ Err syntax
unfolding computes
tables_absent = refl

pub tables_array : again ((quoted (codes "{'name':'d','version':'1.0.0','tables':[]}"))) ≡ Err syntax
unfolding computes
tables_array = refl

pub not_object : again (codes "[]") ≡ Err syntax
unfolding computes
not_object = refl

pub not_json : again ((quoted (codes "{'name':'d'"))) ≡ Err syntax
unfolding computes
not_json = refl

pub version_0 : again ((quoted (codes "{'name':'d','version':'1.0','tables':{'T':{'columns':{}}}}"))) ≡ Err syntax
unfolding computes
version_0 = refl

pub version_1 : again ((quoted (codes "{'name':'d','version':'1.0.0.0','tables':{'T':{'columns':{}}}}"))) ≡ Err syntax
unfolding computes
version_1 = refl

pub version_2 : again ((quoted (codes "{'name':'d','version':'1..0','tables':{'T':{'columns':{}}}}"))) ≡ Err syntax
unfolding computes
version_2 = refl

pub version_3 : again ((quoted (codes "{'name':'d','version':'1.0.a','tables':{'T':{'columns':{}}}}"))) ≡ Err syntax
unfolding computes
version_3 = refl

pub version_4 : again ((quoted (codes "{'name':'d','version':'','tables':{'T':{'columns':{}}}}"))) ≡ Err syntax
unfolding computes
version_4 = refl

pub version_5 : again ((quoted (codes "{'name':'d','version':'1.0.0 ','tables':{'T':{'columns':{}}}}"))) ≡ Err syntax
unfolding computes
version_5 = refl

pub version_6 : again ((quoted (codes "{'name':'d','version':'-1.0.0','tables':{'T':{'columns':{}}}}"))) ≡ Err syntax
unfolding computes
version_6 = refl

pub version_7 : again ((quoted (codes "{'name':'d','version':5,'tables':{'T':{'columns':{}}}}"))) ≡ Err syntax
unfolding computes
version_7 = refl

pub version_8 : again ((quoted (codes "{'name':'d','version':' 1.0.0','tables':{'T':{'columns':{}}}}"))) ≡ Err syntax
unfolding computes
version_8 = refl

pub version_9 : again ((quoted (codes "{'name':'d','version':'+1.0.0','tables':{'T':{'columns':{}}}}"))) ≡ Err syntax
unfolding computes
version_9 = refl

pub version_zeros : again ((quoted (codes "{'name':'d','version':'01.000.9999999999999999999999','tables':{'T':{'columns':{}}}}"))) ≡ Ok ((quoted (codes "{'name':'d','tables':{'T':{'columns':{}}},'version':'01.000.9999999999999999999999'}")))
unfolding computes
version_zeros = refl

pub tables_ascend : again ((quoted (codes "{'name':'d','version':'1.0.0','tables':{'b':{'columns':{},'maxRows':0},'a':{'columns':{'x':{'type':'string','ephemeral':1}}}}}"))) ≡ Err syntax
unfolding computes
tables_ascend = refl

pub tables_ascend_upper_first : again ((quoted (codes "{'name':'d','version':'1.0.0','tables':{'a':{'columns':{},'maxRows':0},'B':{'columns':{'x':{'type':'string','ephemeral':1}}}}}"))) ≡ Err syntax
unfolding computes
tables_ascend_upper_first = refl

pub columns_before_maxrows : again ((quoted (codes "{'name':'d','version':'1.0.0','tables':{'T':{'columns':{'x':{'type':'real'}},'maxRows':'a'}}}"))) ≡ Err bad_type
unfolding computes
columns_before_maxrows = refl

pub columns_ascend : again ((quoted (codes "{'name':'d','version':'1.0.0','tables':{'T':{'columns':{'y':{'type':'real'},'x':{}}}}}"))) ≡ Err syntax
unfolding computes
columns_ascend = refl

pub columns_ascend2 : again ((quoted (codes "{'name':'d','version':'1.0.0','tables':{'T':{'columns':{'x':{'type':'real'},'y':{}}}}}"))) ≡ Err bad_type
unfolding computes
columns_ascend2 = refl

pub maxrows_before_isroot : again ((quoted (codes "{'name':'d','version':'1.0.0','tables':{'T':{'columns':{},'isRoot':5,'maxRows':0}}}"))) ≡ Err bad_type
unfolding computes
maxrows_before_isroot = refl

pub isroot_before_indexes : again ((quoted (codes "{'name':'d','version':'1.0.0','tables':{'T':{'columns':{},'isRoot':5,'indexes':[[]]}}}"))) ≡ Err syntax
unfolding computes
isroot_before_indexes = refl

pub table_bad_id_before_content : again ((quoted (codes "{'name':'d','version':'1.0.0','tables':{'_t':5}}"))) ≡ Err bad_id
unfolding computes
table_bad_id_before_content = refl

pub table_not_object : again ((quoted (codes "{'name':'d','version':'1.0.0','tables':{'t':5}}"))) ≡ Err syntax
unfolding computes
table_not_object = refl

pub columns_absent : again ((quoted (codes "{'name':'d','version':'1.0.0','tables':{'t':{'maxRows':0}}}"))) ≡ Err syntax
unfolding computes
columns_absent = refl

pub column_bad_id_first : again ((quoted (codes "{'name':'d','version':'1.0.0','tables':{'T':{'columns':{'_x':5}}}}"))) ≡ Err bad_id
unfolding computes
column_bad_id_first = refl

pub column_type_absent : again ((quoted (codes "{'name':'d','version':'1.0.0','tables':{'T':{'columns':{'x':{'ephemeral':5}}}}}"))) ≡ Err syntax
unfolding computes
column_type_absent = refl

pub column_type_before_ephemeral : again ((quoted (codes "{'name':'d','version':'1.0.0','tables':{'T':{'columns':{'x':{'type':'real','ephemeral':5}}}}}"))) ≡ Err bad_type
unfolding computes
column_type_before_ephemeral = refl

pub mutable_kind : again ((quoted (codes "{'name':'d','version':'1.0.0','tables':{'T':{'columns':{'x':{'type':'integer','mutable':'true'}}}}}"))) ≡ Err syntax
unfolding computes
mutable_kind = refl

pub type_kind : again ((quoted (codes "{'name':'d','version':'1.0.0','tables':{'T':{'columns':{'x':{'type':5}}}}}"))) ≡ Err syntax
unfolding computes
type_kind = refl

pub type_real : again ((quoted (codes "{'name':'d','version':'1.0.0','tables':{'T':{'columns':{'x':{'type':'real'}}}}}"))) ≡ Err bad_type
unfolding computes
type_real = refl

pub key_absent : again ((quoted (codes "{'name':'d','version':'1.0.0','tables':{'T':{'columns':{'x':{'type':{'type':'integer'}}}}}}"))) ≡ Err syntax
unfolding computes
key_absent = refl

pub value_null : again ((quoted (codes "{'name':'d','version':'1.0.0','tables':{'T':{'columns':{'x':{'type':{'key':'integer','value':null}}}}}}"))) ≡ Err syntax
unfolding computes
value_null = refl

pub base_type_absent : again ((quoted (codes "{'name':'d','version':'1.0.0','tables':{'T':{'columns':{'x':{'type':{'key':{}}}}}}}"))) ≡ Err syntax
unfolding computes
base_type_absent = refl

pub base_type_kind : again ((quoted (codes "{'name':'d','version':'1.0.0','tables':{'T':{'columns':{'x':{'type':{'key':{'type':1}}}}}}}"))) ≡ Err syntax
unfolding computes
base_type_kind = refl

pub min_n1 : again ((quoted (codes "{'name':'d','version':'1.0.0','tables':{'T':{'columns':{'x':{'type':{'key':'integer','min':-1}}}}}}"))) ≡ Err bad_type
unfolding computes
min_n1 = refl

pub min_2 : again ((quoted (codes "{'name':'d','version':'1.0.0','tables':{'T':{'columns':{'x':{'type':{'key':'integer','min':2}}}}}}"))) ≡ Err bad_type
unfolding computes
min_2 = refl

pub min_s : again ((quoted (codes "{'name':'d','version':'1.0.0','tables':{'T':{'columns':{'x':{'type':{'key':'integer','min':'0'}}}}}}"))) ≡ Err syntax
unfolding computes
min_s = refl

pub min_f : again ((quoted (codes "{'name':'d','version':'1.0.0','tables':{'T':{'columns':{'x':{'type':{'key':'integer','min':1.0}}}}}}"))) ≡ Err syntax
unfolding computes
min_f = refl

pub min_m0 : again ((quoted (codes "{'name':'d','version':'1.0.0','tables':{'T':{'columns':{'x':{'type':{'key':'integer','min':-0}}}}}}"))) ≡ Err syntax
unfolding computes
min_m0 = refl

pub min_e : again ((quoted (codes "{'name':'d','version':'1.0.0','tables':{'T':{'columns':{'x':{'type':{'key':'integer','min':1e0}}}}}}"))) ≡ Err syntax
unfolding computes
min_e = refl

pub min_u : again ((quoted (codes "{'name':'d','version':'1.0.0','tables':{'T':{'columns':{'x':{'type':{'key':'integer','min':'unlimited'}}}}}}"))) ≡ Err syntax
unfolding computes
min_u = refl

pub max_0 : again ((quoted (codes "{'name':'d','version':'1.0.0','tables':{'T':{'columns':{'x':{'type':{'key':'integer','max':0}}}}}}"))) ≡ Err bad_type
unfolding computes
max_0 = refl

pub max_big : again ((quoted (codes "{'name':'d','version':'1.0.0','tables':{'T':{'columns':{'x':{'type':{'key':'integer','max':4294967296}}}}}}"))) ≡ Err bad_type
unfolding computes
max_big = refl

pub max_neg : again ((quoted (codes "{'name':'d','version':'1.0.0','tables':{'T':{'columns':{'x':{'type':{'key':'integer','max':-1}}}}}}"))) ≡ Err bad_type
unfolding computes
max_neg = refl

pub max_text : again ((quoted (codes "{'name':'d','version':'1.0.0','tables':{'T':{'columns':{'x':{'type':{'key':'integer','max':'many'}}}}}}"))) ≡ Err bad_type
unfolding computes
max_text = refl

pub max_true : again ((quoted (codes "{'name':'d','version':'1.0.0','tables':{'T':{'columns':{'x':{'type':{'key':'integer','max':true}}}}}}"))) ≡ Err syntax
unfolding computes
max_true = refl

pub max_f : again ((quoted (codes "{'name':'d','version':'1.0.0','tables':{'T':{'columns':{'x':{'type':{'key':'integer','max':1.5}}}}}}"))) ≡ Err syntax
unfolding computes
max_f = refl

pub max_huge : again ((quoted (codes "{'name':'d','version':'1.0.0','tables':{'T':{'columns':{'x':{'type':{'key':'integer','max':9223372036854775808}}}}}}"))) ≡ Err syntax
unfolding computes
max_huge = refl

pub max_huger : again ((quoted (codes "{'name':'d','version':'1.0.0','tables':{'T':{'columns':{'x':{'type':{'key':'integer','max':9223372036854775807}}}}}}"))) ≡ Err bad_type
unfolding computes
max_huger = refl

pub max_most : again ((quoted (codes "{'name':'d','version':'1.0.0','tables':{'T':{'columns':{'x':{'type':{'key':'integer','max':4294967295}}}}}}"))) ≡ Ok ((quoted (codes "{'name':'d','tables':{'T':{'columns':{'x':{'type':{'key':'integer','max':4294967295}}}}},'version':'1.0.0'}")))
unfolding computes
max_most = refl

pub min_before_max : again ((quoted (codes "{'name':'d','version':'1.0.0','tables':{'T':{'columns':{'x':{'type':{'key':'integer','min':2,'max':true}}}}}}"))) ≡ Err bad_type
unfolding computes
min_before_max = refl

pub value_before_min : again ((quoted (codes "{'name':'d','version':'1.0.0','tables':{'T':{'columns':{'x':{'type':{'key':'integer','value':'real','min':true}}}}}}"))) ≡ Err bad_type
unfolding computes
value_before_min = refl

pub key_before_value : again ((quoted (codes "{'name':'d','version':'1.0.0','tables':{'T':{'columns':{'x':{'type':{'key':'real','value':5}}}}}}"))) ≡ Err bad_type
unfolding computes
key_before_value = refl

pub plain_printed : again ((quoted (codes "{'name':'d','version':'1.0.0','tables':{'T':{'columns':{'x':{'type':{'key':{'type':'integer'},'min':1,'max':1}}}}}}"))) ≡ Ok ((quoted (codes "{'name':'d','tables':{'T':{'columns':{'x':{'type':'integer'}}}},'version':'1.0.0'}")))
unfolding computes
plain_printed = refl

pub defaults_left_out : again ((quoted (codes "{'name':'d','version':'1.0.0','tables':{'T':{'columns':{'x':{'type':{'key':'uuid','value':{'type':'uuid','refTable':'T','refType':'strong'},'min':1,'max':1},'ephemeral':false,'mutable':true}},'isRoot':false,'indexes':[],'other':1}}}"))) ≡ Ok ((quoted (codes "{'name':'d','tables':{'T':{'columns':{'x':{'type':{'key':'uuid','value':{'refTable':'T','type':'uuid'}}}}}},'version':'1.0.0'}")))
unfolding computes
defaults_left_out = refl

pub enum_one : again ((quoted (codes "{'name':'d','version':'1.0.0','tables':{'T':{'columns':{'x':{'type':{'key':{'type':'string','enum':['set',['a']]}}}}}}}"))) ≡ Ok ((quoted (codes "{'name':'d','tables':{'T':{'columns':{'x':{'type':{'key':{'enum':'a','type':'string'}}}}}},'version':'1.0.0'}")))
unfolding computes
enum_one = refl

pub optional : again ((quoted (codes "{'name':'d','version':'1.0.0','tables':{'T':{'columns':{'x':{'type':{'key':'integer','min':0}}}}}}"))) ≡ Ok ((quoted (codes "{'name':'d','tables':{'T':{'columns':{'x':{'type':{'key':'integer','min':0}}}}},'version':'1.0.0'}")))
unfolding computes
optional = refl

pub enum_empty : again ((quoted (codes "{'name':'d','version':'1.0.0','tables':{'T':{'columns':{'x':{'type':{'key':{'type':'string','enum':['set',[]]}}}}}}}"))) ≡ Err bad_type
unfolding computes
enum_empty = refl

pub enum_kind : again ((quoted (codes "{'name':'d','version':'1.0.0','tables':{'T':{'columns':{'x':{'type':{'key':{'type':'string','enum':5}}}}}}}"))) ≡ Err bad_type
unfolding computes
enum_kind = refl

pub enum_twice : again ((quoted (codes "{'name':'d','version':'1.0.0','tables':{'T':{'columns':{'x':{'type':{'key':{'type':'string','enum':['set',['a','a']]}}}}}}}"))) ≡ Err bad_type
unfolding computes
enum_twice = refl

pub enum_named : again ((quoted (codes "{'name':'d','version':'1.0.0','tables':{'T':{'columns':{'x':{'type':{'key':{'type':'uuid','enum':['named-uuid','a']}}}}}}}"))) ≡ Err bad_type
unfolding computes
enum_named = refl

pub enum_u0000 : again ((quoted (codes "{'name':'d','version':'1.0.0','tables':{'T':{'columns':{'x':{'type':{'key':{'type':'string','enum':'\\u0000'}}}}}}}"))) ≡ Err bad_type
unfolding computes
enum_u0000 = refl

pub enum_bool : again ((quoted (codes "{'name':'d','version':'1.0.0','tables':{'T':{'columns':{'x':{'type':{'key':{'type':'boolean','enum':true}}}}}}}"))) ≡ Ok ((quoted (codes "{'name':'d','tables':{'T':{'columns':{'x':{'type':{'key':{'enum':true,'type':'boolean'}}}}}},'version':'1.0.0'}")))
unfolding computes
enum_bool = refl

pub enum_uuid : again ((quoted (codes "{'name':'d','version':'1.0.0','tables':{'T':{'columns':{'x':{'type':{'key':{'type':'uuid','enum':['uuid','0000000A-0000-0000-0000-00000000000F']}}}}}}}"))) ≡ Ok ((quoted (codes "{'name':'d','tables':{'T':{'columns':{'x':{'type':{'key':{'enum':['uuid','0000000a-0000-0000-0000-00000000000f'],'type':'uuid'}}}}}},'version':'1.0.0'}")))
unfolding computes
enum_uuid = refl

pub enum_object : again ((quoted (codes "{'name':'d','version':'1.0.0','tables':{'T':{'columns':{'x':{'type':{'key':{'type':'string','enum':{}}}}}}}}"))) ≡ Err syntax
unfolding computes
enum_object = refl

pub enum_null : again ((quoted (codes "{'name':'d','version':'1.0.0','tables':{'T':{'columns':{'x':{'type':{'key':{'type':'string','enum':null}}}}}}}"))) ≡ Err syntax
unfolding computes
enum_null = refl

pub enum_fraction : again ((quoted (codes "{'name':'d','version':'1.0.0','tables':{'T':{'columns':{'x':{'type':{'key':{'type':'integer','enum':1.5}}}}}}}"))) ≡ Err syntax
unfolding computes
enum_fraction = refl

pub enum_before_min : again ((quoted (codes "{'name':'d','version':'1.0.0','tables':{'T':{'columns':{'x':{'type':{'key':{'type':'integer','enum':['set',[]],'minInteger':'a'}}}}}}}"))) ≡ Err bad_type
unfolding computes
enum_before_min = refl

pub minInteger_with_string : again ((quoted (codes "{'name':'d','version':'1.0.0','tables':{'T':{'columns':{'x':{'type':{'key':{'type':'string','minInteger':1}}}}}}}"))) ≡ Err bad_type
unfolding computes
minInteger_with_string = refl

pub minInteger_kind : again ((quoted (codes "{'name':'d','version':'1.0.0','tables':{'T':{'columns':{'x':{'type':{'key':{'type':'integer','minInteger':'1'}}}}}}}"))) ≡ Err syntax
unfolding computes
minInteger_kind = refl

pub maxInteger_with_string : again ((quoted (codes "{'name':'d','version':'1.0.0','tables':{'T':{'columns':{'x':{'type':{'key':{'type':'string','maxInteger':1}}}}}}}"))) ≡ Err bad_type
unfolding computes
maxInteger_with_string = refl

pub maxInteger_kind : again ((quoted (codes "{'name':'d','version':'1.0.0','tables':{'T':{'columns':{'x':{'type':{'key':{'type':'integer','maxInteger':'1'}}}}}}}"))) ≡ Err syntax
unfolding computes
maxInteger_kind = refl

pub minLength_with_integer : again ((quoted (codes "{'name':'d','version':'1.0.0','tables':{'T':{'columns':{'x':{'type':{'key':{'type':'integer','minLength':1}}}}}}}"))) ≡ Err bad_type
unfolding computes
minLength_with_integer = refl

pub minLength_fraction : again ((quoted (codes "{'name':'d','version':'1.0.0','tables':{'T':{'columns':{'x':{'type':{'key':{'type':'string','minLength':1.5}}}}}}}"))) ≡ Err syntax
unfolding computes
minLength_fraction = refl

pub minLength_negative : again ((quoted (codes "{'name':'d','version':'1.0.0','tables':{'T':{'columns':{'x':{'type':{'key':{'type':'string','minLength':-1}}}}}}}"))) ≡ Ok ((quoted (codes "{'name':'d','tables':{'T':{'columns':{'x':{'type':{'key':{'minLength':-1,'type':'string'}}}}}},'version':'1.0.0'}")))
unfolding computes
minLength_negative = refl

pub maxLength_with_integer : again ((quoted (codes "{'name':'d','version':'1.0.0','tables':{'T':{'columns':{'x':{'type':{'key':{'type':'integer','maxLength':1}}}}}}}"))) ≡ Err bad_type
unfolding computes
maxLength_with_integer = refl

pub maxLength_fraction : again ((quoted (codes "{'name':'d','version':'1.0.0','tables':{'T':{'columns':{'x':{'type':{'key':{'type':'string','maxLength':1.5}}}}}}}"))) ≡ Err syntax
unfolding computes
maxLength_fraction = refl

pub maxLength_negative : again ((quoted (codes "{'name':'d','version':'1.0.0','tables':{'T':{'columns':{'x':{'type':{'key':{'type':'string','maxLength':-1}}}}}}}"))) ≡ Ok ((quoted (codes "{'name':'d','tables':{'T':{'columns':{'x':{'type':{'key':{'maxLength':-1,'type':'string'}}}}}},'version':'1.0.0'}")))
unfolding computes
maxLength_negative = refl

pub lengths_order : again ((quoted (codes "{'name':'d','version':'1.0.0','tables':{'T':{'columns':{'x':{'type':{'key':{'type':'string','minLength':3,'maxLength':2}}}}}}}"))) ≡ Err bad_type
unfolding computes
lengths_order = refl

pub bounds_equal : again ((quoted (codes "{'name':'d','version':'1.0.0','tables':{'T':{'columns':{'x':{'type':{'key':{'type':'integer','minInteger':3,'maxInteger':3}}}}}}}"))) ≡ Ok ((quoted (codes "{'name':'d','tables':{'T':{'columns':{'x':{'type':{'key':{'maxInteger':3,'minInteger':3,'type':'integer'}}}}}},'version':'1.0.0'}")))
unfolding computes
bounds_equal = refl

pub ref_with_string_unknown : again ((quoted (codes "{'name':'d','version':'1.0.0','tables':{'T':{'columns':{'x':{'type':{'key':{'type':'string','refTable':'Z'}}}}}}}"))) ≡ Err bad_type
unfolding computes
ref_with_string_unknown = refl

pub ref_with_string_known : again ((quoted (codes "{'name':'d','version':'1.0.0','tables':{'T':{'columns':{'x':{'type':{'key':{'type':'string','refTable':'T'}}}}}}}"))) ≡ Err bad_type
unfolding computes
ref_with_string_known = refl

pub ref_kind : again ((quoted (codes "{'name':'d','version':'1.0.0','tables':{'T':{'columns':{'x':{'type':{'key':{'type':'uuid','refTable':5}}}}}}}"))) ≡ Err syntax
unfolding computes
ref_kind = refl

pub reftype_alone : again ((quoted (codes "{'name':'d','version':'1.0.0','tables':{'T':{'columns':{'x':{'type':{'key':{'type':'uuid','refType':'weak'}}}}}}}"))) ≡ Err bad_type
unfolding computes
reftype_alone = refl

pub reftype_text : again ((quoted (codes "{'name':'d','version':'1.0.0','tables':{'T':{'columns':{'x':{'type':{'key':{'type':'uuid','refTable':'T','refType':'loose'}}}}}}}"))) ≡ Err bad_type
unfolding computes
reftype_text = refl

pub reftype_kind : again ((quoted (codes "{'name':'d','version':'1.0.0','tables':{'T':{'columns':{'x':{'type':{'key':{'type':'uuid','refTable':'T','refType':true}}}}}}}"))) ≡ Err syntax
unfolding computes
reftype_kind = refl

pub reftype_kind_alone : again ((quoted (codes "{'name':'d','version':'1.0.0','tables':{'T':{'columns':{'x':{'type':{'key':{'type':'uuid','refType':true}}}}}}}"))) ≡ Err syntax
unfolding computes
reftype_kind_alone = refl

pub ref_itself : again ((quoted (codes "{'name':'d','version':'1.0.0','tables':{'T':{'columns':{'x':{'type':{'key':{'type':'uuid','refTable':'T'}}}}}}}"))) ≡ Ok ((quoted (codes "{'name':'d','tables':{'T':{'columns':{'x':{'type':{'key':{'refTable':'T','type':'uuid'}}}}}},'version':'1.0.0'}")))
unfolding computes
ref_itself = refl

pub ref_before_reftype : again ((quoted (codes "{'name':'d','version':'1.0.0','tables':{'T':{'columns':{'x':{'type':{'key':{'type':'uuid','refTable':'Z','refType':5}}}}}}}"))) ≡ Err unknown_ref_table
unfolding computes
ref_before_reftype = refl

pub index_kind : again ((quoted (codes "{'name':'d','version':'1.0.0','tables':{'T':{'columns':{'x':{'type':'integer'},'e':{'type':'integer','ephemeral':true}},'indexes':{}}}}"))) ≡ Err syntax
unfolding computes
index_kind = refl

pub index_inner_kind : again ((quoted (codes "{'name':'d','version':'1.0.0','tables':{'T':{'columns':{'x':{'type':'integer'},'e':{'type':'integer','ephemeral':true}},'indexes':['x']}}}"))) ≡ Err syntax
unfolding computes
index_inner_kind = refl

pub index_name_kind : again ((quoted (codes "{'name':'d','version':'1.0.0','tables':{'T':{'columns':{'x':{'type':'integer'},'e':{'type':'integer','ephemeral':true}},'indexes':[[5]]}}}"))) ≡ Err syntax
unfolding computes
index_name_kind = refl

pub index_twice : again ((quoted (codes "{'name':'d','version':'1.0.0','tables':{'T':{'columns':{'x':{'type':'integer'},'e':{'type':'integer','ephemeral':true}},'indexes':[['x','x']]}}}"))) ≡ Err bad_index
unfolding computes
index_twice = refl

pub index_unknown : again ((quoted (codes "{'name':'d','version':'1.0.0','tables':{'T':{'columns':{'x':{'type':'integer'},'e':{'type':'integer','ephemeral':true}},'indexes':[['y']]}}}"))) ≡ Err bad_index
unfolding computes
index_unknown = refl

pub index_uuid : again ((quoted (codes "{'name':'d','version':'1.0.0','tables':{'T':{'columns':{'x':{'type':'integer'},'e':{'type':'integer','ephemeral':true}},'indexes':[['_uuid']]}}}"))) ≡ Err bad_index
unfolding computes
index_uuid = refl

pub index_same_twice_ok : again ((quoted (codes "{'name':'d','version':'1.0.0','tables':{'T':{'columns':{'x':{'type':'integer'},'e':{'type':'integer','ephemeral':true}},'indexes':[['x'],['x']]}}}"))) ≡ Ok ((quoted (codes "{'name':'d','tables':{'T':{'columns':{'e':{'ephemeral':true,'type':'integer'},'x':{'type':'integer'}},'indexes':[['x'],['x']]}},'version':'1.0.0'}")))
unfolding computes
index_same_twice_ok = refl

pub repeated_key_last : again ((quoted (codes "{'name':'_','name':'d','version':'1.0.0','tables':{}}"))) ≡ Ok ((quoted (codes "{'name':'d','tables':{},'version':'1.0.0'}")))
unfolding computes
repeated_key_last = refl

pub too_many_columns : read_schema (parsed ((quoted (codes "{'tables':{'t':{'columns':{'c0':1,'c1':1,'c2':1,'c3':1,'c4':1,'c5':1,'c6':1,'c7':1,'c8':1,'c9':1,'c10':1,'c11':1,'c12':1,'c13':1,'c14':1,'c15':1,'c16':1,'c17':1,'c18':1,'c19':1,'c20':1,'c21':1,'c22':1,'c23':1,'c24':1,'c25':1,'c26':1,'c27':1,'c28':1,'c29':1,'c30':1,'c31':1,'c32':1,'c33':1,'c34':1,'c35':1,'c36':1,'c37':1,'c38':1,'c39':1,'c40':1,'c41':1,'c42':1,'c43':1,'c44':1,'c45':1,'c46':1,'c47':1,'c48':1,'c49':1,'c50':1,'c51':1,'c52':1,'c53':1,'c54':1,'c55':1,'c56':1,'c57':1,'c58':1,'c59':1,'c60':1,'c61':1,'c62':1,'c63':1,'c64':1,'c65':1,'c66':1,'c67':1,'c68':1,'c69':1,'c70':1,'c71':1,'c72':1,'c73':1,'c74':1,'c75':1,'c76':1,'c77':1,'c78':1,'c79':1,'c80':1,'c81':1,'c82':1,'c83':1,'c84':1,'c85':1,'c86':1,'c87':1,'c88':1,'c89':1,'c90':1,'c91':1,'c92':1,'c93':1,'c94':1,'c95':1,'c96':1,'c97':1,'c98':1,'c99':1,'c100':1,'c101':1,'c102':1,'c103':1,'c104':1,'c105':1,'c106':1,'c107':1,'c108':1,'c109':1,'c110':1,'c111':1,'c112':1,'c113':1,'c114':1,'c115':1,'c116':1,'c117':1,'c118':1,'c119':1,'c120':1,'c121':1,'c122':1,'c123':1,'c124':1,'c125':1,'c126':1,'c127':1,'c128':1,'c129':1,'c130':1,'c131':1,'c132':1,'c133':1,'c134':1,'c135':1,'c136':1,'c137':1,'c138':1,'c139':1,'c140':1,'c141':1,'c142':1,'c143':1,'c144':1,'c145':1,'c146':1,'c147':1,'c148':1,'c149':1,'c150':1,'c151':1,'c152':1,'c153':1,'c154':1,'c155':1,'c156':1,'c157':1,'c158':1,'c159':1,'c160':1,'c161':1,'c162':1,'c163':1,'c164':1,'c165':1,'c166':1,'c167':1,'c168':1,'c169':1,'c170':1,'c171':1,'c172':1,'c173':1,'c174':1,'c175':1,'c176':1,'c177':1,'c178':1,'c179':1,'c180':1,'c181':1,'c182':1,'c183':1,'c184':1,'c185':1,'c186':1,'c187':1,'c188':1,'c189':1,'c190':1,'c191':1,'c192':1,'c193':1,'c194':1,'c195':1,'c196':1,'c197':1,'c198':1,'c199':1,'c200':1,'c201':1,'c202':1,'c203':1,'c204':1,'c205':1,'c206':1,'c207':1,'c208':1,'c209':1,'c210':1,'c211':1,'c212':1,'c213':1,'c214':1,'c215':1,'c216':1,'c217':1,'c218':1,'c219':1,'c220':1,'c221':1,'c222':1,'c223':1,'c224':1,'c225':1,'c226':1,'c227':1,'c228':1,'c229':1,'c230':1,'c231':1,'c232':1,'c233':1,'c234':1,'c235':1,'c236':1,'c237':1,'c238':1,'c239':1,'c240':1,'c241':1,'c242':1,'c243':1,'c244':1,'c245':1,'c246':1,'c247':1,'c248':1,'c249':1,'c250':1,'c251':1,'c252':1,'c253':1,'c254':1,'c255':1,'c256':1}}}}")))) ≡ Err too_large
unfolding computes
too_many_columns = refl
