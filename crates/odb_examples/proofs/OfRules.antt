-- Each rule of operations and settlement by an example.
use Rattle.odb_examples.proofs.TestSchemas.{quoted}
use Rattle.std.specs.Prelude.{◌≡◌, ℕ, List, [], ◌∷◌, codes, refl, Ok}
use Rattle.odb_examples.proofs.Examples.{computes}
use Rattle.odb_examples.proofs.OfSchemas.{cnt}
use Rattle.odb_examples.proofs.OfResults.{results, results_as, results_within}

abbrev rul : List ℕ
rul = (quoted (codes "{'name':'rul','version':'1.0.0','tables':{'K':{'columns':{'k':{'type':'integer','mutable':false},'n':{'type':{'key':{'type':'integer','minInteger':1}}}}},'M':{'columns':{'a':{'type':'integer'}},'maxRows':1},'P':{'columns':{'one':{'type':{'key':{'type':'uuid','refTable':'T','refType':'weak'},'min':0}},'some':{'type':{'key':{'type':'uuid','refTable':'T','refType':'weak'},'min':1,'max':'unlimited'}},'by':{'type':{'key':'string','value':{'type':'uuid','refTable':'T','refType':'weak'},'min':0,'max':'unlimited'}}}},'T':{'columns':{'a':{'type':'integer'}}}}}"))

-- a column that isn't named has its default, which may break a constraint
pub a_default_meets_its_constraint : results rul ((quoted (codes "[{'op':'insert','table':'K','row':{'k':1}}]")) ∷ (quoted (codes "[{'op':'insert','table':'K','row':{'n':1}}]")) ∷ [])
    ≡ Ok ((quoted (codes "[{'error':'constraint violation'}]")) ∷ (quoted (codes "[{'uuid':['uuid','00000000-0000-4000-8000-000000000002']}]")) ∷ [])
unfolding computes
a_default_meets_its_constraint = refl

-- also where no row matches
pub an_immutable_column_stays : results rul ((quoted (codes "[{'op':'update','table':'K','where':[],'row':{'k':2}}]")) ∷ (quoted (codes "[{'op':'mutate','table':'K','where':[],'mutations':[['k','+=',1]]}]")) ∷ [])
    ≡ Ok ((quoted (codes "[{'error':'constraint violation'}]")) ∷ (quoted (codes "[{'error':'constraint violation'}]")) ∷ [])
unfolding computes
an_immutable_column_stays = refl

-- the two columns of every table can't be given
pub no_insert_of_a_uuid_or_version : results rul ((quoted (codes "[{'op':'insert','table':'T','row':{'_uuid':['uuid','00000000-0000-4000-8000-000000000009']}}]")) ∷ (quoted (codes "[{'op':'insert','table':'T','row':{'_x':1}}]")) ∷ [])
    ≡ Ok ((quoted (codes "[{'error':'constraint violation'}]")) ∷ (quoted (codes "[{'error':'unknown column'}]")) ∷ [])
unfolding computes
no_insert_of_a_uuid_or_version = refl

pub a_uuid_name_is_taken_once : results rul ((quoted (codes "[{'op':'insert','table':'T','row':{},'uuid-name':'a'},{'op':'insert','table':'T','row':{},'uuid-name':'a'}]")) ∷ [])
    ≡ Ok ((quoted (codes "[{'uuid':['uuid','00000000-0000-4000-8000-000000000001']},{'error':'duplicate uuid-name'}]")) ∷ [])
unfolding computes
a_uuid_name_is_taken_once = refl

-- an unknown name, and one that is no id
pub a_name_that_no_insert_has : results rul ((quoted (codes "[{'op':'insert','table':'P','row':{'one':['named-uuid','x']}}]")) ∷ (quoted (codes "[{'op':'insert','table':'P','row':{'one':['named-uuid','1']}}]")) ∷ [])
    ≡ Ok ((quoted (codes "[{'error':'unknown uuid-name'}]")) ∷ (quoted (codes "[{'error':'syntax error'}]")) ∷ [])
unfolding computes
a_name_that_no_insert_has = refl

pub no_column_twice : results rul ((quoted (codes "[{'op':'select','table':'T','where':[],'columns':['a','a']}]")) ∷ [])
    ≡ Ok ((quoted (codes "[{'error':'syntax error'}]")) ∷ [])
unfolding computes
no_column_twice = refl

-- in the order of the first of each
pub equal_rows_once : results rul ((quoted (codes "[{'op':'insert','table':'T','row':{'a':2}},{'op':'insert','table':'T','row':{'a':1}},{'op':'insert','table':'T','row':{'a':2}}]")) ∷ (quoted (codes "[{'op':'select','table':'T','where':[],'columns':['a']}]")) ∷ [])
    ≡ Ok ((quoted (codes "[{'uuid':['uuid','00000000-0000-4000-8000-000000000001']},{'uuid':['uuid','00000000-0000-4000-8000-000000000002']},{'uuid':['uuid','00000000-0000-4000-8000-000000000003']}]")) ∷ (quoted (codes "[{'rows':[{'a':2},{'a':1}]}]")) ∷ [])
unfolding computes
equal_rows_once = refl

-- one row is out of range, the other has a zero divisor
pub of_the_rows_faults_the_first_kind : results cnt ((quoted (codes "[{'op':'insert','table':'C','row':{'n':9223372036854775807}},{'op':'insert','table':'C','row':{'n':1}}]")) ∷ (quoted (codes "[{'op':'mutate','table':'C','where':[],'mutations':[['n','+=',1],['n','/=',0]]}]")) ∷ [])
    ≡ Ok ((quoted (codes "[{'uuid':['uuid','00000000-0000-4000-8000-000000000001']},{'uuid':['uuid','00000000-0000-4000-8000-000000000002']}]")) ∷ (quoted (codes "[{'error':'domain error'}]")) ∷ [])
unfolding computes
of_the_rows_faults_the_first_kind = refl

pub a_weak_value_takes_its_pair_along : results rul ((quoted (codes "[{'op':'insert','table':'P','row':{'some':['set',[['named-uuid','t'],['named-uuid','u']]],'by':['map',[['x',['named-uuid','t']],['y',['named-uuid','u']]]],'one':['named-uuid','u']}},{'op':'insert','table':'T','row':{'a':1},'uuid-name':'t'},{'op':'insert','table':'T','row':{'a':2},'uuid-name':'u'}]")) ∷ (quoted (codes "[{'op':'delete','table':'T','where':[['a','==',2]]}]")) ∷ (quoted (codes "[{'op':'select','table':'P','where':[],'columns':['by','one','some']}]")) ∷ (quoted (codes "[{'op':'delete','table':'T','where':[]}]")) ∷ [])
    ≡ Ok ((quoted (codes "[{'uuid':['uuid','00000000-0000-4000-8000-000000000001']},{'uuid':['uuid','00000000-0000-4000-8000-000000000002']},{'uuid':['uuid','00000000-0000-4000-8000-000000000003']}]")) ∷ (quoted (codes "[{'count':1}]")) ∷ (quoted (codes "[{'rows':[{'by':['map',[['x',['uuid','00000000-0000-4000-8000-000000000002']]]],'one':['set',[]],'some':['uuid','00000000-0000-4000-8000-000000000002']}]}]")) ∷ (quoted (codes "[{'count':1},{'error':'constraint violation'}]")) ∷ [])
unfolding computes
a_weak_value_takes_its_pair_along = refl

pub a_table_has_its_most_rows : results rul ((quoted (codes "[{'op':'insert','table':'M','row':{}},{'op':'insert','table':'M','row':{}}]")) ∷ [])
    ≡ Ok ((quoted (codes "[{'uuid':['uuid','00000000-0000-4000-8000-000000000001']},{'uuid':['uuid','00000000-0000-4000-8000-000000000002']},{'error':'constraint violation'}]")) ∷ [])
unfolding computes
a_table_has_its_most_rows = refl

pub a_database_has_its_most_rows : results_within 1 rul ((quoted (codes "[{'op':'insert','table':'T','row':{}},{'op':'insert','table':'T','row':{}}]")) ∷ (quoted (codes "[{'op':'insert','table':'T','row':{}}]")) ∷ [])
    ≡ Ok ((quoted (codes "[{'uuid':['uuid','00000000-0000-4000-8000-000000000001']},{'uuid':['uuid','00000000-0000-4000-8000-000000000002']},{'error':'resources exhausted'}]")) ∷ (quoted (codes "[{'uuid':['uuid','00000000-0000-4000-8000-000000000003']}]")) ∷ [])
unfolding computes
a_database_has_its_most_rows = refl

-- it is met last
pub a_member_not_in_the_table : results rul ((quoted (codes "[{'op':'select','table':'T','where':[],'x':1}]")) ∷ (quoted (codes "[{'op':'select','table':'X','where':[],'x':1}]")) ∷ (quoted (codes "[{'op':'merge'}]")) ∷ (quoted (codes "[{'op':5}]")) ∷ codes "[5]" ∷ [])
    ≡ Ok ((quoted (codes "[{'error':'syntax error'}]")) ∷ (quoted (codes "[{'error':'unknown table'}]")) ∷ (quoted (codes "[{'error':'unknown operation'}]")) ∷ (quoted (codes "[{'error':'syntax error'}]")) ∷ (quoted (codes "[{'error':'syntax error'}]")) ∷ [])
unfolding computes
a_member_not_in_the_table = refl

pub a_wait_compares_sets_of_rows : results rul ((quoted (codes "[{'op':'insert','table':'T','row':{'a':1}},{'op':'insert','table':'T','row':{'a':1}}]")) ∷ (quoted (codes "[{'op':'wait','timeout':0,'table':'T','where':[],'columns':['a'],'until':'==','rows':[{'a':1}]},{'op':'wait','timeout':0,'table':'T','where':[],'columns':['a'],'until':'!=','rows':[{'a':1},{}]}]")) ∷ [])
    ≡ Ok ((quoted (codes "[{'uuid':['uuid','00000000-0000-4000-8000-000000000001']},{'uuid':['uuid','00000000-0000-4000-8000-000000000002']}]")) ∷ codes "[{},{}]" ∷ [])
unfolding computes
a_wait_compares_sets_of_rows = refl

pub commit_and_assert : results rul ((quoted (codes "[{'op':'commit','durable':false},{'op':'commit','durable':true}]")) ∷ (quoted (codes "[{'op':'assert','lock':'L'}]")) ∷ [])
    ≡ Ok ((quoted (codes "[{},{'error':'not supported'}]")) ∷ (quoted (codes "[{'error':'not owner'}]")) ∷ [])
unfolding computes
commit_and_assert = refl

-- two inserts into a table that are given one identifier
pub a_uuid_is_taken_once : results_as (7 ∷ 7 ∷ []) rul ((quoted (codes "[{'op':'insert','table':'T','row':{}},{'op':'insert','table':'T','row':{}}]"))) ≡ Ok ((quoted (codes "[{'uuid':['uuid','00000000-0000-0000-0000-000000000007']},{'error':'duplicate uuid'}]")))
unfolding computes
a_uuid_is_taken_once = refl

-- also where the first is deleted again
pub a_uuid_stays_taken : results_as (7 ∷ 7 ∷ []) rul ((quoted (codes "[{'op':'insert','table':'T','row':{}},{'op':'delete','table':'T','where':[]},{'op':'insert','table':'T','row':{}}]"))) ≡ Ok ((quoted (codes "[{'uuid':['uuid','00000000-0000-0000-0000-000000000007']},{'count':1},{'error':'duplicate uuid'}]")))
unfolding computes
a_uuid_stays_taken = refl

-- in another table it is free
pub a_uuid_for_each_table : results_as (7 ∷ 7 ∷ []) rul ((quoted (codes "[{'op':'insert','table':'T','row':{}},{'op':'insert','table':'M','row':{}}]"))) ≡ Ok ((quoted (codes "[{'uuid':['uuid','00000000-0000-0000-0000-000000000007']},{'uuid':['uuid','00000000-0000-0000-0000-000000000007']}]")))
unfolding computes
a_uuid_for_each_table = refl
