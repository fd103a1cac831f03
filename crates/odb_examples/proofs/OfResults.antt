-- Examples of transactions, by the JSON of their operations and of their results. [P 4.2]
use Rattle.odb_examples.proofs.TestSchemas.{quoted}
use Rattle.std.specs.Prelude.{◌≡◌, ℕ, ◌+◌, false, cond, List, [], ◌∷◌, codes, refl, Ok, Result, map as map_list, length, replicate, count_by, ◌++◌, decimal, Some, None}
use Rattle.std.specs.List.{range_with_len}
use Rattle.serde_json.specs.Written.{compact_text}
use Rattle.odb_atoms.specs.FinMap as map
use Rattle.odb_atoms.specs.First.{◌>>=◌}
use Rattle.odb_commit.specs.Transaction.{Outcome, done, waiting, refused, transact}
use Rattle.odb_examples.proofs.Examples.{computes, parsed}
use Rattle.odb_examples.proofs.OfSchemas.{cnt}
use Rattle.odb_atoms.specs.Uuid.{Uuid, uuid_from}
use Rattle.odb_json.specs.Operation.{is_insert}
use Rattle.odb_ops.specs.Execution.{Context}
use Rattle.odb_schema.specs.Json.{Data, array, array_of, items_list}
use Rattle.odb_schema.specs.Schema.{Schema}
use Rattle.odb_schema.specs.SchemaText.{SchemaFault, read_schema}
use Rattle.odb_tables.specs.Change.{is_changed}
use Rattle.odb_tables.specs.Database.{Db}

abbrev pub net : List ℕ
net = (quoted (codes "{'name':'net','version':'1.0.0','tables':{'Bridge':{'isRoot':true,'indexes':[['name']],'columns':{'name':{'type':'string'},'ports':{'type':{'key':{'type':'uuid','refTable':'Port'},'min':0,'max':'unlimited'}}}},'Port':{'columns':{'name':{'type':'string'},'tag':{'type':{'key':{'type':'integer','minInteger':0,'maxInteger':4095},'min':0}},'opts':{'type':{'key':'string','value':'string','min':0,'max':'unlimited'}},'peer':{'type':{'key':{'type':'uuid','refTable':'Port','refType':'weak'},'min':0}}}}}}"))

-- the k-th UUID of a script
abbrev script_uuid : ℕ → Uuid
script_uuid k = uuid_from (0x40008000000000000000 + k)

abbrev operations : List ℕ → List Data
operations text = list (parsed text)
  where
    list : Data → List Data
    list (array ds) = items_list ds
    list d = []

-- at moment 0, with n identifiers from the k-th on
abbrev at_once : ℕ → ℕ → Context
at_once k n = record { fresh = map_list script_uuid (range_with_len k n); arrival = 0; now = 0; owns = λ lock. false }

-- the results of transactions one after another, on commit numbers and script UUIDs from these on
abbrev results_from : ℕ → Schema → ℕ → ℕ → Db → List (List ℕ) → List (List ℕ)
results_from limit s number k db [] = []
results_from limit s number k db (text ∷ texts) =
    let ops : List Data = operations text in
    let next : ℕ = k + count_by is_insert ops in
    elim (transact s limit number (at_once k (length ops)) db ops) as (λ _. List (List ℕ)) [
      | done results new ↦ compact_text (array_of results) ∷ results_from limit s (cond (is_changed db new) (number + 1) number) next new texts
      | refused results ↦ compact_text (array_of results) ∷ results_from limit s number next db texts
      | waiting moment ↦ [] ∷ results_from limit s number next db texts
    ]

-- on an empty database of at most so many rows
abbrev pub results_within : ℕ → List ℕ → List (List ℕ) → Result (List (List ℕ)) SchemaFault
results_within limit schema texts = do
  s ← read_schema (parsed schema)
  Ok (results_from limit s 1 1 (replicate (length s.tables) map.empty) texts)

abbrev pub results : List ℕ → List (List ℕ) → Result (List (List ℕ)) SchemaFault
results = results_within 1000000

abbrev of_outcome : Outcome → List ℕ
of_outcome (done results new) = compact_text (array_of results)
of_outcome (refused results) = compact_text (array_of results)
of_outcome (waiting (Some moment)) = codes "waiting until " ++ decimal moment
of_outcome (waiting None) = codes "waiting"

-- of one transaction, on an empty database with these identifiers
abbrev pub results_as : List ℕ → List ℕ → List ℕ → Result (List ℕ) SchemaFault
results_as fresh schema text = do
  s ← read_schema (parsed schema)
  Ok (of_outcome (transact s 1000000 1 (record (at_once 0 0) { fresh = map_list uuid_from fresh }) (replicate (length s.tables) map.empty) (operations text)))

abbrev pub lnk : List ℕ
lnk = (quoted (codes "{'name':'lnk','version':'1.0.0','tables':{'R':{'isRoot':true,'columns':{'first':{'type':{'key':{'type':'uuid','refTable':'N'},'min':0}}}},'N':{'columns':{'next':{'type':{'key':{'type':'uuid','refTable':'N'},'min':0}}}}}}"))

abbrev pub lft : List ℕ
lft = (quoted (codes "{'name':'lft','version':'1.0.0','tables':{'R':{'isRoot':true,'columns':{'m':{'type':{'key':{'type':'uuid','refTable':'W','refType':'weak'},'value':{'type':'uuid','refTable':'S'},'min':0,'max':'unlimited'}}}},'W':{'isRoot':true,'columns':{'k':{'type':'integer'}}},'S':{'columns':{'k':{'type':'integer'}}}}}"))

-- a tag is at most 4095, and the operations after the one that fails have null
pub a_row_meets_its_columns_constraints : results net ((quoted (codes "[{'op':'insert','table':'Bridge','row':{'name':'br0','ports':['named-uuid','p']}},{'op':'insert','table':'Port','row':{'name':'p1'},'uuid-name':'p'}]")) ∷ (quoted (codes "[{'op':'update','table':'Port','where':[],'row':{'tag':4096}},{'op':'comment','comment':'x'}]")) ∷ (quoted (codes "[{'op':'update','table':'Port','where':[],'row':{'tag':4095}},{'op':'comment','comment':'x'}]")) ∷ [])
    ≡ Ok ((quoted (codes "[{'uuid':['uuid','00000000-0000-4000-8000-000000000001']},{'uuid':['uuid','00000000-0000-4000-8000-000000000002']}]")) ∷ (quoted (codes "[{'error':'constraint violation'},null]")) ∷ (quoted (codes "[{'count':1},{}]")) ∷ [])
unfolding computes
a_row_meets_its_columns_constraints = refl

-- the named UUID of a later insert
pub a_name_is_used_before_its_insert : results net ((quoted (codes "[{'op':'insert','table':'Bridge','row':{'name':'br0','ports':['named-uuid','p']}},{'op':'insert','table':'Port','row':{'name':'p1'},'uuid-name':'p'}]")) ∷ (quoted (codes "[{'op':'select','table':'Bridge','where':[['name','==','br0']],'columns':['ports']}]")) ∷ [])
    ≡ Ok ((quoted (codes "[{'uuid':['uuid','00000000-0000-4000-8000-000000000001']},{'uuid':['uuid','00000000-0000-4000-8000-000000000002']}]")) ∷ (quoted (codes "[{'rows':[{'ports':['uuid','00000000-0000-4000-8000-000000000002']}]}]")) ∷ [])
unfolding computes
a_name_is_used_before_its_insert = refl

-- a port that no bridge has isn't kept, and its commit uses no number
pub a_row_without_references_goes : results net ((quoted (codes "[{'op':'insert','table':'Port','row':{'name':'p'}}]")) ∷ (quoted (codes "[{'op':'insert','table':'Bridge','row':{'name':'b'}}]")) ∷ (quoted (codes "[{'op':'select','table':'Bridge','where':[],'columns':['_version']},{'op':'select','table':'Port','where':[]}]")) ∷ [])
    ≡ Ok ((quoted (codes "[{'uuid':['uuid','00000000-0000-4000-8000-000000000001']}]")) ∷ (quoted (codes "[{'uuid':['uuid','00000000-0000-4000-8000-000000000002']}]")) ∷ (quoted (codes "[{'rows':[{'_version':['uuid','00000000-0000-0000-0000-000000000001']}]},{'rows':[]}]")) ∷ [])
unfolding computes
a_row_without_references_goes = refl

-- division and remainder, and their errors
pub mutations_of_integers : results cnt ((quoted (codes "[{'op':'insert','table':'C','row':{'n':-7,'s':['set',[1,2]]}}]")) ∷ (quoted (codes "[{'op':'mutate','table':'C','where':[],'mutations':[['n','/=',2]]},{'op':'select','table':'C','where':[],'columns':['n']}]")) ∷ (quoted (codes "[{'op':'mutate','table':'C','where':[],'mutations':[['n','%=',2]]},{'op':'select','table':'C','where':[],'columns':['n']}]")) ∷ (quoted (codes "[{'op':'mutate','table':'C','where':[],'mutations':[['n','/=',0]]}]")) ∷ (quoted (codes "[{'op':'mutate','table':'C','where':[],'mutations':[['s','*=',0]]}]")) ∷ (quoted (codes "[{'op':'update','table':'C','where':[],'row':{'n':9223372036854775807}}]")) ∷ (quoted (codes "[{'op':'mutate','table':'C','where':[],'mutations':[['n','+=',1]]}]")) ∷ [])
    ≡ Ok ((quoted (codes "[{'uuid':['uuid','00000000-0000-4000-8000-000000000001']}]")) ∷ (quoted (codes "[{'count':1},{'rows':[{'n':-3}]}]")) ∷ (quoted (codes "[{'count':1},{'rows':[{'n':-1}]}]")) ∷ (quoted (codes "[{'error':'domain error'}]")) ∷ (quoted (codes "[{'error':'constraint violation'}]")) ∷ (quoted (codes "[{'count':1}]")) ∷ (quoted (codes "[{'error':'range error'}]")) ∷ [])
unfolding computes
mutations_of_integers = refl

-- two bridges of one name, and a strong reference to no row
pub an_index_is_unique : results net ((quoted (codes "[{'op':'insert','table':'Bridge','row':{'name':'b'}},{'op':'insert','table':'Bridge','row':{'name':'b'}}]")) ∷ (quoted (codes "[{'op':'insert','table':'Bridge','row':{'name':'b','ports':['uuid','00000000-0000-0000-0000-000000000000']}}]")) ∷ [])
    ≡ Ok ((quoted (codes "[{'uuid':['uuid','00000000-0000-4000-8000-000000000001']},{'uuid':['uuid','00000000-0000-4000-8000-000000000002']},{'error':'constraint violation'}]")) ∷ (quoted (codes "[{'uuid':['uuid','00000000-0000-4000-8000-000000000003']},{'error':'referential integrity violation'}]")) ∷ [])
unfolding computes
an_index_is_unique = refl

-- what stands after an abort isn't carried out
pub abort_fails : results net ((quoted (codes "[{'op':'comment','comment':'x'},{'op':'abort'},{'op':'comment','comment':'y'}]")) ∷ [])
    ≡ Ok ((quoted (codes "[{},{'error':'aborted'},null]")) ∷ [])
unfolding computes
abort_fails = refl

-- without time a `wait` that isn't met fails
pub a_wait_sees_the_operations_before_it : results net ((quoted (codes "[{'op':'wait','timeout':0,'table':'Bridge','where':[],'columns':['name'],'until':'==','rows':[{'name':'b'}]}]")) ∷ (quoted (codes "[{'op':'insert','table':'Bridge','row':{'name':'b'}},{'op':'wait','timeout':0,'table':'Bridge','where':[],'columns':['name'],'until':'==','rows':[{'name':'b'}]}]")) ∷ [])
    ≡ Ok ((quoted (codes "[{'error':'timed out'}]")) ∷ (quoted (codes "[{'uuid':['uuid','00000000-0000-4000-8000-000000000001']},{}]")) ∷ [])
unfolding computes
a_wait_sees_the_operations_before_it = refl

-- the same values again use no number
pub an_equal_update_changes_no_version : results net ((quoted (codes "[{'op':'insert','table':'Bridge','row':{'name':'b'}}]")) ∷ (quoted (codes "[{'op':'update','table':'Bridge','where':[],'row':{'name':'b'}}]")) ∷ (quoted (codes "[{'op':'update','table':'Bridge','where':[],'row':{'name':'x'}}]")) ∷ (quoted (codes "[{'op':'select','table':'Bridge','where':[],'columns':['_version','name']}]")) ∷ [])
    ≡ Ok ((quoted (codes "[{'uuid':['uuid','00000000-0000-4000-8000-000000000001']}]")) ∷ (quoted (codes "[{'count':1}]")) ∷ (quoted (codes "[{'count':1}]")) ∷ (quoted (codes "[{'rows':[{'_version':['uuid','00000000-0000-0000-0000-000000000002'],'name':'x'}]}]")) ∷ [])
unfolding computes
an_equal_update_changes_no_version = refl

-- rows that only rows which go refer to go too
pub what_a_list_keeps_goes_with_its_head : results lnk ((quoted (codes "[{'op':'insert','table':'R','row':{'first':['named-uuid','a']}},{'op':'insert','table':'N','row':{'next':['named-uuid','b']},'uuid-name':'a'},{'op':'insert','table':'N','row':{'next':['named-uuid','c']},'uuid-name':'b'},{'op':'insert','table':'N','row':{},'uuid-name':'c'}]")) ∷ (quoted (codes "[{'op':'update','table':'R','where':[],'row':{'first':['set',[]]}}]")) ∷ (quoted (codes "[{'op':'select','table':'N','where':[]}]")) ∷ [])
    ≡ Ok ((quoted (codes "[{'uuid':['uuid','00000000-0000-4000-8000-000000000001']},{'uuid':['uuid','00000000-0000-4000-8000-000000000002']},{'uuid':['uuid','00000000-0000-4000-8000-000000000003']},{'uuid':['uuid','00000000-0000-4000-8000-000000000004']}]")) ∷ (quoted (codes "[{'count':1}]")) ∷ (quoted (codes "[{'rows':[]}]")) ∷ [])
unfolding computes
what_a_list_keeps_goes_with_its_head = refl

-- a cycle of two supports itself
pub two_rows_keep_each_other : results lnk ((quoted (codes "[{'op':'insert','table':'N','row':{'next':['named-uuid','y']},'uuid-name':'x'},{'op':'insert','table':'N','row':{'next':['named-uuid','x']},'uuid-name':'y'}]")) ∷ (quoted (codes "[{'op':'select','table':'N','where':[],'columns':['next']}]")) ∷ [])
    ≡ Ok ((quoted (codes "[{'uuid':['uuid','00000000-0000-4000-8000-000000000001']},{'uuid':['uuid','00000000-0000-4000-8000-000000000002']}]")) ∷ (quoted (codes "[{'rows':[{'next':['uuid','00000000-0000-4000-8000-000000000002']},{'next':['uuid','00000000-0000-4000-8000-000000000001']}]}]")) ∷ [])
unfolding computes
two_rows_keep_each_other = refl

-- a reference to itself supports no row
pub no_row_keeps_itself : results lnk ((quoted (codes "[{'op':'insert','table':'N','row':{'next':['named-uuid','x']},'uuid-name':'x'}]")) ∷ (quoted (codes "[{'op':'select','table':'N','where':[]}]")) ∷ [])
    ≡ Ok ((quoted (codes "[{'uuid':['uuid','00000000-0000-4000-8000-000000000001']}]")) ∷ (quoted (codes "[{'rows':[]}]")) ∷ [])
unfolding computes
no_row_keeps_itself = refl

-- a pair whose weak key goes out takes a strong reference with it
pub a_pruned_pair_lets_its_row_go_a_commit_later : results lft ((quoted (codes "[{'op':'insert','table':'W','row':{},'uuid-name':'w'},{'op':'insert','table':'S','row':{},'uuid-name':'s'},{'op':'insert','table':'R','row':{'m':['map',[[['named-uuid','w'],['named-uuid','s']]]]}}]")) ∷ (quoted (codes "[{'op':'delete','table':'W','where':[]}]")) ∷ (quoted (codes "[{'op':'select','table':'S','where':[],'columns':['k']}]")) ∷ (quoted (codes "[{'op':'select','table':'S','where':[],'columns':['k']}]")) ∷ [])
    ≡ Ok ((quoted (codes "[{'uuid':['uuid','00000000-0000-4000-8000-000000000001']},{'uuid':['uuid','00000000-0000-4000-8000-000000000002']},{'uuid':['uuid','00000000-0000-4000-8000-000000000003']}]")) ∷ (quoted (codes "[{'count':1}]")) ∷ (quoted (codes "[{'rows':[{'k':0}]}]")) ∷ (quoted (codes "[{'rows':[]}]")) ∷ [])
unfolding computes
a_pruned_pair_lets_its_row_go_a_commit_later = refl
