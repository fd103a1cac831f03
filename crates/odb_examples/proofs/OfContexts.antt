-- Transactions in contexts of their own: the identifiers delivered in, the moments of arrival and now, the locks owned, the rows that a database may have.
use Rattle.odb_examples.proofs.TestSchemas.{quoted}
use Rattle.std.specs.Prelude.{◌≡◌, ℕ, List, [], ◌∷◌, codes, refl, Ok, Err, Result, Some, None, Option, Bool}
use Rattle.serde_json.specs.Written.{compact_text}
use Rattle.odb_atoms.specs.FinMap as map
use Rattle.odb_atoms.specs.First.{◌>>=◌}
use Rattle.odb_atoms.specs.Text.{same_text}
use Rattle.odb_commit.specs.Transaction.{Outcome, done, waiting, refused, transact}
use Rattle.odb_examples.proofs.Examples.{computes, parsed}
use Rattle.odb_examples.proofs.OfResults.{results, results_as, results_within}
use Rattle.odb_schema.specs.Json.{Data, array, array_of, items_list}
use Rattle.odb_schema.specs.SchemaText.{SchemaFault, read_schema, schema_of_text, write_schema}

abbrev of_outcome : Outcome → Result (List ℕ) (Option ℕ)
of_outcome (done results new) = Ok (compact_text (array_of results))
of_outcome (refused results) = Ok (compact_text (array_of results))
of_outcome (waiting moment) = Err moment

abbrev operations : Data → List Data
operations (array ds) = items_list ds
operations d = []

abbrev owns_l : List ℕ → Bool
owns_l lock = same_text lock (codes "L")

-- of one transaction that arrived then and is tried now, on a database of one empty table, by a session that owns the lock L
abbrev tried : ℕ → ℕ → List ℕ → Result (Result (List ℕ) (Option ℕ)) SchemaFault
tried arrival now text = do
  s ← read_schema (parsed ((quoted (codes "{'name':'d','version':'1.0.0','tables':{'D':{'columns':{}}}}"))))
  Ok (of_outcome (transact s 1000000 1 (record { fresh = []; arrival = arrival; now = now; owns = owns_l }) (map.empty ∷ []) (operations (parsed text))))

abbrev again : List ℕ → Result (List ℕ) SchemaFault
again s = do
  schema ← schema_of_text s
  Ok (compact_text (write_schema schema))

abbrev sc0 : List ℕ
sc0 = (quoted (codes "{'name':'s','version':'1.0.0','tables':{'H':{'isRoot':true,'columns':{ 'need':{'type':{'key':{'type':'uuid','refTable':'W','refType':'weak'},'min':0,'max':'unlimited'}}, 'some':{'type':{'key':{'type':'uuid','refTable':'N'},'min':0,'max':'unlimited'}}, 'wk':{'type':{'key':{'type':'uuid','refTable':'W','refType':'weak'},'value':{'type':'uuid','refTable':'N'},'min':0,'max':'unlimited'}}, 'wv':{'type':{'key':{'type':'uuid','refTable':'N'},'value':{'type':'uuid','refTable':'W','refType':'weak'},'min':0,'max':'unlimited'}}, 'x':{'type':'integer'}}},'N':{'columns':{'next':{'type':{'key':{'type':'uuid','refTable':'N'},'min':0}},'v':{'type':'integer'}}},'Q':{'isRoot':true,'columns':{'w':{'type':{'key':{'type':'uuid','refTable':'W','refType':'weak'}}}}},'R':{'isRoot':true,'maxRows':1,'indexes':[['a']],'columns':{'a':{'type':'integer'},'w':{'type':{'key':{'type':'uuid','refTable':'W','refType':'weak'},'min':0}}}},'I':{'isRoot':true,'indexes':[['m','s'],['w']],'columns':{'m':{'type':{'key':'string','value':'integer','min':0,'max':'unlimited'}},'s':{'type':{'key':'integer','min':0,'max':'unlimited'}},'w':{'type':{'key':{'type':'uuid','refTable':'W','refType':'weak'},'min':0,'max':'unlimited'}}}},'W':{'isRoot':true,'columns':{'k':{'type':'integer'}}},'X':{'isRoot':true,'columns':{'n':{'type':{'key':{'type':'uuid','refTable':'X'},'min':0}}}}}}"))

pub first_max : results_within 1 sc0 ((quoted (codes "[{'op':'insert','table':'N','row':{}},{'op':'insert','table':'W','row':{}}]")) ∷ []) ≡ Ok ((quoted (codes "[{'uuid':['uuid','00000000-0000-4000-8000-000000000001']},{'uuid':['uuid','00000000-0000-4000-8000-000000000002']}]")) ∷ [])
unfolding computes
first_max = refl

pub max_last : results_within 1 sc0 ((quoted (codes "[{'op':'insert','table':'R','row':{}},{'op':'insert','table':'R','row':{}}]")) ∷ []) ≡ Ok ((quoted (codes "[{'uuid':['uuid','00000000-0000-4000-8000-000000000001']},{'uuid':['uuid','00000000-0000-4000-8000-000000000002']},{'error':'constraint violation'}]")) ∷ [])
unfolding computes
max_last = refl

pub order_of_insert_faults_1 : results_as (7 ∷ 7 ∷ []) ((quoted (codes "{'name':'d','version':'1.0.0','tables':{'D':{'columns':{'n':{'type':{'key':{'type':'integer','minInteger':1}}}}}}}"))) ((quoted (codes "[{'op':'insert','table':'D','row':{'n':1},'uuid-name':'a'},{'op':'insert','table':'D','row':{},'uuid-name':'a'}]"))) ≡ Ok ((quoted (codes "[{'uuid':['uuid','00000000-0000-0000-0000-000000000007']},{'error':'duplicate uuid-name'}]")))
unfolding computes
order_of_insert_faults_1 = refl

pub order_of_insert_faults_2 : results_as (7 ∷ 7 ∷ []) ((quoted (codes "{'name':'d','version':'1.0.0','tables':{'D':{'columns':{'n':{'type':{'key':{'type':'integer','minInteger':1}}}}}}}"))) ((quoted (codes "[{'op':'insert','table':'D','row':{'n':1},'uuid-name':'a'},{'op':'insert','table':'D','row':{},'uuid-name':'b'}]"))) ≡ Ok ((quoted (codes "[{'uuid':['uuid','00000000-0000-0000-0000-000000000007']},{'error':'duplicate uuid'}]")))
unfolding computes
order_of_insert_faults_2 = refl

pub order_of_insert_faults_3 : results_as (7 ∷ 8 ∷ []) ((quoted (codes "{'name':'d','version':'1.0.0','tables':{'D':{'columns':{'n':{'type':{'key':{'type':'integer','minInteger':1}}}}}}}"))) ((quoted (codes "[{'op':'insert','table':'D','row':{'n':1},'uuid-name':'a'},{'op':'insert','table':'D','row':{},'uuid-name':'b'}]"))) ≡ Ok ((quoted (codes "[{'uuid':['uuid','00000000-0000-0000-0000-000000000007']},{'error':'constraint violation'}]")))
unfolding computes
order_of_insert_faults_3 = refl

pub order_of_insert_faults_4 : results_as (7 ∷ 7 ∷ []) ((quoted (codes "{'name':'d','version':'1.0.0','tables':{'D':{'columns':{'n':{'type':{'key':{'type':'integer','minInteger':1}}}}}}}"))) ((quoted (codes "[{'op':'insert','table':'D','row':{'n':1},'uuid-name':'a'},{'op':'insert','table':'D','row':{'n':0},'uuid-name':'a'}]"))) ≡ Ok ((quoted (codes "[{'uuid':['uuid','00000000-0000-0000-0000-000000000007']},{'error':'constraint violation'}]")))
unfolding computes
order_of_insert_faults_4 = refl

pub malformed_insert_takes_an_identifier : results_as (7 ∷ 8 ∷ 9 ∷ []) ((quoted (codes "{'name':'d','version':'1.0.0','tables':{'D':{'columns':{'n':{'type':{'key':{'type':'integer','minInteger':1}}}}}}}"))) ((quoted (codes "[{'op':'select','table':'D','where':[['_uuid','==',['named-uuid','b']]]},{'op':'abort'},{'op':'insert','x':1},{'op':'insert','uuid-name':'b'}]"))) ≡ Ok ((quoted (codes "[{'rows':[]},{'error':'aborted'},null,null]")))
unfolding computes
malformed_insert_takes_an_identifier = refl

pub second_identifier : results_as (7 ∷ 8 ∷ []) ((quoted (codes "{'name':'d','version':'1.0.0','tables':{'D':{'columns':{'n':{'type':{'key':{'type':'integer','minInteger':1}}}}}}}"))) ((quoted (codes "[{'op':'insert','table':'D','row':{'n':1}},{'op':'insert','table':'D','row':{'n':1},'uuid-name':'b'},{'op':'select','table':'D','where':[['_uuid','==',['named-uuid','b']]],'columns':['_uuid']}]"))) ≡ Ok ((quoted (codes "[{'uuid':['uuid','00000000-0000-0000-0000-000000000007']},{'uuid':['uuid','00000000-0000-0000-0000-000000000008']},{'rows':[{'_uuid':['uuid','00000000-0000-0000-0000-000000000008']}]}]")))
unfolding computes
second_identifier = refl

pub waiting_for_ever : results_as ([]) ((quoted (codes "{'name':'d','version':'1.0.0','tables':{'D':{'columns':{'n':{'type':{'key':{'type':'integer','minInteger':1}}}}}}}"))) ((quoted (codes "[{'op':'wait','table':'D','where':[],'until':'!=','rows':[]}]"))) ≡ Ok (codes "waiting")
unfolding computes
waiting_for_ever = refl

pub waiting_till : results_as ([]) ((quoted (codes "{'name':'d','version':'1.0.0','tables':{'D':{'columns':{'n':{'type':{'key':{'type':'integer','minInteger':1}}}}}}}"))) ((quoted (codes "[{'op':'wait','table':'D','where':[],'until':'!=','rows':[],'timeout':5}]"))) ≡ Ok (codes "waiting until 5")
unfolding computes
waiting_till = refl

pub waiting_after_an_insert : results_as (7 ∷ []) ((quoted (codes "{'name':'d','version':'1.0.0','tables':{'D':{'columns':{'n':{'type':{'key':{'type':'integer','minInteger':1}}}}}}}"))) ((quoted (codes "[{'op':'insert','table':'D','row':{'n':1}},{'op':'wait','table':'D','where':[],'until':'==','rows':[],'timeout':5}]"))) ≡ Ok (codes "waiting until 5")
unfolding computes
waiting_after_an_insert = refl

pub timed_out : results_as ([]) ((quoted (codes "{'name':'d','version':'1.0.0','tables':{'D':{'columns':{'n':{'type':{'key':{'type':'integer','minInteger':1}}}}}}}"))) ((quoted (codes "[{'op':'wait','table':'D','where':[],'until':'!=','rows':[],'timeout':0},{'op':'abort'}]"))) ≡ Ok ((quoted (codes "[{'error':'timed out'},null]")))
unfolding computes
timed_out = refl

abbrev sc1 : List ℕ
sc1 = (quoted (codes "{'name':'g','version':'1.0.0','tables':{'A':{'isRoot':true,'columns':{'p':{'type':{'key':{'type':'uuid','refTable':'P'},'min':0,'max':'unlimited'}},'q':{'type':{'key':{'type':'uuid','refTable':'P','refType':'weak'},'min':0,'max':'unlimited'}}}},'P':{'maxRows':1,'indexes':[['n']],'columns':{'n':{'type':'integer'}}}}}"))

pub deadline_from_arrival : tried 5 9 ((quoted (codes "[{'op':'wait','table':'D','where':[],'until':'!=','rows':[],'timeout':10}]"))) ≡ Ok (Err (Some 15))
unfolding computes
deadline_from_arrival = refl

pub deadline_before : tried 5 14 ((quoted (codes "[{'op':'wait','table':'D','where':[],'until':'!=','rows':[],'timeout':10}]"))) ≡ Ok (Err (Some 15))
unfolding computes
deadline_before = refl

pub deadline_now : tried 5 15 ((quoted (codes "[{'op':'wait','table':'D','where':[],'until':'!=','rows':[],'timeout':10}]"))) ≡ Ok (Ok ((quoted (codes "[{'error':'timed out'}]"))))
unfolding computes
deadline_now = refl

pub deadline_past : tried 5 16 ((quoted (codes "[{'op':'wait','table':'D','where':[],'until':'!=','rows':[],'timeout':10}]"))) ≡ Ok (Ok ((quoted (codes "[{'error':'timed out'}]"))))
unfolding computes
deadline_past = refl

pub deadline_last_moment : tried 18446744073709551610 18446744073709551614 ((quoted (codes "[{'op':'wait','table':'D','where':[],'until':'!=','rows':[],'timeout':5}]"))) ≡ Ok (Err (Some 18446744073709551615))
unfolding computes
deadline_last_moment = refl

pub deadline_at_last_moment : tried 18446744073709551610 18446744073709551615 ((quoted (codes "[{'op':'wait','table':'D','where':[],'until':'!=','rows':[],'timeout':5}]"))) ≡ Ok (Ok ((quoted (codes "[{'error':'timed out'}]"))))
unfolding computes
deadline_at_last_moment = refl

pub deadline_never : tried 18446744073709551610 18446744073709551615 ((quoted (codes "[{'op':'wait','table':'D','where':[],'until':'!=','rows':[],'timeout':6}]"))) ≡ Ok (Err None)
unfolding computes
deadline_never = refl

pub owned_lock : tried 0 0 ((quoted (codes "[{'op':'assert','lock':'L'},{'op':'assert','lock':'M'},{'op':'abort'}]"))) ≡ Ok (Ok ((quoted (codes "[{},{'error':'not owner'},null]"))))
unfolding computes
owned_lock = refl
