-- Runs of the machine, round by round. [P 13.1]
use Rattle.odb_examples.proofs.TestSchemas.{net, quoted}
use Rattle.std.specs.Prelude.{◌≡◌, ℕ, List, [], ◌∷◌, Option, Some, None, Ok, Err, codes, refl, length}
use Rattle.odb_atoms.specs.FinMap as map
use Rattle.odb_examples.proofs.Transcripts.{shows}
use Rattle.serde_json.specs.Data.{Data, null}
use Rattle.std.specs.Prelude.{map as map_list, option_map, option_and_then, Bool, true, false}
use Rattle.std.specs.Result.{result_ok}
use Rattle.odb_service.specs.Run.{Event, beginning, closed, opened, round, run, submitted}
use Rattle.odb_service.specs.Service.{service}
use Rattle.odb_service.specs.World.{owed_replies}
use Rattle.odb_rpc.specs.Message.{call_of, has_reply}
use Rattle.odb_schema.specs.SchemaText.{schema_of_text}
use Rattle.odb_wire.specs.Stream.{max_message, messages}
use Rattle.odb_script.specs.Script.{fresh_from}

abbrev first_message : List ℕ → Data
first_message t = elim ((messages max_message t).0) [ [] ↦ null | d ∷ ds ↦ d ]

-- replies that session 0 is owed after these events
abbrev owes : List Event → Option ℕ
owes es =
    elim (schema_of_text net) [
      | Ok n ↦ option_and_then (λ st. option_map (λ x. owed_replies (service n) 0 x st.world) (map.get st.world.sessions 0)) (result_ok (run (service n) es (beginning 0 100 (length n.tables))))
      | Err e ↦ None
    ]

abbrev has_reply_at : List ℕ → Option Bool
has_reply_at t = elim (schema_of_text net) [ Ok n ↦ Some (has_reply (call_of (service n).db_name (service n).schema (service n).serves (first_message t))) | Err e ↦ None ]

abbrev sub : ℕ → ℕ → List ℕ → Event
sub s k t = submitted s (first_message t) (fresh_from k 1) 0

abbrev was_given : ℕ → List ℕ → List Event → Option (List (List ℕ))
was_given s text es =
    elim (schema_of_text text) [
      | Ok n ↦ option_map (λ st. map_list (λ o. (service n).printed o.message) (st.given s)) (result_ok (run (service n) es (beginning 0 100 (length n.tables))))
      | Err e ↦ None
    ]

pub between : was_given 0 net ((opened 0) ∷ (opened 1) ∷ (sub 0 0 ((quoted (codes "{'method':'monitor_cond','params':['net','m',{'Bridge':{'columns':['name']}}],'id':1}")))) ∷ (round (0 ∷ [])) ∷ (sub 1 0 ((quoted (codes "{'method':'transact','params':['net',{'op':'insert','table':'Bridge','row':{'name':'b'}}],'id':1}")))) ∷ (round (0 ∷ [])) ∷ (sub 0 0 ((quoted (codes "{'method':'monitor_cond_change','params':['m','n',{'Bridge':[{'where':[['name','==','c']]}]}],'id':2}")))) ∷ (round (0 ∷ [])) ∷ (sub 0 1 ((quoted (codes "{'method':'transact','params':['net',{'op':'insert','table':'Bridge','row':{'name':'c'}}],'id':3}")))) ∷ (sub 0 0 ((quoted (codes "{'method':'monitor_cond','params':['net','m',{'Bridge':{'columns':['name']}}],'id':4}")))) ∷ (sub 0 0 ((quoted (codes "{'method':'monitor_cancel','params':['n'],'id':5}")))) ∷ (sub 0 0 ((quoted (codes "{'method':'monitor_cond_change','params':['m','n',{}],'id':6}")))) ∷ (round (0 ∷ 0 ∷ 1 ∷ [])) ∷ (round (0 ∷ 0 ∷ 1 ∷ [])) ∷ (round (0 ∷ 0 ∷ 1 ∷ [])) ∷ (round (0 ∷ 0 ∷ 1 ∷ [])) ∷ (round (0 ∷ 0 ∷ 1 ∷ [])) ∷ (round (0 ∷ 0 ∷ 1 ∷ [])) ∷ (sub 1 2 ((quoted (codes "{'method':'transact','params':['net',{'op':'insert','table':'Bridge','row':{'name':'d'}}],'id':2}")))) ∷ (round (0 ∷ [])) ∷ []) ≡ Some (((quoted (codes "{'error':null,'id':1,'result':{}}"))) ∷ ((quoted (codes "{'id':null,'method':'update2','params':['m',{'Bridge':{'00000000-0000-4000-8000-000000000001':{'insert':{'name':'b'}}}}]}"))) ∷ ((quoted (codes "{'id':null,'method':'update2','params':['m',{'Bridge':{'00000000-0000-4000-8000-000000000001':{'delete':null}}}]}"))) ∷ ((quoted (codes "{'error':null,'id':2,'result':{}}"))) ∷ ((quoted (codes "{'id':null,'method':'update2','params':['n',{'Bridge':{'00000000-0000-4000-8000-000000000002':{'insert':{'name':'c'}}}}]}"))) ∷ ((quoted (codes "{'error':null,'id':3,'result':[{'uuid':['uuid','00000000-0000-4000-8000-000000000002']}]}"))) ∷ ((quoted (codes "{'error':null,'id':4,'result':{'Bridge':{'00000000-0000-4000-8000-000000000001':{'initial':{'name':'b'}},'00000000-0000-4000-8000-000000000002':{'initial':{'name':'c'}}}}}"))) ∷ ((quoted (codes "{'error':null,'id':5,'result':{}}"))) ∷ ((quoted (codes "{'error':null,'id':6,'result':{}}"))) ∷ ((quoted (codes "{'id':null,'method':'update2','params':['n',{'Bridge':{'00000000-0000-4000-8000-000000000003':{'insert':{'name':'d'}}}}]}"))) ∷ [])
unfolding shows
between = refl

pub stop_in_two : was_given 0 net ((opened 0) ∷ (opened 1) ∷ (sub 0 0 ((quoted (codes "{'method':'monitor_cond','params':['net','m',{'Bridge':{'columns':['name']}}],'id':1}")))) ∷ (round (0 ∷ [])) ∷ (sub 1 0 ((quoted (codes "{'method':'transact','params':['net',{'op':'insert','table':'Bridge','row':{'name':'b'}}],'id':1}")))) ∷ (sub 0 0 ((quoted (codes "{'method':'monitor_cancel','params':['m'],'id':2}")))) ∷ (round (0 ∷ [])) ∷ (sub 1 1 ((quoted (codes "{'method':'transact','params':['net',{'op':'insert','table':'Bridge','row':{'name':'c'}}],'id':2}")))) ∷ (sub 0 0 ((quoted (codes "{'method':'monitor_cond','params':['net','m',{'Bridge':{'columns':['name']}}],'id':3}")))) ∷ (sub 0 2 ((quoted (codes "{'method':'transact','params':['net',{'op':'insert','table':'Bridge','row':{'name':'d'}}],'id':4}")))) ∷ (round (0 ∷ [])) ∷ (round (0 ∷ [])) ∷ (round (0 ∷ [])) ∷ (round (0 ∷ [])) ∷ (sub 1 3 ((quoted (codes "{'method':'transact','params':['net',{'op':'insert','table':'Bridge','row':{'name':'e'}}],'id':3}")))) ∷ (round (0 ∷ [])) ∷ []) ≡ Some (((quoted (codes "{'error':null,'id':1,'result':{}}"))) ∷ ((quoted (codes "{'id':null,'method':'update2','params':['m',{'Bridge':{'00000000-0000-4000-8000-000000000001':{'insert':{'name':'b'}}}}]}"))) ∷ ((quoted (codes "{'error':null,'id':2,'result':{}}"))) ∷ ((quoted (codes "{'error':null,'id':3,'result':{'Bridge':{'00000000-0000-4000-8000-000000000001':{'initial':{'name':'b'}},'00000000-0000-4000-8000-000000000002':{'initial':{'name':'c'}},'00000000-0000-4000-8000-000000000003':{'initial':{'name':'d'}}}}}"))) ∷ ((quoted (codes "{'error':null,'id':4,'result':[{'uuid':['uuid','00000000-0000-4000-8000-000000000003']}]}"))) ∷ ((quoted (codes "{'id':null,'method':'update2','params':['m',{'Bridge':{'00000000-0000-4000-8000-000000000004':{'insert':{'name':'e'}}}}]}"))) ∷ [])
unfolding shows
stop_in_two = refl

pub reopened : was_given 0 net ((opened 0) ∷ (sub 0 0 ((quoted (codes "{'method':'echo','params':[],'id':1}")))) ∷ (round (0 ∷ [])) ∷ (closed 0) ∷ (round (0 ∷ [])) ∷ (opened 0) ∷ (sub 0 0 ((quoted (codes "{'method':'echo','params':[],'id':2}")))) ∷ (round (7 ∷ 0 ∷ 0 ∷ [])) ∷ []) ≡ Some (((quoted (codes "{'error':null,'id':2,'result':[]}"))) ∷ [])
unfolding shows
reopened = refl

pub once : was_given 0 net ((opened 0) ∷ (sub 0 0 ((quoted (codes "{'method':'echo','params':[],'id':1}")))) ∷ (sub 0 0 ((quoted (codes "{'method':'echo','params':[],'id':2}")))) ∷ (round (0 ∷ 5 ∷ 0 ∷ [])) ∷ []) ≡ Some (((quoted (codes "{'error':null,'id':1,'result':[]}"))) ∷ [])
unfolding shows
once = refl

pub off_by_rounds : was_given 0 net ((opened 0) ∷ (opened 1) ∷ (sub 0 0 ((quoted (codes "{'method':'monitor_cond','params':['net','m',{'Bridge':{'columns':['name'],'select':{'insert':false}}}],'id':1}")))) ∷ (sub 0 0 ((quoted (codes "{'method':'monitor','params':['net','n',{'Bridge':{'columns':['name']}}],'id':2}")))) ∷ (round (0 ∷ [])) ∷ (round (0 ∷ [])) ∷ (sub 1 0 ((quoted (codes "{'method':'transact','params':['net',{'op':'insert','table':'Bridge','row':{'name':'b'}}],'id':1}")))) ∷ (round (0 ∷ [])) ∷ (sub 1 0 ((quoted (codes "{'method':'transact','params':['net',{'op':'update','table':'Bridge','where':[['name','==','b']],'row':{'name':'c'}}],'id':2}")))) ∷ (round (0 ∷ [])) ∷ (round (0 ∷ [])) ∷ (round (0 ∷ [])) ∷ []) ≡ Some (((quoted (codes "{'error':null,'id':1,'result':{}}"))) ∷ ((quoted (codes "{'error':null,'id':2,'result':{}}"))) ∷ ((quoted (codes "{'id':null,'method':'update','params':['n',{'Bridge':{'00000000-0000-4000-8000-000000000001':{'new':{'name':'b'}}}}]}"))) ∷ ((quoted (codes "{'id':null,'method':'update2','params':['m',{'Bridge':{'00000000-0000-4000-8000-000000000001':{'modify':{'name':'c'}}}}]}"))) ∷ ((quoted (codes "{'id':null,'method':'update','params':['n',{'Bridge':{'00000000-0000-4000-8000-000000000001':{'new':{'name':'c'},'old':{'name':'b'}}}}]}"))) ∷ [])
unfolding shows
off_by_rounds = refl

pub own_off_by_rounds : was_given 0 net ((opened 0) ∷ (sub 0 0 ((quoted (codes "{'method':'monitor_cond','params':['net','m',{'Bridge':{'columns':['name'],'select':{'insert':false}}}],'id':1}")))) ∷ (sub 0 0 ((quoted (codes "{'method':'monitor','params':['net','n',{'Bridge':{'columns':['name']}}],'id':2}")))) ∷ (sub 0 0 ((quoted (codes "{'method':'transact','params':['net',{'op':'insert','table':'Bridge','row':{'name':'b'}}],'id':3}")))) ∷ (round (0 ∷ [])) ∷ (round (0 ∷ [])) ∷ (round (0 ∷ [])) ∷ (sub 0 0 ((quoted (codes "{'method':'transact','params':['net',{'op':'update','table':'Bridge','where':[['name','==','b']],'row':{'name':'c'}}],'id':4}")))) ∷ (round (0 ∷ [])) ∷ (sub 0 0 ((quoted (codes "{'method':'transact','params':['net',{'op':'update','table':'Bridge','where':[['name','==','c']],'row':{'name':'d'}}],'id':5}")))) ∷ (round (0 ∷ [])) ∷ (round (0 ∷ [])) ∷ (round (0 ∷ [])) ∷ (round (0 ∷ [])) ∷ (round (0 ∷ [])) ∷ []) ≡ Some (((quoted (codes "{'error':null,'id':1,'result':{'Bridge':{'00000000-0000-4000-8000-000000000001':{'initial':{'name':'b'}}}}}"))) ∷ ((quoted (codes "{'error':null,'id':2,'result':{'Bridge':{'00000000-0000-4000-8000-000000000001':{'new':{'name':'b'}}}}}"))) ∷ ((quoted (codes "{'error':null,'id':3,'result':[{'uuid':['uuid','00000000-0000-4000-8000-000000000001']}]}"))) ∷ ((quoted (codes "{'id':null,'method':'update2','params':['m',{'Bridge':{'00000000-0000-4000-8000-000000000001':{'modify':{'name':'c'}}}}]}"))) ∷ ((quoted (codes "{'id':null,'method':'update','params':['n',{'Bridge':{'00000000-0000-4000-8000-000000000001':{'new':{'name':'d'},'old':{'name':'b'}}}}]}"))) ∷ ((quoted (codes "{'error':null,'id':4,'result':[{'count':1}]}"))) ∷ ((quoted (codes "{'id':null,'method':'update2','params':['m',{'Bridge':{'00000000-0000-4000-8000-000000000001':{'modify':{'name':'d'}}}}]}"))) ∷ ((quoted (codes "{'error':null,'id':5,'result':[{'count':1}]}"))) ∷ [])
unfolding shows
own_off_by_rounds = refl

pub count : owes ((opened 0) ∷ (opened 1) ∷ (sub 0 0 ((quoted (codes "{'method':'monitor_cond','params':['net','m',{'Bridge':{'columns':['name']}}],'id':1}")))) ∷ (sub 0 0 ((quoted (codes "{'method':'lock','params':['L'],'id':2}")))) ∷ (sub 1 0 ((quoted (codes "{'method':'steal','params':['L'],'id':1}")))) ∷ (sub 0 0 ((quoted (codes "{'method':'transact','params':['net',{'op':'insert','table':'Bridge','row':{'name':'x'}}],'id':3}")))) ∷ (sub 0 0 ((quoted (codes "{'method':'monitor_cond_change','params':['m','n',{}],'id':4}")))) ∷ (sub 0 0 ((quoted (codes "{'method':'transact','params':['net',{'op':'wait','table':'Port','where':[],'columns':['name'],'until':'!=','rows':[]}],'id':5}")))) ∷ []) ≡ Some 5
unfolding shows
count = refl

pub count_more : owes ((opened 0) ∷ (opened 1) ∷ (sub 0 0 ((quoted (codes "{'method':'monitor_cond','params':['net','m',{'Bridge':{'columns':['name']}}],'id':1}")))) ∷ (sub 0 0 ((quoted (codes "{'method':'lock','params':['L'],'id':2}")))) ∷ (sub 1 0 ((quoted (codes "{'method':'steal','params':['L'],'id':1}")))) ∷ (sub 0 0 ((quoted (codes "{'method':'transact','params':['net',{'op':'insert','table':'Bridge','row':{'name':'x'}}],'id':3}")))) ∷ (sub 0 0 ((quoted (codes "{'method':'monitor_cond_change','params':['m','n',{}],'id':4}")))) ∷ (sub 0 0 ((quoted (codes "{'method':'transact','params':['net',{'op':'wait','table':'Port','where':[],'columns':['name'],'until':'!=','rows':[]}],'id':5}")))) ∷ (sub 0 0 ((quoted (codes "{'method':'cancel','params':[5],'id':null}")))) ∷ (sub 0 0 ((quoted (codes "{'method':'zzz','params':[],'id':7}")))) ∷ (sub 0 0 ((quoted (codes "{'method':'monitor_cancel','params':['n'],'id':6}")))) ∷ (sub 0 0 ((quoted (codes "{'result':1}")))) ∷ []) ≡ Some 7
unfolding shows
count_more = refl

pub count_round : owes ((opened 0) ∷ (opened 1) ∷ (sub 0 0 ((quoted (codes "{'method':'monitor_cond','params':['net','m',{'Bridge':{'columns':['name']}}],'id':1}")))) ∷ (sub 0 0 ((quoted (codes "{'method':'lock','params':['L'],'id':2}")))) ∷ (sub 1 0 ((quoted (codes "{'method':'steal','params':['L'],'id':1}")))) ∷ (sub 0 0 ((quoted (codes "{'method':'transact','params':['net',{'op':'insert','table':'Bridge','row':{'name':'x'}}],'id':3}")))) ∷ (sub 0 0 ((quoted (codes "{'method':'monitor_cond_change','params':['m','n',{}],'id':4}")))) ∷ (sub 0 0 ((quoted (codes "{'method':'transact','params':['net',{'op':'wait','table':'Port','where':[],'columns':['name'],'until':'!=','rows':[]}],'id':5}")))) ∷ (sub 0 0 ((quoted (codes "{'method':'cancel','params':[5],'id':null}")))) ∷ (sub 0 0 ((quoted (codes "{'method':'zzz','params':[],'id':7}")))) ∷ (sub 0 0 ((quoted (codes "{'method':'monitor_cancel','params':['n'],'id':6}")))) ∷ (sub 0 0 ((quoted (codes "{'result':1}")))) ∷ (round (0 ∷ [])) ∷ []) ≡ Some 6
unfolding shows
count_round = refl

pub reply_cancel : has_reply_at ((quoted (codes "{'method':'cancel','params':[5],'id':null}"))) ≡ Some false
unfolding shows
reply_cancel = refl

pub reply_cancel_other : has_reply_at ((quoted (codes "{'method':'cancel','params':5,'id':null}"))) ≡ Some false
unfolding shows
reply_cancel_other = refl

pub reply_response : has_reply_at ((quoted (codes "{'result':1}"))) ≡ Some false
unfolding shows
reply_response = refl

pub reply_note : has_reply_at ((quoted (codes "{'method':'echo','params':[],'id':null}"))) ≡ Some false
unfolding shows
reply_note = refl

pub reply_cancel_request : has_reply_at ((quoted (codes "{'method':'cancel','params':[5],'id':1}"))) ≡ Some true
unfolding shows
reply_cancel_request = refl

pub reply_left_out : has_reply_at ((quoted (codes "{'method':'echo','params':[1.5],'id':1}"))) ≡ Some true
unfolding shows
reply_left_out = refl
