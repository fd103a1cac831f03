-- What a strict client takes and what it refuses. [P 9.7]
use Rattle.odb_examples.proofs.TestSchemas.{net, quoted}
use Rattle.std.specs.Prelude.{◌≡◌, ◌++◌, ℕ, List, [], ◌∷◌, Option, Some, None, Ok, Err, codes, refl}
use Rattle.odb_examples.proofs.Transcripts.{shows}
use Rattle.serde_json.specs.Data.{Data, null}
use Rattle.serde_json.specs.Read.{read}
use Rattle.std.specs.Prelude.{Bool, true, false, map as map_list, unwrap_or, is_some, option_map}
use Rattle.odb_law.specs.Client.{client}
use Rattle.odb_service.specs.Service.{service}
use Rattle.odb_service.specs.Session.{Out, no_request, to}
use Rattle.odb_request.specs.Request.{Notation, update, update2}
use Rattle.odb_monitor.specs.Fold.{fold_rows}
use Rattle.odb_monitor.specs.View.{Contents}
use Rattle.odb_atoms.specs.FinMap.{empty}
use Rattle.odb_schema.specs.SchemaText.{schema_of_text}

abbrev pub of : List ℕ → Data
of t = unwrap_or (read t) null

abbrev method_of : Notation → List ℕ
method_of update = codes "monitor"
method_of update2 = codes "monitor_cond"

-- the reply to a request for the monitor "m"
abbrev pub reply_to : Notation → List ℕ → List ℕ → Out
reply_to n request first = record {
  answers = to (of ((quoted (codes "{'method':'")) ++ method_of n ++ (quoted (codes "','params':['net','m',")) ++ request ++ (quoted (codes "],'id':1}"))));
  message = of first;
  held = None;
}

abbrev pub told : List ℕ → Out
told text = record { answers = no_request; message = of text; held = None }

-- whether the client of this monitor accepts a first reply and then these notifications
abbrev accepts : Notation → List ℕ → List ℕ → List (List ℕ) → Option Bool
accepts n request first rest =
    elim (schema_of_text net) [
      | Ok s ↦ Some (is_some (client (service s) (reply_to n request first ∷ map_list told rest)))
      | Err e ↦ None
    ]

-- whether it has a view of each monitor
abbrev pictures : List ℕ → List ℕ → Option (List Bool)
pictures request first =
    elim (schema_of_text net) [
      | Ok s ↦ option_map (map_list (λ p. is_some p.view)) (client (service s) (reply_to update2 request first ∷ []))
      | Err e ↦ None
    ]

pub pictured : pictures ((quoted (codes "{'Port':{'columns':['name','tag']}}"))) ((quoted (codes "{'error':null,'id':1,'result':{'Port':{'00000000-0000-4000-8000-000000000002':{'initial':{'name':'p1'}}}}}"))) ≡ Some (true ∷ [])
unfolding shows
pictured = refl

pub not_pictured : pictures ((quoted (codes "{'Port':{'select':{'delete':false}}}"))) ((quoted (codes "{'error':null,'id':1,'result':{'Port':{'00000000-0000-4000-8000-000000000002':{'initial':{'name':'p1'}}}}}"))) ≡ Some (false ∷ [])
unfolding shows
not_pictured = refl

pub update2_modify : accepts update2 ((quoted (codes "{'Port':{'columns':['name','tag']}}"))) ((quoted (codes "{'error':null,'id':1,'result':{'Port':{'00000000-0000-4000-8000-000000000002':{'initial':{'name':'p1'}}}}}"))) (((quoted (codes "{'id':null,'method':'update2','params':['m',{'Port':{'00000000-0000-4000-8000-000000000002':{'modify':{'name':'q'}}}}]}"))) ∷ []) ≡ Some true
unfolding shows
update2_modify = refl

pub update2_insert : accepts update2 ((quoted (codes "{'Port':{'columns':['name','tag']}}"))) ((quoted (codes "{'error':null,'id':1,'result':{'Port':{'00000000-0000-4000-8000-000000000002':{'initial':{'name':'p1'}}}}}"))) (((quoted (codes "{'id':null,'method':'update2','params':['m',{'Port':{'00000000-0000-4000-8000-000000000003':{'insert':{}}}}]}"))) ∷ []) ≡ Some true
unfolding shows
update2_insert = refl

pub update2_delete : accepts update2 ((quoted (codes "{'Port':{'columns':['name','tag']}}"))) ((quoted (codes "{'error':null,'id':1,'result':{'Port':{'00000000-0000-4000-8000-000000000002':{'initial':{'name':'p1'}}}}}"))) (((quoted (codes "{'id':null,'method':'update2','params':['m',{'Port':{'00000000-0000-4000-8000-000000000002':{'delete':null}}}]}"))) ∷ []) ≡ Some true
unfolding shows
update2_delete = refl

pub update2_modify_and_insert : accepts update2 ((quoted (codes "{'Port':{'columns':['name','tag']}}"))) ((quoted (codes "{'error':null,'id':1,'result':{'Port':{'00000000-0000-4000-8000-000000000002':{'initial':{'name':'p1'}}}}}"))) (((quoted (codes "{'id':null,'method':'update2','params':['m',{'Port':{'00000000-0000-4000-8000-000000000002':{'modify':{'tag':5}},'00000000-0000-4000-8000-000000000003':{'insert':{'tag':5}}}}]}"))) ∷ []) ≡ Some true
unfolding shows
update2_modify_and_insert = refl

pub update2_empty : accepts update2 ((quoted (codes "{'Port':{'columns':['name','tag']}}"))) ((quoted (codes "{'error':null,'id':1,'result':{'Port':{'00000000-0000-4000-8000-000000000002':{'initial':{'name':'p1'}}}}}"))) (((quoted (codes "{'id':null,'method':'update2','params':['m',{}]}"))) ∷ []) ≡ Some false
unfolding shows
update2_empty = refl

pub update2_no_rows : accepts update2 ((quoted (codes "{'Port':{'columns':['name','tag']}}"))) ((quoted (codes "{'error':null,'id':1,'result':{'Port':{'00000000-0000-4000-8000-000000000002':{'initial':{'name':'p1'}}}}}"))) (((quoted (codes "{'id':null,'method':'update2','params':['m',{'Port':{}}]}"))) ∷ []) ≡ Some false
unfolding shows
update2_no_rows = refl

pub update2_present : accepts update2 ((quoted (codes "{'Port':{'columns':['name','tag']}}"))) ((quoted (codes "{'error':null,'id':1,'result':{'Port':{'00000000-0000-4000-8000-000000000002':{'initial':{'name':'p1'}}}}}"))) (((quoted (codes "{'id':null,'method':'update2','params':['m',{'Port':{'00000000-0000-4000-8000-000000000002':{'insert':{'name':'p1'}}}}]}"))) ∷ []) ≡ Some false
unfolding shows
update2_present = refl

pub update2_absent : accepts update2 ((quoted (codes "{'Port':{'columns':['name','tag']}}"))) ((quoted (codes "{'error':null,'id':1,'result':{'Port':{'00000000-0000-4000-8000-000000000002':{'initial':{'name':'p1'}}}}}"))) (((quoted (codes "{'id':null,'method':'update2','params':['m',{'Port':{'00000000-0000-4000-8000-000000000003':{'delete':null}}}]}"))) ∷ []) ≡ Some false
unfolding shows
update2_absent = refl

pub update2_absent_m : accepts update2 ((quoted (codes "{'Port':{'columns':['name','tag']}}"))) ((quoted (codes "{'error':null,'id':1,'result':{'Port':{'00000000-0000-4000-8000-000000000002':{'initial':{'name':'p1'}}}}}"))) (((quoted (codes "{'id':null,'method':'update2','params':['m',{'Port':{'00000000-0000-4000-8000-000000000003':{'modify':{'name':'q'}}}}]}"))) ∷ []) ≡ Some false
unfolding shows
update2_absent_m = refl

pub update2_no_column : accepts update2 ((quoted (codes "{'Port':{'columns':['name','tag']}}"))) ((quoted (codes "{'error':null,'id':1,'result':{'Port':{'00000000-0000-4000-8000-000000000002':{'initial':{'name':'p1'}}}}}"))) (((quoted (codes "{'id':null,'method':'update2','params':['m',{'Port':{'00000000-0000-4000-8000-000000000002':{'modify':{}}}}]}"))) ∷ []) ≡ Some false
unfolding shows
update2_no_column = refl

pub update2_equal : accepts update2 ((quoted (codes "{'Port':{'columns':['name','tag']}}"))) ((quoted (codes "{'error':null,'id':1,'result':{'Port':{'00000000-0000-4000-8000-000000000002':{'initial':{'name':'p1'}}}}}"))) (((quoted (codes "{'id':null,'method':'update2','params':['m',{'Port':{'00000000-0000-4000-8000-000000000002':{'modify':{'name':'p1'}}}}]}"))) ∷ []) ≡ Some false
unfolding shows
update2_equal = refl

pub update2_one_equal : accepts update2 ((quoted (codes "{'Port':{'columns':['name','tag']}}"))) ((quoted (codes "{'error':null,'id':1,'result':{'Port':{'00000000-0000-4000-8000-000000000002':{'initial':{'name':'p1'}}}}}"))) (((quoted (codes "{'id':null,'method':'update2','params':['m',{'Port':{'00000000-0000-4000-8000-000000000002':{'modify':{'name':'q','tag':['set',[]]}}}}]}"))) ∷ []) ≡ Some false
unfolding shows
update2_one_equal = refl

pub update2_default_named : accepts update2 ((quoted (codes "{'Port':{'columns':['name','tag']}}"))) ((quoted (codes "{'error':null,'id':1,'result':{'Port':{'00000000-0000-4000-8000-000000000002':{'initial':{'name':'p1'}}}}}"))) (((quoted (codes "{'id':null,'method':'update2','params':['m',{'Port':{'00000000-0000-4000-8000-000000000003':{'insert':{'name':''}}}}]}"))) ∷ []) ≡ Some false
unfolding shows
update2_default_named = refl

pub update2_other_table : accepts update2 ((quoted (codes "{'Port':{'columns':['name','tag']}}"))) ((quoted (codes "{'error':null,'id':1,'result':{'Port':{'00000000-0000-4000-8000-000000000002':{'initial':{'name':'p1'}}}}}"))) (((quoted (codes "{'id':null,'method':'update2','params':['m',{'Bridge':{'00000000-0000-4000-8000-000000000002':{'delete':null}}}]}"))) ∷ []) ≡ Some false
unfolding shows
update2_other_table = refl

pub update2_initial_later : accepts update2 ((quoted (codes "{'Port':{'columns':['name','tag']}}"))) ((quoted (codes "{'error':null,'id':1,'result':{'Port':{'00000000-0000-4000-8000-000000000002':{'initial':{'name':'p1'}}}}}"))) (((quoted (codes "{'id':null,'method':'update2','params':['m',{'Port':{'00000000-0000-4000-8000-000000000003':{'initial':{}}}}]}"))) ∷ []) ≡ Some false
unfolding shows
update2_initial_later = refl

pub update2_other_column : accepts update2 ((quoted (codes "{'Port':{'columns':['name','tag']}}"))) ((quoted (codes "{'error':null,'id':1,'result':{'Port':{'00000000-0000-4000-8000-000000000002':{'initial':{'name':'p1'}}}}}"))) (((quoted (codes "{'id':null,'method':'update2','params':['m',{'Port':{'00000000-0000-4000-8000-000000000003':{'insert':{'opts':['map',[['a','b']]]}}}}]}"))) ∷ []) ≡ Some false
unfolding shows
update2_other_column = refl

pub update2_delete_1 : accepts update2 ((quoted (codes "{'Port':{'columns':['name','tag']}}"))) ((quoted (codes "{'error':null,'id':1,'result':{'Port':{'00000000-0000-4000-8000-000000000002':{'initial':{'name':'p1'}}}}}"))) (((quoted (codes "{'id':null,'method':'update2','params':['m',{'Port':{'00000000-0000-4000-8000-000000000002':{'delete':1}}}]}"))) ∷ []) ≡ Some false
unfolding shows
update2_delete_1 = refl

pub update2_two_members : accepts update2 ((quoted (codes "{'Port':{'columns':['name','tag']}}"))) ((quoted (codes "{'error':null,'id':1,'result':{'Port':{'00000000-0000-4000-8000-000000000002':{'initial':{'name':'p1'}}}}}"))) (((quoted (codes "{'id':null,'method':'update2','params':['m',{'Port':{'00000000-0000-4000-8000-000000000002':{'modify':{'name':'q'},'delete':null}}}]}"))) ∷ []) ≡ Some false
unfolding shows
update2_two_members = refl

pub update2_no_member : accepts update2 ((quoted (codes "{'Port':{'columns':['name','tag']}}"))) ((quoted (codes "{'error':null,'id':1,'result':{'Port':{'00000000-0000-4000-8000-000000000002':{'initial':{'name':'p1'}}}}}"))) (((quoted (codes "{'id':null,'method':'update2','params':['m',{'Port':{'00000000-0000-4000-8000-000000000002':{}}}]}"))) ∷ []) ≡ Some false
unfolding shows
update2_no_member = refl

pub update2_by_update : accepts update2 ((quoted (codes "{'Port':{'columns':['name','tag']}}"))) ((quoted (codes "{'error':null,'id':1,'result':{'Port':{'00000000-0000-4000-8000-000000000002':{'initial':{'name':'p1'}}}}}"))) (((quoted (codes "{'id':null,'method':'update','params':['m',{'Port':{'00000000-0000-4000-8000-000000000002':{'old':{'name':'p1','tag':['set',[]]}}}}]}"))) ∷ []) ≡ Some false
unfolding shows
update2_by_update = refl

pub update2_other_id : accepts update2 ((quoted (codes "{'Port':{'columns':['name','tag']}}"))) ((quoted (codes "{'error':null,'id':1,'result':{'Port':{'00000000-0000-4000-8000-000000000002':{'initial':{'name':'p1'}}}}}"))) (((quoted (codes "{'id':null,'method':'update2','params':['x',{'Port':{'00000000-0000-4000-8000-000000000002':{'delete':null}}}]}"))) ∷ []) ≡ Some false
unfolding shows
update2_other_id = refl

pub update2_first_empty : accepts update2 ((quoted (codes "{'Port':{'columns':['name','tag']}}"))) ((quoted (codes "{'error':null,'id':1,'result':{}}"))) ([]) ≡ Some true
unfolding shows
update2_first_empty = refl

pub update2_first_no_rows : accepts update2 ((quoted (codes "{'Port':{'columns':['name','tag']}}"))) ((quoted (codes "{'error':null,'id':1,'result':{'Port':{}}}"))) ([]) ≡ Some false
unfolding shows
update2_first_no_rows = refl

pub update2_first_insert : accepts update2 ((quoted (codes "{'Port':{'columns':['name','tag']}}"))) ((quoted (codes "{'error':null,'id':1,'result':{'Port':{'00000000-0000-4000-8000-000000000002':{'insert':{'name':'p1'}}}}}"))) ([]) ≡ Some false
unfolding shows
update2_first_insert = refl

pub update2_first_default : accepts update2 ((quoted (codes "{'Port':{'columns':['name','tag']}}"))) ((quoted (codes "{'error':null,'id':1,'result':{'Port':{'00000000-0000-4000-8000-000000000002':{'initial':{'name':'p1','tag':['set',[]]}}}}}"))) ([]) ≡ Some false
unfolding shows
update2_first_default = refl

pub update_modify : accepts update ((quoted (codes "{'Port':{'columns':['name','tag']}}"))) ((quoted (codes "{'error':null,'id':1,'result':{'Port':{'00000000-0000-4000-8000-000000000002':{'new':{'name':'p1','tag':['set',[]]}}}}}"))) (((quoted (codes "{'id':null,'method':'update','params':['m',{'Port':{'00000000-0000-4000-8000-000000000002':{'new':{'name':'q','tag':['set',[]]},'old':{'name':'p1'}}}}]}"))) ∷ []) ≡ Some true
unfolding shows
update_modify = refl

pub update_delete : accepts update ((quoted (codes "{'Port':{'columns':['name','tag']}}"))) ((quoted (codes "{'error':null,'id':1,'result':{'Port':{'00000000-0000-4000-8000-000000000002':{'new':{'name':'p1','tag':['set',[]]}}}}}"))) (((quoted (codes "{'id':null,'method':'update','params':['m',{'Port':{'00000000-0000-4000-8000-000000000002':{'old':{'name':'p1','tag':['set',[]]}}}}]}"))) ∷ []) ≡ Some true
unfolding shows
update_delete = refl

pub update_insert : accepts update ((quoted (codes "{'Port':{'columns':['name','tag']}}"))) ((quoted (codes "{'error':null,'id':1,'result':{'Port':{'00000000-0000-4000-8000-000000000002':{'new':{'name':'p1','tag':['set',[]]}}}}}"))) (((quoted (codes "{'id':null,'method':'update','params':['m',{'Port':{'00000000-0000-4000-8000-000000000003':{'new':{'name':'','tag':5}}}}]}"))) ∷ []) ≡ Some true
unfolding shows
update_insert = refl

pub update_again : accepts update ((quoted (codes "{'Port':{'columns':['name','tag']}}"))) ((quoted (codes "{'error':null,'id':1,'result':{'Port':{'00000000-0000-4000-8000-000000000002':{'new':{'name':'p1','tag':['set',[]]}}}}}"))) (((quoted (codes "{'id':null,'method':'update','params':['m',{'Port':{'00000000-0000-4000-8000-000000000002':{'new':{'name':'p1','tag':['set',[]]}}}}]}"))) ∷ []) ≡ Some false
unfolding shows
update_again = refl

pub update_old_short : accepts update ((quoted (codes "{'Port':{'columns':['name','tag']}}"))) ((quoted (codes "{'error':null,'id':1,'result':{'Port':{'00000000-0000-4000-8000-000000000002':{'new':{'name':'p1','tag':['set',[]]}}}}}"))) (((quoted (codes "{'id':null,'method':'update','params':['m',{'Port':{'00000000-0000-4000-8000-000000000002':{'old':{'name':'p1'}}}}]}"))) ∷ []) ≡ Some false
unfolding shows
update_old_short = refl

pub update_old_wrong : accepts update ((quoted (codes "{'Port':{'columns':['name','tag']}}"))) ((quoted (codes "{'error':null,'id':1,'result':{'Port':{'00000000-0000-4000-8000-000000000002':{'new':{'name':'p1','tag':['set',[]]}}}}}"))) (((quoted (codes "{'id':null,'method':'update','params':['m',{'Port':{'00000000-0000-4000-8000-000000000002':{'old':{'name':'z','tag':['set',[]]}}}}]}"))) ∷ []) ≡ Some false
unfolding shows
update_old_wrong = refl

pub update_old_none : accepts update ((quoted (codes "{'Port':{'columns':['name','tag']}}"))) ((quoted (codes "{'error':null,'id':1,'result':{'Port':{'00000000-0000-4000-8000-000000000002':{'new':{'name':'p1','tag':['set',[]]}}}}}"))) (((quoted (codes "{'id':null,'method':'update','params':['m',{'Port':{'00000000-0000-4000-8000-000000000002':{'new':{'name':'p1','tag':['set',[]]},'old':{}}}}]}"))) ∷ []) ≡ Some false
unfolding shows
update_old_none = refl

pub update_old_not_views : accepts update ((quoted (codes "{'Port':{'columns':['name','tag']}}"))) ((quoted (codes "{'error':null,'id':1,'result':{'Port':{'00000000-0000-4000-8000-000000000002':{'new':{'name':'p1','tag':['set',[]]}}}}}"))) (((quoted (codes "{'id':null,'method':'update','params':['m',{'Port':{'00000000-0000-4000-8000-000000000002':{'new':{'name':'q','tag':['set',[]]},'old':{'name':'z'}}}}]}"))) ∷ []) ≡ Some false
unfolding shows
update_old_not_views = refl

pub update_old_equal : accepts update ((quoted (codes "{'Port':{'columns':['name','tag']}}"))) ((quoted (codes "{'error':null,'id':1,'result':{'Port':{'00000000-0000-4000-8000-000000000002':{'new':{'name':'p1','tag':['set',[]]}}}}}"))) (((quoted (codes "{'id':null,'method':'update','params':['m',{'Port':{'00000000-0000-4000-8000-000000000002':{'new':{'name':'q','tag':['set',[]]},'old':{'name':'p1','tag':['set',[]]}}}}]}"))) ∷ []) ≡ Some false
unfolding shows
update_old_equal = refl

pub update_outside : accepts update ((quoted (codes "{'Port':{'columns':['name','tag']}}"))) ((quoted (codes "{'error':null,'id':1,'result':{'Port':{'00000000-0000-4000-8000-000000000002':{'new':{'name':'p1','tag':['set',[]]}}}}}"))) (((quoted (codes "{'id':null,'method':'update','params':['m',{'Port':{'00000000-0000-4000-8000-000000000002':{'new':{'name':'q','tag':5},'old':{'name':'p1'}}}}]}"))) ∷ []) ≡ Some false
unfolding shows
update_outside = refl

pub update_new_short : accepts update ((quoted (codes "{'Port':{'columns':['name','tag']}}"))) ((quoted (codes "{'error':null,'id':1,'result':{'Port':{'00000000-0000-4000-8000-000000000002':{'new':{'name':'p1','tag':['set',[]]}}}}}"))) (((quoted (codes "{'id':null,'method':'update','params':['m',{'Port':{'00000000-0000-4000-8000-000000000002':{'new':{'name':'q'},'old':{'name':'p1'}}}}]}"))) ∷ []) ≡ Some false
unfolding shows
update_new_short = refl

pub update_new_short_alone : accepts update ((quoted (codes "{'Port':{'columns':['name','tag']}}"))) ((quoted (codes "{'error':null,'id':1,'result':{'Port':{'00000000-0000-4000-8000-000000000002':{'new':{'name':'p1','tag':['set',[]]}}}}}"))) (((quoted (codes "{'id':null,'method':'update','params':['m',{'Port':{'00000000-0000-4000-8000-000000000003':{'new':{'name':'q'}}}}]}"))) ∷ []) ≡ Some false
unfolding shows
update_new_short_alone = refl

pub update_absent : accepts update ((quoted (codes "{'Port':{'columns':['name','tag']}}"))) ((quoted (codes "{'error':null,'id':1,'result':{'Port':{'00000000-0000-4000-8000-000000000002':{'new':{'name':'p1','tag':['set',[]]}}}}}"))) (((quoted (codes "{'id':null,'method':'update','params':['m',{'Port':{'00000000-0000-4000-8000-000000000003':{'old':{'name':'p1','tag':['set',[]]}}}}]}"))) ∷ []) ≡ Some false
unfolding shows
update_absent = refl

pub update_absent_m : accepts update ((quoted (codes "{'Port':{'columns':['name','tag']}}"))) ((quoted (codes "{'error':null,'id':1,'result':{'Port':{'00000000-0000-4000-8000-000000000002':{'new':{'name':'p1','tag':['set',[]]}}}}}"))) (((quoted (codes "{'id':null,'method':'update','params':['m',{'Port':{'00000000-0000-4000-8000-000000000003':{'new':{'name':'p1','tag':['set',[]]},'old':{'name':'q'}}}}]}"))) ∷ []) ≡ Some false
unfolding shows
update_absent_m = refl

pub update_refuses_a_delete : accepts update ((quoted (codes "{'Port':{'columns':['name','tag']}}"))) ((quoted (codes "{'error':null,'id':1,'result':{'Port':{'00000000-0000-4000-8000-000000000002':{'new':{'name':'p1','tag':['set',[]]}}}}}"))) (((quoted (codes "{'id':null,'method':'update','params':['m',{'Port':{'00000000-0000-4000-8000-000000000002':{'delete':null}}}]}"))) ∷ []) ≡ Some false
unfolding shows
update_refuses_a_delete = refl

pub update_empty : accepts update ((quoted (codes "{'Port':{'columns':['name','tag']}}"))) ((quoted (codes "{'error':null,'id':1,'result':{'Port':{'00000000-0000-4000-8000-000000000002':{'new':{'name':'p1','tag':['set',[]]}}}}}"))) (((quoted (codes "{'id':null,'method':'update','params':['m',{}]}"))) ∷ []) ≡ Some false
unfolding shows
update_empty = refl

pub update_first_old : accepts update ((quoted (codes "{'Port':{'columns':['name','tag']}}"))) ((quoted (codes "{'error':null,'id':1,'result':{'Port':{'00000000-0000-4000-8000-000000000002':{'old':{'name':'p1','tag':['set',[]]}}}}}"))) ([]) ≡ Some false
unfolding shows
update_first_old = refl

pub strict_set_of_one : accepts update2 ((quoted (codes "{'Port':{'columns':['name','tag']}}"))) ((quoted (codes "{'error':null,'id':1,'result':{'Port':{'00000000-0000-4000-8000-000000000002':{'initial':{'name':'p1'}}}}}"))) (((quoted (codes "{'id':null,'method':'update2','params':['m',{'Port':{'00000000-0000-4000-8000-000000000002':{'modify':{'name':['set',['q']]}}}}]}"))) ∷ []) ≡ Some false
unfolding shows
strict_set_of_one = refl

pub strict_upper_case : accepts update2 ((quoted (codes "{'Port':{'columns':['name','tag']}}"))) ((quoted (codes "{'error':null,'id':1,'result':{'Port':{'00000000-0000-4000-8000-000000000002':{'initial':{'name':'p1'}}}}}"))) (((quoted (codes "{'id':null,'method':'update2','params':['m',{'Port':{'00000000-0000-4000-8000-00000000000a':{'insert':{}}}}]}"))) ∷ ((quoted (codes "{'id':null,'method':'update2','params':['m',{'Port':{'00000000-0000-4000-8000-00000000000A':{'modify':{'tag':5}}}}]}"))) ∷ []) ≡ Some false
unfolding shows
strict_upper_case = refl

pub strict_row_twice : accepts update2 ((quoted (codes "{'Port':{'columns':['name','tag']}}"))) ((quoted (codes "{'error':null,'id':1,'result':{'Port':{'00000000-0000-4000-8000-000000000002':{'initial':{'name':'p1'}}}}}"))) (((quoted (codes "{'id':null,'method':'update2','params':['m',{'Port':{'00000000-0000-4000-8000-00000000000A':{'insert':{}},'00000000-0000-4000-8000-00000000000a':{'delete':null}}}]}"))) ∷ []) ≡ Some false
unfolding shows
strict_row_twice = refl

pub strict_repeated : accepts update2 ((quoted (codes "{'Port':{'columns':['name','tag']}}"))) ((quoted (codes "{'error':null,'id':1,'result':{'Port':{'00000000-0000-4000-8000-000000000002':{'initial':{'name':'p1'}}}}}"))) (((quoted (codes "{'id':null,'method':'update2','params':['m',{'Port':{'00000000-0000-4000-8000-000000000002':{'modify':{'tag':['set',[5,5]]}}}}]}"))) ∷ []) ≡ Some false
unfolding shows
strict_repeated = refl

pub plus : accepts update2 ((quoted (codes "{'Port':{'columns':['name','tag']}}"))) ((quoted (codes "{'error':null,'id':1,'result':{'Port':{'00000000-0000-4000-8000-000000000002':{'initial':{'name':'p1'}}}}}"))) (((quoted (codes "{'id':null,'method':'update2','params':['m',{'Port':{'00000000-0000-4000-8000-000000000002+':{'delete':null}}}]}"))) ∷ []) ≡ Some false
unfolding shows
plus = refl

pub strict_two_tags : accepts update2 ((quoted (codes "{'Port':{'columns':['name','tag']}}"))) ((quoted (codes "{'error':null,'id':1,'result':{'Port':{'00000000-0000-4000-8000-000000000002':{'initial':{'name':'p1'}}}}}"))) (((quoted (codes "{'id':null,'method':'update2','params':['m',{'Port':{'00000000-0000-4000-8000-000000000003':{'insert':{'tag':['set',[5,6]]}}}}]}"))) ∷ []) ≡ Some true
unfolding shows
strict_two_tags = refl

pub strict_kind : accepts update2 ((quoted (codes "{'Port':{'columns':['name','tag']}}"))) ((quoted (codes "{'error':null,'id':1,'result':{'Port':{'00000000-0000-4000-8000-000000000002':{'initial':{'name':'p1'}}}}}"))) (((quoted (codes "{'id':null,'method':'update2','params':['m',{'Port':{'00000000-0000-4000-8000-000000000003':{'insert':{'tag':'five'}}}}]}"))) ∷ []) ≡ Some true
unfolding shows
strict_kind = refl

-- What is read from a text has its members in order, so these rows are given as they stand.

-- a row that comes in, of a monitor of no columns
abbrev coming : List ℕ → List ℕ × Data
coming uuid = (uuid, of (quoted (codes "{'insert':{}}")))

-- whether a client that has no rows takes these, in this order
abbrev takes : List (List ℕ) → Bool
takes rows = let none : Contents = empty in is_some (fold_rows update2 false [] None none (map_list coming rows))

pub rows_in_order : takes (codes "00000000-0000-4000-8000-000000000002" ∷ codes "00000000-0000-4000-8000-000000000003" ∷ []) ≡ true
unfolding shows
rows_in_order = refl

pub rows_out_of_order : takes (codes "00000000-0000-4000-8000-000000000003" ∷ codes "00000000-0000-4000-8000-000000000002" ∷ []) ≡ false
unfolding shows
rows_out_of_order = refl
