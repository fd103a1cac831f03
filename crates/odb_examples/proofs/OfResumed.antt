-- Clients that come back: which commits are found where few contents are kept, and what a strict client takes. [P 9.7, 9.8]
use Rattle.odb_examples.proofs.OfClients.{of, reply_to, told}
use Rattle.odb_examples.proofs.OfLaw.{sub, turn}
use Rattle.odb_examples.proofs.TestSchemas.{net, quoted}
use Rattle.odb_examples.proofs.Transcripts.{shows}
use Rattle.std.specs.Prelude.{◌≡◌, ◌++◌, ℕ, length, Bool, true, false, List, [], ◌∷◌, Option, Some, None, is_some, map as map_list, option_and_then, option_map, Ok, Err, codes, refl}
use Rattle.std.specs.Result.{result_ok}
use Rattle.odb_law.specs.Client.{Picture, client}
use Rattle.odb_monitor.specs.View.{View}
use Rattle.odb_request.specs.Request.{update2}
use Rattle.odb_schema.specs.SchemaText.{schema_of_text}
use Rattle.odb_service.specs.Run.{Event, beginning, opened, run}
use Rattle.odb_service.specs.Service.{service}
use Rattle.odb_service.specs.Session.{Out, to}

-- ---- how many contents can be found

-- what session 0 was given, in a run of this word in which so many contents can be found
abbrev given_by : (word most : ℕ) → List Event → Option (List (List ℕ))
given_by word most es = elim (schema_of_text net) [
  | Ok n ↦ option_map (λ st. map_list (λ o. (service n).printed o.message) (st.given 0)) (result_ok (run (service n) es (beginning word most (length n.tables))))
  | Err e ↦ None
]

abbrev three_commits : List Event
three_commits =
    (opened 0) ∷
    (opened 1) ∷
    (sub 1 0 ((quoted (codes "{'method':'transact','params':['net',{'op':'insert','table':'Bridge','row':{'name':'a'}}],'id':1}")))) ∷
    (sub 1 0 ((quoted (codes "{'method':'transact','params':['net',{'op':'update','table':'Bridge','where':[],'row':{'name':'b'}}],'id':2}")))) ∷
    (sub 1 0 ((quoted (codes "{'method':'transact','params':['net',{'op':'update','table':'Bridge','where':[],'row':{'name':'c'}}],'id':3}")))) ∷
    []

-- after them, session 0 comes back with this commit
abbrev since : List ℕ → List Event
since commit = three_commits ++ (sub 0 0 ((quoted (codes "{'method':'monitor_cond_since','params':['net','m',{'Bridge':{'columns':['name']}},'") ++ commit ++ quoted (codes "'],'id':1}")))) ∷ (turn 0) ∷ []

abbrev all_rows : List ℕ → List (List ℕ)
all_rows newest = (quoted (codes "{'error':null,'id':1,'result':[false,'") ++ newest ++ quoted (codes "',{'Bridge':{'00000000-0000-4000-8000-000000000001':{'initial':{'name':'c'}}}}]}")) ∷ []

abbrev changed : List ℕ → List (List ℕ)
changed newest = (quoted (codes "{'error':null,'id':1,'result':[true,'") ++ newest ++ quoted (codes "',{'Bridge':{'00000000-0000-4000-8000-000000000001':{'modify':{'name':'c'}}}}]}")) ∷ []

abbrev unchanged : List ℕ → List (List ℕ)
unchanged newest = (quoted (codes "{'error':null,'id':1,'result':[true,'") ++ newest ++ quoted (codes "',{}]}")) ∷ []

abbrev third : List ℕ
third = codes "00000000-0000-0000-0000-000000000003"

abbrev third_of_run_7 : List ℕ
third_of_run_7 = codes "00000000-0000-0007-0000-000000000003"

pub of_two_contents_the_earlier_is_found : given_by 0 2 (since (codes "00000000-0000-0000-0000-000000000002")) ≡ Some (changed third)
unfolding shows
of_two_contents_the_earlier_is_found = refl

pub of_two_contents_the_newest_is_found : given_by 0 2 (since (codes "00000000-0000-0000-0000-000000000003")) ≡ Some (unchanged third)
unfolding shows
of_two_contents_the_newest_is_found = refl

pub what_came_before_two_contents_is_not_found : given_by 0 2 (since (codes "00000000-0000-0000-0000-000000000001")) ≡ Some (all_rows third)
unfolding shows
what_came_before_two_contents_is_not_found = refl

pub of_three_contents_the_earliest_is_found : given_by 0 3 (since (codes "00000000-0000-0000-0000-000000000001")) ≡ Some (changed third)
unfolding shows
of_three_contents_the_earliest_is_found = refl

pub of_one_content_the_newest_is_found : given_by 0 1 (since (codes "00000000-0000-0000-0000-000000000003")) ≡ Some (unchanged third)
unfolding shows
of_one_content_the_newest_is_found = refl

pub what_came_before_one_content_is_not_found : given_by 0 1 (since (codes "00000000-0000-0000-0000-000000000002")) ≡ Some (all_rows third)
unfolding shows
what_came_before_one_content_is_not_found = refl

pub of_no_content_none_is_found : given_by 0 0 (since (codes "00000000-0000-0000-0000-000000000003")) ≡ Some (all_rows third)
unfolding shows
of_no_content_none_is_found = refl

pub a_commit_of_its_run_is_found : given_by 7 100 (since (codes "00000000-0000-0007-0000-000000000002")) ≡ Some (changed third_of_run_7)
unfolding shows
a_commit_of_its_run_is_found = refl

pub a_commit_of_run_0_is_not_found_in_run_7 : given_by 7 100 (since (codes "00000000-0000-0000-0000-000000000002")) ≡ Some (all_rows third_of_run_7)
unfolding shows
a_commit_of_run_0_is_not_found_in_run_7 = refl

pub a_commit_of_run_8_is_not_found_in_run_7 : given_by 7 100 (since (codes "00000000-0000-0008-0000-000000000002")) ≡ Some (all_rows third_of_run_7)
unfolding shows
a_commit_of_run_8_is_not_found_in_run_7 = refl

pub before_the_first_commit_nothing_is_found : given_by 0 100 (since (codes "00000000-0000-0000-0000-000000000000")) ≡ Some (all_rows third)
unfolding shows
before_the_first_commit_nothing_is_found = refl

-- ---- the strict client

abbrev names : List ℕ
names = quoted (codes "{'Bridge':{'columns':['name']}}")

-- the view of the first of these
abbrev first_view : List Picture → Option View
first_view [] = None
first_view (p ∷ ps) = p.view

-- the view of a client that was told of the bridge "a"
abbrev held_view : Option View
held_view = elim (schema_of_text net) [
  | Ok s ↦ option_and_then first_view (client (service s) (reply_to update2 names (quoted (codes "{'error':null,'id':1,'result':{'Bridge':{'00000000-0000-4000-8000-000000000001':{'initial':{'name':'a'}}}}}")) ∷ []))
  | Err e ↦ None
]

-- the reply to a client that names a commit, after which it held this
abbrev resumed : Option View → List ℕ → Out
resumed held result = record {
  answers = to (of (quoted (codes "{'method':'monitor_cond_since','params':['net','m',") ++ names ++ quoted (codes ",'00000000-0000-0000-0000-000000000001'],'id':1}")));
  message = of (quoted (codes "{'error':null,'id':1,'result':") ++ quoted result ++ codes "}");
  held = held;
}

-- whether the client accepts this result and then these notifications
abbrev accepts_since : Option View → List ℕ → List (List ℕ) → Option Bool
accepts_since held result rest = elim (schema_of_text net) [
  | Ok s ↦ Some (is_some (client (service s) (resumed held result ∷ map_list (λ t. told (quoted t)) rest)))
  | Err e ↦ None
]

pub found_without_changes : accepts_since held_view (codes "[true,'00000000-0000-0000-0000-000000000002',{}]") ([]) ≡ Some true
unfolding shows
found_without_changes = refl

pub found_with_a_modify : accepts_since held_view (codes "[true,'00000000-0000-0000-0000-000000000002',{'Bridge':{'00000000-0000-4000-8000-000000000001':{'modify':{'name':'b'}}}}]") (codes "{'id':null,'method':'update3','params':['m','00000000-0000-0000-0000-000000000003',{'Bridge':{'00000000-0000-4000-8000-000000000001':{'modify':{'name':'a'}}}}]}" ∷ []) ≡ Some true
unfolding shows
found_with_a_modify = refl

pub found_with_a_delete : accepts_since held_view (codes "[true,'00000000-0000-0000-0000-000000000002',{'Bridge':{'00000000-0000-4000-8000-000000000001':{'delete':null}}}]") (codes "{'id':null,'method':'update3','params':['m','00000000-0000-0000-0000-000000000003',{'Bridge':{'00000000-0000-4000-8000-000000000001':{'insert':{'name':'a'}}}}]}" ∷ []) ≡ Some true
unfolding shows
found_with_a_delete = refl

pub found_with_an_insert : accepts_since held_view (codes "[true,'00000000-0000-0000-0000-000000000002',{'Bridge':{'00000000-0000-4000-8000-000000000002':{'insert':{'name':'b'}}}}]") (codes "{'id':null,'method':'update3','params':['m','00000000-0000-0000-0000-000000000003',{'Bridge':{'00000000-0000-4000-8000-000000000002':{'delete':null}}}]}" ∷ []) ≡ Some true
unfolding shows
found_with_an_insert = refl

pub found_with_initial : accepts_since held_view (codes "[true,'00000000-0000-0000-0000-000000000002',{'Bridge':{'00000000-0000-4000-8000-000000000002':{'initial':{'name':'b'}}}}]") ([]) ≡ Some false
unfolding shows
found_with_initial = refl

pub found_with_a_row_that_it_has : accepts_since held_view (codes "[true,'00000000-0000-0000-0000-000000000002',{'Bridge':{'00000000-0000-4000-8000-000000000001':{'insert':{'name':'a'}}}}]") ([]) ≡ Some false
unfolding shows
found_with_a_row_that_it_has = refl

pub found_with_a_modify_of_a_row_that_it_has_not : accepts_since held_view (codes "[true,'00000000-0000-0000-0000-000000000002',{'Bridge':{'00000000-0000-4000-8000-000000000002':{'modify':{'name':'b'}}}}]") ([]) ≡ Some false
unfolding shows
found_with_a_modify_of_a_row_that_it_has_not = refl

pub found_with_a_modify_to_what_it_has : accepts_since held_view (codes "[true,'00000000-0000-0000-0000-000000000002',{'Bridge':{'00000000-0000-4000-8000-000000000001':{'modify':{'name':'a'}}}}]") ([]) ≡ Some false
unfolding shows
found_with_a_modify_to_what_it_has = refl

pub found_where_it_held_nothing : accepts_since None (codes "[true,'00000000-0000-0000-0000-000000000002',{}]") ([]) ≡ Some false
unfolding shows
found_where_it_held_nothing = refl

pub what_it_held_goes_on : accepts_since held_view (codes "[true,'00000000-0000-0000-0000-000000000002',{}]") (codes "{'id':null,'method':'update3','params':['m','00000000-0000-0000-0000-000000000003',{'Bridge':{'00000000-0000-4000-8000-000000000001':{'modify':{'name':'b'}}}}]}" ∷ []) ≡ Some true
unfolding shows
what_it_held_goes_on = refl

pub not_found_with_initial : accepts_since held_view (codes "[false,'00000000-0000-0000-0000-000000000002',{'Bridge':{'00000000-0000-4000-8000-000000000001':{'initial':{'name':'b'}}}}]") (codes "{'id':null,'method':'update3','params':['m','00000000-0000-0000-0000-000000000003',{'Bridge':{'00000000-0000-4000-8000-000000000001':{'modify':{'name':'a'}}}}]}" ∷ []) ≡ Some true
unfolding shows
not_found_with_initial = refl

pub not_found_with_insert : accepts_since None (codes "[false,'00000000-0000-0000-0000-000000000002',{'Bridge':{'00000000-0000-4000-8000-000000000001':{'insert':{'name':'b'}}}}]") ([]) ≡ Some false
unfolding shows
not_found_with_insert = refl

pub not_found_without_rows : accepts_since None (codes "[false,'00000000-0000-0000-0000-000000000002',{}]") ([]) ≡ Some true
unfolding shows
not_found_without_rows = refl

pub a_result_without_a_commit : accepts_since None (codes "{}") ([]) ≡ Some false
unfolding shows
a_result_without_a_commit = refl

pub then_told_by_update2 : accepts_since held_view (codes "[true,'00000000-0000-0000-0000-000000000002',{}]") (codes "{'id':null,'method':'update2','params':['m',{'Bridge':{'00000000-0000-4000-8000-000000000001':{'delete':null}}}]}" ∷ []) ≡ Some false
unfolding shows
then_told_by_update2 = refl

pub then_told_without_a_commit : accepts_since held_view (codes "[true,'00000000-0000-0000-0000-000000000002',{}]") (codes "{'id':null,'method':'update3','params':['m',{'Bridge':{'00000000-0000-4000-8000-000000000001':{'delete':null}}}]}" ∷ []) ≡ Some false
unfolding shows
then_told_without_a_commit = refl

pub then_told_nothing : accepts_since held_view (codes "[true,'00000000-0000-0000-0000-000000000002',{}]") (codes "{'id':null,'method':'update3','params':['m','00000000-0000-0000-0000-000000000003',{}]}" ∷ []) ≡ Some false
unfolding shows
then_told_nothing = refl

-- of a monitor that named no commit it isn't told by `update3`
pub update2_by_update3 : elim (schema_of_text net) [
  | Ok s ↦ Some (is_some (client (service s) (reply_to update2 names (quoted (codes "{'error':null,'id':1,'result':{'Bridge':{'00000000-0000-4000-8000-000000000001':{'initial':{'name':'a'}}}}}")) ∷ told (quoted (codes "{'id':null,'method':'update3','params':['m','00000000-0000-0000-0000-000000000003',{'Bridge':{'00000000-0000-4000-8000-000000000001':{'delete':null}}}]}")) ∷ [])))
  | Err e ↦ None
] ≡ Some false
unfolding shows
update2_by_update3 = refl
