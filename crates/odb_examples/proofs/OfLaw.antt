-- The law's statements as tests, each held against runs, after every event of each: what a machine gets wrong in one of them shows here, whatever is proved of it. [P 9.7]
use Rattle.odb_examples.proofs.TestSchemas.{net, quoted}
use Rattle.std.specs.Prelude.{◌≡◌, ℕ, ◌+◌, ◌==◌, nat_le, Bool, true, false, not, ◌&&◌, ◌||◌, if◌then◌else◌, List, [], ◌∷◌, ◌++◌, length, take, drop, replicate, count_by, Option, Some, None, is_some, option_and_then, option_to_list, Ok, Err, codes, bytes_eq, refl, filter_map}
use Rattle.std.specs.List.{list_all, list_any}
use Rattle.std.specs.Result.{result_err}
use Rattle.std.specs.Cmp.Lexicographic.{pointwise}
use Rattle.serde_json.specs.Data.{Data, array, no_items, null, number, string, unsigned}
use Rattle.odb_examples.proofs.Transcripts.{shows}
use Rattle.odb_service.specs.Session as session
use Rattle.odb_atoms.specs.FinMap.{get, insert, len}
use Rattle.odb_law.specs.Client.{Picture, Wish, adds, changes, client, drops, is_id_of, nothing_else, wish_of}
use Rattle.odb_law.specs.Headline.{about, is_granted, pictured, updated}
use Rattle.odb_law.specs.Replies.{answered_in, is_replied_at_once}
use Rattle.odb_law.specs.Kinds.{all_kinds, full}
use Rattle.odb_law.specs.Law.{answers_one, asked_by, committed_by, open_after, refusal}
use Rattle.odb_service.specs.Run.{Event, Refusal, State, beginning, busy, closed, gone, in_use, next, opened, opens, round, run, submitted, ticked, too_many}
use Rattle.odb_service.specs.Service.{Service, ended, service, waiting}
use Rattle.odb_rpc.specs.Message.{call_of, reply}
use Rattle.odb_service.specs.Session.{Answers, Item, Monitor, Out, Session, Watch, asked, drained, no_request, owed, renamed, say, shift, stopped, sync, to, told_of}
use Rattle.odb_service.specs.World.{owed_replies, revision_of, untried}
use Rattle.odb_monitor.specs.View.{View, delta, is_none, query, shown}
use Rattle.odb_request.specs.Request.{Request}
use Rattle.odb_schema.specs.SchemaText.{schema_of_text}
use Rattle.odb_tables.specs.Database.{Db}
use Rattle.odb_wire.specs.Stream.{max_message, messages}
use Rattle.odb_script.specs.Script.{fresh_from}

abbrev first_message : List ℕ → Data
first_message t = elim ((messages max_message t).0) [ [] ↦ null | d ∷ ds ↦ d ]

-- a message of a session, with one identifier at hand, at a moment
abbrev at : ℕ → ℕ → ℕ → List ℕ → Event
at now s k t = submitted s (first_message t) (fresh_from k 1) now

abbrev pub sub : ℕ → ℕ → List ℕ → Event
sub s k t = at 0 s k t

abbrev pub turn : ℕ → Event
turn s = round (s ∷ [])

module _ (h : Service) where
  abbrev all_sent : List Request → Bool
  all_sent qs = list_all (λ q. q.select.initial && (q.select.insert && (q.select.delete && q.select.modify))) qs

  abbrev is_now : Db → List Request → Option View → Bool
  is_now db qs v = if all_sent qs then elim v [ None ↦ false | Some V ↦ is_none (delta V (query db qs)) ] else true

  abbrev same_outs : List Out → List Out → Bool
  same_outs os ps = pointwise (λ (o p : Out). bytes_eq (h.printed o.message) (h.printed p.message)) os ps

  -- at a session of a state
  abbrev brought : State → ℕ → Session → Bool
  brought st s x = elim (client h (st.given s ++ owed h (revision_of st.world) x)) [ None ↦ false | Some ps ↦ list_all (λ p. is_now st.world.db p.requests p.view) ps ]

  abbrev known : State → ℕ → Session → Bool
  known st s x = elim (client h (st.given s ++ owed h (revision_of st.world) x)) [ None ↦ false | Some ps ↦ pointwise (λ p k. bytes_eq (h.printed p.id) (h.printed k.id)) ps (asked h x) ]

  abbrev minimal : State → ℕ → Session → Bool
  minimal st s x = is_some (client h (st.given s))

  abbrev last_of : List Out → Option Out
  last_of [] = None
  last_of (o ∷ []) = Some o
  last_of (o ∷ p ∷ os) = last_of (p ∷ os)

  abbrev was_last : Data → List Out → Bool
  was_last i os = elim (option_and_then (λ o. updated o.message) (last_of os)) [ None ↦ false | Some j ↦ bytes_eq (h.printed i) (h.printed j) ]

  abbrev dropped_at : State → ℕ → List Out → Out → Bool
  dropped_at st s a o = by o.answers
    where
      of : Wish → Bool
      of (adds n since i d) = true
      of (changes i j d) = true
      of nothing_else = true
      of (drops i) = if is_granted o.message then elim (pictured h i (st.given s ++ a)) [ None ↦ false | Some p ↦ is_now st.world.db p.requests p.view || (nat_le (length a) 0 && was_last i (st.given s)) ] else true

      by : Answers → Bool
      by no_request = true
      by (to d) = of (wish_of d)

  abbrev changed_at : State → ℕ → List Out → Out → Bool
  changed_at st s a o = by o.answers
    where
      of : Wish → Bool
      of (adds n since i d) = true
      of (drops i) = true
      of nothing_else = true
      of (changes old new d) = if is_granted o.message then elim (pictured h new (st.given s ++ a ++ o ∷ [])) [ None ↦ false | Some p ↦ is_now st.world.db p.requests p.view || (nat_le (length a) 0 && was_last old (st.given s)) ] else true

      by : Answers → Bool
      by no_request = true
      by (to d) = of (wish_of d)

  abbrev changed_from : State → ℕ → List Out → List Out → Bool
  changed_from st s a [] = true
  changed_from st s a (o ∷ b) = changed_at st s a o && changed_from st s (a ++ o ∷ []) b

  abbrev changed : State → ℕ → Session → Bool
  changed st s x = changed_from st s [] (owed h (revision_of st.world) x)

  abbrev dropped_from : State → ℕ → List Out → List Out → Bool
  dropped_from st s a [] = true
  dropped_from st s a (o ∷ b) = dropped_at st s a o && dropped_from st s (a ++ o ∷ []) b

  abbrev dropped : State → ℕ → Session → Bool
  dropped st s x = dropped_from st s [] (owed h (revision_of st.world) x)

  abbrev dries_in : ℕ → State → ℕ → Session → Bool
  dries_in n st s x = elim (run h (replicate n (turn s)) st) [
    | Ok now ↦ same_outs (now.given s) (st.given s ++ owed h (revision_of st.world) x) && (now.world.commits == st.world.commits)
    | Err e ↦ false
  ]

  -- in as many turns as there are messages, and in one more
  abbrev dries : State → ℕ → Session → Bool
  dries st s x = dries_in (length (owed h (revision_of st.world) x)) st s x && dries_in (length (owed h (revision_of st.world) x) + 1) st s x

  abbrev one_turn : State → ℕ → Session → Bool
  one_turn st s x = elim (next h (turn s) st) [ Ok now ↦ same_outs (now.given s) (st.given s ++ option_to_list (session.take h (revision_of st.world) x).0) | Err e ↦ false ]

  -- 0 and 1 are listed twice, and 7 isn't open
  abbrev many_turns : State → ℕ → Session → Bool
  many_turns st s x = elim (next h (round (0 ∷ 7 ∷ 1 ∷ 0 ∷ 1 ∷ [])) st) [
    | Ok now ↦ elim (run h (turn 0 ∷ turn 7 ∷ turn 1 ∷ []) st) [ Ok later ↦ same_outs (now.given s) (later.given s) | Err e ↦ false ]
    | Err e ↦ false
  ]

  abbrev answered : State → ℕ → Session → Bool
  answered st s x =
      list_all (λ d. let is : Data → Bool = λ c. bytes_eq (h.printed c) (h.printed d) in
      count_by is (st.requests s) == count_by (answers_one h is) (st.given s ++ owed h (revision_of st.world) x) + count_by (λ p. (p.session == s) && is p.request) st.world.waiting) (st.requests s)
      && (length (st.requests s) == count_by (answers_one h (λ d. true)) (st.given s ++ owed h (revision_of st.world) x) + count_by (λ p. p.session == s) st.world.waiting)

  abbrev counted : State → ℕ → Session → Bool
  counted st s x = (length (st.requests s) == count_by (answers_one h (λ d. true)) (st.given s) + owed_replies h s x st.world) && nat_le (owed_replies h s x st.world) 256

  abbrev same_deadline : Option ℕ → Option ℕ → Bool
  same_deadline None None = true
  same_deadline None (Some t) = false
  same_deadline (Some t) None = false
  same_deadline (Some t) (Some u) = t == u

  -- each of them had to wait at its arrival, when its session owned no lock
  abbrev waited : State → ℕ → Session → Bool
  waited st s x =
      not (is_some (untried h st.world))
      && list_all (λ p. is_some (get st.world.sessions p.session) && elim (h.transact st.world.db (st.world.commits + 1) p.operations (record { fresh = p.fresh; arrival = p.arrival; now = p.arrival; owns = λ n. false })) [
        | ended r o ↦ false
        | waiting t ↦ same_deadline t p.deadline
      ]) st.world.waiting

  -- between a state and the next
  abbrev has_turn : ℕ → Event → Bool
  has_turn s (round ss) = list_any (λ t. t == s) ss
  has_turn s (opened t) = false
  has_turn s (submitted t d fresh now) = false
  has_turn s (ticked now) = false
  has_turn s (closed t) = false

  abbrev is_changing : State → ℕ → Session → Picture → Bool
  is_changing st s x p = elim (owed h (revision_of st.world) x) [ [] ↦ false | o ∷ os ↦ by o o.answers ]
    where
      of : Out → Wish → Bool
      of o (adds n since i d) = false
      of o (drops i) = false
      of o nothing_else = false
      of o (changes old new d) =
          is_granted o.message && (is_id_of h old p && elim (pictured h new (st.given s ++ o ∷ [])) [ None ↦ false | Some q ↦ is_now st.world.db q.requests q.view && is_now st.world.db q.requests p.view ])

      by : Out → Answers → Bool
      by o no_request = false
      by o (to d) = of o (wish_of d)

  abbrev is_whole : State → ℕ → Session → Data → Bool
  is_whole st s x i = elim (pictured h i (st.given s)) [ None ↦ false | Some p ↦ is_now st.world.db p.requests p.view || is_changing st s x p ]

  abbrev brings_one : State → Event → State → ℕ → Session → List Out → Bool
  brings_one st e now s x [] = true
  brings_one st e now s x (o ∷ []) = has_turn s e && ((now.world.commits == st.world.commits) && elim (about o) [ None ↦ true | Some i ↦ is_whole now s x i ])
  brings_one st e now s x (o ∷ p ∷ os) = false

  abbrev brings : State → Event → State → ℕ → Session → Bool
  brings st e now s x = opens e s || (same_outs (take (length (st.given s)) (now.given s)) (st.given s) && brings_one st e now s x (drop (length (st.given s)) (now.given s)))

  -- the monitors asked for, before and now, by their ids
  abbrev granted : State → Event → State → ℕ → Session → Bool
  granted st e now s x = elim (get st.world.sessions s) [
    | None ↦ true
    | Some y ↦ opens e s || pointwise (λ (k l : Watch). bytes_eq (h.printed k.id) (h.printed l.id)) (asked h x) (asked_by h e s (asked h y))
  ]

  -- where none waits; the databases are compared by how many rows they have
  abbrev committed : State → Event → State → Bool
  committed st e now = elim st.world.waiting [
    | [] ↦ ((now.world.commits == (committed_by h e st.world).commits) && pointwise (λ t u. len t == len u) now.world.db (committed_by h e st.world).db)
    | p ∷ ps ↦ true
  ]

  abbrev last_answers : Data → List Out → Bool
  last_answers d os = elim (last_of os) [ None ↦ false | Some o ↦ answers_one h (λ c. bytes_eq (h.printed c) (h.printed d)) o ]

  -- where none waits, and the database changed
  abbrev told_before : State → Event → State → Bool
  told_before st (opened s) now = true
  told_before st (ticked t) now = true
  told_before st (closed s) now = true
  told_before st (round ss) now = true
  told_before st (submitted s d fresh t) now = elim st.world.waiting [
    | p ∷ ps ↦ true
    | [] ↦ (if now.world.commits == st.world.commits then true else elim (get now.world.sessions s) [ None ↦ true | Some y ↦ last_answers d (owed h (revision_of now.world) y) ])
  ]

  -- ---- right after a request

  abbrev are_notices : List Out → Bool
  are_notices os = list_all (λ o. not (answers_one h (λ d. true) o)) os

  abbrev has_now : Db → Data → List Out → Bool
  has_now db i os = elim (pictured h i os) [ None ↦ false | Some p ↦ is_now db p.requests p.view ]

  abbrev is_whole_by : State → ℕ → List Out → Out → Wish → Bool
  is_whole_by st s a o (adds n since i d) = true
  is_whole_by st s a o nothing_else = true
  is_whole_by st s a o (drops i) = has_now st.world.db i (st.given s ++ a)
  is_whole_by st s a o (changes old new d) = has_now st.world.db new (st.given s ++ a ++ o ∷ [])

  -- the last reply of these is to this request, and its monitor is whole then
  abbrev replied_from : Data → State → ℕ → List Out → List Out → Bool
  replied_from d st s a [] = false
  replied_from d st s a (o ∷ b) =
      (are_notices b && (answers_one h (λ c. bytes_eq (h.printed c) (h.printed d)) o && (not (is_granted o.message) || is_whole_by st s a o (wish_of d)))) || replied_from d st s (a ++ o ∷ []) b

  abbrev replied : Data → State → ℕ → Session → Bool
  replied d st s x = replied_from d st s [] (owed h (revision_of st.world) x)

  abbrev replied_at_once : State → Event → State → Bool
  replied_at_once st (opened s) now = true
  replied_at_once st (ticked t) now = true
  replied_at_once st (closed s) now = true
  replied_at_once st (round ss) now = true
  replied_at_once st (submitted s d fresh t) now = if is_replied_at_once (call_of h.db_name h.schema h.serves d) then elim (get now.world.sessions s) [ None ↦ true | Some y ↦ replied d now s y ] else true

  -- what was answered and will be stays in front
  abbrev goes_before : List Data → List Data → Bool
  goes_before [] es = true
  goes_before (d ∷ ds) [] = false
  goes_before (d ∷ ds) (e ∷ es) = bytes_eq (h.printed d) (h.printed e) && goes_before ds es

  abbrev keeps_order : State → Event → State → ℕ → Session → Bool
  keeps_order st e now s x = elim (get st.world.sessions s) [
    | None ↦ true
    | Some y ↦ opens e s || goes_before (answered_in (st.given s ++ owed h (revision_of st.world) y)) (answered_in (now.given s ++ owed h (revision_of now.world) x))
  ]

  abbrev sessions_stay : State → Event → State → ℕ → Bool
  sessions_stay st e now s = by (is_some (get now.world.sessions s)) (open_after e s (is_some (get st.world.sessions s)))
    where
      by : Bool → Bool → Bool
      by true b = b
      by false b = not b

  abbrev same_refusal : Option Refusal → Option Refusal → Bool
  same_refusal None None = true
  same_refusal (Some too_many) (Some too_many) = true
  same_refusal (Some gone) (Some gone) = true
  same_refusal (Some busy) (Some busy) = true
  same_refusal (Some in_use) (Some in_use) = true
  same_refusal a b = false

  abbrev Test : Type 0
  Test = State → Event → State → Bool

  -- at the sessions 0 and 1, where they are open
  abbrev at_both : (State → Event → State → ℕ → Session → Bool) → Test
  at_both f st e now = at_one 0 && at_one 1
    where
      at_one : ℕ → Bool
      at_one s = elim (get now.world.sessions s) [ None ↦ true | Some x ↦ f st e now s x ]

  abbrev now_at : (State → ℕ → Session → Bool) → Test
  now_at f = at_both (λ st e now s x. f now s x)

  -- the test after each event; a refused one changes nothing
  abbrev after_each : Test → List Event → State → Bool
  after_each t [] st = true
  after_each t (e ∷ es) st = elim (next h e st) [ Ok now ↦ (t st e now && after_each t es now) | Err r ↦ after_each t es st ]

  abbrev refusals : List Event → State → Bool
  refusals [] st = true
  refusals (e ∷ es) st = same_refusal (result_err (next h e st)) (refusal h st e) && elim (next h e st) [ Ok now ↦ refusals es now | Err r ↦ refusals es st ]

-- a test of the service of the schema, on a run
abbrev holds : (Service → List Event → State → Bool) → List Event → Option Bool
holds f es = elim (schema_of_text net) [ Ok n ↦ Some (f (service n) es (beginning 0 100 (length n.tables))) | Err e ↦ None ]

abbrev run_change : List Event
run_change =
    (opened 0) ∷
    (opened 1) ∷
    (sub 0 0 ((quoted (codes "{'method':'monitor_cond','params':['net','m',{'Bridge':[{'columns':['name']}]}],'id':1}")))) ∷
    (turn 0) ∷
    (sub 1 1 ((quoted (codes "{'method':'transact','params':['net',{'op':'insert','table':'Bridge','row':{'name':'a'}}],'id':1}")))) ∷
    (turn 0) ∷
    (sub 0 2 ((quoted (codes "{'method':'transact','params':['net',{'op':'insert','table':'Bridge','row':{'name':'b'}}],'id':2}")))) ∷
    (sub 0 0 ((quoted (codes "{'method':'monitor_cond_change','params':['m','n',{'Bridge':[{'where':[['name','==','c']]}]}],'id':3}")))) ∷
    (sub 1 3 ((quoted (codes "{'method':'transact','params':['net',{'op':'insert','table':'Bridge','row':{'name':'c'}}],'id':2}")))) ∷
    (turn 0) ∷
    (turn 0) ∷
    (turn 0) ∷
    (sub 1 4 ((quoted (codes "{'method':'transact','params':['net',{'op':'insert','table':'Bridge','row':{'name':'d'}}],'id':3}")))) ∷
    (turn 0) ∷
    (sub 1 0 ((quoted (codes "{'method':'transact','params':['net',{'op':'update','table':'Bridge','where':[['name','==','d']],'row':{'name':'c2'}}],'id':4}")))) ∷
    (sub 0 0 ((quoted (codes "{'method':'monitor_cond_change','params':['n','n',{'Bridge':[{'where':[]}]}],'id':4}")))) ∷
    (turn 0) ∷
    (turn 0) ∷
    (turn 0) ∷
    []

abbrev run_two_changes : List Event
run_two_changes =
    (opened 0) ∷
    (opened 1) ∷
    (sub 1 1 ((quoted (codes "{'method':'transact','params':['net',{'op':'insert','table':'Bridge','row':{'name':'a'}}],'id':1}")))) ∷
    (sub 0 0 ((quoted (codes "{'method':'monitor_cond','params':['net','m',{'Bridge':[{'columns':['name']}]}],'id':1}")))) ∷
    (turn 0) ∷
    (sub 0 0 ((quoted (codes "{'method':'monitor_cond','params':['net','m',{'Bridge':[{'columns':['ports']}]}],'id':9}")))) ∷
    (turn 0) ∷
    (sub 0 0 ((quoted (codes "{'method':'monitor_cond_change','params':['m','k',{'Bridge':[{'where':[false]}]}],'id':2}")))) ∷
    (sub 1 2 ((quoted (codes "{'method':'transact','params':['net',{'op':'insert','table':'Bridge','row':{'name':'b'}}],'id':2}")))) ∷
    (sub 0 0 ((quoted (codes "{'method':'monitor_cond_change','params':['k','l',{'Bridge':[{'where':[true]}]}],'id':3}")))) ∷
    (turn 0) ∷
    (sub 1 3 ((quoted (codes "{'method':'transact','params':['net',{'op':'insert','table':'Bridge','row':{'name':'c'}}],'id':3}")))) ∷
    (turn 0) ∷
    (turn 0) ∷
    (sub 1 4 ((quoted (codes "{'method':'transact','params':['net',{'op':'insert','table':'Bridge','row':{'name':'d'}}],'id':4}")))) ∷
    (turn 0) ∷
    (turn 0) ∷
    []

abbrev run_cancel : List Event
run_cancel =
    (opened 0) ∷
    (opened 1) ∷
    (sub 0 0 ((quoted (codes "{'method':'monitor_cond','params':['net','m',{'Bridge':[{'columns':['name']}]}],'id':1}")))) ∷
    (turn 0) ∷
    (sub 1 1 ((quoted (codes "{'method':'transact','params':['net',{'op':'insert','table':'Bridge','row':{'name':'a'}}],'id':1}")))) ∷
    (sub 0 0 ((quoted (codes "{'method':'monitor_cancel','params':['m'],'id':2}")))) ∷
    (sub 0 0 ((quoted (codes "{'method':'monitor_cond','params':['net','m',{'Bridge':[{'columns':['name']}]}],'id':3}")))) ∷
    (sub 1 2 ((quoted (codes "{'method':'transact','params':['net',{'op':'insert','table':'Bridge','row':{'name':'b'}}],'id':2}")))) ∷
    (turn 0) ∷
    (sub 1 3 ((quoted (codes "{'method':'transact','params':['net',{'op':'insert','table':'Bridge','row':{'name':'c'}}],'id':3}")))) ∷
    (turn 0) ∷
    (turn 0) ∷
    (sub 1 4 ((quoted (codes "{'method':'transact','params':['net',{'op':'insert','table':'Bridge','row':{'name':'d'}}],'id':4}")))) ∷
    (sub 0 0 ((quoted (codes "{'method':'monitor_cancel','params':['m'],'id':4}")))) ∷
    (turn 0) ∷
    (turn 0) ∷
    []

abbrev run_own : List Event
run_own =
    (opened 0) ∷
    (opened 1) ∷
    (sub 0 0 ((quoted (codes "{'method':'monitor_cond','params':['net','m',{'Bridge':[{'columns':['name']}]}],'id':1}")))) ∷
    (sub 0 0 ((quoted (codes "{'method':'monitor','params':['net','n',{'Bridge':{'columns':['name']}}],'id':2}")))) ∷
    (round (0 ∷ 1 ∷ 0 ∷ [])) ∷
    (turn 0) ∷
    (sub 0 1 ((quoted (codes "{'method':'transact','params':['net',{'op':'insert','table':'Bridge','row':{'name':'a'}}],'id':3}")))) ∷
    (sub 1 2 ((quoted (codes "{'method':'transact','params':['net',{'op':'insert','table':'Bridge','row':{'name':'b'}}],'id':1}")))) ∷
    (turn 0) ∷
    (turn 0) ∷
    (sub 1 3 ((quoted (codes "{'method':'transact','params':['net',{'op':'insert','table':'Bridge','row':{'name':'c'}}],'id':2}")))) ∷
    (turn 0) ∷
    (turn 0) ∷
    (turn 0) ∷
    (turn 1) ∷
    (turn 1) ∷
    (sub 0 0 ((quoted (codes "{'method':'transact','params':['net',{'op':'update','table':'Bridge','where':[['name','==','a']],'row':{'name':'e'}}],'id':20}")))) ∷
    (sub 0 0 ((quoted (codes "{'method':'transact','params':['net',{'op':'update','table':'Bridge','where':[['name','==','e']],'row':{'name':'f'}}],'id':21}")))) ∷
    (turn 0) ∷
    (turn 0) ∷
    (turn 0) ∷
    (turn 0) ∷
    (turn 0) ∷
    []

abbrev run_waiting : List Event
run_waiting =
    (opened 0) ∷
    (opened 1) ∷
    (sub 0 0 ((quoted (codes "{'method':'transact','params':['net',{'op':'wait','table':'Bridge','where':[['name','==','a']],'columns':['name'],'until':'==','rows':[{'name':'a'}]}],'id':1}")))) ∷
    (sub 0 0 ((quoted (codes "{'method':'transact','params':['net',{'op':'wait','table':'Bridge','where':[['name','==','b']],'columns':['name'],'until':'==','rows':[{'name':'b'}],'timeout':50}],'id':2}")))) ∷
    (sub 1 0 ((quoted (codes "{'method':'transact','params':['net',{'op':'wait','table':'Bridge','where':[['name','==','b']],'columns':['name'],'until':'==','rows':[{'name':'b'}]}],'id':1}")))) ∷
    (sub 1 1 ((quoted (codes "{'method':'transact','params':['net',{'op':'insert','table':'Bridge','row':{'name':'a'}}],'id':2}")))) ∷
    (turn 0) ∷
    (turn 0) ∷
    (sub 1 2 ((quoted (codes "{'method':'transact','params':['net',{'op':'insert','table':'Bridge','row':{'name':'b'}}],'id':3}")))) ∷
    (ticked 60) ∷
    (turn 0) ∷
    (turn 0) ∷
    (turn 1) ∷
    (turn 1) ∷
    (turn 1) ∷
    (sub 0 0 ((quoted (codes "{'method':'transact','params':['net',{'op':'wait','table':'Bridge','where':[['name','==','z']],'columns':['name'],'until':'==','rows':[{'name':'z'}],'timeout':10}],'id':3}")))) ∷
    (ticked 70) ∷
    (turn 0) ∷
    (sub 0 0 ((quoted (codes "{'method':'transact','params':['net',{'op':'wait','table':'Bridge','where':[['name','==','y']],'columns':['name'],'until':'==','rows':[{'name':'y'}]}],'id':4}")))) ∷
    (sub 1 0 ((quoted (codes "{'method':'cancel','params':[4],'id':null}")))) ∷
    (sub 0 0 ((quoted (codes "{'method':'cancel','params':[4],'id':null}")))) ∷
    (turn 0) ∷
    []

abbrev run_reopened : List Event
run_reopened =
    (opened 0) ∷
    (opened 1) ∷
    (sub 0 0 ((quoted (codes "{'method':'echo','params':[1],'id':1}")))) ∷
    (turn 0) ∷
    (sub 0 0 ((quoted (codes "{'method':'echo','params':[2],'id':2}")))) ∷
    (sub 0 0 ((quoted (codes "{'method':'monitor_cond','params':['net','m',{'Bridge':[{'columns':['name']}]}],'id':3}")))) ∷
    (sub 0 0 ((quoted (codes "{'method':'transact','params':['net',{'op':'wait','table':'Bridge','where':[['name','==','a']],'columns':['name'],'until':'==','rows':[{'name':'a'}]}],'id':4}")))) ∷
    (closed 0) ∷
    (round (0 ∷ [])) ∷
    (opened 0) ∷
    (sub 0 0 ((quoted (codes "{'method':'monitor_cond','params':['net','m',{'Bridge':[{'columns':['name']}]}],'id':1}")))) ∷
    (sub 1 1 ((quoted (codes "{'method':'transact','params':['net',{'op':'insert','table':'Bridge','row':{'name':'a'}}],'id':1}")))) ∷
    (turn 0) ∷
    (turn 0) ∷
    (sub 0 0 ((quoted (codes "{'method':'echo','params':[1],'id':1}")))) ∷
    (turn 0) ∷
    (turn 0) ∷
    (closed 1) ∷
    (closed 1) ∷
    (sub 1 0 ((quoted (codes "{'method':'echo','params':[],'id':9}")))) ∷
    (opened 0) ∷
    []

abbrev run_answers : List Event
run_answers =
    (opened 0) ∷
    (opened 1) ∷
    (sub 0 0 ((quoted (codes "{'method':'lock','params':['L'],'id':1}")))) ∷
    (sub 1 0 ((quoted (codes "{'method':'steal','params':['L'],'id':1}")))) ∷
    (sub 0 0 ((quoted (codes "{'method':'zzz','params':5,'id':2}")))) ∷
    (sub 0 0 ((quoted (codes "{'method':'list_dbs','params':[],'id':3}")))) ∷
    (sub 0 0 ((quoted (codes "{'method':'get_schema','params':['net'],'id':4}")))) ∷
    (sub 0 0 ((quoted (codes "{'method':'echo','params':[1.5],'id':5}")))) ∷
    (sub 0 0 ((quoted (codes "{'method':'echo','params':[],'id':1.5}")))) ∷
    (sub 0 0 ((quoted (codes "{'method':'echo','params':[],'id':null}")))) ∷
    (sub 0 0 ((quoted (codes "{'method':'unlock','params':['L'],'id':6}")))) ∷
    (sub 0 0 ((quoted (codes "{'method':'monitor_cond','params':['net','m',{'Bridge':[{'columns':['zzz']}]}],'id':7}")))) ∷
    (sub 0 0 ((quoted (codes "{'method':'monitor_cancel','params':['m'],'id':8}")))) ∷
    (sub 0 0 ((quoted (codes "{'method':'monitor_cond_change','params':['m','m',{'Bridge':[{'where':[]}]}],'id':9}")))) ∷
    (round (0 ∷ 0 ∷ 1 ∷ [])) ∷
    (turn 0) ∷
    (turn 0) ∷
    (turn 0) ∷
    (turn 0) ∷
    (turn 0) ∷
    (turn 0) ∷
    (turn 0) ∷
    (turn 0) ∷
    (turn 0) ∷
    (turn 0) ∷
    (turn 0) ∷
    (turn 0) ∷
    (closed 0) ∷
    []

abbrev run_one_id : List Event
run_one_id =
    (opened 0) ∷
    (opened 1) ∷
    (sub 0 0 ((quoted (codes "{'method':'monitor_cond','params':['net','m',{'Bridge':[{'columns':['name']}]}],'id':1}")))) ∷
    (turn 0) ∷
    (sub 0 0 ((quoted (codes "{'method':'monitor_cond','params':['net','m',{'Bridge':[{'columns':['name']}]}],'id':2}")))) ∷
    (sub 1 1 ((quoted (codes "{'method':'transact','params':['net',{'op':'insert','table':'Bridge','row':{'name':'a'}}],'id':1}")))) ∷
    (turn 0) ∷
    (turn 0) ∷
    (turn 0) ∷
    (sub 0 0 ((quoted (codes "{'method':'monitor_cond','params':['net','n',{'Bridge':[{'columns':['name']}]}],'id':3}")))) ∷
    (sub 0 0 ((quoted (codes "{'method':'monitor_cond_change','params':['n','m',{'Bridge':[{'where':[]}]}],'id':4}")))) ∷
    (sub 1 2 ((quoted (codes "{'method':'transact','params':['net',{'op':'insert','table':'Bridge','row':{'name':'b'}}],'id':2}")))) ∷
    (turn 0) ∷
    (turn 0) ∷
    (turn 0) ∷
    (turn 0) ∷
    (turn 0) ∷
    []

-- a client that comes back, with a commit between its request and its taking
abbrev run_resumed : List Event
run_resumed =
    (opened 0) ∷
    (opened 1) ∷
    (sub 1 1 ((quoted (codes "{'method':'transact','params':['net',{'op':'insert','table':'Bridge','row':{'name':'a'}}],'id':1}")))) ∷
    (sub 1 2 ((quoted (codes "{'method':'transact','params':['net',{'op':'insert','table':'Bridge','row':{'name':'b'}}],'id':2}")))) ∷
    (sub 0 0 ((quoted (codes "{'method':'monitor_cond_since','params':['net','m',{'Bridge':[{'columns':['name']}]},'00000000-0000-0000-0000-000000000001'],'id':1}")))) ∷
    (sub 0 0 ((quoted (codes "{'method':'monitor_cond_since','params':['net','n',{'Bridge':[{'columns':['name']}]},'00000000-0000-0000-0000-000000000000'],'id':2}")))) ∷
    (sub 1 0 ((quoted (codes "{'method':'transact','params':['net',{'op':'update','table':'Bridge','where':[['name','==','a']],'row':{'name':'c'}}],'id':3}")))) ∷
    (turn 0) ∷
    (turn 0) ∷
    (sub 1 0 ((quoted (codes "{'method':'transact','params':['net',{'op':'delete','table':'Bridge','where':[['name','==','b']]}],'id':4}")))) ∷
    (sub 0 0 ((quoted (codes "{'method':'monitor_cond_change','params':['m','k',{'Bridge':[{'where':[['name','==','a']]}]}],'id':3}")))) ∷
    (turn 0) ∷
    (turn 0) ∷
    (sub 0 0 ((quoted (codes "{'method':'monitor_cancel','params':['n'],'id':4}")))) ∷
    (turn 0) ∷
    (turn 0) ∷
    []

-- all of them, after each event of a run
abbrev all_hold : Service → List Event → State → Bool
all_hold h es st =
    (after_each h (now_at h (brought h))) es st
    && (after_each h (now_at h (known h))) es st
    && (after_each h (now_at h (minimal h))) es st
    && (after_each h (now_at h (dropped h))) es st
    && (after_each h (now_at h (changed h))) es st
    && (after_each h (now_at h (dries h))) es st
    && (after_each h (now_at h (one_turn h))) es st
    && (after_each h (now_at h (many_turns h))) es st
    && (after_each h (now_at h (answered h))) es st
    && (after_each h (now_at h (counted h))) es st
    && (after_each h (now_at h (waited h))) es st
    && (after_each h (at_both h (brings h))) es st
    && (after_each h (at_both h (granted h))) es st
    && (after_each h (committed h)) es st
    && (after_each h (told_before h)) es st
    && (after_each h (replied_at_once h)) es st
    && (after_each h (at_both h (keeps_order h))) es st
    && (after_each h ((λ st e now. sessions_stay h st e now 0 && sessions_stay h st e now 1))) es st
    && (refusals h) es st

pub change_holds : holds all_hold run_change ≡ Some true
unfolding shows
change_holds = refl

pub two_changes_holds : holds all_hold run_two_changes ≡ Some true
unfolding shows
two_changes_holds = refl

pub cancel_holds : holds all_hold run_cancel ≡ Some true
unfolding shows
cancel_holds = refl

pub own_holds : holds all_hold run_own ≡ Some true
unfolding shows
own_holds = refl

pub waiting_holds : holds all_hold run_waiting ≡ Some true
unfolding shows
waiting_holds = refl

pub reopened_holds : holds all_hold run_reopened ≡ Some true
unfolding shows
reopened_holds = refl

pub answers_holds : holds all_hold run_answers ≡ Some true
unfolding shows
answers_holds = refl

pub one_id_holds : holds all_hold run_one_id ≡ Some true
unfolding shows
one_id_holds = refl

pub resumed_holds : holds all_hold run_resumed ≡ Some true
unfolding shows
resumed_holds = refl

-- ---- wrong machines: what they would owe right after a request

-- the state in which a request of session 0 was taken in, and this is queued for it
abbrev with_queue : Data → List Item → Session → State → State
with_queue d q x st = record {
  world = record (st.world) { sessions = insert st.world.sessions 0 (record { queue = q; monitors = x.monitors }) };
  given = st.given;
  requests = λ s. if s == 0 then st.requests s ++ d ∷ [] else st.requests s;
}

-- a test of session 0 in this state
abbrev queued_after : (Service → State → ℕ → Session → Bool) → List Event → Data → List Item → Option Bool
queued_after f es d q = elim (schema_of_text net) [
  | Ok n ↦ elim (run (service n) es (beginning 0 100 (length n.tables))) [
    | Ok st ↦ elim (get st.world.sessions 0) [
      | Some x ↦ Some (f (service n) (with_queue d q x st) 0 (record { queue = q; monitors = x.monitors }))
      | None ↦ None
    ]
    | Err e ↦ None
  ]
  | Err e ↦ None
]

-- what was said of the state after each event before
abbrev said_before : Service → State → ℕ → Session → Bool
said_before h st s x = brought h st s x && minimal h st s x && dropped h st s x && changed h st s x && dries h st s x && one_turn h st s x && answered h st s x && counted h st s x

-- the last that session 0 was given is an update of its monitor, and then the database changed
abbrev run_told : List Event
run_told =
    (opened 0) ∷
    (opened 1) ∷
    (sub 0 0 ((quoted (codes "{'method':'monitor_cond','params':['net','m',{'Bridge':[{'columns':['name']}]}],'id':1}")))) ∷
    (turn 0) ∷
    (sub 1 1 ((quoted (codes "{'method':'transact','params':['net',{'op':'insert','table':'Bridge','row':{'name':'a'}}],'id':1}")))) ∷
    (turn 0) ∷
    (sub 1 2 ((quoted (codes "{'method':'transact','params':['net',{'op':'insert','table':'Bridge','row':{'name':'b'}}],'id':2}")))) ∷
    []

abbrev named_m : Data
named_m = string (codes "m")

abbrev named_n : Data
named_n = string (codes "n")

abbrev a_cancel : Data
a_cancel = first_message (quoted (codes "{'method':'monitor_cancel','params':['m'],'id':2}"))

abbrev a_change : Data
a_change = first_message (quoted (codes "{'method':'monitor_cond_change','params':['m','n',{}],'id':2}"))

pub right_cancel : queued_after (λ h st s x. said_before h st s x && replied h a_cancel st s x) run_told a_cancel (sync named_m ∷ stopped a_cancel named_m ∷ []) ≡ Some true
unfolding shows
right_cancel = refl

pub cancel_without_its_difference_was_let_through : queued_after said_before run_told a_cancel (stopped a_cancel named_m ∷ []) ≡ Some true
unfolding shows
cancel_without_its_difference_was_let_through = refl

pub cancel_without_its_difference : queued_after (λ h st s x. replied h a_cancel st s x) run_told a_cancel (stopped a_cancel named_m ∷ []) ≡ Some false
unfolding shows
cancel_without_its_difference = refl

pub right_change : queued_after (λ h st s x. said_before h st s x && replied h a_change st s x) run_told a_change (shift named_m [] ∷ renamed a_change named_m named_n [] ∷ []) ≡ Some true
unfolding shows
right_change = refl

pub change_before_its_difference_was_let_through : queued_after said_before run_told a_change (renamed a_change named_m named_n [] ∷ shift named_n [] ∷ []) ≡ Some true
unfolding shows
change_before_its_difference_was_let_through = refl

pub change_before_its_difference : queued_after (λ h st s x. replied h a_change st s x) run_told a_change (renamed a_change named_m named_n [] ∷ shift named_n [] ∷ []) ≡ Some false
unfolding shows
change_before_its_difference = refl

abbrev run_echo : List Event
run_echo = (opened 0) ∷ (sub 0 0 ((quoted (codes "{'method':'echo','params':[],'id':1}")))) ∷ []

abbrev first_echo : Data
first_echo = first_message (quoted (codes "{'method':'echo','params':[],'id':1}"))

abbrev an_echo : Data
an_echo = first_message (quoted (codes "{'method':'echo','params':[],'id':2}"))

abbrev echoed : ℕ → Data → Item
echoed id d = say (to d) (reply (number (unsigned id)) (array no_items))

pub right_echo : queued_after (λ h st s x. said_before h st s x && replied h an_echo st s x) run_echo an_echo (echoed 1 first_echo ∷ echoed 2 an_echo ∷ []) ≡ Some true
unfolding shows
right_echo = refl

pub echo_that_overtakes_was_let_through : queued_after said_before run_echo an_echo (echoed 2 an_echo ∷ echoed 1 first_echo ∷ []) ≡ Some true
unfolding shows
echo_that_overtakes_was_let_through = refl

pub echo_that_overtakes : queued_after (λ h st s x. replied h an_echo st s x) run_echo an_echo (echoed 2 an_echo ∷ echoed 1 first_echo ∷ []) ≡ Some false
unfolding shows
echo_that_overtakes = refl

-- a moment in which the replies that are queued change places
abbrev reordered : Service → State → Data → List Item → Bool
reordered h st d q = elim (get st.world.sessions 0) [
  | None ↦ false
  | Some x ↦ keeps_order h st (ticked 0) (with_queue d q x st) 0 (record { queue = q; monitors = x.monitors })
]

abbrev run_two_echoes : List Event
run_two_echoes = (opened 0) ∷ (sub 0 0 ((quoted (codes "{'method':'echo','params':[],'id':1}")))) ∷ (sub 0 0 ((quoted (codes "{'method':'echo','params':[],'id':2}")))) ∷ []

abbrev after_two_echoes : List Item → Option Bool
after_two_echoes q = elim (schema_of_text net) [
  | Ok s ↦ elim (run (service s) run_two_echoes (beginning 0 100 (length s.tables))) [ Ok st ↦ Some (reordered (service s) st an_echo q) | Err e ↦ None ]
  | Err e ↦ None
]

pub queue_that_stays : after_two_echoes (echoed 1 first_echo ∷ echoed 2 an_echo ∷ []) ≡ Some true
unfolding shows
queue_that_stays = refl

pub queue_that_grows : after_two_echoes (echoed 1 first_echo ∷ echoed 2 an_echo ∷ echoed 3 an_echo ∷ []) ≡ Some true
unfolding shows
queue_that_grows = refl

pub queue_that_changes_places : after_two_echoes (echoed 2 an_echo ∷ echoed 1 first_echo ∷ []) ≡ Some false
unfolding shows
queue_that_changes_places = refl

pub queue_that_loses_a_reply : after_two_echoes (echoed 2 an_echo ∷ []) ≡ Some false
unfolding shows
queue_that_loses_a_reply = refl

-- ---- kinds of change that are switched off

abbrev run_off : List Event
run_off =
    (opened 0) ∷
    (opened 1) ∷
    (sub 0 0 ((quoted (codes "{'method':'monitor_cond','params':['net','m',{'Bridge':{'columns':['name'],'select':{'insert':false}}}],'id':1}")))) ∷
    (turn 0) ∷
    (sub 1 1 ((quoted (codes "{'method':'transact','params':['net',{'op':'insert','table':'Bridge','row':{'name':'a'}}],'id':1}")))) ∷
    []

abbrev run_modified : List Event
run_modified =
    run_off
    ++ (turn 0) ∷
    (sub 1 0 ((quoted (codes "{'method':'transact','params':['net',{'op':'update','table':'Bridge','where':[['name','==','a']],'row':{'name':'b'}}],'id':2}")))) ∷
    []

-- a test of session 0 after a run
abbrev of_session : (Service → State → Session → Bool) → List Event → Option Bool
of_session f es = elim (schema_of_text net) [
  | Ok s ↦ elim (run (service s) es (beginning 0 100 (length s.tables))) [
    | Ok st ↦ elim (get st.world.sessions 0) [ Some x ↦ Some (f (service s) st x) | None ↦ None ]
    | Err e ↦ None
  ]
  | Err e ↦ None
]

-- what a machine says that the session comes to, when nothing more is owed, against the same with all kinds on
abbrev comes_to : Service → State → Session → Session → Bool
comes_to h st x y = pointwise (λ (k l : Monitor). is_none (delta k.view l.view)) y.monitors (drained h st.world.db (full x)).monitors

-- what a machine says that the monitors of a session owe, against what they owe with all kinds on, without those that are off
abbrev owes_cut : Service → State → Session → List Out → Bool
owes_cut h st x os = same_outs h os (filter_map (λ k. told_of h (revision_of st.world) k.watch k.watch.requests (shown false k.watch.requests (delta k.view (query st.world.db (all_kinds k.watch.requests))))) x.monitors)

-- the state in which session 0 is this one
abbrev with_session : Session → State → State
with_session x st = record { world = record (st.world) { sessions = insert st.world.sessions 0 x }; given = st.given; requests = st.requests }

pub insert_that_is_off_counts_as_told : of_session (λ h st x. said_before h st 0 x && comes_to h st x (drained h st.world.db x)) run_off ≡ Some true
unfolding shows
insert_that_is_off_counts_as_told = refl

pub view_that_stays_was_let_through : of_session (λ h st x. said_before h (with_session x st) 0 x) run_off ≡ Some true
unfolding shows
view_that_stays_was_let_through = refl

pub view_that_stays : of_session (λ h st x. comes_to h st x x) run_off ≡ Some false
unfolding shows
view_that_stays = refl

pub modify_that_is_on_is_sent : of_session (λ h st x. said_before h st 0 x && owes_cut h st x (owed h (revision_of st.world) x)) run_modified ≡ Some true
unfolding shows
modify_that_is_on_is_sent = refl

pub silence_was_let_through : of_session (λ h st x. said_before h (with_session (drained h st.world.db x) st) 0 (drained h st.world.db x)) run_modified ≡ Some true
unfolding shows
silence_was_let_through = refl

pub silence : of_session (λ h st x. owes_cut h st x []) run_modified ≡ Some false
unfolding shows
silence = refl
