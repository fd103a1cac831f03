-- A taking as a plan: what comes out before a text is made of it, and what a session then has used up. Plans only read; they are carried out afterwards. [P 10.1, 10.3]
use Rattle.std.specs.Prelude.{◌≡◌, ℕ, suc, ◌==◌, Bool, false, if◌then◌else◌, List, [], ◌∷◌, ◌++◌, find, flat_map, fold, Option, Some, None, option_and_then, option_map, option_to_list}
use Rattle.std.specs.List.{list_any}
use Rattle.std.specs.Ordering.{nat_cmp}
use Rattle.odb_atoms.specs.FinMap.{FinMap, get}
use Rattle.odb_monitor.specs.Update.{table_updates}
use Rattle.odb_monitor.specs.View.{Delta, delta, is_none, query, shown}
use Rattle.odb_request.specs.Request.{Request}
use Rattle.odb_schema.specs.Json.{Data}
use Rattle.odb_service.specs.Run.{Sent, sent}
use Rattle.odb_service.specs.Service.{Service}
use Rattle.odb_service.specs.Session.{Answers, Item, Monitor, Out, Revision, Session, Watch, first_out, granted, has_id, leaves, no_request, notified, refilter, renamed, say, shapes, shift, start, stopped, sync}
use Rattle.odb_sessions.specs.Posts.{at_number}
use Rattle.odb_tables.specs.Database.{Db}
use Rattle.odb_sessions.specs.Carried.{used_up}

-- what is due to a client: a finished text; the first reply of a monitor; what leads a monitor to what these requests select; the reply to a change of filters or a cancel
pub data Due : Type 0 where
  text_due : Answers → Data → Due
  first_due : Data → Watch → Due
  update_due : Monitor → List Request → Due
  grant_due : Data → Due

-- how many items of the queue a taking uses up, how many monitors it then brings to now, and what comes out
pub record Plan : Type 0 where
  pub items : ℕ
  pub monitors : ℕ
  pub out : Option Due

-- what is due ends the plan; else one item more is used up, and the rest follows
abbrev pub from_item : Option Due → Plan → Plan
from_item None rest = record { items = suc rest.items; monitors = rest.monitors; out = rest.out }
from_item (Some d) rest = record { items = 1; monitors = 0; out = Some d }

-- the same of a monitor that is brought to now
abbrev pub from_monitor : Option Due → Plan → Plan
from_monitor None rest = record { items = rest.items; monitors = suc rest.monitors; out = rest.out }
from_monitor (Some d) rest = record { items = 0; monitors = 1; out = Some d }

-- no session is listed twice
abbrev pub is_listed : ℕ → List ℕ → Bool
is_listed s ss = list_any (λ t. t == s) ss

abbrev pub AreOnce : List ℕ → Type 0
AreOnce [] = Unit {0}
AreOnce (s ∷ ss) = (is_listed s ss ≡ false) × AreOnce ss

module _ (h : Service) where
  -- ---- what is due

  abbrev pub change_to : Db → List Request → Monitor → Delta
  change_to db qs m = shown false qs (delta m.view (query db qs))

  abbrev pub update_out : Revision → List Request → Monitor → Out
  update_out revision qs m = record { answers = no_request; message = notified h revision m.watch (table_updates m.watch.notation false (shapes qs) (change_to revision.db qs m)); held = None }

  abbrev pub out_of : Revision → Due → Out
  out_of revision (text_due a d) = record { answers = a; message = d; held = None }
  out_of revision (first_due d k) = first_out h revision d k
  out_of revision (update_due m qs) = update_out revision qs m
  out_of revision (grant_due d) = granted h d

  -- an update, if anything of it is shown
  abbrev pub update_of : Db → List Request → Monitor → Option Due
  update_of db qs m = if is_none (change_to db qs m) then None else Some (update_due m qs)

  abbrev pub due : Db → Item → List Monitor → Option Due
  due db (say a d) ms = Some (text_due a d)
  due db (start d k) ms = Some (first_due d k)
  due db (sync i) ms = option_and_then (λ m. update_of db m.watch.requests m) (find (has_id h i) ms)
  due db (shift i fs) ms = option_and_then (λ m. update_of db (refilter fs m.watch.requests) m) (find (has_id h i) ms)
  due db (renamed d old new fs) ms = Some (grant_due d)
  due db (stopped d i) ms = Some (grant_due d)

  -- ---- the plan of one taking

  abbrev pub plan_monitors : Db → List Monitor → Plan
  plan_monitors db [] = record { items = 0; monitors = 0; out = None }
  plan_monitors db (m ∷ ms) = from_monitor (update_of db m.watch.requests m) (plan_monitors db ms)

  abbrev pub plan_from : Db → List Item → List Monitor → Plan
  plan_from db [] ms = plan_monitors db ms
  plan_from db (i ∷ is) ms = from_item (due db i ms) (plan_from db is (leaves h db i ms))

  abbrev pub plan : Db → Session → Plan
  plan db x = plan_from db x.queue x.monitors

  -- all that is due until nothing is left
  abbrev pub dues_from : Db → List Item → List Monitor → List Due
  dues_from db [] ms = flat_map (λ m. option_to_list (update_of db m.watch.requests m)) ms
  dues_from db (i ∷ is) ms = option_to_list (due db i ms) ++ dues_from db is (leaves h db i ms)

  abbrev pub dues : Db → Session → List Due
  dues db x = dues_from db x.queue x.monitors

  abbrev pub applied : Db → Plan → Session → Session
  applied db p x = used_up h db p.items p.monitors x.queue x.monitors

  -- ---- a round: each listed session that is open has its plan, and all are read before one is carried out

  abbrev pub plan_at : Db → ℕ → Option Session → List (ℕ × Plan)
  plan_at db s None = []
  plan_at db s (Some x) = (s, plan db x) ∷ []

  abbrev pub plans : Db → FinMap nat_cmp Session → List ℕ → List (ℕ × Plan)
  plans db m ss = flat_map (λ s. plan_at db s (get m s)) ss

  abbrev pub planned_out : Revision → ℕ × Plan → List Sent
  planned_out revision p = sent p.0 (option_map (out_of revision) p.1.out)

  abbrev pub planned_outs : Revision → List (ℕ × Plan) → List Sent
  planned_outs revision ps = flat_map (planned_out revision) ps

  abbrev pub applied_at : Db → FinMap nat_cmp Session → ℕ × Plan → FinMap nat_cmp Session
  applied_at db m p = at_number (applied db p.1) m p.0

  abbrev pub all_applied : Db → FinMap nat_cmp Session → List (ℕ × Plan) → FinMap nat_cmp Session
  all_applied db = fold (applied_at db)
