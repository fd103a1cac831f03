-- The text that comes out of the queue with a plan is the one that the plan says.
use Rattle.std.proofs.Common.{◌≡◌, ℕ, zero, suc, Bool, true, false, cond, List, [], ◌∷◌, Option, Some, None, refl, sym, ◌∙◌}
use Rattle.std.specs.Prelude.{find, option_and_then, None, Option, Some}
use Rattle.odb_monitor.specs.View.{is_none}
use Rattle.odb_request.specs.Request.{Request}
use Rattle.odb_service.specs.Service.{Service}
use Rattle.odb_service.specs.Session.{Item, Monitor, Session, has_id, leaves, refilter, renamed, say, shift, start, stopped, sync}
use Rattle.odb_sessions.specs.Carried.{finished_in, last_finished}
use Rattle.odb_round.specs.Planned.{Due, Plan, change_to, due, from_item, from_monitor, plan, plan_from, plan_monitors, update_due, update_of, first_due, grant_due, text_due}
use Rattle.odb_tables.specs.Database.{Db}
use Rattle.odb_sessions.specs.Represented.Origin.{granted}

-- what is due is such a text
abbrev pub finished_due : Due → Option Item
finished_due (text_due a d) = Some (say a d)
finished_due (first_due d k) = None
finished_due (update_due m qs) = None
finished_due (grant_due d) = Some (granted d)

abbrev said_with : Plan → Option Item
said_with p = option_and_then finished_due p.out

module _ (h : Service) (db : Db) where
  -- an update isn't queued
  none_with : (qs : List Request) (m : Monitor) → option_and_then finished_due (update_of h db qs m) ≡ None
  none_with qs m = by (is_none (change_to h db qs m))
    where
      by : (b : Bool) → option_and_then finished_due (let o : Option Due = cond b None (Some (update_due m qs)) in o) ≡ None
      by true = refl
      by false = refl

  none_found : (f : Monitor → List Request) (o : Option Monitor) → option_and_then finished_due (option_and_then (λ m. update_of h db (f m) m) o) ≡ None
  none_found f None = refl
  none_found f (Some m) = none_with (f m) m

  due_finished : (i : Item) (ms : List Monitor) → finished_in i ≡ option_and_then finished_due (due h db i ms)
  due_finished (say a d) ms = refl
  due_finished (start d k) ms = refl
  due_finished (sync i) ms = sym (none_found (λ m. m.watch.requests) (find (has_id h i) ms))
  due_finished (shift i fs) ms = sym (none_found (λ m. refilter fs m.watch.requests) (find (has_id h i) ms))
  due_finished (renamed d old new fs) ms = refl
  due_finished (stopped d i) ms = refl

  rest_finished : (ms : List Monitor) → (last_finished (plan_monitors h db ms).items [] ≡ said_with (plan_monitors h db ms)) × ((plan_monitors h db ms).items ≡ 0)
  rest_finished [] = (refl, refl)
  rest_finished (m ∷ ms) = by (update_of h db m.watch.requests m) (none_with m.watch.requests m) (rest_finished ms)
    where
      by : (o : Option Due) → option_and_then finished_due o ≡ None → (last_finished (plan_monitors h db ms).items [] ≡ said_with (plan_monitors h db ms)) × ((plan_monitors h db ms).items ≡ 0)
          → (last_finished (from_monitor o (plan_monitors h db ms)).items [] ≡ said_with (from_monitor o (plan_monitors h db ms))) × ((from_monitor o (plan_monitors h db ms)).items ≡ 0)
      by None none rest = rest
      by (Some d) none rest = (sym none, refl)

  -- an item that gives nothing has no text
  past_one : (i : Item) (is : List Item) (n : ℕ) → finished_in i ≡ None → last_finished (suc n) (i ∷ is) ≡ last_finished n is
  past_one i is zero none = none
  past_one i is (suc n) none = refl

  finished_from : (is : List Item) (ms : List Monitor) → last_finished (plan_from h db is ms).items is ≡ said_with (plan_from h db is ms)
  finished_from [] ms = (rest_finished ms).0
  finished_from (i ∷ is) ms = by (due h db i ms) (due_finished i ms) (finished_from is (leaves h db i ms))
    where
      p : Plan
      p = plan_from h db is (leaves h db i ms)

      by : (o : Option Due) → finished_in i ≡ option_and_then finished_due o → last_finished p.items is ≡ said_with p → last_finished (from_item o p).items (i ∷ is) ≡ said_with (from_item o p)
      by None own rest = past_one i is p.items own ∙ rest
      by (Some d) own rest = own

  pub planned_text : (x : Session) → last_finished (plan h db x).items x.queue ≡ option_and_then finished_due (plan h db x).out
  planned_text x = finished_from x.queue x.monitors
