-- Where the reply to a change or a cancel comes next, the message before it was the monitor's update.
use Rattle.std.proofs.Common.{◌≡◌, ℕ, Bool, true, false, cond, List, [], ◌∷◌, ◌++◌, Option, Some, None, refl, sym, ap, subst, is_some, true≢false}
use Rattle.std.specs.Prelude.{bytes_eq, option_and_then, option_to_list, find}
use Rattle.serde_json.specs.Data.{Data}
use Rattle.odb_cond.specs.Filter.{Filter}
use Rattle.odb_law.proofs.SessionInvariant.{Goes, InOrder, IsShiftOf, IsSyncOf, order_rest}
use Rattle.odb_service.proofs.WhatIsOwed.{change_to, message_of}
use Rattle.odb_law.proofs.WorldInvariant.{StandsAfter}
use Rattle.odb_law.specs.Headline.{WasLast, updated}
use Rattle.odb_service.specs.Service.{Service}
use Rattle.odb_service.specs.Session.{Item, Monitor, Out, Revision, Session, Watch, gives, has_id, leaves, notified, refilter, renamed, say, shapes, shift, start, stop_at, stopped, sync, take_from, update_to}
use Rattle.odb_monitor.proofs.Views.{some_is}
use Rattle.odb_monitor.specs.Update.{table_updates}
use Rattle.odb_monitor.specs.View.{is_none}
use Rattle.odb_request.specs.Request.{Notation, Request, update, update2}
use Rattle.odb_atoms.specs.Uuid.{Uuid}

module _ (h : Service) where
  pub update_about : (revision : Revision) (k : Watch) (d : Data) → updated (notified h revision k d) ≡ Some k.id
  update_about revision k d = by k.notation k.since
    where
      by : (n : Notation) (o : Option Uuid) → updated (notified h revision (record k { notation = n; since = o }) d) ≡ Some k.id
      by update None = refl
      by update2 None = refl
      by n (Some v) = refl

  -- an update of the monitor of an id
  abbrev pub IsUpdateOf : Data → Out → Type 0
  IsUpdateOf i o = (j : Data) × (updated o.message ≡ Some j) × (bytes_eq (h.printed i) (h.printed j) ≡ true)

  one_update : (revision : Revision) (qs : List Request) (i : Data) (m : Monitor) (o : Out) → has_id h i m ≡ true → (b : Bool) → cond b None (Some (message_of h revision qs m)) ≡ Some o → IsUpdateOf i o
  one_update revision qs i m o same true e = absurd (true≢false (sym (ap is_some e)))
  one_update revision qs i m o same false e =
      subst (IsUpdateOf i) (some_is (message_of h revision qs m) o e) (m.watch.id, update_about revision m.watch (table_updates m.watch.notation false (shapes qs) (change_to h revision.db qs m)), same)

  found_update : (revision : Revision) (q : Monitor → List Request) (i : Data) (ms : List Monitor) (o : Out) → option_and_then (λ m. update_to h revision (q m) m) (find (has_id h i) ms) ≡ Some o → IsUpdateOf i o
  found_update revision q i [] o e = absurd (true≢false (sym (ap is_some e)))
  found_update revision q i (m ∷ ms) o e =
      elim (has_id h i m) as (λ b. has_id h i m ≡ b → option_and_then (λ m. update_to h revision (q m) m) (cond b (Some m) (find (has_id h i) ms)) ≡ Some o → IsUpdateOf i o) [
        | true ↦ λ same e. one_update revision (q m) i m o same (is_none (change_to h revision.db (q m) m)) e
        | false ↦ λ _ e. found_update revision q i ms o e
      ] refl e

  -- what a taking gave, before what it left
  abbrev pub TellsOf : Option Out → Item → Type 0
  TellsOf o (say a d) = Unit {0}
  TellsOf o (start d k) = Unit {0}
  TellsOf o (sync i) = Unit {0}
  TellsOf o (shift i fs) = Unit {0}
  TellsOf None (renamed d old new fs) = ⊥
  TellsOf (Some o) (renamed d old new fs) = IsUpdateOf old o
  TellsOf None (stopped d i) = ⊥
  TellsOf (Some o) (stopped d i) = IsUpdateOf i o

  abbrev pub Tells : Option Out → List Item → Type 0
  Tells o [] = Unit {0}
  Tells o (i ∷ is) = TellsOf o i

  stop_tells : (revision : Revision) (i : Item) (ms : List Monitor) (o : Out) → gives h revision i ms ≡ Some o → (d j : Data) → IsSyncOf j i → IsUpdateOf j o
  stop_tells revision (say a m) ms o e d j s = absurd s
  stop_tells revision (start r k) ms o e d j s = absurd s
  stop_tells revision (sync i) ms o e d j s = subst (λ k. IsUpdateOf k o) s (found_update revision (λ m. m.watch.requests) i ms o e)
  stop_tells revision (shift i fs) ms o e d j s = absurd s
  stop_tells revision (renamed r old new fs) ms o e d j s = absurd s
  stop_tells revision (stopped r i) ms o e d j s = absurd s

  shift_tells : (revision : Revision) (i : Item) (ms : List Monitor) (o : Out) → gives h revision i ms ≡ Some o → (fs : List (List ℕ × Filter)) (j : Data) → IsShiftOf j fs i → IsUpdateOf j o
  shift_tells revision (say a m) ms o e fs j s = absurd s
  shift_tells revision (start r k) ms o e fs j s = absurd s
  shift_tells revision (sync i) ms o e fs j s = absurd s
  shift_tells revision (shift i gs) ms o e fs j s = subst (λ k. IsUpdateOf k o) s.0 (found_update revision (λ m. refilter gs m.watch.requests) i ms o e)
  shift_tells revision (renamed r old new gs) ms o e fs j s = absurd s
  shift_tells revision (stopped r i) ms o e fs j s = absurd s

  next_tells : (revision : Revision) (i : Item) (is : List Item) (ms : List Monitor) (o : Out) → gives h revision i ms ≡ Some o → Goes i is → Tells (Some o) is
  next_tells revision i [] ms o e g = tt
  next_tells revision i (say a m ∷ is) ms o e g = tt
  next_tells revision i (start d k ∷ is) ms o e g = tt
  next_tells revision i (sync j ∷ is) ms o e g = tt
  next_tells revision i (shift j fs ∷ is) ms o e g = tt
  next_tells revision i (renamed d old new fs ∷ is) ms o e g = shift_tells revision i ms o e fs old g.0
  next_tells revision i (stopped d j ∷ is) ms o e g = stop_tells revision i ms o e d j g.0

  item_tells : (revision : Revision) (i : Item) (is : List Item) (ms : List Monitor) (o : Option Out) → gives h revision i ms ≡ o → Goes i is → (rest : Option Out × Session) → Tells rest.0 rest.1.queue
      → Tells (stop_at o (record { queue = is; monitors = leaves h revision.db i ms }) rest).0 (stop_at o (record { queue = is; monitors = leaves h revision.db i ms }) rest).1.queue
  item_tells revision i is ms None e g rest r = r
  item_tells revision i is ms (Some o) e g rest r = next_tells revision i is ms o e g

  pub from_tells : (revision : Revision) (q : List Item) (ms : List Monitor) → InOrder q → Tells (take_from h revision q ms).0 (take_from h revision q ms).1.queue
  from_tells revision [] ms g = tt
  from_tells revision (i ∷ is) ms g = item_tells revision i is ms (gives h revision i ms) refl g (take_from h revision is (leaves h revision.db i ms)) (from_tells revision is (leaves h revision.db i ms) (order_rest i is g))

  was_last : (os : List Out) (o : Out) (i : Data) → IsUpdateOf i o → WasLast h i (os ++ o ∷ [])
  was_last os o i t = record { before = os; last = o; is_last = refl; id = t.0; of_it = t.1; same = t.2 }

  stopped_stands : (os : List Out) (o : Option Out) (d i : Data) → TellsOf o (stopped d i) → WasLast h i (os ++ option_to_list o)
  stopped_stands os None d i t = absurd t
  stopped_stands os (Some o) d i t = was_last os o i t

  renamed_stands : (os : List Out) (o : Option Out) (d old new : Data) (fs : List (List ℕ × Filter)) → TellsOf o (renamed d old new fs) → WasLast h old (os ++ option_to_list o)
  renamed_stands os None d old new fs t = absurd t
  renamed_stands os (Some o) d old new fs t = was_last os o old t

  pub stands_after : (os : List Out) (o : Option Out) (q : List Item) → Tells o q → StandsAfter h q (os ++ option_to_list o)
  stands_after os o [] t = tt
  stands_after os o (say a m ∷ q) t = tt
  stands_after os o (start d k ∷ q) t = tt
  stands_after os o (sync i ∷ q) t = tt
  stands_after os o (shift i fs ∷ q) t = tt
  stands_after os o (renamed d old new fs ∷ q) t = renamed_stands os o d old new fs t
  stands_after os o (stopped d i ∷ q) t = stopped_stands os o d i t
