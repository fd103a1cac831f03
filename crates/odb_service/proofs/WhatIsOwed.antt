-- One taking gives the first of what a session is owed, and the rest stays owed.
use Rattle.std.proofs.Common.{◌≡◌, Bool, true, false, cond, List, [], ◌∷◌, ◌++◌, map, Option, Some, None, refl, sym, ◌∙◌, ap, ◌&&◌, is_some, true≢false}
use Rattle.std.specs.Prelude.{option_and_then, option_to_list, filter_map}
use Rattle.std.specs.List.{cons_option}
use Rattle.std.specs.FinMap.Entries.{find}
use Rattle.odb_atoms.specs.FinMap.{FinMap, combine, get, map_entries}
use Rattle.odb_service.specs.Service.{Service}
use Rattle.odb_service.specs.Session.{Item, Monitor, Out, Revision, Session, brought, drained, gives, leaves, owed, owed_from, rested, stop_at, take, take_from, take_rest, update_to}
use Rattle.odb_monitor.proofs.Cells.{same_cells-itself}
use Rattle.odb_monitor.proofs.Maps.{get-combine, get-map_entries, key-itself}
use Rattle.odb_monitor.specs.View.{Cells, Change, Delta, View, change, delta, differs, is_empty, is_none, is_shown, query, shown}
use Rattle.odb_request.specs.Request.{Request}
use Rattle.odb_tables.specs.Database.{Db}
use Rattle.odb_atoms.specs.Uuid.{Uuid, uuid_cmp}
use Rattle.odb_service.specs.Session.{no_request, notified, shapes}
use Rattle.odb_monitor.specs.Update.{table_updates}

-- ---- a view doesn't differ from itself

no_entry : {X : Type 0} (es : List (Uuid × X)) → ((q : Uuid) → find uuid_cmp q es ≡ None) → is_empty es ≡ true
no_entry [] h = refl
no_entry (e ∷ es) h = absurd (true≢false (ap is_some (ap (λ b. cond b (Some e.1) (find uuid_cmp e.0 es)) (sym (key-itself e.0)) ∙ h e.0)))

empty_of_get : {X : Type 0} (t : FinMap uuid_cmp X) → ((q : Uuid) → get t q ≡ None) → is_empty t.entries ≡ true
unfolding get
empty_of_get t h = no_entry t.entries h

get_of_empty : {X : Type 0} (t : FinMap uuid_cmp X) → is_empty t.entries ≡ true → (q : Uuid) → get t q ≡ None
unfolding get
get_of_empty t e q = by t.entries e
  where
    by : {X : Type 0} (es : List (Uuid × X)) → is_empty es ≡ true → find uuid_cmp q es ≡ None
    by [] e = refl
    by (x ∷ es) e = absurd (true≢false (sym e))

both_true : (a b : Bool) → (a && b) ≡ true → (a ≡ true) × (b ≡ true)
both_true true b e = (refl, e)
both_true false b e = absurd (true≢false (sym e))

shown_none : (first : Bool) (qs : List Request) (D : Delta) → is_none D ≡ true → is_none (shown first qs D) ≡ true
shown_none first [] D e = refl
shown_none first (q ∷ qs) [] e = refl
shown_none first (q ∷ qs) (t ∷ D) e =
    let h : (is_empty t.entries ≡ true) × (is_none D ≡ true) = both_true (is_empty t.entries) (is_none D) e in
    let f : Uuid → Change → Option Change = λ u c. cond (is_shown first q.select c) (Some c) None in
    ap (λ b. b && is_none (shown first qs D)) (empty_of_get (map_entries f t) (λ u. get-map_entries f t u ∙ ap (option_and_then (f u)) (get_of_empty t h.0 u)))
    ∙ shown_none first qs D h.1

unchanged : (o : Option Cells) → change o o ≡ None
unchanged None = refl
unchanged (Some c) = ap (λ b. cond b None (Some (differs c c))) (same_cells-itself c)

delta-itself : (V : View) → is_none (delta V V) ≡ true
delta-itself [] = refl
delta-itself (t ∷ V) =
    ap (λ b. b && is_none (delta V V)) (empty_of_get (combine (change) t t) (λ u. get-combine (change) t t u refl ∙ unchanged (get t u))) ∙ delta-itself V

module _ (h : Service) where
  abbrev pub change_to : Db → List Request → Monitor → Delta
  change_to db qs m = shown false qs (delta m.view (query db qs))

  -- the message about a monitor, with its id as told
  abbrev pub message_of : Revision → List Request → Monitor → Out
  message_of revision qs m = record { answers = no_request; message = notified h revision m.watch (table_updates m.watch.notation false (shapes qs) (change_to revision.db qs m)); held = None }

  abbrev now : Db → Monitor → Monitor
  now db m = brought h db m.watch.requests m

  abbrev owes : Revision → Monitor → Option Out
  owes revision m = update_to h revision m.watch.requests m

  -- a monitor that was brought to now owes nothing
  owes_nothing : (revision : Revision) (m : Monitor) → owes revision (now revision.db m) ≡ None
  owes_nothing revision m =
      ap (λ b. cond b None (Some (message_of revision m.watch.requests (now revision.db m)))) (shown_none false m.watch.requests (delta (query revision.db m.watch.requests) (query revision.db m.watch.requests)) (delta-itself (query revision.db m.watch.requests)))

  pub all_owe_nothing : (revision : Revision) (ms : List Monitor) → filter_map (owes revision) (map (now revision.db) ms) ≡ []
  all_owe_nothing revision [] = refl
  all_owe_nothing revision (m ∷ ms) = ap (λ o. cons_option o (filter_map (owes revision) (map (now revision.db) ms))) (owes_nothing revision m) ∙ all_owe_nothing revision ms

  now_twice : (db : Db) (ms : List Monitor) → map (now db) (map (now db) ms) ≡ map (now db) ms
  now_twice db [] = refl
  now_twice db (m ∷ ms) = ap (λ xs. now db m ∷ xs) (now_twice db ms)

  -- the monitors after a taking, and what they still owe
  record Rest (revision : Revision) (ms : List Monitor) (r : Option Out × List Monitor) : Type 0 where
    owed_so : filter_map (owes revision) ms ≡ option_to_list r.0 ++ filter_map (owes revision) r.1
    ends : map (now revision.db) r.1 ≡ map (now revision.db) ms
    none : r.0 ≡ None → r.1 ≡ map (now revision.db) ms

  stop_rest : (revision : Revision) (m : Monitor) (ms : List Monitor) (o : Option Out) → owes revision m ≡ o → (r : Option Out × List Monitor) → Rest revision ms r → Rest revision (m ∷ ms) (stop_at o (now revision.db m ∷ ms) (r.0, now revision.db m ∷ r.1))
  stop_rest revision m ms None e r k = record {
    owed_so = ap (λ o. cons_option o (filter_map (owes revision) ms)) e ∙ k.owed_so ∙ ap (λ o. option_to_list r.0 ++ cons_option o (filter_map (owes revision) r.1)) (sym (owes_nothing revision m));
    ends = ap (λ xs. now revision.db m ∷ xs) k.ends;
    none = λ n. ap (λ xs. now revision.db m ∷ xs) (k.none n);
  }
  stop_rest revision m ms (Some o) e r k = record {
    owed_so = ap (λ o. cons_option o (filter_map (owes revision) ms)) e ∙ ap (λ p. o ∷ cons_option p (filter_map (owes revision) ms)) (sym (owes_nothing revision m));
    ends = refl;
    none = λ n. absurd (true≢false (ap is_some n));
  }

  rest_owes : (revision : Revision) (ms : List Monitor) → Rest revision ms (take_rest h revision ms)
  rest_owes revision [] = record { owed_so = refl; ends = refl; none = λ n. refl }
  rest_owes revision (m ∷ ms) = stop_rest revision m ms (owes revision m) refl (take_rest h revision ms) (rest_owes revision ms)

  -- one taking: it gives the first of what is owed, the rest stays owed, and the session ends alike
  pub record Takes (revision : Revision) (x : Session) (r : Option Out × Session) : Type 0 where
    pub owes : owed h revision x ≡ option_to_list r.0 ++ owed h revision r.1
    pub ends : drained h revision.db r.1 ≡ drained h revision.db x
    pub none : r.0 ≡ None → r.1 ≡ drained h revision.db x

  stop_item : (revision : Revision) (i : Item) (is : List Item) (ms : List Monitor) (o : Option Out) → gives h revision i ms ≡ o → (r : Option Out × Session) → Takes revision (record { queue = is; monitors = leaves h revision.db i ms }) r
      → Takes revision (record { queue = i ∷ is; monitors = ms }) (stop_at o (record { queue = is; monitors = leaves h revision.db i ms }) r)
  stop_item revision i is ms None e r k = record {
    owes = ap (λ o. option_to_list o ++ owed_from h revision is (leaves h revision.db i ms)) e ∙ k.owes;
    ends = k.ends;
    none = k.none;
  }
  stop_item revision i is ms (Some o) e r k = record {
    owes = ap (λ o. option_to_list o ++ owed_from h revision is (leaves h revision.db i ms)) e;
    ends = refl;
    none = λ n. absurd (true≢false (ap is_some n));
  }

  from_takes : (revision : Revision) (q : List Item) (ms : List Monitor) → Takes revision (record { queue = q; monitors = ms }) (take_from h revision q ms)
  from_takes revision [] ms =
      let k : Rest revision ms (take_rest h revision ms) = rest_owes revision ms in
      record {
        owes = k.owed_so;
        ends = ap (λ xs. let x : Session = record { queue = []; monitors = xs } in x) k.ends;
        none = λ n. ap (λ xs. let x : Session = record { queue = []; monitors = xs } in x) (k.none n);
      }
  from_takes revision (i ∷ is) ms = stop_item revision i is ms (gives h revision i ms) refl (take_from h revision is (leaves h revision.db i ms)) (from_takes revision is (leaves h revision.db i ms))

  pub takes : (revision : Revision) (x : Session) → Takes revision x (take h revision x)
  takes revision x = from_takes revision x.queue x.monitors

  rested_owe_nothing : (revision : Revision) (q : List Item) (ms : List Monitor) → filter_map (owes revision) (rested h revision.db q ms) ≡ []
  rested_owe_nothing revision [] ms = all_owe_nothing revision ms
  rested_owe_nothing revision (i ∷ is) ms = rested_owe_nothing revision is (leaves h revision.db i ms)

  -- where a taking gives nothing, nothing was owed
  pub none_owed : (revision : Revision) (x : Session) → (take h revision x).0 ≡ None → owed h revision x ≡ []
  none_owed revision x n =
      (takes revision x).owes ∙ (λ i. option_to_list (n i) ++ owed h revision ((takes revision x).none n i)) ∙ rested_owe_nothing revision x.queue x.monitors
