-- With kinds of change switched off a session is sent what it would be sent with all on, without these.
use Rattle.std.proofs.Common.{◌≡◌, ℕ, Bool, true, false, cond, List, [], ◌∷◌, ◌++◌, map, Option, Some, None, inl, inr, refl, sym, ◌∙◌, ap, subst, is_some, true≢false, not}
use Rattle.std.specs.Prelude.{option_and_then, option_map, option_to_list, filter_map, find}
use Rattle.std.specs.List.{cons_option}
use Rattle.serde_json.specs.Data.{Data}
use Rattle.odb_atoms.specs.FinMap.{FinMap, combine, empty, get, map_entries}
use Rattle.odb_atoms.specs.Uuid.{uuid_cmp}
use Rattle.odb_cond.specs.Filter.{Filter}
use Rattle.odb_law.proofs.BroughtToNow.{cons-list}
use Rattle.odb_law.proofs.PictureLookups.{find_map}
use Rattle.odb_law.proofs.SessionInvariant.{at_first-map, drop_first-map, leaves-asks, map-append, shapes-refilter}
use Rattle.odb_law.specs.Kinds.{AreCut, AreEachCut, IsAmong, IsCut, SendsKinds, all_kinds, everything, full_item, full_monitor, full_watch}
use Rattle.odb_monitor.proofs.Maps.{get-map_entries, same_map}
use Rattle.odb_monitor.proofs.Views.{some_is}
use Rattle.odb_monitor.specs.Update.{table_updates}
use Rattle.odb_monitor.specs.View.{Change, Delta, View, change, comes_in, delta, differs, goes_out, is_none, is_shown, nothing, query, selected, shown}
use Rattle.odb_request.specs.Request.{Request, Shape}
use Rattle.odb_rpc.specs.Message.{reply}
use Rattle.odb_service.specs.Service.{Service}
use Rattle.odb_service.specs.Session.{Item, Monitor, Out, Revision, Watch, asks, begun, brought, changed, content_after, first_out, first_result, first_to, gives, has_id, held_by, leaves, no_request, notified, owed_from, refilter, renamed, rested, say, shapes, shift, start, stopped, sync, to, update_to}
use Rattle.odb_tables.specs.Database.{Db, table_at}
use Rattle.odb_wire.specs.Message.{id_of}

-- ---- requests with all kinds on

query_full : (db : Db) (qs : List Request) → query db (all_kinds qs) ≡ query db qs
query_full db [] = refl
query_full db (q ∷ qs) = ap (λ W. selected q (table_at db q.place) ∷ W) (query_full db qs)

shapes_full : (qs : List Request) → shapes (all_kinds qs) ≡ shapes qs
shapes_full [] = refl
shapes_full (q ∷ qs) = ap (λ ss. q.shape ∷ ss) (shapes_full qs)

nothing_full : (qs : List Request) → ◌≡◌ {A = View} (nothing (all_kinds qs)) (nothing qs)
nothing_full [] = refl
nothing_full (q ∷ qs) = ap (λ (V : View). empty ∷ V) (nothing_full qs)

refilter_full : (fs : List (List ℕ × Filter)) (qs : List Request) → all_kinds (refilter fs qs) ≡ refilter fs (all_kinds qs)
refilter_full fs [] = refl
refilter_full fs (q ∷ qs) = ap (λ ps. all_kinds (refilter fs (q ∷ [])) ++ ps) (refilter_full fs qs)

all_shown : (first : Bool) (c : Change) → is_shown first everything c ≡ true
all_shown true (comes_in new) = refl
all_shown false (comes_in new) = refl
all_shown first (goes_out old) = refl
all_shown first (differs old new) = refl

entries_stay : (first : Bool) (t : FinMap uuid_cmp Change) → map_entries (λ u c. cond (is_shown first everything c) (Some c) None) t ≡ t
entries_stay first t = same_map (map_entries (λ u c. cond (is_shown first everything c) (Some c) None) t) t (λ q. get-map_entries (λ u c. cond (is_shown first everything c) (Some c) None) t q ∙ by (get t q))
  where
    by : (o : Option Change) → option_and_then (λ c. cond (is_shown first everything c) (Some c) None) o ≡ o
    by None = refl
    by (Some c) = ap (λ b. cond b (Some c) None) (all_shown first c)

shown_full : (first : Bool) (db : Db) (qs : List Request) (V : View) → shown first (all_kinds qs) (delta V (query db qs)) ≡ delta V (query db qs)
shown_full first db [] [] = refl
shown_full first db [] (t ∷ V) = refl
shown_full first db (q ∷ qs) [] = refl
shown_full first db (q ∷ qs) (t ∷ V) = λ i. entries_stay first (combine change t (selected q (table_at db q.place))) i ∷ shown_full first db qs V i

shown_refiltered : (first : Bool) (fs : List (List ℕ × Filter)) (qs : List Request) (D : Delta) → shown first (refilter fs qs) D ≡ shown first qs D
shown_refiltered first fs [] D = refl
shown_refiltered first fs (q ∷ qs) [] = refl
shown_refiltered first fs (q ∷ qs) (t ∷ D) = ap (λ E. map_entries (λ u c. cond (is_shown first q.select c) (Some c) None) t ∷ E) (shown_refiltered first fs qs D)

abbrev watches : List Monitor → List Watch
watches ms = map (λ m. m.watch) ms

found_among : (p : Monitor → Bool) (ms : List Monitor) (m : Monitor) → find p ms ≡ Some m → IsAmong m.watch (watches ms)
found_among p [] m e = absurd (true≢false (sym (ap is_some e)))
found_among p (k ∷ ms) m e =
    elim (p k) as (λ b. cond b (Some k) (find p ms) ≡ Some m → IsAmong m.watch (watches (k ∷ ms))) [
      | true ↦ λ f. inl (ap (λ (m : Monitor). m.watch) (some_is k m f))
      | false ↦ λ f. inr (found_among p ms m f)
    ] e

last_among : (ks : List Watch) (k : Watch) → IsAmong k (ks ++ k ∷ [])
last_among [] k = inl refl
last_among (l ∷ ks) k = inr (last_among ks k)

module _ (h : Service) where
  -- ---- one message

  abbrev told_by : Revision → Watch → List Shape → Delta → Option Out
  told_by revision k ss D = cond (is_none D) None (Some (record { answers = no_request; message = notified h revision k (table_updates k.notation false ss D); held = None }))

  -- towards requests that differ from its own in their filters alone
  update_cut : (revision : Revision) (ks : List Watch) (qs : List Request) (m : Monitor) → IsAmong m.watch ks → shapes qs ≡ shapes m.watch.requests → ((D : Delta) → shown false qs D ≡ shown false m.watch.requests D) → IsCut h revision ks (update_to h revision (all_kinds qs) (full_monitor m)) (update_to h revision qs m)
  update_cut revision ks qs m among alike shows = inr (inr (
    m.watch,
    among,
    delta m.view (query revision.db qs),
    (λ j. told_by revision m.watch (shapes_full qs j) (shown false (all_kinds qs) (delta m.view (query_full revision.db qs j)))) ∙ (λ j. told_by revision m.watch (alike j) (shown_full false revision.db qs m.view j)),
    (λ j. told_by revision m.watch (alike j) (shows (delta m.view (query revision.db qs)) j)),
  ))

  abbrev first_by : Revision → Data → Watch → Option View → List Shape → Delta → Option Out
  first_by revision d k held ss D = Some (record { answers = to d; message = reply (id_of d) (first_result h revision k held (table_updates k.notation (not (is_some held)) ss D)); held = held })

  -- of a client that has a view, or none: the same view, and the same requests but for their kinds
  first_cut_of : (revision : Revision) (ks : List Watch) (d : Data) (k : Watch) → IsAmong k ks → (held : Option View) → IsCut h revision ks (Some (first_to h revision d (full_watch k) held)) (Some (first_to h revision d k held))
  first_cut_of revision ks d k among None = inr (inl (
    d,
    k,
    among,
    None,
    delta (nothing k.requests) (query revision.db k.requests),
    (λ j. first_by revision d k None (shapes_full k.requests j) (shown true (all_kinds k.requests) (delta (nothing_full k.requests j) (query_full revision.db k.requests j)))) ∙ ap (first_by revision d k None (shapes k.requests)) (shown_full true revision.db k.requests (nothing k.requests)),
    refl,
  ))
  first_cut_of revision ks d k among (Some W) = inr (inl (
    d,
    k,
    among,
    Some W,
    delta W (query revision.db k.requests),
    (λ j. first_by revision d k (Some W) (shapes_full k.requests j) (shown false (all_kinds k.requests) (delta W (query_full revision.db k.requests j)))) ∙ ap (first_by revision d k (Some W) (shapes k.requests)) (shown_full false revision.db k.requests W),
    refl,
  ))

  held_full : (revision : Revision) (k : Watch) → held_by h revision (full_watch k) ≡ held_by h revision k
  held_full revision k = λ j. option_map (λ db. query_full db k.requests j) (option_and_then (content_after revision) k.since)

  first_cut : (revision : Revision) (ks : List Watch) (d : Data) (k : Watch) → IsCut h revision (ks ++ k ∷ []) (Some (first_out h revision d (full_watch k))) (Some (first_out h revision d k))
  first_cut revision ks d k =
      subst (λ held. IsCut h revision (ks ++ k ∷ []) (Some (first_to h revision d (full_watch k) held)) (Some (first_out h revision d k))) (sym (held_full revision k))
      (first_cut_of revision (ks ++ k ∷ []) d k (last_among ks k) (held_by h revision k))

  -- of the monitor that was found, if there is one
  found_cut : (revision : Revision) (ks : List Watch) (f g : List Request → List Request) → ((qs : List Request) → all_kinds (f qs) ≡ g (all_kinds qs)) → ((qs : List Request) → shapes (f qs) ≡ shapes qs) → ((qs : List Request) (D : Delta) → shown false (f qs) D ≡ shown false qs D)
      → (o : Option Monitor) → ((m : Monitor) → o ≡ Some m → IsAmong m.watch ks)
      → IsCut h revision ks (option_and_then (λ m. update_to h revision (g m.watch.requests) m) (option_map full_monitor o)) (option_and_then (λ m. update_to h revision (f m.watch.requests) m) o)
  found_cut revision ks f g e alike shows None among = inl refl
  found_cut revision ks f g e alike shows (Some m) among =
      subst (λ qs. IsCut h revision ks (update_to h revision qs (full_monitor m)) (update_to h revision (f m.watch.requests) m)) (e m.watch.requests)
      (update_cut revision ks (f m.watch.requests) m (among m refl) (alike m.watch.requests) (shows m.watch.requests))

  item_cut : (revision : Revision) (i : Item) (ms : List Monitor) → IsCut h revision (asks h i (watches ms)) (gives h revision (full_item i) (map full_monitor ms)) (gives h revision i ms)
  item_cut revision (say a d) ms = inl refl
  item_cut revision (start d k) ms = first_cut revision (watches ms) d k
  item_cut revision (sync i) ms =
      subst (λ o. IsCut h revision (watches ms) (option_and_then (λ m. update_to h revision m.watch.requests m) o) (gives h revision (sync i) ms)) (sym (find_map full_monitor (has_id h i) ms))
      (found_cut revision (watches ms) (λ qs. qs) (λ qs. qs) (λ qs. refl) (λ qs. refl) (λ qs D. refl) (find (has_id h i) ms) (λ m e. found_among (has_id h i) ms m e))
  item_cut revision (shift i fs) ms =
      subst (λ o. IsCut h revision (watches ms) (option_and_then (λ m. update_to h revision (refilter fs m.watch.requests) m) o) (gives h revision (shift i fs) ms)) (sym (find_map full_monitor (has_id h i) ms))
      (found_cut revision (watches ms) (refilter fs) (refilter fs) (refilter_full fs) (shapes-refilter fs) (shown_refiltered false fs) (find (has_id h i) ms) (λ m e. found_among (has_id h i) ms m e))
  item_cut revision (renamed d old new fs) ms = inl refl
  item_cut revision (stopped d i) ms = inl refl

  -- ---- what is left

  brought_full : (db : Db) (m : Monitor) → full_monitor (brought h db m.watch.requests m) ≡ brought h db (full_monitor m).watch.requests (full_monitor m)
  brought_full db m = λ j. record { watch = full_watch m.watch; view = sym (query_full db m.watch.requests) j }

  shifted_full : (db : Db) (fs : List (List ℕ × Filter)) (m : Monitor) → full_monitor (brought h db (refilter fs m.watch.requests) m) ≡ brought h db (refilter fs (full_monitor m).watch.requests) (full_monitor m)
  shifted_full db fs m = λ j. record { watch = full_watch m.watch; view = (sym (query_full db (refilter fs m.watch.requests)) ∙ ap (query db) (refilter_full fs m.watch.requests)) j }

  begun_full : (db : Db) (k : Watch) → full_monitor (begun h db k) ≡ begun h db (full_watch k)
  begun_full db k = λ j. record { watch = full_watch k; view = sym (query_full db k.requests) j }

  abbrev with_watch : (Watch → Watch) → Monitor → Monitor
  with_watch f m = record { watch = f m.watch; view = m.view }

  changed_full : (new : Data) (fs : List (List ℕ × Filter)) (m : Monitor) → full_monitor (with_watch (changed h new fs) m) ≡ with_watch (changed h new fs) (full_monitor m)
  changed_full new fs m = λ j. record { watch = record { id = new; notation = m.watch.notation; requests = refilter_full fs m.watch.requests j; since = m.watch.since }; view = m.view }

  leaves_full : (db : Db) (i : Item) (ms : List Monitor) → map full_monitor (leaves h db i ms) ≡ leaves h db (full_item i) (map full_monitor ms)
  leaves_full db (say a d) ms = refl
  leaves_full db (start d k) ms = map-append full_monitor ms (begun h db k ∷ []) ∙ ap (λ m. map full_monitor ms ++ m ∷ []) (begun_full db k)
  leaves_full db (sync i) ms = at_first-map full_monitor (has_id h i) (λ m. brought h db m.watch.requests m) (λ m. brought h db m.watch.requests m) (brought_full db) ms
  leaves_full db (shift i fs) ms = at_first-map full_monitor (has_id h i) (λ m. brought h db (refilter fs m.watch.requests) m) (λ m. brought h db (refilter fs m.watch.requests) m) (shifted_full db fs) ms
  leaves_full db (renamed d old new fs) ms = at_first-map full_monitor (has_id h old) (with_watch (changed h new fs)) (with_watch (changed h new fs)) (changed_full new fs) ms
  leaves_full db (stopped d i) ms = drop_first-map full_monitor (has_id h i) ms

  -- ---- all messages

  -- those that are left in a list of monitors
  rest_cut : (revision : Revision) (ks : List Watch) (ms : List Monitor) → ((k : Watch) → IsAmong k (watches ms) → IsAmong k ks) → AreCut h revision [] ks (filter_map (λ m. update_to h revision m.watch.requests m) (map full_monitor ms)) (filter_map (λ m. update_to h revision m.watch.requests m) ms)
  rest_cut revision ks [] among = ([], refl, refl, tt)
  rest_cut revision ks (m ∷ ms) among =
      let r : AreCut h revision [] ks (filter_map (λ m. update_to h revision m.watch.requests m) (map full_monitor ms)) (filter_map (λ m. update_to h revision m.watch.requests m) ms) = rest_cut revision ks ms (λ k a. among k (inr a)) in (
        (update_to h revision (all_kinds m.watch.requests) (full_monitor m), update_to h revision m.watch.requests m) ∷ r.0,
        ap (cons_option (update_to h revision (all_kinds m.watch.requests) (full_monitor m))) r.1,
        ap (cons_option (update_to h revision m.watch.requests m)) r.2,
        (update_cut revision ks m.watch.requests m (among m.watch (inl refl)) refl (λ D. refl), r.3),
      )

  owed_cut : (revision : Revision) (q : List Item) (ms : List Monitor) → AreCut h revision q (watches ms) (owed_from h revision (map full_item q) (map full_monitor ms)) (owed_from h revision q ms)
  owed_cut revision [] ms = rest_cut revision (watches ms) ms (λ k a. a)
  owed_cut revision (i ∷ is) ms =
      let r : AreCut h revision is (watches (leaves h revision.db i ms)) (owed_from h revision (map full_item is) (map full_monitor (leaves h revision.db i ms))) (owed_from h revision is (leaves h revision.db i ms)) = owed_cut revision is (leaves h revision.db i ms) in
      let all : Option Out = gives h revision (full_item i) (map full_monitor ms) in
      let some : Option Out = gives h revision i ms in (
        (all, some) ∷ r.0,
        ap (λ ns. option_to_list all ++ owed_from h revision (map full_item is) ns) (sym (leaves_full revision.db i ms)) ∙ ap (λ os. option_to_list all ++ os) r.1 ∙ sym (cons-list all (filter_map (λ p. p.0) r.0)),
        ap (λ os. option_to_list some ++ os) r.2 ∙ sym (cons-list some (filter_map (λ p. p.1) r.0)),
        (item_cut revision i ms, subst (λ ks. AreEachCut h revision is ks r.0) (leaves-asks h revision.db i ms) r.3),
      )

  all_brought : (db : Db) (ms : List Monitor) → map full_monitor (map (λ m. brought h db m.watch.requests m) ms) ≡ map (λ m. brought h db m.watch.requests m) (map full_monitor ms)
  all_brought db [] = refl
  all_brought db (m ∷ ms) = λ j. brought_full db m j ∷ all_brought db ms j

  rested_full : (db : Db) (q : List Item) (ms : List Monitor) → map full_monitor (rested h db q ms) ≡ rested h db (map full_item q) (map full_monitor ms)
  rested_full db [] ms = all_brought db ms
  rested_full db (i ∷ is) ms = rested_full db is (leaves h db i ms) ∙ ap (rested h db (map full_item is)) (leaves_full db i ms)

  pub sends_kinds : SendsKinds h
  sends_kinds = record {
    cut = λ revision x. owed_cut revision x.queue x.monitors;
    counts = λ db x j. record { queue = []; monitors = rested_full db x.queue x.monitors j };
  }
