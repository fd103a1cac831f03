-- A taking does to a client's pictures what it does to the monitors as told.
use Rattle.std.proofs.Common.{◌≡◌, ℕ, Bool, true, false, cond, List, [], ◌∷◌, ◌++◌, map, Option, Some, None, is_some, refl, sym, ◌∙◌, ap, subst, true≢false}
use Rattle.std.specs.Prelude.{bytes_eq, option_map, option_and_then, option_to_list, find, filter_map}
use Rattle.std.specs.Cmp.Lexicographic.{nat_list_eq_equiv}
use Rattle.std.specs.List.{cons_option}
use Rattle.std.proofs.lemmas.Slice.Eq.{bytes_eq-Decides}
use Rattle.serde_json.specs.Data.{Data, null}
use Rattle.odb_cond.specs.Filter.{Filter}
use Rattle.odb_law.proofs.Calls.{reply_heard}
use Rattle.odb_law.proofs.SessionInvariant.{IsKept, IsSound, IsThere, IsWell, StayDistinct, each_at_first, each_drop_first, followed-refilter, leaves-asks, map-append, order_rest, seen, seen-new, shapes-refilter, texts, with_new}
use Rattle.odb_law.proofs.ClientUpdates.{IsLike, begun_kept, brought-followed, brought-unseen, brought_kept, first_heard, follow_of, told_to, update-heard}
use Rattle.odb_service.proofs.WhatIsOwed.{change_to, message_of}
use Rattle.odb_law.specs.Client.{Picture, client_from, client_step, is_id_of, on_granted, refiltered, try_drop, try_first, with_changes}
use Rattle.odb_service.specs.Service.{Service}
use Rattle.odb_service.specs.Session.{Item, Monitor, Out, Revision, Session, Watch, at_first, begun, brought, drop_first, gives, has_id, leaves, no_result, owed_from, refilter, renamed, rested, say, shapes, shift, start, stop_at, stopped, sync, take_from, take_rest, update_to}
use Rattle.odb_wire.specs.Message.{id_of}
use Rattle.odb_service.specs.World.{watched}
use Rattle.odb_monitor.proofs.Lists.{bytes_eq-itself}
use Rattle.odb_monitor.proofs.Views.{IsViewOf}
use Rattle.odb_monitor.specs.Names.{AreDistinct, AreNamed, IsApart}
use Rattle.odb_monitor.specs.Update.{table_updates}
use Rattle.odb_monitor.specs.View.{is_none}
use Rattle.odb_request.specs.Request.{Request}
use Rattle.odb_tables.specs.Database.{Db}
use Rattle.odb_service.proofs.Each.{Each, each_append}

module _ (h : Service) where
  abbrev pub heard : Option Out → List Picture → Option (List Picture)
  heard None ps = Some ps
  heard (Some o) ps = client_step h ps o

  -- no message, or an update of a monitor whose id isn't printed as t
  abbrev pub IsAway : List ℕ → Option Out → Type 0
  IsAway t None = Unit {0}
  IsAway t (Some o) = (revision : Revision) × (k : Watch) × (d : Data) × (o ≡ told_to h revision k d) × (bytes_eq (h.printed k.id) t ≡ false)

  -- it passes a picture of another id by
  heard-past : (p : Picture) (ps : List Picture) (o : Option Out) → IsAway (h.printed p.id) o → heard o (p ∷ ps) ≡ option_map (λ qs. p ∷ qs) (heard o ps)
  heard-past p ps None a = refl
  heard-past p ps (Some o) a =
      ap (client_step h (p ∷ ps)) a.3 ∙ update-heard h a.0 a.1 a.2 (p ∷ ps)
      ∙ ap (λ b. cond b (option_map (λ q. q ∷ ps) (follow_of h a.1.notation a.1.since a.2 p)) (option_map (λ qs. p ∷ qs) (try_first (is_id_of h a.1.id) (follow_of h a.1.notation a.1.since a.2) ps))) a.4
      ∙ ap (option_map (λ qs. p ∷ qs)) (sym (update-heard h a.0 a.1 a.2 ps) ∙ sym (ap (client_step h ps) a.3))

  abbrev out_if : Bool → Out → Option Out
  out_if b o = cond b None (Some o)

  out_away : (t : List ℕ) (revision : Revision) (qs : List Request) (m : Monitor) → bytes_eq (h.printed m.watch.id) t ≡ false → (b : Bool) → IsAway t (out_if b (message_of h revision qs m))
  out_away t revision qs m e true = tt
  out_away t revision qs m e false = (revision, m.watch, table_updates m.watch.notation false (shapes qs) (change_to h revision.db qs m), refl, e)

  out_heard : (revision : Revision) (qs : List Request) (m : Monitor) (ps : List Picture) → IsKept h m → IsLike h qs m.watch → (b : Bool) → is_none (change_to h revision.db qs m) ≡ b
      → heard (out_if b (message_of h revision qs m)) (seen m ∷ ps) ≡ Some (seen (brought h revision.db qs m) ∷ ps)
  out_heard revision qs m ps kept like true e = ap (λ p. Some (p ∷ ps)) (brought-unseen h revision.db qs m kept like e)
  out_heard revision qs m ps kept like false e =
      let d : Data = table_updates m.watch.notation false (shapes qs) (change_to h revision.db qs m) in
      let follows : Picture → Option Picture = follow_of h m.watch.notation m.watch.since d in
      update-heard h revision m.watch d (seen m ∷ ps)
      ∙ ap (λ b. cond b (option_map (λ q. q ∷ ps) (follows (seen m))) (option_map (λ qs. seen m ∷ qs) (try_first (is_id_of h m.watch.id) follows ps))) (bytes_eq-itself (h.printed m.watch.id))
      ∙ ap (option_map (λ q. q ∷ ps)) (brought-followed h revision.db qs m kept like e)

  pub one_heard : (revision : Revision) (qs : List Request) (m : Monitor) (ps : List Picture) → IsKept h m → IsLike h qs m.watch
      → heard (update_to h revision qs m) (seen m ∷ ps) ≡ Some (seen (brought h revision.db qs m) ∷ ps)
  one_heard revision qs m ps kept like = out_heard revision qs m ps kept like (is_none (change_to h revision.db qs m)) refl

  pub one_away : (t : List ℕ) (revision : Revision) (qs : List Request) (m : Monitor) → bytes_eq (h.printed m.watch.id) t ≡ false → IsAway t (update_to h revision qs m)
  one_away t revision qs m e = out_away t revision qs m e (is_none (change_to h revision.db qs m))

  -- ---- a monitor found by its id

  module _ (revision : Revision) (q : Monitor → List Request) (like : (m : Monitor) → IsLike h (q m) m.watch) where
    found_update : Data → List Monitor → Option Out
    found_update i ms = option_and_then (λ m. update_to h revision (q m) m) (find (has_id h i) ms)

    pub found_away : (i : Data) (t : List ℕ) → bytes_eq (h.printed i) t ≡ false → (ms : List Monitor) → IsAway t (option_and_then (λ m. update_to h revision (q m) m) (find (has_id h i) ms))
    found_away i t e [] = tt
    found_away i t e (m ∷ ms) =
        elim (has_id h i m) as (λ b. has_id h i m ≡ b → IsAway t (option_and_then (λ m. update_to h revision (q m) m) (cond b (Some m) (find (has_id h i) ms)))) [
          | true ↦ λ is. one_away t revision (q m) m (subst (λ s. bytes_eq s t ≡ false) ((bytes_eq-Decides (h.printed i) (h.printed m.watch.id)).0 is) e)
          | false ↦ λ _. found_away i t e ms
        ] refl

    pub found_heard : (i : Data) (ms : List Monitor) → Each (IsKept h) ms
        → heard (option_and_then (λ m. update_to h revision (q m) m) (find (has_id h i) ms)) (map seen ms) ≡ Some (map seen (at_first (has_id h i) (λ m. brought h revision.db (q m) m) ms))
    found_heard i [] k = refl
    found_heard i (m ∷ ms) k =
        elim (has_id h i m) as (λ b. has_id h i m ≡ b → heard (option_and_then (λ m. update_to h revision (q m) m) (cond b (Some m) (find (has_id h i) ms))) (seen m ∷ map seen ms) ≡ Some (map seen (cond b (brought h revision.db (q m) m ∷ ms) (m ∷ at_first (has_id h i) (λ m. brought h revision.db (q m) m) ms)))) [
          | true ↦ λ is. one_heard revision (q m) m (map seen ms) k.0 (like m)
          | false ↦ λ isnt. heard-past (seen m) (map seen ms) _ (found_away i (h.printed m.watch.id) isnt ms) ∙ ap (option_map (λ qs. seen m ∷ qs)) (found_heard i ms k.1)
        ] refl

  pub itself_like : (m : Monitor) → IsLike h m.watch.requests m.watch
  itself_like m = (refl, refl)

  pub refilter_like : (fs : List (List ℕ × Filter)) (m : Monitor) → IsLike h (refilter fs m.watch.requests) m.watch
  refilter_like fs m = (shapes-refilter fs m.watch.requests, followed-refilter fs m.watch.requests)

  seen_append : (ms : List Monitor) (m : Monitor) → map seen (ms ++ m ∷ []) ≡ map seen ms ++ seen m ∷ []
  seen_append ms m = map-append seen ms (m ∷ [])

  -- the pictures after a reply that takes effect
  try_new : (old new : Data) (fs : List (List ℕ × Filter)) (ms : List Monitor) → is_some (watched h old (map (λ m. m.watch) ms)) ≡ true
      → try_first (is_id_of h old) (λ p. Some (with_changes h new fs p)) (map seen ms) ≡ Some (map seen (at_first (has_id h old) (with_new h new fs) ms))
  try_new old new fs [] e = absurd (true≢false (sym e))
  try_new old new fs (m ∷ ms) e =
      elim (has_id h old m) as (λ b. is_some (cond b (Some m.watch) (watched h old (map (λ m. m.watch) ms))) ≡ true
      → cond b (Some (with_changes h new fs (seen m) ∷ map seen ms)) (option_map (λ ps. seen m ∷ ps) (try_first (is_id_of h old) (λ p. Some (with_changes h new fs p)) (map seen ms)))
      ≡ Some (map seen (cond b (with_new h new fs m ∷ ms) (m ∷ at_first (has_id h old) (with_new h new fs) ms)))) [
        | true ↦ λ _. ap (λ p. Some (p ∷ map seen ms)) (seen-new h new fs m)
        | false ↦ λ f. ap (option_map (λ ps. seen m ∷ ps)) (try_new old new fs ms f)
      ] e

  drop_seen : (i : Data) (ms : List Monitor) → is_some (watched h i (map (λ m. m.watch) ms)) ≡ true
      → try_drop (is_id_of h i) (map seen ms) ≡ Some (map seen (drop_first (has_id h i) ms))
  drop_seen i [] e = absurd (true≢false (sym e))
  drop_seen i (m ∷ ms) e =
      elim (has_id h i m) as (λ b. is_some (cond b (Some m.watch) (watched h i (map (λ m. m.watch) ms))) ≡ true
      → cond b (Some (map seen ms)) (option_map (λ ps. seen m ∷ ps) (try_drop (is_id_of h i) (map seen ms))) ≡ Some (map seen (cond b ms (m ∷ drop_first (has_id h i) ms)))) [
        | true ↦ λ _. refl
        | false ↦ λ f. ap (option_map (λ ps. seen m ∷ ps)) (drop_seen i ms f)
      ] e

  -- one item
  pub item_heard : (revision : Revision) (i : Item) (ms : List Monitor) → IsSound h i → IsThere h i (map (λ m. m.watch) ms) → Each (IsKept h) ms → heard (gives h revision i ms) (map seen ms) ≡ Some (map seen (leaves h revision.db i ms))
  item_heard revision (say a d) ms s there k = s.0 (map seen ms)
  item_heard revision (start d w) ms s there k = first_heard h revision d w s (map seen ms) ∙ ap Some (sym (seen_append ms (begun h revision.db w)))
  item_heard revision (sync i) ms s there k = found_heard revision (λ m. m.watch.requests) itself_like i ms k
  item_heard revision (shift i fs) ms s there k = found_heard revision (λ m. refilter fs m.watch.requests) (refilter_like fs) i ms k
  item_heard revision (renamed d old new fs) ms s there k =
      reply_heard h d null (id_of d) no_result None (map seen ms) (sym s.0)
      ∙ ap (λ w. on_granted h w None no_result (map seen ms)) s.1.1
      ∙ ap (λ r. refiltered h old new r (map seen ms)) s.1.2
      ∙ try_new old new fs ms there
  item_heard revision (stopped d i) ms s there k =
      reply_heard h d null (id_of d) no_result None (map seen ms) (sym s.0)
      ∙ ap (λ w. on_granted h w None no_result (map seen ms)) s.1
      ∙ drop_seen i ms there

  new_kept : (new : Data) (fs : List (List ℕ × Filter)) (m : Monitor) → IsKept h m → IsKept h (with_new h new fs m)
  new_kept new fs m k = (subst AreNamed (sym (shapes-refilter fs m.watch.requests)) k.0, subst (λ ss. IsViewOf ss m.view) (sym (shapes-refilter fs m.watch.requests)) k.1)

  pub item_kept : (db : Db) (i : Item) (ms : List Monitor) → IsSound h i → Each (IsKept h) ms → Each (IsKept h) (leaves h db i ms)
  item_kept db (say a d) ms s k = k
  item_kept db (start d w) ms s k = each_append (IsKept h) ms (begun h db w ∷ []) k (begun_kept h db w s.0, tt)
  item_kept db (sync i) ms s k = each_at_first (IsKept h) (has_id h i) (λ m. brought h db m.watch.requests m) (λ m kept. brought_kept h db m.watch.requests m kept (itself_like m)) ms k
  item_kept db (shift i fs) ms s k = each_at_first (IsKept h) (has_id h i) (λ m. brought h db (refilter fs m.watch.requests) m) (λ m kept. brought_kept h db (refilter fs m.watch.requests) m kept (refilter_like fs m)) ms k
  item_kept db (renamed d old new fs) ms s k = each_at_first (IsKept h) (has_id h old) (with_new h new fs) (new_kept new fs) ms k
  item_kept db (stopped d i) ms s k = each_drop_first (IsKept h) (has_id h i) ms k

  -- ---- the monitors in order, each by its own id

  watch_texts : List Monitor → List (List ℕ)
  watch_texts ms = texts h (map (λ m. m.watch) ms)

  stop_away : {A : Type 0} (t : List ℕ) (o : Option Out) (x : A) (rest : Option Out × A) → IsAway t o → IsAway t rest.0 → IsAway t (stop_at o x rest).0
  stop_away t None x rest a b = b
  stop_away t (Some o) x rest a b = a

  pub rest_away : (t : List ℕ) (revision : Revision) (ms : List Monitor) → IsApart t (texts h (map (λ m. m.watch) ms)) → IsAway t (take_rest h revision ms).0
  rest_away t revision [] a = tt
  rest_away t revision (m ∷ ms) a =
      stop_away t (update_to h revision m.watch.requests m) (brought h revision.db m.watch.requests m ∷ ms) ((take_rest h revision ms).0, brought h revision.db m.watch.requests m ∷ (take_rest h revision ms).1)
      (one_away t revision m.watch.requests m (nat_list_eq_equiv.symm (h.printed m.watch.id) t ∙ a.0)) (rest_away t revision ms a.1)

  stop_rest : (m b : Monitor) (ms : List Monitor) (o : Option Out) (rest : Option Out × List Monitor) → heard o (seen m ∷ map seen ms) ≡ Some (seen b ∷ map seen ms)
      → heard rest.0 (map seen ms) ≡ Some (map seen rest.1) → IsAway (h.printed b.watch.id) rest.0
      → heard (stop_at o (b ∷ ms) (rest.0, b ∷ rest.1)).0 (seen m ∷ map seen ms) ≡ Some (map seen (stop_at o (b ∷ ms) (rest.0, b ∷ rest.1)).1)
  stop_rest m b ms None rest e r a = ap (option_and_then (heard rest.0)) e ∙ heard-past (seen b) (map seen ms) rest.0 a ∙ ap (option_map (λ qs. seen b ∷ qs)) r
  stop_rest m b ms (Some o) rest e r a = e

  pub rest_heard : (revision : Revision) (ms : List Monitor) → Each (IsKept h) ms → AreDistinct (texts h (map (λ m. m.watch) ms)) → heard (take_rest h revision ms).0 (map seen ms) ≡ Some (map seen (take_rest h revision ms).1)
  rest_heard revision [] k d = refl
  rest_heard revision (m ∷ ms) k d =
      stop_rest m (brought h revision.db m.watch.requests m) ms (update_to h revision m.watch.requests m) (take_rest h revision ms)
      (one_heard revision m.watch.requests m (map seen ms) k.0 (itself_like m)) (rest_heard revision ms k.1 d.1) (rest_away (h.printed m.watch.id) revision ms d.0)

  stop_kept : (o : Option Out) (b : Monitor) (ms : List Monitor) (rest : Option Out × List Monitor) → IsKept h b → Each (IsKept h) ms → Each (IsKept h) rest.1 → Each (IsKept h) (stop_at o (b ∷ ms) (rest.0, b ∷ rest.1)).1
  stop_kept None b ms rest k l r = (k, r)
  stop_kept (Some o) b ms rest k l r = (k, l)

  rest_kept : (revision : Revision) (ms : List Monitor) → Each (IsKept h) ms → Each (IsKept h) (take_rest h revision ms).1
  rest_kept revision [] k = tt
  rest_kept revision (m ∷ ms) k =
      stop_kept (update_to h revision m.watch.requests m) (brought h revision.db m.watch.requests m) ms (take_rest h revision ms) (brought_kept h revision.db m.watch.requests m k.0 (itself_like m)) k.1 (rest_kept revision ms k.1)

  stop_watch : (o : Option Out) (b : Monitor) (ms : List Monitor) (rest : Option Out × List Monitor) → map (λ m. m.watch) rest.1 ≡ map (λ m. m.watch) ms → map (λ m. m.watch) (stop_at o (b ∷ ms) (rest.0, b ∷ rest.1)).1 ≡ b.watch ∷ map (λ m. m.watch) ms
  stop_watch None b ms rest e = ap (λ ks. b.watch ∷ ks) e
  stop_watch (Some o) b ms rest e = refl

  pub rest_watch : (revision : Revision) (ms : List Monitor) → map (λ m. m.watch) (take_rest h revision ms).1 ≡ map (λ m. m.watch) ms
  rest_watch revision [] = refl
  rest_watch revision (m ∷ ms) = stop_watch (update_to h revision m.watch.requests m) (brought h revision.db m.watch.requests m) ms (take_rest h revision ms) (rest_watch revision ms)

  -- ---- a taking

  stop_item : (o : Option Out) (ps : List Picture) (x : Session) (rest : Option Out × Session) → heard o ps ≡ Some (map seen x.monitors) → heard rest.0 (map seen x.monitors) ≡ Some (map seen rest.1.monitors)
      → heard (stop_at o x rest).0 ps ≡ Some (map seen (stop_at o x rest).1.monitors)
  stop_item None ps x rest e r = ap (option_and_then (heard rest.0)) e ∙ r
  stop_item (Some o) ps x rest e r = e

  stop_well : (o : Option Out) (x : Session) (rest : Option Out × Session) → IsWell h x → IsWell h rest.1 → IsWell h (stop_at o x rest).1
  stop_well None x rest k r = r
  stop_well (Some o) x rest k r = k

  pub next_well : (db : Db) (i : Item) (is : List Item) (ms : List Monitor) → IsWell h (record { queue = i ∷ is; monitors = ms }) → IsWell h (record { queue = is; monitors = leaves h db i ms })
  next_well db i is ms k = record {
    items = k.items.1;
    kept = item_kept db i ms k.items.0 k.kept;
    distinct = subst (StayDistinct h is) (sym (leaves-asks h db i ms)) k.distinct.2;
    order = order_rest i is k.order;
  }

  pub from_heard : (revision : Revision) (q : List Item) (ms : List Monitor) → IsWell h (record { queue = q; monitors = ms }) → heard (take_from h revision q ms).0 (map seen ms) ≡ Some (map seen (take_from h revision q ms).1.monitors)
  from_heard revision [] ms k = rest_heard revision ms k.kept k.distinct
  from_heard revision (i ∷ is) ms k =
      stop_item (gives h revision i ms) (map seen ms) (record { queue = is; monitors = leaves h revision.db i ms }) (take_from h revision is (leaves h revision.db i ms))
      (item_heard revision i ms k.items.0 k.distinct.1 k.kept) (from_heard revision is (leaves h revision.db i ms) (next_well revision.db i is ms k))

  pub from_well : (revision : Revision) (q : List Item) (ms : List Monitor) → IsWell h (record { queue = q; monitors = ms }) → IsWell h (take_from h revision q ms).1
  from_well revision [] ms k = record { items = tt; kept = rest_kept revision ms k.kept; distinct = subst (λ ks. AreDistinct (texts h ks)) (sym (rest_watch revision ms)) k.distinct; order = tt }
  from_well revision (i ∷ is) ms k =
      stop_well (gives h revision i ms) (record { queue = is; monitors = leaves h revision.db i ms }) (take_from h revision is (leaves h revision.db i ms)) (next_well revision.db i is ms k) (from_well revision is (leaves h revision.db i ms) (next_well revision.db i is ms k))

  -- ---- what is owed

  client_from-option : (ps : List Picture) (o : Option Out) (os : List Out) → client_from h ps (option_to_list o ++ os) ≡ option_and_then (λ qs. client_from h qs os) (heard o ps)
  client_from-option ps None os = refl
  client_from-option ps (Some o) os = refl

  past_rest : (p : Picture) (os : List Out) → ((qs : List Picture) → client_from h (p ∷ qs) os ≡ option_map (λ qs. p ∷ qs) (client_from h qs os))
      → (r : Option (List Picture)) → option_and_then (λ qs. client_from h qs os) (option_map (λ qs. p ∷ qs) r) ≡ option_map (λ qs. p ∷ qs) (option_and_then (λ qs. client_from h qs os) r)
  past_rest p os ih None = refl
  past_rest p os ih (Some qs) = ih qs

  client_from-past : (p : Picture) (os : List Out) → Each (λ o. IsAway (h.printed p.id) (Some o)) os → (ps : List Picture) → client_from h (p ∷ ps) os ≡ option_map (λ qs. p ∷ qs) (client_from h ps os)
  client_from-past p [] a ps = refl
  client_from-past p (o ∷ os) a ps =
      ap (option_and_then (λ qs. client_from h qs os)) (heard-past p ps (Some o) a.0) ∙ past_rest p os (client_from-past p os a.1) (client_step h ps o)

  cons_away : (t : List ℕ) (o : Option Out) (os : List Out) → IsAway t o → Each (λ o. IsAway t (Some o)) os → Each (λ o. IsAway t (Some o)) (cons_option o os)
  cons_away t None os a b = b
  cons_away t (Some o) os a b = (a, b)

  all_away : (t : List ℕ) (revision : Revision) (ms : List Monitor) → IsApart t (texts h (map (λ m. m.watch) ms)) → Each (λ o. IsAway t (Some o)) (filter_map (λ m. update_to h revision m.watch.requests m) ms)
  all_away t revision [] a = tt
  all_away t revision (m ∷ ms) a =
      cons_away t (update_to h revision m.watch.requests m) (filter_map (λ m. update_to h revision m.watch.requests m) ms)
      (one_away t revision m.watch.requests m (nat_list_eq_equiv.symm (h.printed m.watch.id) t ∙ a.0)) (all_away t revision ms a.1)

  client_from-cons : (ps : List Picture) (o : Option Out) (os : List Out) → client_from h ps (cons_option o os) ≡ option_and_then (λ qs. client_from h qs os) (heard o ps)
  client_from-cons ps None os = refl
  client_from-cons ps (Some o) os = refl

  monitors_owed : (revision : Revision) (ms : List Monitor) → Each (IsKept h) ms → AreDistinct (texts h (map (λ m. m.watch) ms))
      → client_from h (map seen ms) (filter_map (λ m. update_to h revision m.watch.requests m) ms) ≡ Some (map seen (map (λ m. brought h revision.db m.watch.requests m) ms))
  monitors_owed revision [] k d = refl
  monitors_owed revision (m ∷ ms) k d =
      let os : List Out = filter_map (λ m. update_to h revision m.watch.requests m) ms in
      let b : Monitor = brought h revision.db m.watch.requests m in
      client_from-cons (seen m ∷ map seen ms) (update_to h revision m.watch.requests m) os
      ∙ ap (option_and_then (λ qs. client_from h qs os)) (one_heard revision m.watch.requests m (map seen ms) k.0 (itself_like m))
      ∙ client_from-past (seen b) os (all_away (h.printed m.watch.id) revision ms d.0) (map seen ms)
      ∙ ap (option_map (λ qs. seen b ∷ qs)) (monitors_owed revision ms k.1 d.1)

  -- what is owed brings a client to the monitors of the session when it rests
  pub owed_heard : (revision : Revision) (q : List Item) (ms : List Monitor) → IsWell h (record { queue = q; monitors = ms })
      → client_from h (map seen ms) (owed_from h revision q ms) ≡ Some (map seen (rested h revision.db q ms))
  owed_heard revision [] ms k = monitors_owed revision ms k.kept k.distinct
  owed_heard revision (i ∷ is) ms k =
      client_from-option (map seen ms) (gives h revision i ms) (owed_from h revision is (leaves h revision.db i ms))
      ∙ ap (option_and_then (λ qs. client_from h qs (owed_from h revision is (leaves h revision.db i ms)))) (item_heard revision i ms k.items.0 k.distinct.1 k.kept)
      ∙ owed_heard revision is (leaves h revision.db i ms) (next_well revision.db i is ms k)
