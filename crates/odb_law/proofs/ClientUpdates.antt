-- What the client makes of one message about a monitor.
use Rattle.std.proofs.Common.{◌≡◌, Bool, true, false, cond, List, [], ◌∷◌, ◌++◌, map, Option, Some, None, is_some, refl, sym, ◌∙◌, ap, subst, ◌&&◌, true≢false, inr}
use Rattle.std.specs.Prelude.{bytes_eq, option_map, option_and_then, if◌then◌else◌, slice_get, unwrap_or}
use Rattle.std.specs.Cmp.Lexicographic.{pointwise}
use Rattle.serde_json.specs.Data.{Data, null}
use Rattle.odb_atoms.specs.FinMap as finmap
use Rattle.odb_atoms.specs.FinMap.{FinMap, combine, get, map_entries}
use Rattle.odb_atoms.specs.Row.{Row}
use Rattle.odb_law.proofs.Calls.{reply_heard}
use Rattle.odb_law.proofs.SessionInvariant.{IsKept, IsSound, picture, seen, with_view}
use Rattle.odb_law.specs.Client.{Picture, added, begun_view, can_follow, client_step, first_view, follow, follow_numbered, followed, has_members, is_id_of, is_of_notation, on_granted, resumed_view, try_first, with_followed}
use Rattle.odb_service.specs.Service.{Service}
use Rattle.odb_service.specs.Session.{Monitor, Out, Revision, Watch, begun, brought, content_after, first_out, first_result, first_updates, held_by, no_request, notified, shapes, start}
use Rattle.odb_wire.specs.Message.{id_of}
use Rattle.odb_monitor.proofs.Lists.{IsAsLong}
use Rattle.odb_monitor.proofs.Maps.{get-empty, get-map_entries, same_map}
use Rattle.odb_monitor.proofs.Views.{AllBegin, IsRowOf, IsViewOf, delta-none, fold-first, fold-later}
use Rattle.odb_monitor.specs.Fold.{fold, pairs}
use Rattle.odb_monitor.specs.Names.{AreNamed}
use Rattle.odb_monitor.specs.Update.{members, table_parts, table_update, table_updates}
use Rattle.odb_monitor.specs.View.{Change, Delta, View, change, comes_in, cut, delta, differs, goes_out, is_empty, is_none, is_shown, nothing, query, shown}
use Rattle.odb_request.specs.Request.{Column, Notation, Request, Select, Shape, table_names, update, update2}
use Rattle.odb_tables.specs.Database.{Db, Table}
use Rattle.odb_atoms.specs.Uuid.{Uuid, uuid_cmp}
use Rattle.odb_cond.specs.Filter.{selects}
use Rattle.odb_service.proofs.WhatIsOwed.{change_to}

-- ---- what a query gives fits its requests

cut_long : (cs : List Column) (u : Uuid) (row : Row) → IsAsLong cs (cut cs u row)
cut_long [] u row = tt
cut_long (c ∷ cs) u row = cut_long cs u row

chosen_fits : (cs : List Column) (u : Uuid) (row : Row) (b : Bool) → IsRowOf cs (cond b (Some (cut cs u row)) None)
chosen_fits cs u row true = cut_long cs u row
chosen_fits cs u row false = tt

row_fits : (q : Request) (u : Uuid) (o : Option Row) → IsRowOf q.shape.columns (option_and_then (λ row. if selects q.filter u row then Some (cut q.shape.columns u row) else None) o)
row_fits q u None = tt
row_fits q u (Some row) = chosen_fits q.shape.columns u row (selects q.filter u row)

pub query_fits : (db : Db) (qs : List Request) → IsViewOf (shapes qs) (query db qs)
query_fits db [] = tt
query_fits db (q ∷ qs) =
    let t : Table = unwrap_or (slice_get db q.place) finmap.empty in
    (λ u. subst (IsRowOf q.shape.columns) (sym (get-map_entries (λ u row. if selects q.filter u row then Some (cut q.shape.columns u row) else None) t u)) (row_fits q u (get t u)), query_fits db qs)

nothing_fits : {A : Type 0} (f : A → Shape) (xs : List A) → IsViewOf (map f xs) (nothing xs)
nothing_fits f [] = tt
nothing_fits f (x ∷ xs) = (λ u. subst (IsRowOf (f x).columns) (sym (get-empty u)) tt, nothing_fits f xs)

nothing_begins : {A : Type 0} (xs : List A) → AllBegin true (nothing xs)
nothing_begins [] = tt
nothing_begins (x ∷ xs) = (inr (λ u. get-empty u), nothing_begins xs)

-- ---- where every kind of change is on, all is shown

and_first : (a b : Bool) → (a && b) ≡ true → a ≡ true
and_first true b e = refl
and_first false b e = absurd (true≢false (sym e))

and_second : (a b : Bool) → (a && b) ≡ true → b ≡ true
and_second true b e = e
and_second false b e = absurd (true≢false (sym e))

abbrev all_on : Select → Bool
all_on s = s.initial && (s.insert && (s.delete && s.modify))

shown_all : (first : Bool) (s : Select) (c : Change) → all_on s ≡ true → is_shown first s c ≡ true
shown_all true s (comes_in new) e = and_first s.initial (s.insert && (s.delete && s.modify)) e
shown_all false s (comes_in new) e = and_first s.insert (s.delete && s.modify) (and_second s.initial (s.insert && (s.delete && s.modify)) e)
shown_all first s (goes_out old) e = and_first s.delete s.modify (and_second s.insert (s.delete && s.modify) (and_second s.initial (s.insert && (s.delete && s.modify)) e))
shown_all first s (differs old new) e = and_second s.delete s.modify (and_second s.insert (s.delete && s.modify) (and_second s.initial (s.insert && (s.delete && s.modify)) e))

kept_change : (first : Bool) (s : Select) → all_on s ≡ true → (o : Option Change) → option_and_then (λ c. if is_shown first s c then Some c else None) o ≡ o
kept_change first s e None = refl
kept_change first s e (Some c) = ap (λ b. cond b (Some c) None) (shown_all first s c e)

pub shown-whole : (first : Bool) (qs : List Request) (V W : View) → IsViewOf (shapes qs) V → IsViewOf (shapes qs) W → can_follow qs ≡ true → shown first qs (delta V W) ≡ delta V W
shown-whole first [] [] W l m e = refl
shown-whole first [] (t ∷ V) W l m e = absurd l
shown-whole first (q ∷ qs) [] W l m e = absurd l
shown-whole first (q ∷ qs) (t ∷ V) [] l m e = absurd m
shown-whole first (q ∷ qs) (t ∷ V) (w ∷ W) l m e =
    let d : FinMap uuid_cmp Change = combine (change) t w in
    λ i. same_map (map_entries (λ u c. if is_shown first q.select c then Some c else None) d) d (λ u. get-map_entries (λ u c. if is_shown first q.select c then Some c else None) d u ∙ kept_change first q.select (and_first (all_on q.select) (can_follow qs) e) (get d u)) i
    ∷ shown-whole first qs V W l.1 m.1 (and_second (all_on q.select) (can_follow qs) e) i

-- an update has no member where nothing differs
pub no_member : (n : Notation) (first : Bool) (ss : List Shape) (V W : View) → IsViewOf ss V → IsViewOf ss W → has_members [] (table_updates n first ss (delta V W)) ≡ is_none (delta V W)
no_member n first [] [] [] l m = refl
no_member n first [] [] (w ∷ W) l m = absurd m
no_member n first [] (t ∷ V) W l m = absurd l
no_member n first (s ∷ ss) [] W l m = absurd l
no_member n first (s ∷ ss) (t ∷ V) [] l m = absurd m
no_member n first (s ∷ ss) (t ∷ V) (w ∷ W) l m =
    elim (combine change t w).entries as (λ es. pointwise bytes_eq [] (map (λ e. e.0) (pairs (members (s.name ∷ table_names ss) (table_update n first s.columns es ∷ table_parts n first ss (delta V W))))) ≡ (is_empty es && is_none (delta V W))) [
      | [] ↦ no_member n first ss V W l.1 m.1
      | e ∷ es ↦ refl
    ]

module _ (h : Service) where
  -- ---- an update, followed

  own_notation : (n : Notation) → is_of_notation n n ≡ true
  own_notation update = refl
  own_notation update2 = refl

  -- under the method that is the watch's own
  abbrev pub follow_of : Notation → Option Uuid → Data → Picture → Option Picture
  follow_of n None d p = follow h n d p
  follow_of n (Some v) d p = follow_numbered h d p

  own_method : (k : Watch) (d : Data) (v : Option View) → follow_of k.notation k.since d (with_view k v) ≡ with_followed h d (with_view k v)
  own_method k d v = by k.since
    where
      by : (o : Option Uuid) → follow_of k.notation o d (with_view (record k { since = o }) v) ≡ with_followed h d (with_view (record k { since = o }) v)
      by None = ap (λ b. cond (b && true) (with_followed h d (with_view (record k { since = None }) v)) None) (own_notation k.notation)
      by (Some u) = refl

  follow-delta : (k : Watch) (V W : View) (D : Delta) → AreNamed (shapes k.requests) → IsViewOf (shapes k.requests) V → IsViewOf (shapes k.requests) W → (can_follow k.requests ≡ true → D ≡ delta V W) → is_none D ≡ false
      → follow_of k.notation k.since (table_updates k.notation false (shapes k.requests) D) (picture k V) ≡ Some (picture k W)
  follow-delta k V W D a l m e f =
      own_method k (table_updates k.notation false (shapes k.requests) D) (cond (can_follow k.requests) (Some V) None)
      ∙ ap (option_map (with_view k)) (by (can_follow k.requests) refl)
    where
      by : (b : Bool) → can_follow k.requests ≡ b → followed h (table_updates k.notation false (shapes k.requests) D) (with_view k (cond b (Some V) None)) ≡ Some (cond b (Some W) None)
      by true w = ap (λ E. option_map Some (fold k.notation false (shapes k.requests) V (table_updates k.notation false (shapes k.requests) E))) (e w)
          ∙ ap (option_map Some) (fold-later k.notation (shapes k.requests) a V W l m (ap is_none (sym (e w)) ∙ f))
      by false w = refl

  unseen-delta : (k : Watch) (V W : View) (D : Delta) → IsViewOf (shapes k.requests) V → IsViewOf (shapes k.requests) W → (can_follow k.requests ≡ true → D ≡ delta V W) → is_none D ≡ true → picture k V ≡ picture k W
  unseen-delta k V W D l m e f = ap (with_view k) (by (can_follow k.requests) refl)
    where
      by : (b : Bool) → can_follow k.requests ≡ b → cond b (Some V) None ≡ cond b (Some W) None
      by true w = ap Some (delta-none (shapes k.requests) V W l m (ap is_none (sym (e w)) ∙ f))
      by false w = refl

  -- ---- a monitor brought to now under requests of the same tables and columns

  abbrev pub IsLike : List Request → Watch → Type 0
  IsLike qs k = (shapes qs ≡ shapes k.requests) × (can_follow qs ≡ can_follow k.requests)

  now_fits : (db : Db) (qs : List Request) (m : Monitor) → IsLike qs m.watch → IsViewOf (shapes m.watch.requests) (query db qs)
  now_fits db qs m like = subst (λ ss. IsViewOf ss (query db qs)) like.0 (query_fits db qs)

  all_shown : (db : Db) (qs : List Request) (m : Monitor) → IsKept h m → IsLike qs m.watch → can_follow m.watch.requests ≡ true → change_to h db qs m ≡ delta m.view (query db qs)
  all_shown db qs m kept like w =
      shown-whole false qs m.view (query db qs) (subst (λ ss. IsViewOf ss m.view) (sym like.0) kept.1) (query_fits db qs) (like.1 ∙ w)

  pub brought-unseen : (db : Db) (qs : List Request) (m : Monitor) → IsKept h m → IsLike qs m.watch → is_none (change_to h db qs m) ≡ true → seen m ≡ seen (brought h db qs m)
  brought-unseen db qs m kept like f =
      unseen-delta m.watch m.view (query db qs) (change_to h db qs m) kept.1 (now_fits db qs m like) (all_shown db qs m kept like) f

  pub brought-followed : (db : Db) (qs : List Request) (m : Monitor) → IsKept h m → IsLike qs m.watch → is_none (change_to h db qs m) ≡ false
      → follow_of m.watch.notation m.watch.since (table_updates m.watch.notation false (shapes qs) (change_to h db qs m)) (seen m) ≡ Some (seen (brought h db qs m))
  brought-followed db qs m kept like f =
      ap (λ ss. follow_of m.watch.notation m.watch.since (table_updates m.watch.notation false ss (change_to h db qs m)) (seen m)) like.0
      ∙ follow-delta m.watch m.view (query db qs) (change_to h db qs m) kept.0 kept.1 (now_fits db qs m like) (all_shown db qs m kept like) f

  pub brought_kept : (db : Db) (qs : List Request) (m : Monitor) → IsKept h m → IsLike qs m.watch → IsKept h (brought h db qs m)
  brought_kept db qs m kept like = (kept.0, now_fits db qs m like)

  pub begun_kept : (db : Db) (k : Watch) → AreNamed (shapes k.requests) → IsKept h (begun h db k)
  begun_kept db k a = (a, query_fits db k.requests)

  -- ---- a first reply

  -- to a client that is told all
  first_seen : (k : Watch) (V : View) → AreNamed (shapes k.requests) → IsViewOf (shapes k.requests) V
      → first_view h k.notation k.requests (first_updates h k None V) ≡ Some (if can_follow k.requests then Some V else None)
  first_seen k V a m = by (can_follow k.requests) refl
    where
      by : (b : Bool) → can_follow k.requests ≡ b
          → (if b then option_map Some (fold k.notation true (shapes k.requests) (nothing k.requests) (first_updates h k None V)) else Some None) ≡ Some (if b then Some V else None)
      by true w =
          ap (λ D. option_map Some (fold k.notation true (shapes k.requests) (nothing k.requests) (table_updates k.notation true (shapes k.requests) D))) (shown-whole true k.requests (nothing k.requests) V (nothing_fits (λ q. q.shape) k.requests) m w)
          ∙ ap (option_map Some) (fold-first k.notation (shapes k.requests) a (nothing k.requests) V (nothing_fits (λ q. q.shape) k.requests) m (nothing_begins k.requests))
      by false w = refl

  abbrev folded : Watch → View → Data → Bool → Option (Option View)
  folded k W d e = if e then Some (Some W) else option_map Some (fold k.notation false (shapes k.requests) W d)

  -- to one that has W; it may be told nothing
  resumed_seen : (k : Watch) (W V : View) → AreNamed (shapes k.requests) → IsViewOf (shapes k.requests) W → IsViewOf (shapes k.requests) V
      → resumed_view h k.notation k.requests (first_updates h k (Some W) V) W ≡ Some (if can_follow k.requests then Some V else None)
  resumed_seen k W V a l m = by (can_follow k.requests) refl
    where
      all : (e : Bool) → is_none (delta W V) ≡ e → folded k W (table_updates k.notation false (shapes k.requests) (delta W V)) e ≡ Some (Some V)
      all true e = ap (λ X. Some (Some X)) (delta-none (shapes k.requests) W V l m e)
      all false e = ap (option_map Some) (fold-later k.notation (shapes k.requests) a W V l m e)

      by : (b : Bool) → can_follow k.requests ≡ b
          → (if b then folded k W (first_updates h k (Some W) V) (has_members [] (first_updates h k (Some W) V)) else Some None) ≡ Some (if b then Some V else None)
      by true w =
          ap (λ D. folded k W (table_updates k.notation false (shapes k.requests) D) (has_members [] (table_updates k.notation false (shapes k.requests) D))) (shown-whole false k.requests W V l m w)
          ∙ ap (folded k W (table_updates k.notation false (shapes k.requests) (delta W V))) (no_member k.notation false (shapes k.requests) W V l m)
          ∙ all (is_none (delta W V)) refl
      by false w = refl

  abbrev held_after : Watch → Option Db → Option View
  held_after k o = option_map (λ db. query db k.requests) o

  abbrev first_data : Revision → Watch → Option View → Data
  first_data revision k held = first_result h revision k held (first_updates h k held (query revision.db k.requests))

  abbrev now_seen : Revision → Watch → Option (Option View)
  now_seen revision k = Some (if can_follow k.requests then Some (query revision.db k.requests) else None)

  numbered_seen : (revision : Revision) (k : Watch) → AreNamed (shapes k.requests) → (o : Option Db)
      → (let d : Data = first_updates h k (held_after k o) (query revision.db k.requests) in
      if is_some (held_after k o) then option_and_then (resumed_view h k.notation k.requests d) (held_after k o) else first_view h k.notation k.requests d) ≡ now_seen revision k
  numbered_seen revision k a None = first_seen k (query revision.db k.requests) a (query_fits revision.db k.requests)
  numbered_seen revision k a (Some db) = resumed_seen k (query db k.requests) (query revision.db k.requests) a (query_fits db k.requests) (query_fits revision.db k.requests)

  -- what a client makes of the first reply of a monitor
  begun_seen : (revision : Revision) (k : Watch) → AreNamed (shapes k.requests) → begun_view h k.notation k.since k.requests (held_by h revision k) (first_data revision k (held_by h revision k)) ≡ now_seen revision k
  begun_seen revision k a = by k.since
    where
      by : (o : Option Uuid) → (let held : Option View = held_after k (option_and_then (content_after revision) o) in begun_view h k.notation o k.requests held (first_data revision (record k { since = o }) held)) ≡ now_seen revision k
      by None = first_seen k (query revision.db k.requests) a (query_fits revision.db k.requests)
      by (Some v) = numbered_seen revision k a (content_after revision v)

  pub first_heard : (revision : Revision) (d : Data) (k : Watch) → IsSound h (start d k) → (ps : List Picture) → client_step h ps (first_out h revision d k) ≡ Some (ps ++ seen (begun h revision.db k) ∷ [])
  first_heard revision d k s ps =
      let held : Option View = held_by h revision k in
      let r : Data = first_data revision k held in
      reply_heard h d null (id_of d) r held ps (sym s.1)
      ∙ ap (λ w. on_granted h w held r ps) s.2.1
      ∙ ap (λ x. added h k.notation k.since k.id x held r ps) s.2.2
      ∙ ap (option_map (λ v. ps ++ with_view k v ∷ [])) (begun_seen revision k s.0)

  -- ---- an update among a client's pictures

  -- a message about a monitor
  abbrev pub told_to : Revision → Watch → Data → Out
  told_to revision k d = record { answers = no_request; message = notified h revision k d; held = None }

  pub update-heard : (revision : Revision) (k : Watch) (d : Data) (ps : List Picture) → client_step h ps (told_to revision k d) ≡ try_first (is_id_of h k.id) (follow_of k.notation k.since d) ps
  update-heard revision k d ps = by k.notation k.since
    where
      by : (n : Notation) (o : Option Uuid) → client_step h ps (told_to revision (record k { notation = n; since = o }) d) ≡ try_first (is_id_of h k.id) (follow_of n o d) ps
      by update None = refl
      by update2 None = refl
      by n (Some v) = refl
