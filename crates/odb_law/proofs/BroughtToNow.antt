-- A cancel, and a change of filters, is answered when the client has what the filters select.
use Rattle.std.proofs.Common.{◌≡◌, ℕ, Bool, true, false, cond, List, [], ◌∷◌, ◌++◌, map, Option, Some, None, Result, Ok, Err, ◌⊎◌, inl, inr, refl, sym, ◌∙◌, ap, subst, is_some, true≢false, append_assoc, append-nil, codes}
use Rattle.std.specs.Prelude.{option_and_then, option_to_list, find, filter_map}
use Rattle.std.specs.List.{cons_option}
use Rattle.serde_json.specs.Data.{Data}
use Rattle.odb_cond.specs.Filter.{Filter}
use Rattle.odb_law.proofs.PictureLookups.{client_item, is_now, new_found, pictured_seen}
use Rattle.odb_law.proofs.HeadlineRuns.{reached_good}
use Rattle.odb_law.proofs.SessionInvariant.{Goes, IsShiftOf, IsSyncOf, IsWell, leaves-asks, seen, texts, with_new}
use Rattle.odb_law.proofs.TakingPictures.{next_well}
use Rattle.odb_service.proofs.WhatIsOwed.{change_to, message_of}
use Rattle.odb_law.proofs.WholeMessages.{stay_now}
use Rattle.odb_law.proofs.WorldInvariant.{Holds, StandsAfter}
use Rattle.odb_law.specs.Client.{Picture, adds, changes, client, client_step, drops, is_reply_to, on_granted, refiltered, wish_of}
use Rattle.odb_law.specs.Headline.{HoldsAlways, IsChangedWhole, IsDroppedWhole, IsNow, ReadsNamed, WasLast, is_granted, pictured}
use Rattle.odb_service.specs.Service.{Service}
use Rattle.odb_service.specs.Session.{Answers, Item, Monitor, Out, Revision, Session, at_first, brought, first_out, gives, granted as granted_to, has_id, leaves, no_request, owed, owed_from, refilter, renamed, say, shift, start, stopped, sync, to, update_to}
use Rattle.odb_service.specs.World.{revision_of, watched}
use Rattle.odb_monitor.proofs.Views.{some_is}
use Rattle.odb_monitor.specs.Names.{AreDistinct}
use Rattle.odb_monitor.specs.View.{is_none, query}
use Rattle.odb_request.specs.Request.{Notation, Request}
use Rattle.odb_tables.specs.Database.{Db}
use Rattle.odb_wire.specs.Message.{at_key}
use Rattle.odb_atoms.specs.Error.{Error}
use Rattle.odb_atoms.specs.Uuid.{Uuid}

-- ---- where a message stands in a list

abbrev InRest : {A : Type 0} → Option A → List A → List A → A → List A → Type 0
InRest {A} g rest a o b = (c : List A) × (a ≡ option_to_list g ++ c) × (rest ≡ c ++ o ∷ b)

pub head_of : {A : Type 0} (x y : A) (xs ys : List A) → x ∷ xs ≡ y ∷ ys → (x ≡ y) × (xs ≡ ys)
head_of x y xs ys e = (cc, cc)

first_or_rest : {A : Type 0} (g : Option A) (rest a : List A) (o : A) (b : List A) → option_to_list g ++ rest ≡ a ++ o ∷ b → ((g ≡ Some o) × (a ≡ [])) ⊎ InRest g rest a o b
first_or_rest None rest a o b e = inr (a, refl, e)
first_or_rest (Some u) rest [] o b e = inl (ap Some (head_of u o rest b e).0, refl)
first_or_rest (Some u) rest (v ∷ a) o b e =
    let t : (u ≡ v) × (rest ≡ a ++ o ∷ b) = head_of u v rest (a ++ o ∷ b) e in
    inr (a, ap (λ x. x ∷ a) (sym t.0), t.1)

pub cons-list : {A : Type 0} (g : Option A) (xs : List A) → cons_option g xs ≡ option_to_list g ++ xs
cons-list None xs = refl
cons-list (Some x) xs = refl

pub no_empty : {A : Type 0} (a : List A) (o : A) (b : List A) → [] ≡ a ++ o ∷ b → ⊥
no_empty [] o b e = cc
no_empty (x ∷ a) o b e = cc

-- ---- labels

pub unlabelled : (d : Data) → no_request ≡ to d → ⊥
unlabelled d e = cc

same_request : (c d : Data) → to c ≡ to d → c ≡ d
same_request c d e = cc

add_drop : (n : Notation) (since : Option Uuid) (i r j : Data) → adds n since i r ≡ drops j → ⊥
add_drop n since i r j e = cc

change_drop : (old new r j : Data) → changes old new r ≡ drops j → ⊥
change_drop old new r j e = cc

same_drop : (i j : Data) → drops i ≡ drops j → i ≡ j
same_drop i j e = cc

add_change : (n : Notation) (since : Option Uuid) (i r old new filters : Data) → adds n since i r ≡ changes old new filters → ⊥
add_change n since i r old new filters e = cc

drop_change : (i old new filters : Data) → drops i ≡ changes old new filters → ⊥
drop_change i old new filters e = cc

same_change : (old new r i j s : Data) → changes old new r ≡ changes i j s → (old ≡ i) × (new ≡ j)
same_change old new r i j s e = (cc, cc)

module _ (h : Service) where
  -- a reply without an error that pictures without a monitor refuse answers no finished text
  never : (b g : Bool) (r : Option (List Picture)) → r ≡ None → g ≡ true → cond b (cond g r (Some [])) None ≡ Some [] → ⊥
  never true true r is granted e = absurd (true≢false (sym (ap is_some (sym is ∙ e))))
  never true false r is granted e = absurd (true≢false (sym granted))
  never false g r is granted e = absurd (true≢false (sym (ap is_some e)))

  said : (l : Answers) (m d : Data) → ((ps : List Picture) → client_step h ps (record { answers = l; message = m; held = None }) ≡ Some ps) → l ≡ to d → is_granted m ≡ true → on_granted h (wish_of d) None (at_key (codes "result") m) [] ≡ None → ⊥
  said no_request m d heard label granted is = unlabelled d label
  said (to c) m d heard label granted is =
      never (is_reply_to h c m) (is_granted m) (on_granted h (wish_of c) None (at_key (codes "result") m) []) (ap (λ k. on_granted h (wish_of k) None (at_key (codes "result") m) []) (same_request c d label) ∙ is) granted (heard [])

  refiltered_none : (old new : Data) (r : Result (List (List ℕ × Filter)) Error) → refiltered h old new r [] ≡ None
  refiltered_none old new (Ok fs) = refl
  refiltered_none old new (Err e) = refl

  -- with the queue empty, nothing is an answer
  rest_unlabelled : (revision : Revision) (ms : List Monitor) (a : List Out) (o : Out) (b : List Out) (d : Data) → filter_map (λ m. update_to h revision m.watch.requests m) ms ≡ a ++ o ∷ b → o.answers ≡ to d → ⊥
  rest_unlabelled revision [] a o b d e label = no_empty a o b e
  rest_unlabelled revision (m ∷ ms) a o b d e label =
      by (first_or_rest (update_to h revision m.watch.requests m) (filter_map (λ m. update_to h revision m.watch.requests m) ms) a o b (sym (cons-list (update_to h revision m.watch.requests m) (filter_map (λ m. update_to h revision m.watch.requests m) ms)) ∙ e))
      (λ c is. rest_unlabelled revision ms c o b d is label)
    where
      update : (c : Bool) → cond c None (Some (message_of h revision m.watch.requests m)) ≡ Some o → ⊥
      update true f = absurd (true≢false (sym (ap is_some f)))
      update false f = unlabelled d (ap (λ (x : Out). x.answers) (some_is (message_of h revision m.watch.requests m) o f) ∙ label)

      by : ((update_to h revision m.watch.requests m ≡ Some o) × (a ≡ [])) ⊎ InRest (update_to h revision m.watch.requests m) (filter_map (λ m. update_to h revision m.watch.requests m) ms) a o b
          → ((c : List Out) → filter_map (λ m. update_to h revision m.watch.requests m) ms ≡ c ++ o ∷ b → ⊥) → ⊥
      by (inl f) later = update (is_none (change_to h revision.db m.watch.requests m)) f.0
      by (inr r) later = later r.0 r.2

  found_unlabelled : (revision : Revision) (q : Monitor → List Request) (j : Data) (ms : List Monitor) (o : Out) (d : Data) → option_and_then (λ m. update_to h revision (q m) m) (find (has_id h j) ms) ≡ Some o → o.answers ≡ to d → ⊥
  found_unlabelled revision q j ms o d e label = by (find (has_id h j) ms) e
    where
      update : (m : Monitor) (c : Bool) → cond c None (Some (message_of h revision (q m) m)) ≡ Some o → ⊥
      update m true f = absurd (true≢false (sym (ap is_some f)))
      update m false f = unlabelled d (ap (λ (x : Out). x.answers) (some_is (message_of h revision (q m) m) o f) ∙ label)

      by : (m : Option Monitor) → option_and_then (λ m. update_to h revision (q m) m) m ≡ Some o → ⊥
      by None f = absurd (true≢false (sym (ap is_some f)))
      by (Some m) f = update m (is_none (change_to h revision.db (q m) m)) f

  -- ---- the monitor of a reply that takes effect

  -- it is there, and its view is what its filters select, or the new ones
  abbrev pub Sure : Db → (List Request → List Request) → Data → List Monitor → Type 0
  Sure db f i ms = (m : Monitor) × (find (has_id h i) ms ≡ Some m) × (m.view ≡ query db (f m.watch.requests))

  abbrev pub as_they_are : List Request → List Request
  as_they_are qs = qs

  -- sure, or under another condition
  abbrev pub ReadyFor : Db → (Data → Type 0) → Item → List Monitor → Type 0
  ReadyFor db X (say a m) ms = Unit {0}
  ReadyFor db X (start d k) ms = Unit {0}
  ReadyFor db X (sync i) ms = Unit {0}
  ReadyFor db X (shift i fs) ms = Unit {0}
  ReadyFor db X (renamed d old new fs) ms = Sure db (refilter fs) old ms ⊎ X old
  ReadyFor db X (stopped d i) ms = Sure db as_they_are i ms ⊎ X i

  abbrev pub Ready : Db → (Data → Type 0) → List Item → List Monitor → Type 0
  Ready db X [] ms = Unit {0}
  Ready db X (i ∷ is) ms = ReadyFor db X i ms

  found_watched : (i : Data) (ms : List Monitor) → is_some (watched h i (map (λ m. m.watch) ms)) ≡ true → (m : Monitor) × (find (has_id h i) ms ≡ Some m)
  found_watched i [] e = absurd (true≢false (sym e))
  found_watched i (m ∷ ms) e =
      elim (has_id h i m) as (λ b. is_some (cond b (Some m.watch) (watched h i (map (λ m. m.watch) ms))) ≡ true → (k : Monitor) × (cond b (Some m) (find (has_id h i) ms) ≡ Some k)) [
        | true ↦ λ _. (m, refl)
        | false ↦ λ f. found_watched i ms f
      ] e

  abbrev brought_by : Db → (List Request → List Request) → Data → List Monitor → List Monitor
  brought_by db f i ms = at_first (has_id h i) (λ m. brought h db (f m.watch.requests) m) ms

  brought_sure : (db : Db) (f : List Request → List Request) (i : Data) (ms : List Monitor) → is_some (watched h i (map (λ m. m.watch) (brought_by db f i ms))) ≡ true → Sure db f i (brought_by db f i ms)
  brought_sure db f i [] e = absurd (true≢false (sym e))
  brought_sure db f i (m ∷ ms) e =
      elim (has_id h i m) as (λ b. has_id h i m ≡ b → is_some (watched h i (map (λ m. m.watch) (cond b (brought h db (f m.watch.requests) m ∷ ms) (m ∷ brought_by db f i ms)))) ≡ true → Sure db f i (cond b (brought h db (f m.watch.requests) m ∷ ms) (m ∷ brought_by db f i ms))) [
        | true ↦ λ is _. (brought h db (f m.watch.requests) m, ap (λ b. cond b (Some (brought h db (f m.watch.requests) m)) (find (has_id h i) ms)) is, refl)
        | false ↦ λ isnt g.
            let s : Sure db f i (brought_by db f i ms) = brought_sure db f i ms (sym (ap (λ b. is_some (cond b (Some m.watch) (watched h i (map (λ m. m.watch) (brought_by db f i ms))))) isnt) ∙ g) in
            (s.0, ap (λ b. cond b (Some m) (find (has_id h i) (brought_by db f i ms))) isnt ∙ s.1, s.2)
      ] refl e

  pub after_sync : (db : Db) (p : Item) (i : Data) (ms : List Monitor) → IsSyncOf i p → is_some (watched h i (map (λ m. m.watch) (leaves h db p ms))) ≡ true → Sure db as_they_are i (leaves h db p ms)
  after_sync db (say a m) i ms s there = absurd s
  after_sync db (start r k) i ms s there = absurd s
  after_sync db (sync j) i ms s there =
      subst (λ k. is_some (watched h k (map (λ m. m.watch) (leaves h db (sync j) ms))) ≡ true → Sure db as_they_are k (leaves h db (sync j) ms)) s (brought_sure db as_they_are j ms) there
  after_sync db (shift j fs) i ms s there = absurd s
  after_sync db (renamed r old new fs) i ms s there = absurd s
  after_sync db (stopped r j) i ms s there = absurd s

  pub after_shift : (db : Db) (p : Item) (i : Data) (fs : List (List ℕ × Filter)) (ms : List Monitor) → IsShiftOf i fs p → is_some (watched h i (map (λ m. m.watch) (leaves h db p ms))) ≡ true → Sure db (refilter fs) i (leaves h db p ms)
  after_shift db (say a m) i fs ms s there = absurd s
  after_shift db (start r k) i fs ms s there = absurd s
  after_shift db (sync j) i fs ms s there = absurd s
  after_shift db (shift j gs) i fs ms s there =
      subst (λ k. is_some (watched h k (map (λ m. m.watch) (leaves h db (shift j gs) ms))) ≡ true → Sure db (refilter fs) k (leaves h db (shift j gs) ms)) s.0
      (subst (λ ks. is_some (watched h j (map (λ m. m.watch) (leaves h db (shift j gs) ms))) ≡ true → Sure db (refilter ks) j (leaves h db (shift j gs) ms)) s.1 (brought_sure db (refilter gs) j ms)) there
  after_shift db (renamed r old new gs) i fs ms s there = absurd s
  after_shift db (stopped r j) i fs ms s there = absurd s

  abbrev pub Never : Data → Type 0
  Never i = ⊥

  -- in the queue, such a reply finds its monitor sure
  pub next_ready : (db : Db) (p : Item) (is : List Item) (ms : List Monitor) → Goes p is → IsWell h (record { queue = is; monitors = leaves h db p ms }) → Ready db Never is (leaves h db p ms)
  next_ready db p [] ms g k = tt
  next_ready db p (say a m ∷ is) ms g k = tt
  next_ready db p (start d w ∷ is) ms g k = tt
  next_ready db p (sync j ∷ is) ms g k = tt
  next_ready db p (shift j fs ∷ is) ms g k = tt
  next_ready db p (renamed d old new fs ∷ is) ms g k = inl (after_shift db p old fs ms g.0 k.distinct.1)
  next_ready db p (stopped d i ∷ is) ms g k = inl (after_sync db p i ms g.0 k.distinct.1)

  -- ---- the item that a message answers with

  record Located (revision : Revision) (X : Data → Type 0) (os a : List Out) (o : Out) : Type 0 where
    item : Item
    behind : List Item
    monitors : List Monitor
    well : IsWell h (record { queue = item ∷ behind; monitors = monitors })
    heard : client h (os ++ a) ≡ Some (map seen monitors)
    gave : gives h revision item monitors ≡ Some o
    ready : ReadyFor revision.db (λ i. (a ≡ []) × X i) item monitors

  ready_here : (db : Db) (X : Data → Type 0) (a : List Out) (i : Item) (ms : List Monitor) → a ≡ [] → ReadyFor db X i ms → ReadyFor db (λ i. (a ≡ []) × X i) i ms
  ready_here db X a (say l m) ms e r = tt
  ready_here db X a (start d k) ms e r = tt
  ready_here db X a (sync i) ms e r = tt
  ready_here db X a (shift i fs) ms e r = tt
  ready_here db X a (renamed d old new fs) ms e (inl s) = inl s
  ready_here db X a (renamed d old new fs) ms e (inr x) = inr (e, x)
  ready_here db X a (stopped d i) ms e (inl s) = inl s
  ready_here db X a (stopped d i) ms e (inr x) = inr (e, x)

  ready_later : (db : Db) (X : Data → Type 0) (a c : List Out) (i : Item) (ms : List Monitor) → ReadyFor db (λ i. (c ≡ []) × ⊥) i ms → ReadyFor db (λ i. (a ≡ []) × X i) i ms
  ready_later db X a c (say l m) ms r = tt
  ready_later db X a c (start d k) ms r = tt
  ready_later db X a c (sync i) ms r = tt
  ready_later db X a c (shift i fs) ms r = tt
  ready_later db X a c (renamed d old new fs) ms (inl s) = inl s
  ready_later db X a c (renamed d old new fs) ms (inr x) = absurd x.1
  ready_later db X a c (stopped d i) ms (inl s) = inl s
  ready_later db X a c (stopped d i) ms (inr x) = absurd x.1

  located : (revision : Revision) (X : Data → Type 0) (q : List Item) (ms : List Monitor) (os a : List Out) (o : Out) (b : List Out) (d : Data) → IsWell h (record { queue = q; monitors = ms }) → client h os ≡ Some (map seen ms) → Ready revision.db X q ms
      → owed_from h revision q ms ≡ a ++ o ∷ b → o.answers ≡ to d → Located revision X os a o
  located revision X [] ms os a o b d k c ready e label = absurd (rest_unlabelled revision ms a o b d e label)
  located revision X (p ∷ q) ms os a o b d k c ready e label =
      by (first_or_rest (gives h revision p ms) (owed_from h revision q (leaves h revision.db p ms)) a o b e)
      (λ r. located revision Never q (leaves h revision.db p ms) (os ++ option_to_list (gives h revision p ms)) r.0 o b d (next_well h revision.db p q ms k) (client_item h revision p ms os k.items.0 k.distinct.1 k.kept c) (next_ready revision.db p q ms k.order (next_well h revision.db p q ms k)) r.2 label)
    where
      by : ((gives h revision p ms ≡ Some o) × (a ≡ [])) ⊎ InRest (gives h revision p ms) (owed_from h revision q (leaves h revision.db p ms)) a o b
          → ((r : InRest (gives h revision p ms) (owed_from h revision q (leaves h revision.db p ms)) a o b) → Located revision Never (os ++ option_to_list (gives h revision p ms)) r.0 o) → Located revision X os a o
      by (inl f) later = record {
        item = p;
        behind = q;
        monitors = ms;
        well = k;
        heard = ap (λ a. client h (os ++ a)) f.1 ∙ ap (client h) (append-nil os) ∙ c;
        gave = f.0;
        ready = ready_here revision.db X a p ms f.1 ready;
      }
      by (inr r) later =
          let l : Located revision Never (os ++ option_to_list (gives h revision p ms)) r.0 o = later r in
          record {
            item = l.item;
            behind = l.behind;
            monitors = l.monitors;
            well = l.well;
            heard = ap (client h) (ap (λ t. os ++ t) r.1 ∙ sym (append_assoc os (option_to_list (gives h revision p ms)) r.0)) ∙ l.heard;
            gave = l.gave;
            ready = ready_later revision.db X a r.0 l.item l.monitors l.ready;
          }

  -- at the head of the queue
  first_ready : (db : Db) (q : List Item) (ms : List Monitor) (os : List Out) → StandsAfter h q os → Ready db (λ i. WasLast h i os) q ms
  first_ready db [] ms os s = tt
  first_ready db (say a m ∷ q) ms os s = tt
  first_ready db (start d k ∷ q) ms os s = tt
  first_ready db (sync i ∷ q) ms os s = tt
  first_ready db (shift i fs ∷ q) ms os s = tt
  first_ready db (renamed d old new fs ∷ q) ms os s = inr s
  first_ready db (stopped d i ∷ q) ms os s = inr s

  at_session : (revision : Revision) (x : Session) (os a : List Out) (o : Out) (b : List Out) (d : Data) → Holds h x os → owed h revision x ≡ a ++ o ∷ b → o.answers ≡ to d → Located revision (λ i. WasLast h i os) os a o
  at_session revision x os a o b d k e label = located revision (λ i. WasLast h i os) x.queue x.monitors os a o b d k.0 k.1 (first_ready revision.db x.queue x.monitors os k.2) e label

  labelled : (u o : Out) (r d : Data) → u.answers ≡ to r → Some u ≡ Some o → o.answers ≡ to d → r ≡ d
  labelled u o r d own e label = same_request r d (sym own ∙ ap (λ (x : Out). x.answers) (some_is u o e) ∙ label)

  -- ---- a cancel

  abbrev pub Dropped : Db → (Data → Type 0) → List Out → Data → Type 0
  Dropped db Y os i = (p : Picture) × (pictured h i os ≡ Some p) × (IsNow h db p.requests p.view ⊎ Y i)

  stop_dropped : (db : Db) (Y : Data → Type 0) (os : List Out) (i : Data) (ms : List Monitor) → client h os ≡ Some (map seen ms) → is_some (watched h i (map (λ m. m.watch) ms)) ≡ true → Sure db as_they_are i ms ⊎ Y i → Dropped db Y os i
  stop_dropped db Y os i ms c there (inl s) = (seen s.0, pictured_seen h i os ms s.0 c s.1, inl (is_now h db s.0.watch.requests s.0 s.2))
  stop_dropped db Y os i ms c there (inr y) =
      let f : (m : Monitor) × (find (has_id h i) ms ≡ Some m) = found_watched i ms there in
      (seen f.0, pictured_seen h i os ms f.0 c f.1, inr y)

  pub item_dropped : (revision : Revision) (Y : Data → Type 0) (p : Item) (q : List Item) (ms : List Monitor) (os : List Out) (o : Out) (d i : Data) → IsWell h (record { queue = p ∷ q; monitors = ms }) → client h os ≡ Some (map seen ms) → ReadyFor revision.db Y p ms
      → gives h revision p ms ≡ Some o → o.answers ≡ to d → is_granted o.message ≡ true → wish_of d ≡ drops i → Dropped revision.db Y os i
  item_dropped revision Y (say l m) q ms os o d i k c ready e label granted is =
      let x : (let u : Out = record { answers = l; message = m; held = None } in u) ≡ o = some_is _ o e in
      absurd (said l m d k.items.0.0 (ap (λ (u : Out). u.answers) x ∙ label) (ap (λ (u : Out). is_granted u.message) x ∙ granted) (ap (λ w. on_granted h w None (at_key (codes "result") m) []) is))
  item_dropped revision Y (start r w) q ms os o d i k c ready e label granted is =
      absurd (add_drop w.notation w.since w.id k.items.0.2.0 i (sym k.items.0.2.1 ∙ ap wish_of (labelled (first_out h revision r w) o r d refl e label) ∙ is))
  item_dropped revision Y (sync j) q ms os o d i k c ready e label granted is = absurd (found_unlabelled revision (λ m. m.watch.requests) j ms o d e label)
  item_dropped revision Y (shift j fs) q ms os o d i k c ready e label granted is = absurd (found_unlabelled revision (λ m. refilter fs m.watch.requests) j ms o d e label)
  item_dropped revision Y (renamed r old new fs) q ms os o d i k c ready e label granted is =
      absurd (change_drop old new k.items.0.1.0 i (sym k.items.0.1.1 ∙ ap wish_of (labelled (granted_to h r) o r d refl e label) ∙ is))
  item_dropped revision Y (stopped r j) q ms os o d i k c ready e label granted is =
      subst (Dropped revision.db Y os) (same_drop j i (sym k.items.0.1 ∙ ap wish_of (labelled (granted_to h r) o r d refl e label) ∙ is)) (stop_dropped revision.db Y os j ms c k.distinct.1 ready)

  pub dropped_whole : ReadsNamed h → HoldsAlways h (IsDroppedWhole h)
  dropped_whole named st r s x found a o b d i e label granted is =
      let l : Located (revision_of st.world) (λ j. WasLast h j (st.given s)) (st.given s) a o = at_session (revision_of st.world) x (st.given s) a o b d ((reached_good h named st r).0 s x found) e label in
      item_dropped (revision_of st.world) (λ j. (a ≡ []) × WasLast h j (st.given s)) l.item l.behind l.monitors (st.given s ++ a) o d i l.well l.heard l.ready l.gave label granted is

  -- ---- a change of filters

  abbrev pub Changed : Db → (Data → Type 0) → List Out → Data → Data → Type 0
  Changed db Y os old new = (p : Picture) × (pictured h new os ≡ Some p) × (IsNow h db p.requests p.view ⊎ Y old)

  new_changed : (revision : Revision) (Y : Data → Type 0) (os : List Out) (r old new : Data) (fs : List (List ℕ × Filter)) (q : List Item) (ms : List Monitor) → IsWell h (record { queue = renamed r old new fs ∷ q; monitors = ms }) → client h os ≡ Some (map seen ms)
      → Sure revision.db (refilter fs) old ms ⊎ Y old → Changed revision.db Y (os ++ granted_to h r ∷ []) old new
  new_changed revision Y os r old new fs q ms k c ready =
      let later : client h (os ++ granted_to h r ∷ []) ≡ Some (map seen (leaves h revision.db (renamed r old new fs) ms)) = client_item h revision (renamed r old new fs) ms os k.items.0 k.distinct.1 k.kept c in
      let distinct : AreDistinct (texts h (map (λ m. m.watch) (leaves h revision.db (renamed r old new fs) ms))) = subst (λ ks. AreDistinct (texts h ks)) (sym (leaves-asks h revision.db (renamed r old new fs) ms)) (stay_now h q _ k.distinct.2) in
      by later distinct ready
    where
      at : (m : Monitor) → find (has_id h old) ms ≡ Some m → client h (os ++ granted_to h r ∷ []) ≡ Some (map seen (leaves h revision.db (renamed r old new fs) ms)) → AreDistinct (texts h (map (λ m. m.watch) (leaves h revision.db (renamed r old new fs) ms)))
          → pictured h new (os ++ granted_to h r ∷ []) ≡ Some (seen (with_new h new fs m))
      at m found later distinct = pictured_seen h new (os ++ granted_to h r ∷ []) (leaves h revision.db (renamed r old new fs) ms) (with_new h new fs m) later (new_found h old new fs ms m found distinct)

      by : client h (os ++ granted_to h r ∷ []) ≡ Some (map seen (leaves h revision.db (renamed r old new fs) ms)) → AreDistinct (texts h (map (λ m. m.watch) (leaves h revision.db (renamed r old new fs) ms)))
          → Sure revision.db (refilter fs) old ms ⊎ Y old → Changed revision.db Y (os ++ granted_to h r ∷ []) old new
      by later distinct (inl s) = (seen (with_new h new fs s.0), at s.0 s.1 later distinct, inl (is_now h revision.db (refilter fs s.0.watch.requests) (with_new h new fs s.0) s.2))
      by later distinct (inr y) =
          let f : (m : Monitor) × (find (has_id h old) ms ≡ Some m) = found_watched old ms k.distinct.1 in
          (seen (with_new h new fs f.0), at f.0 f.1 later distinct, inr y)

  pub item_changed : (revision : Revision) (Y : Data → Type 0) (p : Item) (q : List Item) (ms : List Monitor) (os : List Out) (o : Out) (d old new filters : Data) → IsWell h (record { queue = p ∷ q; monitors = ms }) → client h os ≡ Some (map seen ms) → ReadyFor revision.db Y p ms
      → gives h revision p ms ≡ Some o → o.answers ≡ to d → is_granted o.message ≡ true → wish_of d ≡ changes old new filters → Changed revision.db Y (os ++ o ∷ []) old new
  item_changed revision Y (say l m) q ms os o d old new filters k c ready e label granted is =
      let x : (let u : Out = record { answers = l; message = m; held = None } in u) ≡ o = some_is _ o e in
      absurd (said l m d k.items.0.0 (ap (λ (u : Out). u.answers) x ∙ label) (ap (λ (u : Out). is_granted u.message) x ∙ granted) (ap (λ w. on_granted h w None (at_key (codes "result") m) []) is ∙ refiltered_none old new (h.read_filters filters)))
  item_changed revision Y (start r w) q ms os o d old new filters k c ready e label granted is =
      absurd (add_change w.notation w.since w.id k.items.0.2.0 old new filters (sym k.items.0.2.1 ∙ ap wish_of (labelled (first_out h revision r w) o r d refl e label) ∙ is))
  item_changed revision Y (sync j) q ms os o d old new filters k c ready e label granted is = absurd (found_unlabelled revision (λ m. m.watch.requests) j ms o d e label)
  item_changed revision Y (shift j fs) q ms os o d old new filters k c ready e label granted is = absurd (found_unlabelled revision (λ m. refilter fs m.watch.requests) j ms o d e label)
  item_changed revision Y (stopped r j) q ms os o d old new filters k c ready e label granted is =
      absurd (drop_change j old new filters (sym k.items.0.1 ∙ ap wish_of (labelled (granted_to h r) o r d refl e label) ∙ is))
  item_changed revision Y (renamed r i j fs) q ms os o d old new filters k c ready e label granted is =
      let same : (i ≡ old) × (j ≡ new) = same_change i j k.items.0.1.0 old new filters (sym k.items.0.1.1 ∙ ap wish_of (labelled (granted_to h r) o r d refl e label) ∙ is) in
      subst (λ u. Changed revision.db Y (os ++ u ∷ []) old new) (some_is (granted_to h r) o e)
      (subst (λ v. Changed revision.db Y (os ++ granted_to h r ∷ []) old v) same.1 (subst (λ v. Changed revision.db Y (os ++ granted_to h r ∷ []) v j) same.0 (new_changed revision Y os r i j fs q ms k c ready)))

  pub changed_whole : ReadsNamed h → HoldsAlways h (IsChangedWhole h)
  changed_whole named st r s x found a o b d old new filters e label granted is =
      let l : Located (revision_of st.world) (λ j. WasLast h j (st.given s)) (st.given s) a o = at_session (revision_of st.world) x (st.given s) a o b d ((reached_good h named st r).0 s x found) e label in
      item_changed (revision_of st.world) (λ j. (a ≡ []) × WasLast h j (st.given s)) l.item l.behind l.monitors (st.given s ++ a) o d old new filters l.well l.heard l.ready l.gave label granted is
