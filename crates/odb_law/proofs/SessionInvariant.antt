-- What holds of a session: its ids stay distinct through its queue, its views fit its requests, its queued items do what they say, and those that belong together stand side by side.
use Rattle.std.proofs.Common.{◌≡◌, ℕ, Bool, true, false, cond, List, [], ◌∷◌, ◌++◌, map, Option, Some, None, Ok, is_some, refl, sym, ap, ◌&&◌}
use Rattle.std.specs.Prelude.{bytes_eq, if◌then◌else◌}
use Rattle.serde_json.specs.Data.{Data}
use Rattle.odb_cond.specs.Filter.{Filter}
use Rattle.odb_law.specs.Client.{Picture, adds, answer_id, can_follow, changes, client_step, drops, new_filter, new_filters, wish_of, with_changes}
use Rattle.odb_law.specs.Headline.{about}
use Rattle.odb_service.specs.Service.{Service}
use Rattle.odb_service.specs.Session.{Item, Monitor, Session, Watch, asks, at_first, begun, brought, changed, drop_first, filter_of, has_id, leaves, refilter, renamed, same_id, say, shapes, shift, start, stopped, sync, told}
use Rattle.odb_wire.specs.Message.{id_of}
use Rattle.odb_service.specs.World.{watched}
use Rattle.odb_monitor.proofs.Views.{IsViewOf}
use Rattle.odb_monitor.specs.Names.{AreDistinct, AreNamed}
use Rattle.odb_monitor.specs.View.{View}
use Rattle.odb_request.specs.Request.{Request}
use Rattle.odb_tables.specs.Database.{Db}
use Rattle.odb_service.proofs.Each.{Each}

pub each_at_first : {A : Type 0} (P : A → Type 0) (p : A → Bool) (f : A → A) → ((x : A) → P x → P (f x)) → (xs : List A) → Each P xs → Each P (at_first p f xs)
each_at_first P p f keeps [] h = tt
each_at_first P p f keeps (x ∷ xs) h =
    elim (p x) as (λ b. Each P (cond b (f x ∷ xs) (x ∷ at_first p f xs))) [ true ↦ (keeps x h.0, h.1) | false ↦ (h.0, each_at_first P p f keeps xs h.1) ]

pub each_drop_first : {A : Type 0} (P : A → Type 0) (p : A → Bool) (xs : List A) → Each P xs → Each P (drop_first p xs)
each_drop_first P p [] h = tt
each_drop_first P p (x ∷ xs) h = elim (p x) as (λ b. Each P (cond b xs (x ∷ drop_first p xs))) [ true ↦ h.1 | false ↦ (h.0, each_drop_first P p xs h.1) ]

pub at_first-map : {A B : Type 0} (g : A → B) (p : B → Bool) (f : A → A) (k : B → B) → ((x : A) → g (f x) ≡ k (g x)) → (xs : List A) → map g (at_first (λ x. p (g x)) f xs) ≡ at_first p k (map g xs)
at_first-map g p f k e [] = refl
at_first-map g p f k e (x ∷ xs) =
    elim (p (g x)) as (λ b. map g (cond b (f x ∷ xs) (x ∷ at_first (λ x. p (g x)) f xs)) ≡ cond b (k (g x) ∷ map g xs) (g x ∷ at_first p k (map g xs))) [
      | true ↦ ap (λ y. y ∷ map g xs) (e x)
      | false ↦ ap (λ ys. g x ∷ ys) (at_first-map g p f k e xs)
    ]

pub drop_first-map : {A B : Type 0} (g : A → B) (p : B → Bool) (xs : List A) → map g (drop_first (λ x. p (g x)) xs) ≡ drop_first p (map g xs)
drop_first-map g p [] = refl
drop_first-map g p (x ∷ xs) =
    elim (p (g x)) as (λ b. map g (cond b xs (x ∷ drop_first (λ x. p (g x)) xs)) ≡ cond b (map g xs) (g x ∷ drop_first p (map g xs))) [
      | true ↦ refl
      | false ↦ ap (λ ys. g x ∷ ys) (drop_first-map g p xs)
    ]

-- a change that the map does not see
pub at_first-unseen : {A B : Type 0} (g : A → B) (p : A → Bool) (f : A → A) → ((x : A) → g (f x) ≡ g x) → (xs : List A) → map g (at_first p f xs) ≡ map g xs
at_first-unseen g p f e [] = refl
at_first-unseen g p f e (x ∷ xs) =
    elim (p x) as (λ b. map g (cond b (f x ∷ xs) (x ∷ at_first p f xs)) ≡ g x ∷ map g xs) [
      | true ↦ ap (λ y. y ∷ map g xs) (e x)
      | false ↦ ap (λ ys. g x ∷ ys) (at_first-unseen g p f e xs)
    ]

pub map-append : {A B : Type 0} (g : A → B) (xs ys : List A) → map g (xs ++ ys) ≡ map g xs ++ map g ys
map-append g [] ys = refl
map-append g (x ∷ xs) ys = ap (λ zs. g x ∷ zs) (map-append g xs ys)

pub shapes-refilter : (fs : List (List ℕ × Filter)) (qs : List Request) → shapes (refilter fs qs) ≡ shapes qs
shapes-refilter fs [] = refl
shapes-refilter fs (q ∷ qs) = ap (λ ss. q.shape ∷ ss) (shapes-refilter fs qs)

pub followed-refilter : (fs : List (List ℕ × Filter)) (qs : List Request) → can_follow (refilter fs qs) ≡ can_follow qs
followed-refilter fs [] = refl
followed-refilter fs (q ∷ qs) = ap (λ b. (q.select.initial && (q.select.insert && (q.select.delete && q.select.modify))) && b) (followed-refilter fs qs)

-- server and client put the new filters in alike
same_filter : (fs : List (List ℕ × Filter)) (q : Request) → new_filter fs q ≡ filter_of fs q.shape.name q.filter
same_filter [] q = refl
same_filter (f ∷ fs) q = ap (λ (r : Filter). cond (bytes_eq f.0 q.shape.name) f.1 r) (same_filter fs q)

same_filters : (fs : List (List ℕ × Filter)) (qs : List Request) → new_filters fs qs ≡ refilter fs qs
same_filters fs [] = refl
same_filters fs (q ∷ qs) = λ i. (let p : Request = record q { filter = same_filter fs q i } in p) ∷ same_filters fs qs i

-- a monitor as its client pictures it
abbrev pub with_view : Watch → Option View → Picture
with_view k v = record { id = k.id; notation = k.notation; requests = k.requests; since = k.since; view = v }

abbrev pub picture : Watch → View → Picture
picture k V = with_view k (if can_follow k.requests then Some V else None)

abbrev pub seen : Monitor → Picture
seen m = picture m.watch m.view

-- ---- what stands side by side

abbrev pub IsShiftOf : Data → List (List ℕ × Filter) → Item → Type 0
IsShiftOf i fs (say a d) = ⊥
IsShiftOf i fs (start d k) = ⊥
IsShiftOf i fs (sync j) = ⊥
IsShiftOf i fs (shift j gs) = (j ≡ i) × (gs ≡ fs)
IsShiftOf i fs (renamed d old new gs) = ⊥
IsShiftOf i fs (stopped d j) = ⊥

abbrev pub IsSyncOf : Data → Item → Type 0
IsSyncOf i (say a d) = ⊥
IsSyncOf i (start d k) = ⊥
IsSyncOf i (sync j) = j ≡ i
IsSyncOf i (shift j gs) = ⊥
IsSyncOf i (renamed d old new gs) = ⊥
IsSyncOf i (stopped d j) = ⊥

abbrev pub IsNoShift : Item → Type 0
IsNoShift (say a d) = Unit {0}
IsNoShift (start d k) = Unit {0}
IsNoShift (sync j) = Unit {0}
IsNoShift (shift j gs) = ⊥
IsNoShift (renamed d old new gs) = Unit {0}
IsNoShift (stopped d j) = Unit {0}

-- what may stand after an item: the reply to a change after its shift alone, and the reply to a cancel after its sync
abbrev pub Meets : Item → Item → Type 0
Meets p (say a d) = IsNoShift p
Meets p (start d k) = IsNoShift p
Meets p (sync j) = IsNoShift p
Meets p (shift j gs) = IsNoShift p
Meets p (renamed d old new fs) = IsShiftOf old fs p
Meets p (stopped d i) = IsSyncOf i p

abbrev pub Goes : Item → List Item → Type 0
Goes p [] = IsNoShift p
Goes p (i ∷ is) = Meets p i × Goes i is

abbrev pub InOrder : List Item → Type 0
InOrder [] = Unit {0}
InOrder (i ∷ is) = Goes i is

-- items that may stand after any but a shift
abbrev pub IsFree : Item → Type 0
IsFree (say a d) = Unit {0}
IsFree (start d k) = Unit {0}
IsFree (sync j) = Unit {0}
IsFree (shift j gs) = Unit {0}
IsFree (renamed d old new fs) = ⊥
IsFree (stopped d i) = ⊥

abbrev pub Begins : List Item → Type 0
Begins [] = Unit {0}
Begins (i ∷ is) = IsFree i

meets_free : (p i : Item) → IsNoShift p → IsFree i → Meets p i
meets_free p (say a d) n f = n
meets_free p (start d k) n f = n
meets_free p (sync j) n f = n
meets_free p (shift j gs) n f = n
meets_free p (renamed d old new fs) n f = absurd f
meets_free p (stopped d i) n f = absurd f

goes_append : (p : Item) (q is : List Item) → Goes p q → Begins is → InOrder is → Goes p (q ++ is)
goes_append p [] [] g b o = g
goes_append p [] (i ∷ is) g b o = (meets_free p i g b, o)
goes_append p (i ∷ q) is g b o = (g.0, goes_append i q is g.1 b o)

pub order_append : (q is : List Item) → InOrder q → Begins is → InOrder is → InOrder (q ++ is)
order_append [] is g b o = o
order_append (i ∷ q) is g b o = goes_append i q is g b o

pub order_rest : (p : Item) (q : List Item) → Goes p q → InOrder q
order_rest p [] g = tt
order_rest p (i ∷ q) g = g.1

module _ (h : Service) where
  abbrev pub texts : List Watch → List (List ℕ)
  texts ks = map (λ k. h.printed k.id) ks

  -- the monitor of a reply is there
  abbrev pub IsThere : Item → List Watch → Type 0
  IsThere (say a d) ks = Unit {0}
  IsThere (start d k) ks = Unit {0}
  IsThere (sync i) ks = Unit {0}
  IsThere (shift i fs) ks = Unit {0}
  IsThere (renamed d old new fs) ks = is_some (watched h old ks) ≡ true
  IsThere (stopped d i) ks = is_some (watched h i ks) ≡ true

  -- ids are distinct now, and after each item of the queue
  abbrev pub StayDistinct : List Item → List Watch → Type 0
  StayDistinct [] ks = AreDistinct (texts ks)
  StayDistinct (i ∷ is) ks = AreDistinct (texts ks) × IsThere i ks × StayDistinct is (asks h i ks)

  -- A finished text is no update, and does nothing to a client's pictures. A first reply and a reply that takes effect answer a request that asks for it. A monitor that starts names its columns once.
  abbrev pub IsSound : Item → Type 0
  IsSound (say a d) = ((ps : List Picture) → client_step h ps (record { answers = a; message = d; held = None }) ≡ Some ps) × (about (record { answers = a; message = d; held = None }) ≡ None)
  IsSound (start d k) = AreNamed (shapes k.requests) × (answer_id d ≡ id_of d) × ((r : Data) × (wish_of d ≡ adds k.notation k.since k.id r) × (h.read_requests k.notation r ≡ Ok k.requests))
  IsSound (sync i) = Unit {0}
  IsSound (shift i fs) = Unit {0}
  IsSound (renamed d old new fs) = (answer_id d ≡ id_of d) × ((r : Data) × (wish_of d ≡ changes old new r) × (h.read_filters r ≡ Ok fs))
  IsSound (stopped d i) = (answer_id d ≡ id_of d) × (wish_of d ≡ drops i)

  abbrev pub IsKept : Monitor → Type 0
  IsKept m = AreNamed (shapes m.watch.requests) × IsViewOf (shapes m.watch.requests) m.view

  pub record IsWell (x : Session) : Type 0 where
    pub items : Each IsSound x.queue
    pub kept : Each IsKept x.monitors
    pub distinct : StayDistinct x.queue (told h x)
    pub order : InOrder x.queue

  abbrev pub with_new : Data → List (List ℕ × Filter) → Monitor → Monitor
  with_new new fs m = record m { watch = changed h new fs m.watch }

  pub seen-new : (new : Data) (fs : List (List ℕ × Filter)) (m : Monitor) → with_changes h new fs (seen m) ≡ seen (with_new new fs m)
  seen-new new fs m i = record { id = new; notation = m.watch.notation; requests = same_filters fs m.watch.requests i; since = m.watch.since; view = (ap (λ b. cond b (Some m.view) None) (sym (followed-refilter fs m.watch.requests))) i }

  -- what was told follows what was asked
  pub leaves-asks : (db : Db) (i : Item) (ms : List Monitor) → map (λ m. m.watch) (leaves h db i ms) ≡ asks h i (map (λ m. m.watch) ms)
  leaves-asks db (say a d) ms = refl
  leaves-asks db (start d k) ms = map-append (λ m. m.watch) ms (begun h db k ∷ [])
  leaves-asks db (sync i) ms = at_first-unseen (λ m. m.watch) (has_id h i) (λ m. brought h db m.watch.requests m) (λ m. refl) ms
  leaves-asks db (shift i fs) ms = at_first-unseen (λ m. m.watch) (has_id h i) (λ m. brought h db (refilter fs m.watch.requests) m) (λ m. refl) ms
  leaves-asks db (renamed d old new fs) ms = at_first-map (λ m. m.watch) (λ k. same_id h old k.id) (with_new new fs) (changed h new fs) (λ m. refl) ms
  leaves-asks db (stopped d i) ms = drop_first-map (λ m. m.watch) (λ k. same_id h i k.id) ms
