-- Likenesses that have the marks of monitors, as likenesses come and monitors are looked at one after the other.
use Rattle.std.proofs.Common.{◌≡◌, ◌⊎◌, ℕ, zero, suc, ◌<◌, arith, Bool, true, false, if◌then◌else◌, List, [], ◌∷◌, ◌++◌, flat_map, get_or, length, map, Option, Some, None, refl, sym, ap, subst, ◌∙◌}
use Rattle.std.specs.Prelude.{IfSome}
use mathlib.Core.Logic.{inl, inr}
use Rattle.std.specs.List.{AllZip}
use Rattle.odb_atoms.specs.FinMap.{get}
use Rattle.odb_monitor.specs.Job.{Job}
use Rattle.odb_monitor.specs.View.{is_none}
use Rattle.odb_request.specs.Request.{Request}
use Rattle.odb_schema.specs.Schema.{Schema}
use Rattle.odb_service.specs.Server.{served_by}
use Rattle.odb_service.specs.Service.{Service}
use Rattle.odb_service.specs.Session.{Monitor, Revision}
use Rattle.odb_sessions.specs.Alike.{Likeness}
use Rattle.odb_round.specs.Foreseen.{Ahead, marked_ahead, seen_ahead}
use Rattle.odb_sessions.specs.Marked.{MarkedMonitor, MarkedSession, Sessions, Watched, seen, watch_of}
use Rattle.odb_round.specs.Jobs.{AreByLikenesses, IsByLikeness, Keeps, composition_at}
use Rattle.odb_round.specs.Planned.{Due, change_to, due, plan, update_due, update_of}
use Rattle.odb_sessions.specs.Represented.Alike.{likeness_in, stand_in}
use Rattle.odb_sessions.specs.Represented.Item.{marked_item_of}
use Rattle.odb_round.specs.Represented.Served.{IsAtPlace, IsServed, place_coming}
use Rattle.odb_round.specs.Represented.Taking.{text_around, text_planned}
use Rattle.odb_round.specs.Taken.{Pending}
use Rattle.odb_round.specs.ByMarks.{IsByMark, IsByMarks, IsDueTo, IsOneOf, monitors_due, monitors_in, watch_due}
use Rattle.odb_sessions.specs.declared.item.Item.{Item}
use Rattle.odb_sessions.specs.declared.item.Item.TheVariants as item
use Rattle.odb_sessions.specs.declared.item.FirstReply.{FirstReply}
use Rattle.odb_round.specs.declared.taking.Coming.{Coming}
use Rattle.odb_round.specs.declared.taking.Coming.TheVariants.{Composed, Queued}
use Rattle.odb_sessions.specs.declared.way.Way.{Way}
use Rattle.odb_sessions.specs.declared.way.Way.TheVariants as way
use Rattle.odb_round.proofs.Leading.{seen_item}
use Rattle.odb_round.proofs.Places.{keeps_on}
use Rattle.odb_tables.specs.Database.{Db}

-- ---- a likeness has the marks of its monitor

one_by : (w : Way) (t : Watched) → IsByMark (stand_in w t) t
one_by way.First t = tt
one_by way.Asked t = (refl, refl)
one_by (way.Changed u) t = (refl, refl)
one_by (way.Again told u) t = tt
one_by (way.Since r n) t = tt

all_by : (w : Way) (ts : List Watched) → AllZip IsByMark (map (stand_in w) ts) ts
all_by w [] = tt
all_by w (t ∷ ts) = (one_by w t, all_by w ts)

pub by_marks : (x : MarkedMonitor) (w : Way) → IsByMarks (likeness_in x w) x
by_marks x w = (refl, all_by w x.tables)

-- ---- likenesses that stay where they are

pub at_later : (a b : List Likeness) (l : Likeness) (place : Option ℕ) → Keeps a b → IsAtPlace a l place → IsAtPlace b l place
at_later a b l None kept h = tt
at_later a b l (Some n) kept h = kept n l h

pub served_at : (a b : List Likeness) (x : MarkedMonitor) (w : Way) (place : Option ℕ) → Keeps a b → IsAtPlace b (likeness_in x w) place → IsServed a b (λ h. h ≡ x) place
served_at a b x w None kept at = (kept, tt)
served_at a b x w (Some n) kept at = (kept, (likeness_in x w, x, at, refl, by_marks x w))

pub served_on : (a b c : List Likeness) (P : MarkedMonitor → Type 0) (place : Option ℕ) → Keeps a b → IsServed b c P place → IsServed a c P place
served_on a b c P place kept h = (keeps_on a b c kept h.0, h.1)

pub served_so : (a b : List Likeness) (P Q : MarkedMonitor → Type 0) (place : Option ℕ) → ((h : MarkedMonitor) → P h → Q h) → IsServed a b P place → IsServed a b Q place
served_so a b P Q None so s = (s.0, tt)
served_so a b P Q (Some n) so s = let own = s.1 in (s.0, (own.0, own.1, own.2, so own.1 own.3, own.4))

-- ---- monitors among others

pub one_left : (xs ys : List MarkedMonitor) (h : MarkedMonitor) → IsOneOf xs h → IsOneOf (xs ++ ys) h
one_left [] ys h is = absurd is
one_left (x ∷ xs) ys h (inl is) = inl is
one_left (x ∷ xs) ys h (inr is) = inr (one_left xs ys h is)

pub one_right : (xs ys : List MarkedMonitor) (h : MarkedMonitor) → IsOneOf ys h → IsOneOf (xs ++ ys) h
one_right [] ys h is = is
one_right (x ∷ xs) ys h is = inr (one_right xs ys h is)

one_either : (xs ys : List MarkedMonitor) (h : MarkedMonitor) → IsOneOf (xs ++ ys) h → IsOneOf xs h ⊎ IsOneOf ys h
one_either [] ys h is = inr is
one_either (x ∷ xs) ys h (inl is) = inl (inl is)
one_either (x ∷ xs) ys h (inr is) = elim (one_either xs ys h is) [ inl here ↦ inl (inr here) | inr there ↦ inr there ]

pub one_ahead : (xs : List Ahead) (i : ℕ) (x : Ahead) (h : MarkedMonitor) → i < length xs → x ≡ get_or xs i x → h ≡ x.marked → IsOneOf (marked_ahead xs) h
one_ahead xs i x h low at is = subst (IsOneOf (marked_ahead xs)) (sym (is ∙ ap (λ (a : Ahead). a.marked) at)) (by xs i low)
  where
    by : (ys : List Ahead) (k : ℕ) → k < length ys → IsOneOf (marked_ahead ys) (get_or ys k x).marked
    by [] k low = absurd (omega (arith, low))
    by (y ∷ ys) zero low = inl refl
    by (y ∷ ys) (suc k) low = inr (by ys k (omega (arith, low)))

abbrev pub all_due : List Item → List MarkedMonitor
all_due xs = flat_map monitors_due (map marked_item_of xs)

due_at : (xs : List Item) (i : ℕ) (d : Item) (h : MarkedMonitor) → i < length xs → IsOneOf (monitors_due (marked_item_of (get_or xs i d))) h → IsOneOf (all_due xs) h
due_at [] i d h low is = absurd (omega (arith, low))
due_at (x ∷ xs) zero d h low is = one_left (monitors_due (marked_item_of x)) (all_due xs) h is
due_at (x ∷ xs) (suc i) d h low is = one_right (monitors_due (marked_item_of x)) (all_due xs) h (due_at xs i d h (omega (arith, low)) is)

-- one of these, or that of an item, is one of these or of those of all items
pub one_of_all : (hs : List MarkedMonitor) (xs : List Item) (i : ℕ) (x : Item) (h : MarkedMonitor) → i < length xs → x ≡ get_or xs i x → IsOneOf (hs ++ monitors_due (marked_item_of x)) h → IsOneOf (hs ++ all_due xs) h
one_of_all hs xs i x h low at is = elim (one_either hs (monitors_due (marked_item_of x)) h is) [
  | inl own ↦ one_left hs (all_due xs) h own
  | inr its ↦ one_right hs (all_due xs) h (due_at xs i x h low (subst (λ (y : Item). IsOneOf (monitors_due (marked_item_of y)) h) at its))
]

-- ---- what is due to them

pub update_to : (h : Service) (db : Db) (qs : List Request) (x : Ahead) (y : MarkedMonitor) → y ≡ x.marked → IfSome (update_of h db qs (seen_ahead db x)) (λ d. watch_due d ≡ Some (watch_of y))
update_to h db qs x y is = by (is_none (change_to h db qs (seen_ahead db x)))
  where
    by : (b : Bool) → IfSome (if b then None else Some (update_due (seen_ahead db x) qs)) (λ d. watch_due d ≡ Some (watch_of y))
    by true = tt
    by false = ap (λ (z : MarkedMonitor). Some (watch_of z)) (sym is)

pub start_to : (s : Schema) (db : Db) (ms : List Monitor) (hs : List MarkedMonitor) (x : Item) (start : FirstReply) (h : MarkedMonitor) → x ≡ item.Start start → h ≡ start.monitor → IsDueTo (due (served_by s) db (seen_item x) ms) (hs ++ monitors_due (marked_item_of x)) h
start_to s db ms hs x start h is same = subst (λ (y : Item). IsDueTo (due (served_by s) db (seen_item y) ms) (hs ++ monitors_due (marked_item_of y)) h) (sym is) (
  one_right hs (start.monitor ∷ []) h (inl same),
  ap (λ (z : MarkedMonitor). Some (watch_of z)) (sym same),
)

-- where the same is due, to one of these, each of which is one of others
pub served_in : (a b : List Likeness) (o p : Option Due) (hs gs : List MarkedMonitor) (place : Option ℕ) → o ≡ p → ((h : MarkedMonitor) → IsOneOf hs h → IsOneOf gs h) → IsServed a b (IsDueTo o hs) place → IsServed a b (IsDueTo p gs) place
served_in a b o p hs gs place same one s =
    served_so a b (IsDueTo o hs) (IsDueTo p gs) place (λ h to. (one h to.0, subst (λ (q : Option Due). IfSome q (λ d. watch_due d ≡ Some (watch_of h))) same to.1)) s

pub served_beside : (a b : List Likeness) (o p : Option Due) (hs more : List MarkedMonitor) (place : Option ℕ) → o ≡ p → IsServed a b (IsDueTo o hs) place → IsServed a b (IsDueTo p (hs ++ more)) place
served_beside a b o p hs more place same s = served_in a b o p hs (hs ++ more) place same (λ h is. one_left hs more h is) s

-- ---- what comes

pub by_likeness : (s : Schema) (revision : Revision) (x : MarkedSession) (js : List Job) (a b ls : List Likeness) (c : Option Coming)
    → IsServed a b (IsDueTo (plan (served_by s) revision.db (seen x)).out (monitors_in x)) (place_coming c) → Keeps b ls → IsByLikeness s revision js ls (Some x) (text_planned js c)
by_likeness s revision x js a b ls None served kept = tt
by_likeness s revision x js a b ls (Some Queued) served kept = tt
by_likeness s revision x js a b ls (Some (Composed m)) served kept = by (composition_at js m.place) refl
  where
    by : (o : Option (List ℕ)) → composition_at js m.place ≡ o → IsByLikeness s revision js ls (Some x) (text_around m.before.items o m.after.items)
    by None is = tt
    by (Some body) is = let own = served.1 in (m.place, own.0, own.1, is, kept m.place own.0 own.2, own.3, own.4)

pub likenesses-append : (s : Schema) (revision : Revision) (m : Sessions) (js : List Job) (ls : List Likeness) (ps : List Pending) (p : Pending)
    → AreByLikenesses s revision m js ls ps → IsByLikeness s revision js ls (get m p.0) p.1.text → AreByLikenesses s revision m js ls (ps ++ p ∷ [])
likenesses-append s revision m js ls [] p h k = (k, tt)
likenesses-append s revision m js ls (q ∷ ps) p h k = (h.0, likenesses-append s revision m js ls ps p h.1 k)
