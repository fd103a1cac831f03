-- Which rows are recorded: all of which something is kept, also after entries that aren't needed are gone; and what the rows since a version come to.
use Rattle.std.proofs.Common.{Bor, ◌≡◌, ℕ, zero, suc, ◌+◌, ◌<◌, ◌≤◌, arith, Bool, true, false, cond, not, ◌&&◌, ◌||◌, nat_eq, nat_le, nat_lt, filter, List, [], ◌∷◌, ◌++◌, drop, get_or, length, map, take, option_and_then, Option, Some, None, refl, sym, ap, subst, ◌∙◌, true≢false}
use mathlib.Core.Logic.{inl, inr}
use Rattle.std.proofs.lemmas.Bool.Decides.{nat_tests}
use Rattle.std.proofs.lemmas.List.{take-append-drop}
use Rattle.std.proofs.lemmas.List.Folds.{list_any_more}
use Rattle.std.specs.BTreeSet.{BTreeSet, contains}
use Rattle.std.specs.FinMap.Entries.{find}
use Rattle.std.specs.List.{IsDistinct, list_all, list_any}
use Rattle.std.specs.List.Sorted.{IsNonDecreasingBy, IsPartitionedBy}
use Rattle.std.specs.Map.{keys_of}
use Rattle.std.specs.Ordering.{eq_by_cmp}
use Rattle.odb_atoms.specs.FinMap as finite
use Rattle.odb_atoms.specs.Row.{Row}
use Rattle.odb_atoms.specs.Uuid.{Uuid, uuid_cmp}
use Rattle.odb_atoms.proofs.Atoms.{uuid_cmp_total, uuid_cmp-IsAntisymmetric}
use Rattle.odb_atoms.proofs.FinMaps.{get-combine, get-empty, same_key, same_map}
use Rattle.odb_tables.specs.Change.{change, changed_row}
use Rattle.odb_tables.specs.Database.{Table}
use Rattle.odb_tables.specs.Represented.Key.{keys_equivalent}
use Rattle.odb_tables.proofs.KeyedMaps.{get-from_entries}
use Rattle.odb_chain.specs.OldRows.{History, Rows, at, at_version, content_at, is_reached, reaches}
use Rattle.odb_chain.specs.Represented.Log.{AllFrom, AllUpTo, AreInOrder, AreRecorded, Recorded, is_latest, is_named, is_needed, is_recorded, passes}
use Rattle.odb_chain.specs.Represented.MarkedVersions.{StaysOrGoes, has_label, is_label}
use Rattle.odb_chain.proofs.Contents.{get-content}
use Rattle.odb_chain.proofs.Histories.{beyond, or_left, or_right}
use Rattle.odb_tables.proofs.Leading.{Sides, changes_of, find-changes, unchanged}

-- ---- entries in order

pub up_to_later : (p q : ℕ) (ns : List Recorded) → p ≤ q → AllUpTo p ns → AllUpTo q ns
up_to_later p q [] le h = tt
up_to_later p q (n ∷ ns) le h = let low : n.0 ≤ p = h.0 in (omega (arith, low, le), up_to_later p q ns le h.1)

from_pushed : (p : ℕ) (ns : List Recorded) (x : Recorded) → AllFrom p ns → p ≤ x.0 → AllFrom p (ns ++ x ∷ [])
from_pushed p [] x h le = (le, tt)
from_pushed p (n ∷ ns) x h le = (h.0, from_pushed p ns x h.1 le)

pub order_pushed : (ns : List Recorded) (x : Recorded) → AreInOrder ns → AllUpTo x.0 ns → AreInOrder (ns ++ x ∷ [])
order_pushed [] x h up = (tt, tt)
order_pushed (n ∷ ns) x h up = (from_pushed n.0 ns x h.0 up.0, order_pushed ns x h.1 up.1)

pub up_to_pushed : (p : ℕ) (ns : List Recorded) (x : Recorded) → AllUpTo p ns → x.0 ≤ p → AllUpTo p (ns ++ x ∷ [])
up_to_pushed p [] x h le = (le, tt)
up_to_pushed p (n ∷ ns) x h le = (h.0, up_to_pushed p ns x h.1 le)

from_filtered : (f : Recorded → Bool) (p : ℕ) (ns : List Recorded) → AllFrom p ns → AllFrom p (filter f ns)
from_filtered f p [] h = tt
from_filtered f p (n ∷ ns) h = by (f n) (from_filtered f p ns h.1)
  where
    by : (b : Bool) → AllFrom p (filter f ns) → AllFrom p (cond b (n ∷ filter f ns) (filter f ns))
    by true rest = (h.0, rest)
    by false rest = rest

pub order_filtered : (f : Recorded → Bool) (ns : List Recorded) → AreInOrder ns → AreInOrder (filter f ns)
order_filtered f [] h = tt
order_filtered f (n ∷ ns) h = by (f n) (order_filtered f ns h.1)
  where
    by : (b : Bool) → AreInOrder (filter f ns) → AreInOrder (cond b (n ∷ filter f ns) (filter f ns))
    by true rest = (from_filtered f n.0 ns h.0, rest)
    by false rest = rest

pub up_to_filtered : (f : Recorded → Bool) (p : ℕ) (ns : List Recorded) → AllUpTo p ns → AllUpTo p (filter f ns)
up_to_filtered f p [] h = tt
up_to_filtered f p (n ∷ ns) h = by (f n) (up_to_filtered f p ns h.1)
  where
    by : (b : Bool) → AllUpTo p (filter f ns) → AllUpTo p (cond b (n ∷ filter f ns) (filter f ns))
    by true rest = (h.0, rest)
    by false rest = rest

pub all_filtered : (f : Recorded → Bool) (ns : List Recorded) → list_all f (filter f ns) ≡ true
all_filtered f [] = refl
all_filtered f (n ∷ ns) = by (f n) refl (all_filtered f ns)
  where
    by : (b : Bool) → f n ≡ b → list_all f (filter f ns) ≡ true → list_all f (cond b (n ∷ filter f ns) (filter f ns)) ≡ true
    by true is rest = λ i. is i && rest i
    by false is rest = rest

from_at : (p : ℕ) (ns : List Recorded) (j : ℕ) (d : Recorded) → AllFrom p ns → j < length ns → p ≤ (get_or ns j d).0
from_at p [] j d h low = absurd (omega (arith, low))
from_at p (n ∷ ns) zero d h low = h.0
from_at p (n ∷ ns) (suc j) d h low = from_at p ns j d h.1 (omega (arith, low))

pub in_order : (ns : List Recorded) → AreInOrder ns → IsNonDecreasingBy (λ (n : Recorded). n.0) ns
in_order [] h i j d le low = absurd (omega (arith, low))
in_order (n ∷ ns) h zero zero d le low = omega arith
in_order (n ∷ ns) h zero (suc j) d le low = from_at n.0 ns j d h.0 (omega (arith, low))
in_order (n ∷ ns) h (suc i) zero d le low = absurd (omega (arith, le))
in_order (n ∷ ns) h (suc i) (suc j) d le low = in_order ns h.1 i j d (omega (arith, le)) (omega (arith, low))

-- what comes before a version stands first
pub early_first : (p : ℕ) (ns : List Recorded) → AreInOrder ns → IsPartitionedBy (λ (n : Recorded). nat_lt n.0 p) ns
early_first p ns h i j d le low early =
    let up : (get_or ns i d).0 ≤ (get_or ns j d).0 = in_order ns h i j d le low in
    grind (arith, nat_tests)

-- ---- which rows are recorded

abbrev same : Uuid → Uuid → Bool
same = eq_by_cmp uuid_cmp

any-++ : (f : Recorded → Bool) (xs ys : List Recorded) → list_any f (xs ++ ys) ≡ (list_any f xs || list_any f ys)
any-++ f [] ys = refl
any-++ f (x ∷ xs) ys = by (f x) (any-++ f xs ys)
  where
    by : (b : Bool) → list_any f (xs ++ ys) ≡ (list_any f xs || list_any f ys) → (b || list_any f (xs ++ ys)) ≡ ((b || list_any f xs) || list_any f ys)
    by true is = refl
    by false is = is

itself : (u : Uuid) → same u u ≡ true
itself u = keys_equivalent.refl u

pub noted_pushed : (p : ℕ) (u : Uuid) (ns : List Recorded) (x : Recorded) → is_recorded p u ns ≡ true → is_recorded p u (ns ++ x ∷ []) ≡ true
noted_pushed p u ns x there = any-++ (λ n. same u n.1 && nat_le p n.0) ns (x ∷ []) ∙ or_left (is_recorded p u ns) (is_recorded p u (x ∷ [])) there

pub noted_here : (p q : ℕ) (u : Uuid) (ns : List Recorded) → p ≤ q → is_recorded p u (ns ++ (q, u) ∷ []) ≡ true
noted_here p q u ns le =
    let low : nat_le p q ≡ true = grind (arith, nat_tests) in
    any-++ (λ n. same u n.1 && nat_le p n.0) ns ((q, u) ∷ []) ∙ or_right (is_recorded p u ns) (is_recorded p u ((q, u) ∷ [])) (λ i. (itself u i && low i) || false)

-- with an earlier version
pub noted_before : (p q : ℕ) (u : Uuid) (ns : List Recorded) → nat_le p q ≡ true → is_recorded q u ns ≡ true → is_recorded p u ns ≡ true
noted_before p q u [] le e = e
noted_before p q u (n ∷ ns) le e = by (same u n.1) (nat_le q n.0) refl (nat_le p n.0) refl e (noted_before p q u ns le)
  where
    by : (b c : Bool) → nat_le q n.0 ≡ c → (d : Bool) → nat_le p n.0 ≡ d → ((b && c) || is_recorded q u ns) ≡ true → (is_recorded q u ns ≡ true → is_recorded p u ns ≡ true) → ((b && d) || is_recorded p u ns) ≡ true
    by true true is d it e rest = let low : nat_le p n.0 ≡ true = grind (arith, nat_tests) in ap (λ x. x || is_recorded p u ns) (sym it ∙ low)
    by true false is d it e rest = or_right d (is_recorded p u ns) (rest e)
    by false c is d it e rest = rest e

-- the entries of one row change
pub still_noted : (old new : Rows) (ns : List Recorded) (n : ℕ) (k : Uuid) → AreRecorded old ns → is_recorded n k ns ≡ true → ((u : Uuid) → same u k ≡ false → finite.get new u ≡ finite.get old u)
    → ((q : ℕ) → has_label q (finite.get new k) ≡ true → (has_label q (finite.get old k) || nat_eq q n) ≡ true) → AreRecorded new ns
still_noted old new ns n k h here others labels p u e = by (same u k) refl
  where
    at_key : (b c : Bool) → has_label p (finite.get old k) ≡ b → nat_eq p n ≡ c → (b || c) ≡ true → is_recorded p k ns ≡ true
    at_key true c is at t = h p k is
    at_key false true is at t = let own : p ≡ n = grind (arith, nat_tests) in ap (λ q. is_recorded q k ns) own ∙ here
    at_key false false is at t = absurd (true≢false (sym t))

    by : (b : Bool) → same u k ≡ b → is_recorded p u ns ≡ true
    by true is =
        let key : u ≡ k = same_key uuid_cmp-IsAntisymmetric u k is in
        ap (λ v. is_recorded p v ns) key ∙ at_key (has_label p (finite.get old k)) (nat_eq p n) refl refl (labels p (ap (λ v. has_label p (finite.get new v)) (sym key) ∙ e))
    by false is = h p u (ap (has_label p) (sym (others u is)) ∙ e)

-- fewer old rows are recorded still
pub fewer_noted : (old new : Rows) (ns : List Recorded) → AreRecorded old ns → ((u : Uuid) (q : ℕ) → has_label q (finite.get new u) ≡ true → has_label q (finite.get old u) ≡ true) → AreRecorded new ns
fewer_noted old new ns h f p u e = h p u (f u p e)

pub none_noted : (ns : List Recorded) → AreRecorded finite.empty ns
none_noted ns p u e = absurd (true≢false (sym e ∙ ap (has_label p) (get-empty uuid_cmp u)))

-- ---- the last version up to which a row is kept

record Last (h : History) : Type 0 where
  version : ℕ
  label : is_label version h ≡ true
  above : (q : ℕ) → is_label q h ≡ true → nat_le q version ≡ true
  none : passes version h ≡ false

le_itself : (n : ℕ) → nat_le n n ≡ true
le_itself n = grind (arith, nat_tests)

eq_itself : (n : ℕ) → nat_eq n n ≡ true
eq_itself n = grind (arith, nat_tests)

passes_later : (p q : ℕ) (h : History) → nat_le p q ≡ true → passes p h ≡ false → passes q h ≡ false
passes_later p q [] le e = refl
passes_later p q (x ∷ xs) le e = by (nat_lt p x.0) refl (nat_lt q x.0) refl e (passes_later p q xs le)
  where
    by : (b : Bool) → nat_lt p x.0 ≡ b → (c : Bool) → nat_lt q x.0 ≡ c → (b || passes p xs) ≡ false → (passes p xs ≡ false → passes q xs ≡ false) → (c || passes q xs) ≡ false
    by true is c at e rest = absurd (true≢false e)
    by false is true at e rest = absurd (true≢false (sym at ∙ grind (arith, nat_tests)))
    by false is false at e rest = rest e

last_of : (e : ℕ × Option Row) (es : History) → Last (e ∷ es)
last_of e [] =
    let past : nat_lt e.0 e.0 ≡ false = grind (arith, nat_tests) in
    record {
      version = e.0;
      label = ap (λ b. b || false) (eq_itself e.0);
      above = λ q t. by q (nat_eq q e.0) refl t;
      none = ap (λ b. b || false) past;
    }
  where
    by : (q : ℕ) (b : Bool) → nat_eq q e.0 ≡ b → (b || false) ≡ true → nat_le q e.0 ≡ true
    by q true is t = grind (arith, nat_tests)
    by q false is t = absurd (true≢false (sym t))
last_of e (f ∷ fs) = by (last_of f fs) (nat_le e.0 (last_of f fs).version) refl
  where
    up : (m : Last (f ∷ fs)) (q p : ℕ) → nat_le e.0 p ≡ true → nat_le m.version p ≡ true → (b : Bool) → nat_eq q e.0 ≡ b → (b || is_label q (f ∷ fs)) ≡ true → nat_le q p ≡ true
    up m q p first rest true is t = grind (arith, nat_tests)
    up m q p first rest false is t = let low : nat_le q m.version ≡ true = m.above q t in grind (arith, nat_tests)

    by : (m : Last (f ∷ fs)) (b : Bool) → nat_le e.0 m.version ≡ b → Last (e ∷ f ∷ fs)
    by m true is =
        let past : nat_lt m.version e.0 ≡ false = grind (arith, nat_tests) in
        record {
          version = m.version;
          label = or_right (nat_eq m.version e.0) (is_label m.version (f ∷ fs)) m.label;
          above = λ q t. up m q m.version is (le_itself m.version) (nat_eq q e.0) refl t;
          none = ap (λ b. b || passes m.version (f ∷ fs)) past ∙ m.none;
        }
    by m false is =
        let past : nat_lt e.0 e.0 ≡ false = grind (arith, nat_tests) in
        let later : nat_le m.version e.0 ≡ true = grind (arith, nat_tests) in
        record {
          version = e.0;
          label = or_left (nat_eq e.0 e.0) (is_label e.0 (f ∷ fs)) (eq_itself e.0);
          above = λ q t. up m q e.0 (le_itself e.0) later (nat_eq q e.0) refl t;
          none = ap (λ b. b || passes e.0 (f ∷ fs)) past ∙ passes_later m.version e.0 (f ∷ fs) later m.none;
        }

-- ---- entries that are needed are left

module _ (rows : Rows) (u : Uuid) (h : History) (there : finite.get rows u ≡ Some h) (last : ℕ) (none : passes last h ≡ false) where
  left_noted : (ns : List Recorded) → is_recorded last u ns ≡ true → is_recorded last u (filter (is_needed rows) ns) ≡ true
  left_noted [] e = e
  left_noted (n ∷ ns) e = by (same u n.1) refl (nat_le last n.0) refl (is_needed rows n) refl e (left_noted ns)
    where
      by : (b : Bool) → same u n.1 ≡ b → (c : Bool) → nat_le last n.0 ≡ c → (d : Bool) → is_needed rows n ≡ d → ((b && c) || is_recorded last u ns) ≡ true
          → (is_recorded last u ns ≡ true → is_recorded last u (filter (is_needed rows) ns) ≡ true) → is_recorded last u (cond d (n ∷ filter (is_needed rows) ns) (filter (is_needed rows) ns)) ≡ true
      by true is true at true keeps e rest = λ i. (is i && at i) || is_recorded last u (filter (is_needed rows) ns)
      by true is true at false keeps e rest =
          let here : finite.get rows n.1 ≡ Some h = ap (finite.get rows) (sym (same_key uuid_cmp-IsAntisymmetric u n.1 is)) ∙ there in
          let needed : is_needed rows n ≡ true = ap (is_latest n.0) here ∙ ap not (passes_later last n.0 h at none) in
          absurd (true≢false (sym needed ∙ keeps))
      by true is false at d keeps e rest = skip d (rest e)
        where
          skip : (d : Bool) → is_recorded last u (filter (is_needed rows) ns) ≡ true → is_recorded last u (cond d (n ∷ filter (is_needed rows) ns) (filter (is_needed rows) ns)) ≡ true
          skip true t = or_right (same u n.1 && nat_le last n.0) (is_recorded last u (filter (is_needed rows) ns)) t
          skip false t = t
      by false is c at d keeps e rest = skip d (rest e)
        where
          skip : (d : Bool) → is_recorded last u (filter (is_needed rows) ns) ≡ true → is_recorded last u (cond d (n ∷ filter (is_needed rows) ns) (filter (is_needed rows) ns)) ≡ true
          skip true t = or_right (same u n.1 && nat_le last n.0) (is_recorded last u (filter (is_needed rows) ns)) t
          skip false t = t

pub cleaned_noted : (rows : Rows) (ns : List Recorded) → AreRecorded rows ns → AreRecorded rows (filter (is_needed rows) ns)
cleaned_noted rows ns h p u e = by (finite.get rows u) refl e
  where
    by : (o : Option History) → finite.get rows u ≡ o → has_label p o ≡ true → is_recorded p u (filter (is_needed rows) ns) ≡ true
    by None is e = absurd (true≢false (sym e))
    by (Some []) is e = absurd (true≢false (sym e))
    by (Some (x ∷ xs)) is e =
        let m : Last (x ∷ xs) = last_of x xs in
        noted_before p m.version u (filter (is_needed rows) ns) (m.above p e)
        (left_noted rows u (x ∷ xs) is m.version m.none ns (h m.version u (ap (has_label m.version) is ∙ m.label)))

-- also where some of the first are done with
any-filtered : (f g : Recorded → Bool) (xs ys : List Recorded) → list_any f (filter g ys) ≡ true → list_any f (filter g (xs ++ ys)) ≡ true
any-filtered f g [] ys e = e
any-filtered f g (x ∷ xs) ys e = by (g x) (any-filtered f g xs ys e)
  where
    by : (b : Bool) → list_any f (filter g (xs ++ ys)) ≡ true → list_any f (cond b (x ∷ filter g (xs ++ ys)) (filter g (xs ++ ys))) ≡ true
    by true rest = or_right (f x) (list_any f (filter g (xs ++ ys))) rest
    by false rest = rest

pub rest_cleaned : (rows : Rows) (ns : List Recorded) (d : ℕ) → AreRecorded rows (drop d ns) → AreRecorded rows (filter (is_needed rows) ns)
rest_cleaned rows ns d h p u e =
    ap (λ xs. is_recorded p u (filter (is_needed rows) xs)) (sym (take-append-drop d ns))
    ∙ any-filtered (λ n. same u n.1 && nat_le p n.0) (is_needed rows) (take d ns) (drop d ns) (cleaned_noted rows (drop d ns) h p u e)

from_dropped : (p d : ℕ) (ns : List Recorded) → AllFrom p ns → AllFrom p (drop d ns)
from_dropped p zero ns h = h
from_dropped p (suc d) [] h = h
from_dropped p (suc d) (n ∷ ns) h = from_dropped p d ns h.1

pub order_dropped : (d : ℕ) (ns : List Recorded) → AreInOrder ns → AreInOrder (drop d ns)
order_dropped zero ns h = h
order_dropped (suc d) [] h = h
order_dropped (suc d) (n ∷ ns) h = order_dropped d ns h.1

pub up_to_dropped : (p d : ℕ) (ns : List Recorded) → AllUpTo p ns → AllUpTo p (drop d ns)
up_to_dropped p zero ns h = h
up_to_dropped p (suc d) [] h = h
up_to_dropped p (suc d) (n ∷ ns) h = up_to_dropped p d ns h.1

-- ---- the entries from a version on

pub named_after : (p : ℕ) (u : Uuid) (ns : List Recorded) (i : ℕ) → ((k : ℕ) (d : Recorded) → k < i → k < length ns → nat_lt (get_or ns k d).0 p ≡ true) → is_recorded p u ns ≡ true → is_named u (drop i ns) ≡ true
named_after p u [] zero f e = absurd (true≢false (sym e))
named_after p u [] (suc i) f e = absurd (true≢false (sym e))
named_after p u (n ∷ ns) zero f e = all (n ∷ ns) e
  where
    all : (ms : List Recorded) → is_recorded p u ms ≡ true → is_named u ms ≡ true
    all [] e = e
    all (m ∷ ms) e = by (same u m.1) (nat_le p m.0) e (all ms)
      where
        by : (b c : Bool) → ((b && c) || is_recorded p u ms) ≡ true → (is_recorded p u ms ≡ true → is_named u ms ≡ true) → (b || is_named u ms) ≡ true
        by true c e rest = refl
        by false c e rest = rest e
named_after p u (n ∷ ns) (suc i) f e = by (same u n.1) (nat_le p n.0) refl e (named_after p u ns i (λ k d low inside. f (suc k) d (omega (arith, low)) (omega (arith, inside))))
  where
    early : nat_lt n.0 p ≡ true
    early = f zero n (omega arith) (omega arith)

    by : (b c : Bool) → nat_le p n.0 ≡ c → ((b && c) || is_recorded p u ns) ≡ true → (is_recorded p u ns ≡ true → is_named u (drop i ns) ≡ true) → is_named u (drop i ns) ≡ true
    by true true is e rest = let before : nat_lt n.0 p ≡ true = early in let late : nat_le p n.0 ≡ false = grind (arith, nat_tests) in absurd (true≢false (sym is ∙ late))
    by true false is e rest = rest e
    by false c is e rest = rest e

-- ---- the rows of entries

pub one_more_key : (old new : BTreeSet Uuid) (ns : List Recorded) (i : ℕ) (n : Recorded) → i < length ns → n ≡ get_or ns i n
    → ((u : Uuid) → is_named u (take i ns) ≡ true → contains uuid_cmp old u ≡ true) → ((u : Uuid) → contains uuid_cmp new u ≡ cond (same n.1 u) true (contains uuid_cmp old u))
    → (u : Uuid) → is_named u (take (i + 1) ns) ≡ true → contains uuid_cmp new u ≡ true
one_more_key old new ns i n low at before added u e =
    added u ∙ by (is_named u (take i ns)) refl (same n.1 u) refl (sym (list_any_more (λ (m : Recorded). same u m.1) ns i n low ∙ ap (λ (m : Recorded). is_named u (take i ns) || same u m.1) (sym at)) ∙ e)
  where
    by : (b : Bool) → is_named u (take i ns) ≡ b → (c : Bool) → same n.1 u ≡ c → (b || same u n.1) ≡ true → cond c true (contains uuid_cmp old u) ≡ true
    by b was true is t = refl
    by true was false is t = before u was
    by false was false is t = absurd (true≢false (sym t ∙ keys_equivalent.symm u n.1 ∙ is))

-- ---- the rows since a version

-- a row that is reached has an old row up to that version or a later one
label_reached : (p : ℕ) (h : History) → reaches p h ≡ true → (q : ℕ) × (nat_le p q ≡ true) × (is_label q h ≡ true)
label_reached p [] e = absurd (true≢false (sym e))
label_reached p (x ∷ xs) e = by (nat_le p x.0) refl e (label_reached p xs)
  where
    by : (b : Bool) → nat_le p x.0 ≡ b → (b || reaches p xs) ≡ true → (reaches p xs ≡ true → (q : ℕ) × (nat_le p q ≡ true) × (is_label q xs ≡ true)) → (q : ℕ) × (nat_le p q ≡ true) × (is_label q (x ∷ xs) ≡ true)
    by true is e rest = (x.0, is, or_left (nat_eq x.0 x.0) (is_label x.0 xs) (eq_itself x.0))
    by false is e rest = let r = rest e in (r.0, r.1, or_right (nat_eq r.0 x.0) (is_label r.0 xs) r.2)

pub reached_noted : (rows : Rows) (ns : List Recorded) (p : ℕ) (u : Uuid) → AreRecorded rows ns → is_reached p (finite.get rows u) ≡ true → is_recorded p u ns ≡ true
reached_noted rows ns p u h e = by (finite.get rows u) refl e
  where
    by : (o : Option History) → finite.get rows u ≡ o → is_reached p o ≡ true → is_recorded p u ns ≡ true
    by None is e = absurd (true≢false (sym e))
    by (Some x) is e = let r = label_reached p x e in noted_before p r.0 u ns r.1 (h r.0 u (ap (has_label r.0) is ∙ r.2))

-- the first entry is done with: its row didn't change since the version, and goes, or is recorded later too
pub popped_noted : (rows new : Rows) (p version : ℕ) (k : Uuid) (ns : List Recorded) → nat_lt p version ≡ true → AreRecorded rows ((p, k) ∷ ns) → (is_reached version (finite.get rows k) ≡ false → finite.get new k ≡ None)
    → ((u : Uuid) → StaysOrGoes version (finite.get rows u) (finite.get new u)) → AreRecorded new ns
popped_noted rows new p version k ns before recorded goes stays q u e = by (stays u)
  where
    late : nat_le version p ≡ false
    late = grind (arith, nat_tests)

    own : same u k ≡ true → nat_le q p ≡ true → (b : Bool) → is_reached version (finite.get rows k) ≡ b → is_recorded q u ns ≡ true
    own at low true is =
        let key : u ≡ k = same_key uuid_cmp-IsAntisymmetric u k at in
        let up : nat_le q version ≡ true = grind (arith, nat_tests) in
        let there : is_recorded version k ns ≡ true = (λ i. sym (ap (λ b. same k k && b) late ∙ never (same k k)) i || is_recorded version k ns) ∙ reached_noted rows ((p, k) ∷ ns) version k recorded is in
        ap (λ v. is_recorded q v ns) key ∙ noted_before q version k ns up there
      where
        never : (b : Bool) → (b && false) ≡ false
        never true = refl
        never false = refl
    own at low false is =
        let key : u ≡ k = same_key uuid_cmp-IsAntisymmetric u k at in
        absurd (true≢false (sym e ∙ ap (λ v. has_label q (finite.get new v)) key ∙ ap (has_label q) (goes is)))

    split : (b c : Bool) → same u k ≡ b → nat_le q p ≡ c → ((b && c) || is_recorded q u ns) ≡ true → is_recorded q u ns ≡ true
    split true true at low t = own at low (is_reached version (finite.get rows k)) refl
    split true false at low t = t
    split false c at low t = t

    by : StaysOrGoes version (finite.get rows u) (finite.get new u) → is_recorded q u ns ≡ true
    by (inl stay) = split (same u k) (nat_le q p) refl refl (recorded q u (ap (has_label q) (sym stay) ∙ e))
    by (inr gone) = absurd (true≢false (sym e ∙ ap (has_label q) gone.0))

module _ (p : ℕ) (t : Table) (rows : Rows) where
  -- what a row became since the version
  abbrev pub sides : Uuid → Unit {0} → Option Sides
  sides u one = changed_row (at_version p (finite.get t u) (finite.get rows u)) (finite.get t u)

  abbrev pub named : Uuid → Uuid × Unit {0}
  named u = (u, tt)

  not_reached : (u : Uuid) → is_reached p (finite.get rows u) ≡ false → sides u tt ≡ None
  not_reached u e = by (finite.get rows u) e
    where
      by : (o : Option History) → is_reached p o ≡ false → changed_row (at_version p (finite.get t u) o) (finite.get t u) ≡ None
      by None e = unchanged (finite.get t u)
      by (Some x) e = ap (λ r. changed_row r (finite.get t u)) (beyond p (finite.get t u) x e) ∙ unchanged (finite.get t u)

  find-named : (u : Uuid) (us : List Uuid) → find uuid_cmp u (map named us) ≡ cond (list_any (same u) us) (Some tt) None
  find-named u [] = refl
  find-named u (v ∷ us) = by (same u v) (find-named u us)
    where
      by : (b : Bool) → find uuid_cmp u (map named us) ≡ cond (list_any (same u) us) (Some tt) None → cond b (Some tt) (find uuid_cmp u (map named us)) ≡ cond (b || list_any (same u) us) (Some tt) None
      by true e = refl
      by false e = e

  pub keys-named : (us : List Uuid) → keys_of (map named us) ≡ us
  keys-named [] = refl
  keys-named (u ∷ us) = ap (λ vs. u ∷ vs) (keys-named us)

  pub distinct_named : (us : List Uuid) → IsDistinct same us → IsDistinct same (keys_of (map named us))
  distinct_named us h = subst (IsDistinct same) (sym (keys-named us)) h

  -- as an iterator yields them
  pub listed_map : (ks : List (Bor Uuid)) → map (λ k. named k.now) ks ≡ map named (map (λ k. k.now) ks)
  listed_map [] = refl
  listed_map (k ∷ ks) = ap (λ es. named k.now ∷ es) (listed_map ks)

  pub since_listed : (us : List Uuid) → IsDistinct same us → ((u : Uuid) → list_any (same u) us ≡ false → is_reached p (finite.get rows u) ≡ false)
      → finite.from_entries {R = uuid_cmp} (changes_of sides (map named us)) ≡ change (content_at p t rows) t
  since_listed us distinct covers =
      same_map uuid_cmp_total uuid_cmp-IsAntisymmetric _ _
      (λ q. get-from_entries (changes_of sides (map named us)) q
      ∙ find-changes sides (map named us) q (distinct_named us distinct)
      ∙ ap (option_and_then (sides q)) (find-named q us)
      ∙ by q (list_any (same q) us) refl
      ∙ ap (λ r. changed_row r (finite.get t q)) (sym (get-content p t rows q))
      ∙ sym (get-combine uuid_cmp_total uuid_cmp-IsAntisymmetric changed_row refl (content_at p t rows) t q))
    where
      by : (q : Uuid) (b : Bool) → list_any (same q) us ≡ b → option_and_then (sides q) (cond b (Some tt) None) ≡ sides q tt
      by q true is = refl
      by q false is = sym (not_reached q (covers q is))

-- entries from a later version on
from_earlier : (p q : ℕ) (ns : List Recorded) → p ≤ q → AllFrom q ns → AllFrom p ns
from_earlier p q [] le h = tt
from_earlier p q (n ∷ ns) le h = let from : q ≤ n.0 = h.0 in (omega (arith, le, from), from_earlier p q ns le h.1)

-- the first of entries in order isn't before the version
pub first_from : (p : ℕ) (n : Recorded) (ns : List Recorded) → p ≤ n.0 → AreInOrder (n ∷ ns) → AllFrom p (n ∷ ns)
first_from p n ns le h = (le, from_earlier p n.0 ns le h.0)
