-- What is kept of a row says the same as before: that is so of itself, and goes on.
use Rattle.std.proofs.Common.{◌≡◌, ℕ, zero, suc, ◌+◌, ◌<◌, arith, Bool, true, false, cond, ◌||◌, List, [], ◌∷◌, ◌++◌, get_or, length, map, take, Option, Some, None, is_some, option_map, Result, Ok, Err, is_err, OnErr, OnOk, refl, sym, ap, subst, ◌∙◌, true≢false}
use mathlib.Core.Logic.{inl, inr}
use Rattle.std.proofs.lemmas.List.{map-append, take_more}
use Rattle.std.proofs.lemmas.Map.Keys.{IsDistinct-head, IsDistinct-tail}
use Rattle.std.specs.FinMap.Entries.{find, is_some-find}
use Rattle.std.specs.List.{AllByRecursion, IsDistinct, list_any}
use Rattle.std.specs.Map.{keys_of}
use Rattle.indexmap.specs.IndexMap.{IndexMap, get_by}
use Rattle.std.specs.Ordering.{eq_by_cmp}
use Rattle.odb_atoms.specs.FinMap as finite
use Rattle.odb_atoms.specs.Row.{Row}
use Rattle.odb_atoms.specs.Uuid.{Uuid, uuid_cmp}
use Rattle.odb_atoms.proofs.Atoms.{uuid_cmp_total, uuid_cmp-IsAntisymmetric}
use Rattle.odb_atoms.proofs.FinMaps.{get-insert, same_key, same_map}
use Rattle.odb_tables.specs.Change.{Changes, before}
use Rattle.odb_tables.specs.Database.{Table}
use Rattle.odb_tables.specs.Represented.Key.{keys_equivalent}
use Rattle.odb_tables.specs.Represented.Keyed.{keyed}
use Rattle.odb_tables.specs.Represented.TableChange.{AreDistinct}
use Rattle.odb_tables.proofs.KeyedMaps.{get-from_entries, get-keyed}
use Rattle.odb_tables.proofs.Leading.{Entry}
use Rattle.odb_chain.proofs.Histories.{label_pushed, or_left, or_right}
use Rattle.odb_chain.specs.Represented.MarkedVersions.{has_label}
use Rattle.std.proofs.Common.{nat_eq}
use Rattle.odb_chain.specs.OldRows.{History, Rows, at, is_reached}
use Rattle.odb_chain.specs.Represented.Chain.{IsOf}
use Rattle.odb_chain.specs.Represented.MarkedVersions.{AsBefore, StaysOrGoes}
use Rattle.odb_chain.proofs.Histories.{neutral, past_pushed}

either_label : (b a c : Bool) → (b ≡ true → (a || c) ≡ true) → (b || c) ≡ true → (a || c) ≡ true
either_label true a c f e = f refl
either_label false a c f e = or_right a c e

module _ (n : ℕ) (ls : List (ℕ × ℕ)) where
  pub as_it_is : (r : Option Row) (o : Option History) → AsBefore n ls r o o
  as_it_is r o = (λ p kept. refl, λ v le h. h, λ q e. or_left (has_label q o) (nat_eq q n) e)

  pub goes_on : (r : Option Row) (a b c : Option History) → AsBefore n ls r a b → AsBefore n ls r b c → AsBefore n ls r a c
  goes_on r a b c f g = (λ p kept. g.0 p kept ∙ f.0 p kept, λ v le h. g.1 v le (f.1 v le h), λ q e. either_label (has_label q b) (has_label q a) (nat_eq q n) (f.2 q) (g.2 q e))

  -- where nothing was kept
  pub begun : (r : Option Row) → AsBefore n ls r None (Some ((n, r) ∷ []))
  begun r = (λ p kept. neutral p n r [], λ v le h. past_pushed v n r [] le tt, λ q e. label_pushed q n r [] e)

  -- a row that the change doesn't concern, and the one that it does
  pub only_at : (t : Table) (old new : Rows) (k : Uuid) (r : Option Row) → finite.get t k ≡ r → AsBefore n ls r (finite.get old k) (finite.get new k)
      → ((u : Uuid) → eq_by_cmp uuid_cmp u k ≡ false → finite.get new u ≡ finite.get old u) → (u : Uuid) → AsBefore n ls (finite.get t u) (finite.get old u) (finite.get new u)
  only_at t old new k r at here others u = by (eq_by_cmp uuid_cmp u k) refl
    where
      own : AsBefore n ls (finite.get t k) (finite.get old k) (finite.get new k)
      own = subst (λ (x : Option Row). AsBefore n ls x (finite.get old k) (finite.get new k)) (sym at) here

      by : (b : Bool) → eq_by_cmp uuid_cmp u k ≡ b → AsBefore n ls (finite.get t u) (finite.get old u) (finite.get new u)
      by true is = subst (λ q. AsBefore n ls (finite.get t q) (finite.get old q) (finite.get new q)) (sym (same_key uuid_cmp-IsAntisymmetric u k is)) own
      by false is = subst (AsBefore n ls (finite.get t u) (finite.get old u)) (sym (others u is)) (as_it_is (finite.get t u) (finite.get old u))

pub reached_still : (n : ℕ) (old new : Rows) (k : Uuid) → is_reached n (finite.get new k) ≡ true
    → ((u : Uuid) → eq_by_cmp uuid_cmp u k ≡ false → finite.get new u ≡ finite.get old u) → (u : Uuid) → is_reached n (finite.get old u) ≡ true → is_reached n (finite.get new u) ≡ true
reached_still n old new k here others u was = by (eq_by_cmp uuid_cmp u k) refl
  where
    by : (b : Bool) → eq_by_cmp uuid_cmp u k ≡ b → is_reached n (finite.get new u) ≡ true
    by true is = ap (λ q. is_reached n (finite.get new q)) (same_key uuid_cmp-IsAntisymmetric u k is) ∙ here
    by false is = ap (is_reached n) (others u is) ∙ was

pub inserted_else : (m : Rows) (k : Uuid) (h : History) (u : Uuid) → eq_by_cmp uuid_cmp u k ≡ false → finite.get (finite.insert m k h) u ≡ finite.get m u
inserted_else m k h u apart = get-insert uuid_cmp_total m k h u ∙ ap (λ b. cond b (Some h) (finite.get m u)) apart

pub itself : (k : Uuid) → eq_by_cmp uuid_cmp k k ≡ true
itself k = keys_equivalent.refl k

pub inserted_here : (m : Rows) (k : Uuid) (h : History) → finite.get (finite.insert m k h) k ≡ Some h
inserted_here m k h = get-insert uuid_cmp_total m k h k ∙ ap (λ b. cond b (Some h) (finite.get m k)) (itself k)

-- ---- what a map of the code says of a row

pub either : {A E P Q G : Type 0} (r : Result A E) → OnOk r P → OnErr r Q → (P → G) → (Q → G) → G
either (Ok a) p q f g = f p
either (Err e) p q f g = g q

pub got : {S : Type 0} (m : IndexMap Uuid History S) (rows : Rows) (k : Uuid) → keyed (λ h. h) m ≡ rows → finite.get rows k ≡ option_map (λ h. h) (get_by (eq_by_cmp uuid_cmp k) m)
got m rows k is = ap (λ r. finite.get r k) (sym is) ∙ get-keyed (λ h. h) m k

-- a history that is put back as it was
pub put_back : (m : Rows) (k : Uuid) (h : History) → finite.get m k ≡ Some h → finite.insert m k h ≡ m
put_back m k h had =
    same_map uuid_cmp_total uuid_cmp-IsAntisymmetric (finite.insert m k h) m
    (λ q. get-insert uuid_cmp_total m k h q ∙ by q (eq_by_cmp uuid_cmp q k) refl)
  where
    by : (q : Uuid) (b : Bool) → eq_by_cmp uuid_cmp q k ≡ b → cond b (Some h) (finite.get m q) ≡ finite.get m q
    by q true is = sym had ∙ ap (finite.get m) (sym (same_key uuid_cmp-IsAntisymmetric q k is))
    by q false is = refl

-- what the row is now is kept, where nothing was
module _ {A E : Type 0} (n : ℕ) (ls : List (ℕ × ℕ)) (r : Option Row) (m now : Rows) (k : Uuid) (old : ℕ × Option Row) (result : Result A E) (is : old ≡ (n, r)) (none : finite.get m k ≡ None)
    (made : OnOk result (now ≡ finite.insert m k (old ∷ []))) (kept : OnErr result (now ≡ m)) where
  pub start_here : AsBefore n ls (r) (finite.get m k) (finite.get now k)
  start_here =
      either result made kept
      (λ e. subst (AsBefore n ls (r) (finite.get m k)) (sym (ap (λ (x : Rows). finite.get x k) e ∙ inserted_here m k (old ∷ []))) (subst (λ o. AsBefore n ls (r) o (Some (old ∷ []))) (sym none) (subst (λ (x : ℕ × Option Row). AsBefore n ls (r) None (Some (x ∷ []))) (sym is) (begun n ls (r)))))
      (λ e. subst (AsBefore n ls (r) (finite.get m k)) (sym (ap (λ (x : Rows). finite.get x k) e)) (as_it_is n ls (r) (finite.get m k)))

  pub start_else : (u : Uuid) → eq_by_cmp uuid_cmp u k ≡ false → finite.get now u ≡ finite.get m u
  start_else u apart =
      either result made kept
      (λ e. ap (λ (x : Rows). finite.get x u) e ∙ inserted_else m k (old ∷ []) u apart)
      (λ e. ap (λ (x : Rows). finite.get x u) e)

-- and where something was
module _ (n : ℕ) (ls : List (ℕ × ℕ)) (r : Option Row) (m now : Rows) (k : Uuid) (old : ℕ × Option Row) (h w : History) (is : old ≡ (n, r)) (had : finite.get m k ≡ Some h) (made : now ≡ finite.insert m k w) where
  pub push_here : AsBefore old.0 ls old.1 (Some h) (Some w) → AsBefore n ls (r) (finite.get m k) (finite.get now k)
  push_here f =
      subst (λ (x : ℕ × Option Row). AsBefore x.0 ls x.1 (finite.get m k) (finite.get now k)) is
      (subst (AsBefore old.0 ls old.1 (finite.get m k)) (sym (ap (λ (x : Rows). finite.get x k) made ∙ inserted_here m k w)) (subst (λ o. AsBefore old.0 ls old.1 o (Some w)) (sym had) f))

  pub push_else : (u : Uuid) → eq_by_cmp uuid_cmp u k ≡ false → finite.get now u ≡ finite.get m u
  push_else u apart = ap (λ (x : Rows). finite.get x u) made ∙ inserted_else m k w u apart

-- ---- rows one after the other

any-++ : (u : Uuid) (xs ys : List Uuid) → list_any (eq_by_cmp uuid_cmp u) (xs ++ ys) ≡ (list_any (eq_by_cmp uuid_cmp u) xs || list_any (eq_by_cmp uuid_cmp u) ys)
any-++ u [] ys = refl
any-++ u (x ∷ xs) ys = by (eq_by_cmp uuid_cmp u x) (any-++ u xs ys)
  where
    any : List Uuid → Bool
    any = list_any (eq_by_cmp uuid_cmp u)

    by : (b : Bool) → any (xs ++ ys) ≡ (any xs || any ys) → (b || any (xs ++ ys)) ≡ ((b || any xs) || any ys)
    by true is = refl
    by false is = is

or_false : (b : Bool) → (b || false) ≡ b
or_false true = refl
or_false false = refl

module _ {X : Type 0} (es : List (Uuid × X)) where
  pub any_more : (u : Uuid) (i : ℕ) (e : Uuid × X) → i < length es → e ≡ get_or es i e → list_any (eq_by_cmp uuid_cmp u) (keys_of (take (i + 1) es)) ≡ (list_any (eq_by_cmp uuid_cmp u) (keys_of (take i es)) || eq_by_cmp uuid_cmp u e.0)
  any_more u i e low at =
      ap (λ xs. list_any (eq_by_cmp uuid_cmp u) (keys_of xs)) (take_more es i e low ∙ ap (λ x. take i es ++ x ∷ []) (sym at))
      ∙ ap (list_any (eq_by_cmp uuid_cmp u)) (map-append (λ x. x.0) (take i es) (e ∷ []))
      ∙ any-++ u (keys_of (take i es)) (e.0 ∷ [])
      ∙ ap (λ b. list_any (eq_by_cmp uuid_cmp u) (keys_of (take i es)) || b) (or_false (eq_by_cmp uuid_cmp u e.0))

  -- the rows of a change are those that it lists
  pub any_of : (m : finite.FinMap uuid_cmp X) (u : Uuid) → finite.from_entries es ≡ m → is_some (finite.get m u) ≡ true → list_any (eq_by_cmp uuid_cmp u) (keys_of es) ≡ true
  any_of m u is there = sym (is_some-find uuid_cmp u es) ∙ ap is_some (sym (get-from_entries es u) ∙ ap (λ n. finite.get n u) is) ∙ there

apart : (q : Uuid) (es : List Entry) (i : ℕ) (e : Entry) → AllByRecursion (λ y. eq_by_cmp uuid_cmp q y ≡ false) (keys_of es) → i < length es → e ≡ get_or es i e → eq_by_cmp uuid_cmp e.0 q ≡ false
apart q [] i e h low at = absurd (omega (arith, low))
apart q (x ∷ es) zero e h low at = ap (λ (y : Entry). eq_by_cmp uuid_cmp y.0 q) at ∙ keys_equivalent.symm x.0 q ∙ h.0
apart q (x ∷ es) (suc i) e h low at = apart q es i e h.1 (omega (arith, low)) at

find-here : (es : List Entry) (i : ℕ) (e : Entry) → IsDistinct (eq_by_cmp uuid_cmp) (keys_of es) → i < length es → e ≡ get_or es i e → find uuid_cmp e.0 es ≡ Some e.1
find-here [] i e h low at = absurd (omega (arith, low))
find-here (x ∷ es) zero e h low at = (λ j. cond (eq_by_cmp uuid_cmp e.0 (sym at j).0) (Some (sym at j).1) (find uuid_cmp e.0 es)) ∙ ap (λ b. cond b (Some e.1) (find uuid_cmp e.0 es)) (keys_equivalent.refl e.0)
find-here (x ∷ es) (suc i) e h low at =
    ap (λ b. cond b (Some x.1) (find uuid_cmp e.0 es)) (apart x.0 es i e (IsDistinct-head (eq_by_cmp uuid_cmp) x.0 (keys_of es) h) (omega (arith, low)) at)
    ∙ find-here es i e (IsDistinct-tail (eq_by_cmp uuid_cmp) x.0 (keys_of es) h) (omega (arith, low)) at

get-here : (es : List Entry) (c : Changes) (i : ℕ) (e : Entry) → IsDistinct (eq_by_cmp uuid_cmp) (keys_of es) → finite.from_entries es ≡ c → i < length es → e ≡ get_or es i e → finite.get c e.0 ≡ Some e.1
get-here es c i e h is low at = ap (λ m. finite.get m e.0) (sym is) ∙ get-from_entries es e.0 ∙ find-here es i e h low at

-- what a change says of a row before it is what the table has
pub row_before : (es : List Entry) (d : Changes) (t : Table) (i : ℕ) (e : Entry) → AreDistinct es → finite.from_entries es ≡ d → i < length es → e ≡ get_or es i e → IsOf t d → finite.get t e.0 ≡ e.1.0
row_before es d t i e apart is low at of = sym (of e.0) ∙ ap (before (finite.get t e.0)) (get-here es d i e apart is low at)

pub one_reached : (n : ℕ) (old new : Rows) (k : Uuid) (before : Uuid → Bool) → ((u : Uuid) → before u ≡ true → is_reached n (finite.get old u) ≡ true)
    → is_reached n (finite.get new k) ≡ true → ((u : Uuid) → is_reached n (finite.get old u) ≡ true → is_reached n (finite.get new u) ≡ true)
    → (u : Uuid) → (before u || eq_by_cmp uuid_cmp u k) ≡ true → is_reached n (finite.get new u) ≡ true
one_reached n old new k before was here still u e = by (before u) refl (eq_by_cmp uuid_cmp u k) refl e
  where
    by : (b : Bool) → before u ≡ b → (c : Bool) → eq_by_cmp uuid_cmp u k ≡ c → (b || c) ≡ true → is_reached n (finite.get new u) ≡ true
    by true is c at e = still u (was u is)
    by false is true at e = ap (λ q. is_reached n (finite.get new q)) (same_key uuid_cmp-IsAntisymmetric u k at) ∙ here
    by false is false at e = absurd (true≢false (sym e))

-- ---- rows that go

pub goes_further : (p : ℕ) (a b c : Option History) → StaysOrGoes p a b → StaysOrGoes p b c → StaysOrGoes p a c
goes_further p a b c (inl s) (inl t) = inl (t ∙ s)
goes_further p a b c (inl s) (inr t) = inr (t.0, ap (is_reached p) (sym s) ∙ t.1)
goes_further p a b c (inr s) (inl t) = inr (t ∙ s.0, s.1)
goes_further p a b c (inr s) (inr t) = inr (t.0, s.1)

pub reached_else : (n : ℕ) (old new : Rows) (k : Uuid) → is_reached n (finite.get old k) ≡ false → ((u : Uuid) → eq_by_cmp uuid_cmp u k ≡ false → finite.get new u ≡ finite.get old u)
    → (u : Uuid) → is_reached n (finite.get old u) ≡ true → is_reached n (finite.get new u) ≡ true
reached_else n old new k unreached others u was = by (eq_by_cmp uuid_cmp u k) refl
  where
    by : (b : Bool) → eq_by_cmp uuid_cmp u k ≡ b → is_reached n (finite.get new u) ≡ true
    by true is = absurd (true≢false (sym was ∙ ap (λ q. is_reached n (finite.get old q)) (same_key uuid_cmp-IsAntisymmetric u k is) ∙ unreached))
    by false is = ap (is_reached n) (others u is) ∙ was

-- ---- results

pub given_ok : {A E P : Type 0} (r : Result A E) → is_err r ≡ false → OnOk r P → P
given_ok (Ok a) e p = p
given_ok (Err f) e p = absurd (true≢false e)

pub on_any_err : {A E P : Type 0} (r : Result A E) → P → OnErr r P
on_any_err (Ok a) p = tt
on_any_err (Err f) p = p
