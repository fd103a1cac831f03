-- The laws of finite maps: what `get` answers after each function, and that maps which answer alike are equal.
use Rattle.std.specs.Prelude.{◌≡◌, Bool, true, false, cond, ◌||◌, T, List, [], ◌∷◌, ◌++◌, length, is_some, Option, Some, None, option_and_then}
use Rattle.std.specs.List.{list_any}
use mathlib.Core.Path.{refl, sym, ap, subst, ◌∙◌}
use Rattle.std.specs.declared.cmp.Ordering.{Ordering}
use Rattle.std.specs.declared.cmp.Ordering.TheVariants.{Equal}
use Rattle.std.specs.Ordering.{eq_by_cmp}
use Rattle.std.specs.Cmp.{IsTotalOrder, Equal-is}
use Rattle.std.specs.FinMap.{IsAntisymmetric}
use Rattle.std.specs.FinMap.Entries.{find, put, is_sorted, is_sorted-put, find-put, find-where_key, is_some-find, same_entries}
use Rattle.odb_atoms.specs.FinMap.{FinMap, checked, combine, contains_key, empty, from_sorted, get, insert, insert_if, keys, len, map_entries, retain_keys, same_entries_map, tabulate}

any-++ : {A : Type 0} (p : A → Bool) (xs ys : List A) → list_any p (xs ++ ys) ≡ (list_any p xs || list_any p ys)
any-++ p [] ys = refl
any-++ p (x ∷ xs) ys = elim (p x) as (λ b. (b || list_any p (xs ++ ys)) ≡ ((b || list_any p xs) || list_any p ys)) [ true ↦ refl | false ↦ any-++ p xs ys ]

none_of : {A : Type 0} (x : Option A) → is_some x ≡ false → x ≡ None
none_of None e = refl
none_of (Some a) e = absurd (subst T e tt)

cond_same : {A : Type 0} (b : Bool) (x : A) → cond b x x ≡ x
cond_same true x = refl
cond_same false x = refl

pub get-empty : {K X : Type 0} (R : K → K → Ordering) (q : K) → get (empty {X = X} {R = R}) q ≡ None
unfolding get empty
get-empty R q = refl

pub same_key : {K : Type 0} {R : K → K → Ordering} → IsAntisymmetric R → (q k : K) → eq_by_cmp R q k ≡ true → q ≡ k
same_key {R = R} same q k e = same q k ((Equal-is (R q k)).0 e)

module _ {K X : Type 0} {R : K → K → Ordering} where
  entries-checked : (es : List (K × X)) (b : Bool) (e : is_sorted R es ≡ b) (m : FinMap R X) → T b → (checked es b e m).entries ≡ es
  unfolding checked
  entries-checked es true e m h = refl
  entries-checked es false e m h = absurd h

  pub get-entries : (m : FinMap R X) (q : K) → get m q ≡ find R q m.entries
  unfolding get
  get-entries m q = refl

  pub contains_key-keys : (m : FinMap R X) (q : K) → contains_key m q ≡ list_any (eq_by_cmp R q) (keys m)
  unfolding get keys
  contains_key-keys m q = is_some-find R q m.entries

  -- where the map has no key that ties, it has no value
  pub get_without : (m : FinMap R X) (q : K) → list_any (eq_by_cmp R q) (keys m) ≡ false → get m q ≡ None
  get_without m q e = none_of (get m q) (contains_key-keys m q ∙ e)

  pub get-retain_keys : (m : FinMap R X) (p : K → Bool) (q : K) → ((x : K) → R q x ≡ Equal → p x ≡ p q) → get (retain_keys m p) q ≡ cond (p q) (get m q) None
  unfolding get retain_keys
  get-retain_keys m p q alike = find-where_key R p q alike m.entries

pub entries-from_sorted : {K X : Type 0} (R : K → K → Ordering) (es : List (K × X)) → T (is_sorted R es) → (from_sorted {R = R} es).entries ≡ es
unfolding from_sorted
entries-from_sorted R es h = entries-checked es _ refl empty h

pub len-from_sorted : {K X : Type 0} (R : K → K → Ordering) (es : List (K × X)) → T (is_sorted R es) → len (from_sorted {R = R} es) ≡ length es
unfolding len
len-from_sorted R es h = ap length (entries-from_sorted R es h)

module _ {K X : Type 0} {R : K → K → Ordering} (o : IsTotalOrder R) where
  pub entries-insert : (m : FinMap R X) (k : K) (v : X) → (insert m k v).entries ≡ put R k v m.entries
  unfolding insert
  entries-insert m k v = entries-checked _ _ refl m (is_sorted-put R o k v m.entries m.sorted)

  pub get-insert : (m : FinMap R X) (k : K) (v : X) (q : K) → get (insert m k v) q ≡ cond (eq_by_cmp R q k) (Some v) (get m q)
  unfolding get
  get-insert m k v q = ap (find R q) (entries-insert m k v) ∙ find-put R o q k v m.entries

module _ {K X : Type 0} {R : K → K → Ordering} (o : IsTotalOrder R) (same : IsAntisymmetric R) where
  pub same_map : (m n : FinMap R X) → ((q : K) → get m q ≡ get n q) → m ≡ n
  unfolding get
  same_map m n is = same_entries_map m n (same_entries R o same m.entries n.entries m.sorted n.sorted is)

  get-insert_if : (m : FinMap R X) (g : K → Option X) (k q : K) (a : Bool) → get m q ≡ cond a (g q) None → get (insert_if (g k) k m) q ≡ cond (eq_by_cmp R q k || a) (g q) None
  get-insert_if m g k q a rest = at_value (g k) refl (eq_by_cmp R q k) refl
    where
      at_value : (x : Option X) → g k ≡ x → (b : Bool) → eq_by_cmp R q k ≡ b → get (insert_if x k m) q ≡ cond (b || a) (g q) None
      at_value None e true t = let none : g q ≡ None = ap g (same_key same q k t) ∙ e in rest ∙ ap (λ x. cond a x None) none ∙ cond_same a None ∙ sym none
      at_value None e false t = rest
      at_value (Some x) e true t = get-insert o m k x q ∙ ap (λ b. cond b (Some x) (get m q)) t ∙ sym (ap g (same_key same q k t) ∙ e)
      at_value (Some x) e false t = get-insert o m k x q ∙ ap (λ b. cond b (Some x) (get m q)) t ∙ rest

  -- at the keys of the list, what g has there
  pub get-tabulate : (ks : List K) (g : K → Option X) (q : K) → get (tabulate {R = R} ks g) q ≡ cond (list_any (eq_by_cmp R q) ks) (g q) None
  get-tabulate [] g q = get-empty R q
  get-tabulate (k ∷ ks) g q = get-insert_if (tabulate ks g) g k q (list_any (eq_by_cmp R q) ks) (get-tabulate ks g q)

-- a test that fails only where there is nothing
guarded : {A : Type 0} (b : Bool) (x : Option A) → (b ≡ false → x ≡ None) → cond b x None ≡ x
guarded true x h = refl
guarded false x h = sym (h refl)

neither : (a b : Bool) → (a || b) ≡ false → (a ≡ false) × (b ≡ false)
neither true b e = (e, absurd (subst T e tt))
neither false b e = (refl, e)

module _ {K X Y Z : Type 0} {R : K → K → Ordering} (o : IsTotalOrder R) (same : IsAntisymmetric R) where
  -- at each key, what f makes of the two values there
  pub get-combine : (f : Option X → Option Y → Option Z) → f None None ≡ None → (m : FinMap R X) (n : FinMap R Y) (q : K) → get (combine f m n) q ≡ f (get m q) (get n q)
  get-combine f nothing m n q =
      get-tabulate o same (keys m ++ keys n) (λ k. f (get m k) (get n k)) q
      ∙ guarded _ _ (λ e. let no = neither _ _ (sym (any-++ (eq_by_cmp R q) (keys m) (keys n)) ∙ e) in (λ i. f (get_without m q no.0 i) (get_without n q no.1 i)) ∙ nothing)

module _ {K X Y : Type 0} {R : K → K → Ordering} (o : IsTotalOrder R) (same : IsAntisymmetric R) where
  -- at each key, what f makes of the entry there
  pub get-map_entries : (f : K → X → Option Y) (m : FinMap R X) (q : K) → get (map_entries f m) q ≡ option_and_then (f q) (get m q)
  get-map_entries f m q =
      get-tabulate o same (keys m) (λ k. option_and_then (f k) (get m k)) q
      ∙ guarded _ _ (λ e. ap (option_and_then (f q)) (get_without m q e))
