-- Sets of the contents of rows.
use Rattle.std.specs.Prelude.{◌≡◌, ℕ, ◌+◌, ◌<◌, Bool, true, false, cond, not, ◌&&◌, ◌||◌, List, [], ◌∷◌, ◌++◌, filter, length, map, Vec}
use Rattle.std.proofs.Common.{drop, get_or}
use Rattle.std.proofs.lemmas.List.{drop_more}
use Rattle.std.specs.BTreeSet.{BTreeSet, Updates}
use Rattle.std.specs.Borrow.{Bor}
use Rattle.std.specs.Cmp.Lexicographic.{slice_cmp}
use Rattle.std.specs.List.{list_any}
use Rattle.std.specs.Ordering.{is_eq, ordering_then}
use Rattle.std.specs.declared.alloc.Global.{Global}
use Rattle.std.specs.declared.cmp.Ordering.{Ordering}
use Rattle.std.specs.declared.cmp.Ordering.TheVariants.{Less, Equal, Greater}
use mathlib.Core.Path.{refl, sym, ap, ◌∙◌}
use Rattle.odb_atoms.specs.Members.{value_cmp}
use Rattle.odb_atoms.specs.Value.{Value, includes_all, same_values}
use Rattle.odb_atoms.proofs.Represented.Orders.{eq_by_cmp-value_cmp}
use Rattle.odb_ops.specs.Execution.{distinct, each_in}
use Rattle.odb_ops.specs.Represented.Cells.{IsLentSetOf, IsSetOf}

-- ---- the tests of rows

then_equal : (o r : Ordering) → is_eq (ordering_then o r) ≡ (is_eq o && is_eq r)
then_equal Less r = refl
then_equal Equal r = refl
then_equal Greater r = refl

same_by_cmp : (xs ys : List Value) → is_eq (slice_cmp value_cmp xs ys) ≡ same_values xs ys
same_by_cmp [] [] = refl
same_by_cmp [] (y ∷ ys) = refl
same_by_cmp (x ∷ xs) [] = refl
same_by_cmp (x ∷ xs) (y ∷ ys) = then_equal (value_cmp x y) (slice_cmp value_cmp xs ys) ∙ (λ i. eq_by_cmp-value_cmp x y i && same_by_cmp xs ys i)

and_swap : (a b : Bool) → (a && b) ≡ (b && a)
and_swap true true = refl
and_swap true false = refl
and_swap false true = refl
and_swap false false = refl

pub same_swap : (xs ys : List Value) → same_values xs ys ≡ same_values ys xs
same_swap [] [] = refl
same_swap [] (y ∷ ys) = refl
same_swap (x ∷ xs) [] = refl
same_swap (x ∷ xs) (y ∷ ys) = λ i. and_swap (includes_all x y) (includes_all y x) i && same_swap xs ys i

-- ---- sets of rows

any-push : {A : Type 0} (p : A → Bool) (xs : List A) (x : A) → list_any p (xs ++ x ∷ []) ≡ (p x || list_any p xs)
any-push p [] x = refl
any-push p (y ∷ ys) x = ap (λ b. p y || b) (any-push p ys x) ∙ swap (p y) (p x) (list_any p ys)
  where
    swap : (a b c : Bool) → (a || (b || c)) ≡ (b || (a || c))
    swap true true c = refl
    swap true false c = refl
    swap false b c = refl

either_true : (b c : Bool) → cond b true c ≡ (b || c)
either_true true c = refl
either_true false c = refl

pub set-empty : (set : BTreeSet (Bor (List Value))) → set.keys ≡ [] → IsSetOf set []
set-empty set e q = ap (list_any (λ k. is_eq (slice_cmp value_cmp q k.now))) e

abbrev by_content : Bor (List Value) → Bor (List Value) → Ordering
by_content x y = slice_cmp value_cmp x.now y.now

pub set-push : (old new : BTreeSet (Bor (List Value))) (row : Bor (List Value)) (xs : List (List Value)) → Updates by_content old new row true → IsSetOf old xs → IsSetOf new (xs ++ row.now ∷ [])
set-push old new row xs changed h q =
    changed.0 (record row { now = q })
    ∙ (λ i. cond (same_by_cmp row.now q i) true (h q i))
    ∙ either_true (same_values row.now q) (list_any (same_values q) xs)
    ∙ ap (λ b. b || list_any (same_values q) xs) (same_swap row.now q)
    ∙ sym (any-push (same_values q) xs row.now)

-- ---- sets of rows of which the values are lent

abbrev by_values : Vec (Bor Value) Global → Vec (Bor Value) Global → Ordering
by_values x y = slice_cmp (λ v w. value_cmp v.now w.now) x.items y.items

lent_cmp : (xs ys : List (Bor Value)) → slice_cmp (λ v w. value_cmp v.now w.now) xs ys ≡ slice_cmp value_cmp (map (λ v. v.now) xs) (map (λ v. v.now) ys)
lent_cmp [] [] = refl
lent_cmp [] (y ∷ ys) = refl
lent_cmp (x ∷ xs) [] = refl
lent_cmp (x ∷ xs) (y ∷ ys) = ap (ordering_then (value_cmp x.now y.now)) (lent_cmp xs ys)

any_same : {A : Type 0} (p q : A → Bool) (xs : List A) → ((x : A) → p x ≡ q x) → list_any p xs ≡ list_any q xs
any_same p q [] h = refl
any_same p q (x ∷ xs) h = λ i. h x i || any_same p q xs h i

pub kept_by : (q : Vec (Bor Value) Global) (keys : List (Vec (Bor Value) Global)) → list_any (λ k. is_eq (by_values q k)) keys ≡ list_any (λ k. is_eq (slice_cmp value_cmp (map (λ v. v.now) q.items) (map (λ v. v.now) k.items))) keys
kept_by q keys = any_same _ _ keys (λ k. ap is_eq (lent_cmp q.items k.items))

pub lent-push : (old new : BTreeSet (Vec (Bor Value) Global)) (row : Vec (Bor Value) Global) (xs : List (List Value)) → Updates by_values old new row true → IsLentSetOf old xs → IsLentSetOf new (xs ++ map (λ v. v.now) row.items ∷ [])
lent-push old new row xs changed h q =
    let r : List Value = map (λ v. v.now) row.items in
    let p : List Value = map (λ v. v.now) q.items in
    sym (kept_by q new.keys)
    ∙ changed.0 q
    ∙ (λ i. cond (is_eq (lent_cmp row.items q.items i)) true (kept_by q old.keys i))
    ∙ (λ i. cond (same_by_cmp r p i) true (h q i))
    ∙ either_true (same_values r p) (list_any (same_values p) xs)
    ∙ ap (λ b. b || list_any (same_values p) xs) (same_swap r p)
    ∙ sym (any-push (same_values p) xs r)

-- ---- the first of each that are equal

filter-push : {A : Type 0} (p : A → Bool) (xs : List A) (x : A) → filter p (xs ++ x ∷ []) ≡ filter p xs ++ cond (p x) (x ∷ []) []
filter-push p [] x = by (p x)
  where
    by : (b : Bool) → cond b (x ∷ []) [] ≡ cond b (x ∷ []) []
    by b = refl
filter-push p (y ∷ ys) x = by (p y) (filter-push p ys x)
  where
    by : (b : Bool) → filter p (ys ++ x ∷ []) ≡ filter p ys ++ cond (p x) (x ∷ []) [] → cond b (y ∷ filter p (ys ++ x ∷ [])) (filter p (ys ++ x ∷ [])) ≡ cond b (y ∷ filter p ys) (filter p ys) ++ cond (p x) (x ∷ []) []
    by true e = ap (λ zs. y ∷ zs) e
    by false e = e

nothing_more : {A : Type 0} (xs : List A) → xs ++ [] ≡ xs
nothing_more [] = refl
nothing_more (x ∷ xs) = ap (λ ys. x ∷ ys) (nothing_more xs)

pub distinct-push : (xs : List (List Value)) (x : List Value) → distinct (xs ++ x ∷ []) ≡ cond (list_any (same_values x) xs) (distinct xs) (distinct xs ++ x ∷ [])
distinct-push [] x = refl
distinct-push (r ∷ rs) x =
    ap (λ ys. r ∷ others ys) (distinct-push rs x) ∙ by (same_values x r) (list_any (same_values x) rs) (same_swap r x)
  where
    differs : List Value → Bool
    differs q = not (same_values r q)

    others : List (List Value) → List (List Value)
    others ys = filter (λ q. not (same_values r q)) ys

    last : (b : Bool) → same_values r x ≡ b → others (distinct rs ++ x ∷ []) ≡ others (distinct rs) ++ cond (not b) (x ∷ []) []
    last b e = filter-push (λ q. not (same_values r q)) (distinct rs) x ∙ ap (λ c. others (distinct rs) ++ cond (not c) (x ∷ []) []) e

    by : (b a : Bool) → same_values r x ≡ b → r ∷ others (cond a (distinct rs) (distinct rs ++ x ∷ [])) ≡ cond (b || a) (r ∷ others (distinct rs)) ((r ∷ others (distinct rs)) ++ x ∷ [])
    by true true e = refl
    by true false e = ap (λ ys. r ∷ ys) (last true e ∙ nothing_more (others (distinct rs)))
    by false true e = refl
    by false false e = ap (λ ys. r ∷ ys) (last false e)

-- ---- rows that are among others

module _ (rows others : List (List Value)) (k : ℕ) (row : List Value) (low : k < length rows) (at : row ≡ get_or rows k row) where
  step : drop k rows ≡ row ∷ drop (k + 1) rows
  step = drop_more rows k row low ∙ ap (λ r. r ∷ drop (k + 1) rows) (sym at)

  pub is_among : each_in rows others ≡ each_in (drop k rows) others → list_any (same_values row) others ≡ true → each_in rows others ≡ each_in (drop (k + 1) rows) others
  is_among left e = left ∙ ap (λ rs. each_in rs others) step ∙ ap (λ b. b && each_in (drop (k + 1) rows) others) e

  pub is_apart : each_in rows others ≡ each_in (drop k rows) others → list_any (same_values row) others ≡ false → false ≡ each_in rows others
  is_apart left e = sym (left ∙ ap (λ rs. each_in rs others) step ∙ ap (λ b. b && each_in (drop (k + 1) rows) others) e)
