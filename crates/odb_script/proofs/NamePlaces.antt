-- Sessions of which no two have one name, and the place of a name among them.
use Rattle.std.proofs.Common.{◌≡◌, ◌<◌, ◌+◌, nat_lt, ℕ, zero, suc, Bool, true, false, not, cond, List, [], ◌∷◌, ◌++◌, None, Some, length, find, filter, slice_get, slice_set, bytes_eq, refl, sym, ap, subst, ◌∙◌, option_map, arith}
use Rattle.std.proofs.lemmas.Slice.Eq.{bytes_eq-Decides}
use Rattle.std.specs.declared.option.Option.{Option}
use Rattle.std.specs.List.{position, position_or_len}
use Rattle.odb_script.specs.Script.{ScriptSession, at_name}
use Rattle.odb_script.specs.Represented.Names.{AreApart, place_in}

-- no session has the name
abbrev pub Absent : List ℕ → List ScriptSession → Type 0
Absent n xs = find (λ y. bytes_eq y.name n) xs ≡ None

absent_first : (n : List ℕ) (x : ScriptSession) (xs : List ScriptSession) → Absent n (x ∷ xs) → bytes_eq x.name n ≡ false
absent_first n x xs none = by (bytes_eq x.name n) refl none
  where
    by : (b : Bool) → bytes_eq x.name n ≡ b → cond b (Some x) (find (λ y. bytes_eq y.name n) xs) ≡ None → bytes_eq x.name n ≡ false
    by true is e = absurd (some_none e)
      where
        some_none : Some x ≡ None → ⊥
        some_none f = cc
    by false is e = is

absent_rest : (n : List ℕ) (x : ScriptSession) (xs : List ScriptSession) → Absent n (x ∷ xs) → Absent n xs
absent_rest n x xs none = ap (λ b. cond b (Some x) (find (λ y. bytes_eq y.name n) xs)) (sym (absent_first n x xs none)) ∙ none

absent_more : (n : List ℕ) (x : ScriptSession) (xs : List ScriptSession) → bytes_eq x.name n ≡ false → Absent n xs → Absent n (x ∷ xs)
absent_more n x xs other none = ap (λ b. cond b (Some x) (find (λ y. bytes_eq y.name n) xs)) other ∙ none

-- where the name has no place, nobody has it
pub nowhere : (n : List ℕ) (xs : List ScriptSession) → place_in n xs ≡ None → Absent n xs
nowhere n [] e = refl
nowhere n (x ∷ xs) e = by (nowhere n xs) (bytes_eq x.name n) refl e
  where
    none_of : (o : Option ℕ) → option_map suc o ≡ None → o ≡ None
    none_of None f = refl
    none_of (Some k) f = absurd (some_none f)
      where
        some_none : Some (suc k) ≡ None → ⊥
        some_none g = cc

    by : (place_in n xs ≡ None → Absent n xs) → (b : Bool) → bytes_eq x.name n ≡ b → cond b (Some 0) (option_map suc (place_in n xs)) ≡ None → Absent n (x ∷ xs)
    by rest true is f = absurd (some_none f)
      where
        some_none : ◌≡◌ {A = Option ℕ} (Some 0) None → ⊥
        some_none g = cc
    by rest false is f = absent_more n x xs is (rest (none_of (place_in n xs) f))

-- who stands at the place of a name: the first of that name
pub record Stands (n : List ℕ) (xs : List ScriptSession) (k : ℕ) : Type 0 where
  pub who : ScriptSession
  pub there : slice_get xs k ≡ Some who
  pub first : find (λ y. bytes_eq y.name n) xs ≡ Some who
  pub inside : k < length xs
  pub called : who.name ≡ n

stands_later : (n : List ℕ) (x : ScriptSession) (xs : List ScriptSession) (k : ℕ) → bytes_eq x.name n ≡ false → Stands n xs k → Stands n (x ∷ xs) (suc k)
stands_later n x xs k other s = record {
  who = s.who;
  there = s.there;
  first = ap (λ b. cond b (Some x) (find (λ y. bytes_eq y.name n) xs)) other ∙ s.first;
  inside = (let i = s.inside in omega (arith, i));
  called = s.called;
}

pub stands : (n : List ℕ) (xs : List ScriptSession) (k : ℕ) → place_in n xs ≡ Some k → Stands n xs k
stands n [] k e = absurd (none_some e)
  where
    none_some : None ≡ Some k → ⊥
    none_some f = cc
stands n (x ∷ xs) k e = by (stands n xs) (bytes_eq x.name n) refl e
  where
    by_place : ((j : ℕ) → place_in n xs ≡ Some j → Stands n xs j) → (o : Option ℕ) → place_in n xs ≡ o → option_map suc o ≡ Some k → bytes_eq x.name n ≡ false → Stands n (x ∷ xs) k
    by_place rest None is f other = absurd (none_some f)
      where
        none_some : None ≡ Some k → ⊥
        none_some g = cc
    by_place rest (Some j) is f other = subst (Stands n (x ∷ xs)) (same_Some (suc j) k f) (stands_later n x xs j other (rest j is))
      where
        same_Some : (a b : ℕ) → Some a ≡ Some b → a ≡ b
        same_Some a b g = cc

    by : ((j : ℕ) → place_in n xs ≡ Some j → Stands n xs j) → (b : Bool) → bytes_eq x.name n ≡ b → cond b (Some 0) (option_map suc (place_in n xs)) ≡ Some k → Stands n (x ∷ xs) k
    by rest true is f = subst (Stands n (x ∷ xs)) (same_Some 0 k f) (record { who = x; there = refl; first = ap (λ b. cond b (Some x) (find (λ y. bytes_eq y.name n) xs)) is; inside = omega arith; called = (bytes_eq-Decides x.name n).0 is })
      where
        same_Some : (a b : ℕ) → Some a ≡ Some b → a ≡ b
        same_Some a b g = cc
    by rest false is f = by_place rest (place_in n xs) refl f is

-- where nobody has the name, nobody changes by it
at_absent : (n : List ℕ) (f : ScriptSession → ScriptSession) (xs : List ScriptSession) → Absent n xs → at_name n f xs ≡ xs
at_absent n f [] none = refl
at_absent n f (x ∷ xs) none =
    (λ i. cond (absent_first n x xs none i) (f x) x ∷ at_absent n f xs (absent_rest n x xs none) i)

-- a change at a name is one at its place
pub at_place : (n : List ℕ) (f : ScriptSession → ScriptSession) (xs : List ScriptSession) (k : ℕ) (x : ScriptSession) → AreApart xs → place_in n xs ≡ Some k → slice_get xs k ≡ Some x → at_name n f xs ≡ slice_set xs k (f x)
at_place n f [] k x apart e there = absurd (none_some e)
  where
    none_some : None ≡ Some k → ⊥
    none_some g = cc
at_place n f (y ∷ ys) k x apart e there = by (λ j. at_place n f ys j x apart.1) (bytes_eq y.name n) refl k e there
  where
    Rest : Type 0
    Rest = (j : ℕ) → place_in n ys ≡ Some j → slice_get ys j ≡ Some x → at_name n f ys ≡ slice_set ys j (f x)

    same_Some : (a b : ScriptSession) → Some a ≡ Some b → a ≡ b
    same_Some a b g = cc

    by_place : Rest → (o : Option ℕ) → place_in n ys ≡ o → (j : ℕ) → option_map suc o ≡ Some j → slice_get (y ∷ ys) j ≡ Some x → bytes_eq y.name n ≡ false → at_name n f (y ∷ ys) ≡ slice_set (y ∷ ys) j (f x)
    by_place rest None is j g at other = absurd (none_some g)
      where
        none_some : None ≡ Some j → ⊥
        none_some h = cc
    by_place rest (Some i) is zero g at other = absurd (apart_numbers g)
      where
        apart_numbers : Some (suc i) ≡ Some 0 → ⊥
        apart_numbers h = cc
    by_place rest (Some i) is (suc j) g at other =
        (λ t. cond (other t) (f y) y ∷ rest j (is ∙ ap Some (same_suc i j g)) at t)
      where
        same_suc : (a b : ℕ) → Some (suc a) ≡ Some (suc b) → a ≡ b
        same_suc a b h = cc

    by : Rest → (b : Bool) → bytes_eq y.name n ≡ b → (j : ℕ) → cond b (Some 0) (option_map suc (place_in n ys)) ≡ Some j → slice_get (y ∷ ys) j ≡ Some x → at_name n f (y ∷ ys) ≡ slice_set (y ∷ ys) j (f x)
    by rest true is zero g at =
        let here : y ≡ x = same_Some y x at in
        let gone : Absent n ys = subst (λ m. Absent m ys) ((bytes_eq-Decides y.name n).0 is) apart.0 in
        (λ i. cond (is i) (f y) y ∷ at_absent n f ys gone i) ∙ ap (λ z. f z ∷ ys) here
    by rest true is (suc j) g at = absurd (apart_numbers g)
      where
        apart_numbers : Some 0 ≡ Some (suc j) → ⊥
        apart_numbers h = cc
    by rest false is j g at = by_place rest (place_in n ys) refl j g at is

-- ---- what keeps names apart

absent_at : (n m : List ℕ) (f : ScriptSession → ScriptSession) (xs : List ScriptSession) → ((x : ScriptSession) → (f x).name ≡ x.name) → Absent m xs → Absent m (at_name n f xs)
absent_at n m f [] same none = refl
absent_at n m f (x ∷ xs) same none = absent_more m _ (at_name n f xs) (ap (λ t. bytes_eq t m) (name_of (bytes_eq x.name n)) ∙ absent_first m x xs none) (absent_at n m f xs same (absent_rest m x xs none))
  where
    name_of : (b : Bool) → (cond b (f x) x).name ≡ x.name
    name_of true = same x
    name_of false = refl

pub apart_at : (n : List ℕ) (f : ScriptSession → ScriptSession) (xs : List ScriptSession) → ((x : ScriptSession) → (f x).name ≡ x.name) → AreApart xs → AreApart (at_name n f xs)
apart_at n f [] same apart = tt
apart_at n f (x ∷ xs) same apart = (subst (λ m. Absent m (at_name n f xs)) (sym (name_of (bytes_eq x.name n))) (absent_at n x.name f xs same apart.0), apart_at n f xs same apart.1)
  where
    name_of : (b : Bool) → (cond b (f x) x).name ≡ x.name
    name_of true = same x
    name_of false = refl

absent_filter : (m : List ℕ) (p : ScriptSession → Bool) (xs : List ScriptSession) → Absent m xs → Absent m (filter p xs)
absent_filter m p [] none = refl
absent_filter m p (x ∷ xs) none = by (absent_filter m p xs (absent_rest m x xs none)) (p x)
  where
    by : Absent m (filter p xs) → (b : Bool) → Absent m (cond b (x ∷ filter p xs) (filter p xs))
    by rest true = absent_more m x (filter p xs) (absent_first m x xs none) rest
    by rest false = rest

pub apart_filter : (p : ScriptSession → Bool) (xs : List ScriptSession) → AreApart xs → AreApart (filter p xs)
apart_filter p [] apart = tt
apart_filter p (x ∷ xs) apart = by (apart_filter p xs apart.1) (p x)
  where
    by : AreApart (filter p xs) → (b : Bool) → AreApart (cond b (x ∷ filter p xs) (filter p xs))
    by rest true = (absent_filter x.name p xs apart.0, rest)
    by rest false = rest

absent_end : (m : List ℕ) (xs : List ScriptSession) (x : ScriptSession) → bytes_eq x.name m ≡ false → Absent m xs → Absent m (xs ++ x ∷ [])
absent_end m [] x other none = absent_more m x [] other refl
absent_end m (y ∷ ys) x other none = absent_more m y (ys ++ x ∷ []) (absent_first m y ys none) (absent_end m ys x other (absent_rest m y ys none))

differ : (s t : List ℕ) → bytes_eq s t ≡ false → bytes_eq t s ≡ false
differ s t e = by (bytes_eq t s) refl
  where
    by : (b : Bool) → bytes_eq t s ≡ b → bytes_eq t s ≡ false
    by true is = absurd (clash (sym ((bytes_eq-Decides s t).1 (sym ((bytes_eq-Decides t s).0 is))) ∙ e))
      where
        clash : true ≡ false → ⊥
        clash f = cc
    by false is = is

pub apart_end : (xs : List ScriptSession) (x : ScriptSession) → Absent x.name xs → AreApart xs → AreApart (xs ++ x ∷ [])
apart_end [] x none apart = (refl, tt)
apart_end (y ∷ ys) x none apart = (absent_end y.name ys x (differ y.name x.name (absent_first x.name y ys none)) apart.0, apart_end ys x (absent_rest x.name y ys none) apart.1)

-- the first place at which the test of a name holds is the place of the name
pub place_position : (n : List ℕ) (xs : List ScriptSession) → position (λ x. bytes_eq x.name n) xs ≡ place_in n xs
place_position n [] = refl
place_position n (x ∷ xs) = by (place_position n xs) (bytes_eq x.name n)
  where
    k : ℕ
    k = position_or_len (λ y. bytes_eq y.name n) xs

    later : (c : Bool) → nat_lt k (length xs) ≡ c → cond c (Some k) None ≡ place_in n xs → cond (nat_lt (1 + k) (suc (length xs))) (Some (1 + k)) None ≡ option_map suc (place_in n xs)
    later true is e = ap (λ b. cond b (Some (1 + k)) None) {y = true} (grind (arith, is)) ∙ ap Some (omega arith) ∙ ap (option_map suc) e
    later false is e = ap (λ b. cond b (Some (1 + k)) None) {y = false} (grind (arith, is)) ∙ ap (option_map suc) e

    by : position (λ y. bytes_eq y.name n) xs ≡ place_in n xs → (b : Bool) → cond (nat_lt (cond (not b) (1 + k) 0) (suc (length xs))) (Some (cond (not b) (1 + k) 0)) None ≡ cond b (Some 0) (option_map suc (place_in n xs))
    by rest true = ap (λ b. cond b (Some 0) None) {x = nat_lt 0 (suc (length xs))} {y = true} (grind arith)
    by rest false = later (nat_lt k (length xs)) refl rest

absent_set : (m : List ℕ) (xs : List ScriptSession) (k : ℕ) (x y : ScriptSession) → slice_get xs k ≡ Some x → y.name ≡ x.name → Absent m xs → Absent m (slice_set xs k y)
absent_set m [] k x y there same none = none
absent_set m (z ∷ zs) zero x y there same none =
    let other : bytes_eq y.name m ≡ false = ap (λ t. bytes_eq t m) (same ∙ ap (λ (w : ScriptSession). w.name) (sym (same_Some z x there))) ∙ absent_first m z zs none in
    absent_more m y zs other (absent_rest m z zs none)
  where
    same_Some : (a b : ScriptSession) → Some a ≡ Some b → a ≡ b
    same_Some a b g = cc
absent_set m (z ∷ zs) (suc k) x y there same none = absent_more m z (slice_set zs k y) (absent_first m z zs none) (absent_set m zs k x y there same (absent_rest m z zs none))

-- another of the same name in its place
pub apart_set : (xs : List ScriptSession) (k : ℕ) (x y : ScriptSession) → slice_get xs k ≡ Some x → y.name ≡ x.name → AreApart xs → AreApart (slice_set xs k y)
apart_set [] k x y there same apart = tt
apart_set (z ∷ zs) zero x y there same apart = (subst (λ t. Absent t zs) (ap (λ (w : ScriptSession). w.name) (same_Some z x there) ∙ sym same) apart.0, apart.1)
  where
    same_Some : (a b : ScriptSession) → Some a ≡ Some b → a ≡ b
    same_Some a b g = cc
apart_set (z ∷ zs) (suc k) x y there same apart = (absent_set z.name zs k x y there same apart.0, apart_set zs k x y there same apart.1)
