-- The ids as asked are those of the monitors as asked; and the first of a list that passes a test, by its position.
use Rattle.std.proofs.Common.{◌≡◌, ℕ, suc, ◌+◌, arith, Bool, true, false, cond, not, ◌||◌, nat_lt, List, [], ◌∷◌, length, map, find, slice_set, is_some, Some, None, refl, sym, ap, ◌∙◌}
use Rattle.std.proofs.lemmas.Bool.Decides.{nat_tests}
use Rattle.std.proofs.lemmas.List.{map-append}
use Rattle.std.proofs.lemmas.Option.{none-some, same_Some}
use Rattle.std.specs.List.{list_any, position, position_or_len, remove}
use Rattle.odb_cond.specs.Filter.{Filter}
use Rattle.odb_schema.specs.Json.{Data}
use Rattle.odb_schema.specs.Schema.{Schema}
use Rattle.odb_service.specs.Server.{served_by}
use Rattle.odb_service.specs.Session.{Item, Session, Watch, asked, asked_after, asks, at_first, changed, drop_first, renamed, same_id, say, shift, start, stopped, sync}
use Rattle.odb_service.specs.World.{watched}
use Rattle.odb_sessions.specs.Asked.{asks_ids, ids_after, ids_asked, is_same}

abbrev ids_of : List Watch → List Data
ids_of ks = map (λ k. k.id) ks

pub map-map : {A B C : Type 0} (f : A → B) (g : B → C) (xs : List A) → map g (map f xs) ≡ map (λ x. g (f x)) xs
map-map f g [] = refl
map-map f g (x ∷ xs) = ap (λ ys. g (f x) ∷ ys) (map-map f g xs)

module _ (s : Schema) where
  renamed_ids : (old new : Data) (fs : List (List ℕ × Filter)) (ks : List Watch) → ids_of (at_first (λ k. same_id (served_by s) old k.id) (changed (served_by s) new fs) ks) ≡ at_first (is_same old) (λ i. new) (ids_of ks)
  renamed_ids old new fs [] = refl
  renamed_ids old new fs (k ∷ ks) = by (is_same old k.id) (renamed_ids old new fs ks)
    where
      by : (b : Bool) → ids_of (at_first (λ k. same_id (served_by s) old k.id) (changed (served_by s) new fs) ks) ≡ at_first (is_same old) (λ i. new) (ids_of ks)
          → ids_of (cond b (changed (served_by s) new fs k ∷ ks) (k ∷ at_first (λ k. same_id (served_by s) old k.id) (changed (served_by s) new fs) ks)) ≡ cond b (new ∷ ids_of ks) (k.id ∷ at_first (is_same old) (λ i. new) (ids_of ks))
      by true rest = refl
      by false rest = ap (λ is. k.id ∷ is) rest

  stopped_ids : (i : Data) (ks : List Watch) → ids_of (drop_first (λ k. same_id (served_by s) i k.id) ks) ≡ drop_first (is_same i) (ids_of ks)
  stopped_ids i [] = refl
  stopped_ids i (k ∷ ks) = by (is_same i k.id) (stopped_ids i ks)
    where
      by : (b : Bool) → ids_of (drop_first (λ k. same_id (served_by s) i k.id) ks) ≡ drop_first (is_same i) (ids_of ks)
          → ids_of (cond b ks (k ∷ drop_first (λ k. same_id (served_by s) i k.id) ks)) ≡ cond b (ids_of ks) (k.id ∷ drop_first (is_same i) (ids_of ks))
      by true rest = refl
      by false rest = ap (λ is. k.id ∷ is) rest

  asks_of : (i : Item) (ks : List Watch) → ids_of (asks (served_by s) i ks) ≡ asks_ids i (ids_of ks)
  asks_of (say a d) ks = refl
  asks_of (start d k) ks = map-append (λ k. k.id) ks (k ∷ [])
  asks_of (sync i) ks = refl
  asks_of (shift i fs) ks = refl
  asks_of (renamed d old new fs) ks = renamed_ids old new fs ks
  asks_of (stopped d i) ks = stopped_ids i ks

  after_of : (is : List Item) (ks : List Watch) → ids_of (asked_after (served_by s) is ks) ≡ ids_after is (ids_of ks)
  after_of [] ks = refl
  after_of (i ∷ is) ks = after_of is (asks (served_by s) i ks) ∙ ap (ids_after is) (asks_of i ks)

  pub asked_ids : (x : Session) → ids_of (asked (served_by s) x) ≡ ids_asked x
  asked_ids x = after_of x.queue (map (λ m. m.watch) x.monitors) ∙ ap (ids_after x.queue) (map-map (λ m. m.watch) (λ (k : Watch). k.id) x.monitors)

  pub any_watched : (i : Data) (ks : List Watch) → list_any (is_same i) (ids_of ks) ≡ is_some (watched (served_by s) i ks)
  any_watched i [] = refl
  any_watched i (k ∷ ks) = by (is_same i k.id) (any_watched i ks)
    where
      by : (b : Bool) → list_any (is_same i) (ids_of ks) ≡ is_some (find (λ k. same_id (served_by s) i k.id) ks) → (b || list_any (is_same i) (ids_of ks)) ≡ is_some (cond b (Some k) (find (λ k. same_id (served_by s) i k.id) ks))
      by true rest = refl
      by false rest = rest

-- ---- positions

module _ {A B : Type 0} (g : A → B) (p : B → Bool) where
  abbrev at : List A → ℕ
  at xs = position_or_len (λ x. p (g x)) xs

  put_at : (v : A) (xs : List A) → at_first p (λ b. g v) (map g xs) ≡ cond (nat_lt (at xs) (length xs)) (map g (slice_set xs (at xs) v)) (map g xs)
  put_at v [] = refl
  put_at v (x ∷ xs) =
      let n : ℕ = at xs in
      let one_more : 1 + n ≡ suc n = omega arith in
      let below : nat_lt (suc n) (suc (length xs)) ≡ nat_lt n (length xs) = grind (arith, nat_tests) in
      let some : nat_lt 0 (suc (length xs)) ≡ true = grind (arith, nat_tests) in
      elim (p (g x)) as (λ b. cond b (g v ∷ map g xs) (g x ∷ at_first p (λ b. g v) (map g xs)) ≡ cond (nat_lt (cond (not b) (1 + n) 0) (suc (length xs))) (map g (slice_set (x ∷ xs) (cond (not b) (1 + n) 0) v)) (g x ∷ map g xs)) [
        | true ↦ ap (λ b. cond b (g v ∷ map g xs) (g x ∷ map g xs)) (sym some)
        | false ↦
            ap (λ bs. g x ∷ bs) (put_at v xs) ∙ out (nat_lt n (length xs)) (g x) (map g (slice_set xs n v)) (map g xs)
            ∙ ap (λ b. cond b (g x ∷ map g (slice_set xs n v)) (g x ∷ map g xs)) (sym below)
            ∙ ap (λ m. cond (nat_lt m (suc (length xs))) (map g (slice_set (x ∷ xs) m v)) (g x ∷ map g xs)) (sym one_more)
      ]
    where
      out : (b : Bool) (y : B) (ys zs : List B) → (let l : List B = y ∷ cond b ys zs in l) ≡ cond b (y ∷ ys) (y ∷ zs)
      out true y ys zs = refl
      out false y ys zs = refl

  taken_at : (xs : List A) → drop_first p (map g xs) ≡ cond (nat_lt (at xs) (length xs)) (map g (remove xs (at xs))) (map g xs)
  taken_at [] = refl
  taken_at (x ∷ xs) =
      let n : ℕ = at xs in
      let one_more : 1 + n ≡ suc n = omega arith in
      let below : nat_lt (suc n) (suc (length xs)) ≡ nat_lt n (length xs) = grind (arith, nat_tests) in
      let some : nat_lt 0 (suc (length xs)) ≡ true = grind (arith, nat_tests) in
      elim (p (g x)) as (λ b. cond b (map g xs) (g x ∷ drop_first p (map g xs)) ≡ cond (nat_lt (cond (not b) (1 + n) 0) (suc (length xs))) (map g (remove (x ∷ xs) (cond (not b) (1 + n) 0))) (g x ∷ map g xs)) [
        | true ↦ ap (λ b. cond b (map g xs) (g x ∷ map g xs)) (sym some)
        | false ↦
            ap (λ bs. g x ∷ bs) (taken_at xs) ∙ out (nat_lt n (length xs)) (g x) (map g (remove xs n)) (map g xs)
            ∙ ap (λ b. cond b (g x ∷ map g (remove xs n)) (g x ∷ map g xs)) (sym below)
            ∙ ap (λ m. cond (nat_lt m (suc (length xs))) (map g (remove (x ∷ xs) m)) (g x ∷ map g xs)) (sym one_more)
      ]
    where
      out : (b : Bool) (y : B) (ys zs : List B) → (let l : List B = y ∷ cond b ys zs in l) ≡ cond b (y ∷ ys) (y ∷ zs)
      out true y ys zs = refl
      out false y ys zs = refl

  -- by the position that was found, or where there is none
  pub put_found : (v : A) (xs : List A) (k : ℕ) → position (λ x. p (g x)) xs ≡ Some k → at_first p (λ b. g v) (map g xs) ≡ map g (slice_set xs k v)
  put_found v xs k e = put_at v xs ∙ by (nat_lt (at xs) (length xs)) e
    where
      by : (b : Bool) → cond b (Some (at xs)) None ≡ Some k → cond b (map g (slice_set xs (at xs) v)) (map g xs) ≡ map g (slice_set xs k v)
      by true e = ap (λ n. map g (slice_set xs n v)) (same_Some (at xs) k e)
      by false e = absurd (none-some k e)

  pub put_nowhere : (v : A) (xs : List A) → position (λ x. p (g x)) xs ≡ None → at_first p (λ b. g v) (map g xs) ≡ map g xs
  put_nowhere v xs e = put_at v xs ∙ by (nat_lt (at xs) (length xs)) e
    where
      by : (b : Bool) → cond b (Some (at xs)) None ≡ None → cond b (map g (slice_set xs (at xs) v)) (map g xs) ≡ map g xs
      by true e = absurd (none-some (at xs) (sym e))
      by false e = refl

  pub taken_found : (xs : List A) (k : ℕ) → position (λ x. p (g x)) xs ≡ Some k → drop_first p (map g xs) ≡ map g (remove xs k)
  taken_found xs k e = taken_at xs ∙ by (nat_lt (at xs) (length xs)) e
    where
      by : (b : Bool) → cond b (Some (at xs)) None ≡ Some k → cond b (map g (remove xs (at xs))) (map g xs) ≡ map g (remove xs k)
      by true e = ap (λ n. map g (remove xs n)) (same_Some (at xs) k e)
      by false e = absurd (none-some k e)

  pub taken_nowhere : (xs : List A) → position (λ x. p (g x)) xs ≡ None → drop_first p (map g xs) ≡ map g xs
  taken_nowhere xs e = taken_at xs ∙ by (nat_lt (at xs) (length xs)) e
    where
      by : (b : Bool) → cond b (Some (at xs)) None ≡ None → cond b (map g (remove xs (at xs))) (map g xs) ≡ map g xs
      by true e = absurd (none-some (at xs) (sym e))
      by false e = refl

  pub any-mapped : (xs : List A) → list_any (λ x. p (g x)) xs ≡ list_any p (map g xs)
  any-mapped [] = refl
  any-mapped (x ∷ xs) = ap (λ b. p (g x) || b) (any-mapped xs)
