-- The first monitor with an id, as the machine sees it: one that is changed, one that goes, and none. And monitors that are brought to now from the front on.
use Rattle.std.proofs.Common.{◌≡◌, ℕ, zero, suc, ◌+◌, ◌<◌, ◌≤◌, arith, Bool, true, false, cond, not, nat_lt, List, [], ◌∷◌, length, map, min, slice_index_or, slice_set, Option, Some, None, refl, sym, ap, ◌∙◌}
use Rattle.std.proofs.lemmas.Bool.Decides.{nat_tests}
use Rattle.std.proofs.lemmas.List.Quantifiers.{position-Some}
use Rattle.std.proofs.lemmas.Option.{none-some}
use Rattle.std.specs.List.{position, position_or_len, remove}
use Rattle.odb_schema.specs.Json.{Data}
use Rattle.odb_schema.specs.Schema.{Schema}
use Rattle.odb_service.specs.Server.{served_by}
use Rattle.odb_service.specs.Service.{Service}
use Rattle.odb_service.specs.Session.{Monitor, at_first, brought, drop_first, has_id}
use Rattle.odb_sessions.specs.Asked.{is_same}
use Rattle.odb_sessions.specs.Marked.{MarkedMonitor, monitor_of}
use Rattle.odb_sessions.specs.Carried.{first_brought}
use Rattle.odb_sessions.proofs.Replays.{taken_found, taken_nowhere}
use Rattle.odb_tables.specs.Database.{Db}

module _ {A B : Type 0} (g : A → B) (p : B → Bool) (f : B → B) where
  changed_at : (v d : A) (xs : List A) (k : ℕ) → k < length xs → p (g (slice_index_or xs k d)) ≡ true → ((j : ℕ) → j < k → p (g (slice_index_or xs j d)) ≡ false) → g v ≡ f (g (slice_index_or xs k d))
      → map g (slice_set xs k v) ≡ at_first p f (map g xs)
  changed_at v d [] k low here before own = absurd (omega (arith, low))
  changed_at v d (x ∷ xs) zero low here before own = ap (λ b. let l : List B = b ∷ map g xs in l) own ∙ ap (λ b. cond b (f (g x) ∷ map g xs) (g x ∷ at_first p f (map g xs))) (sym here)
  changed_at v d (x ∷ xs) (suc k) low here before own =
      ap (λ bs. g x ∷ bs) (changed_at v d xs k (omega (arith, low)) here (λ j early. before (suc j) (omega (arith, early))) own)
      ∙ ap (λ b. cond b (f (g x) ∷ map g xs) (g x ∷ at_first p f (map g xs))) (sym (before 0 (omega arith)))

  nowhere_at : (xs : List A) → length xs ≤ position_or_len (λ x. p (g x)) xs → map g xs ≡ at_first p f (map g xs)
  nowhere_at [] past = refl
  nowhere_at (x ∷ xs) past = by (p (g x)) past (nowhere_at xs)
    where
      n : ℕ
      n = position_or_len (λ x. p (g x)) xs

      by : (b : Bool) → suc (length xs) ≤ cond (not b) (1 + n) 0 → (length xs ≤ n → map g xs ≡ at_first p f (map g xs)) → (let l : List B = g x ∷ map g xs in l) ≡ cond b (f (g x) ∷ map g xs) (g x ∷ at_first p f (map g xs))
      by true past rest = absurd (omega (arith, past))
      by false past rest = ap (λ bs. g x ∷ bs) (rest (omega (arith, past)))

  pub changed_found : (v d : A) (xs : List A) (k : ℕ) → position (λ x. p (g x)) xs ≡ Some k → g v ≡ f (g (slice_index_or xs k d)) → map g (slice_set xs k v) ≡ at_first p f (map g xs)
  changed_found v d xs k e own =
      let at : (k < length xs) × (p (g (slice_index_or xs k d)) ≡ true) × ((j : ℕ) → j < k → p (g (slice_index_or xs j d)) ≡ false) = position-Some (λ x. p (g x)) xs k d e in
      changed_at v d xs k at.0 at.1 at.2 own

  pub changed_nowhere : (xs : List A) → position (λ x. p (g x)) xs ≡ None → map g xs ≡ at_first p f (map g xs)
  changed_nowhere xs e = by (nat_lt (position_or_len (λ x. p (g x)) xs) (length xs)) refl e
    where
      by : (b : Bool) → nat_lt (position_or_len (λ x. p (g x)) xs) (length xs) ≡ b → (let o : Option ℕ = cond b (Some (position_or_len (λ x. p (g x)) xs)) None in o) ≡ None → map g xs ≡ at_first p f (map g xs)
      by true is e = absurd (none-some (position_or_len (λ x. p (g x)) xs) (sym e))
      by false is e = nowhere_at xs (grind (arith, nat_tests))

module _ (s : Schema) (i : Data) (xs : List MarkedMonitor) where
  abbrev pub IsFirst : ℕ → Type 0
  IsFirst k = position (λ (z : MarkedMonitor). is_same i z.id) xs ≡ Some k

  abbrev pub IsNowhere : Type 0
  IsNowhere = position (λ (z : MarkedMonitor). is_same i z.id) xs ≡ None

  pub seen_found : (f : Monitor → Monitor) (k : ℕ) (x y : MarkedMonitor) → IsFirst k → x ≡ slice_index_or xs k x → monitor_of y ≡ f (monitor_of x) → map monitor_of (slice_set xs k y) ≡ at_first (has_id (served_by s) i) f (map monitor_of xs)
  seen_found f k x y found at own = changed_found monitor_of (has_id (served_by s) i) f y x xs k found (own ∙ ap (λ (z : MarkedMonitor). f (monitor_of z)) at)

  pub seen_nowhere : (f : Monitor → Monitor) → IsNowhere → map monitor_of xs ≡ at_first (has_id (served_by s) i) f (map monitor_of xs)
  seen_nowhere f none = changed_nowhere monitor_of (has_id (served_by s) i) f xs none

  pub seen_gone : (k : ℕ) → IsFirst k → map monitor_of (remove xs k) ≡ drop_first (has_id (served_by s) i) (map monitor_of xs)
  seen_gone k found = sym (taken_found monitor_of (has_id (served_by s) i) xs k found)

  pub seen_none_gone : IsNowhere → map monitor_of xs ≡ drop_first (has_id (served_by s) i) (map monitor_of xs)
  seen_none_gone none = sym (taken_nowhere monitor_of (has_id (served_by s) i) xs none)

-- ---- from the front on

module _ (h : Service) (db : Db) where
  abbrev now_in : Monitor → Monitor
  now_in m = brought h db m.watch.requests m

  -- a monitor that wasn't reached is as before
  pub one_more_brought : (ms zs : List Monitor) (n : ℕ) (d v : Monitor) → zs ≡ first_brought h db n ms → n < length zs → v ≡ now_in (slice_index_or zs n d) → slice_set zs n v ≡ first_brought h db (n + 1) ms
  one_more_brought ms zs n d v is low own =
      let next : suc n ≡ n + 1 = omega arith in
      by ms zs n is low own ∙ ap (λ k. first_brought h db k ms) next
    where
      inside : (ms : List Monitor) (n : ℕ) → length (first_brought h db n ms) ≡ length ms
      inside ms zero = refl
      inside [] (suc n) = refl
      inside (m ∷ ms) (suc n) = ap suc (inside ms n)

      step : (ms : List Monitor) (n : ℕ) → n < length ms → v ≡ now_in (slice_index_or (first_brought h db n ms) n d) → slice_set (first_brought h db n ms) n v ≡ first_brought h db (suc n) ms
      step [] n low own = absurd (omega (arith, low))
      step (m ∷ ms) zero low own = ap (λ x. let l : List Monitor = x ∷ ms in l) own
      step (m ∷ ms) (suc n) low own = ap (λ xs. now_in m ∷ xs) (step ms n (omega (arith, low)) own)

      by : (ms zs : List Monitor) (n : ℕ) → zs ≡ first_brought h db n ms → n < length zs → v ≡ now_in (slice_index_or zs n d) → slice_set zs n v ≡ first_brought h db (suc n) ms
      by ms zs n is low own =
          let long : length zs ≡ length ms = ap length is ∙ inside ms n in
          ap (λ xs. slice_set xs n v) is ∙ step ms n (omega (arith, low, long)) (own ∙ ap (λ xs. now_in (slice_index_or xs n d)) is)

  pub no_more_brought : (ms : List Monitor) (n k : ℕ) → length ms ≤ n → n ≤ k → first_brought h db n ms ≡ first_brought h db k ms
  no_more_brought [] zero zero past within = refl
  no_more_brought [] zero (suc k) past within = refl
  no_more_brought [] (suc n) zero past within = refl
  no_more_brought [] (suc n) (suc k) past within = refl
  no_more_brought (m ∷ ms) zero k past within = absurd (omega (arith, past))
  no_more_brought (m ∷ ms) (suc n) zero past within = absurd (omega (arith, within))
  no_more_brought (m ∷ ms) (suc n) (suc k) past within = ap (λ xs. now_in m ∷ xs) (no_more_brought ms n k (omega (arith, past)) (omega (arith, within)))

  -- as many as there are, or as many as are wanted
  pub brought_all : (ms : List Monitor) (i n k : ℕ) → length ms ≡ k → i ≡ min n k → first_brought h db i ms ≡ first_brought h db n ms
  brought_all ms i n k long is = by (nat_lt k n) refl
    where
      by : (b : Bool) → nat_lt k n ≡ b → first_brought h db i ms ≡ first_brought h db n ms
      by true less = let few : k < n = grind (arith, nat_tests) in no_more_brought ms i n (omega (arith, is, few, long)) (omega (arith, is, few))
      by false less = let few : n ≤ k = grind (arith, nat_tests) in ap (λ m. first_brought h db m ms) (let same : i ≡ n = omega (arith, is, few) in same)

pub set_seen : (xs : List MarkedMonitor) (n : ℕ) (y : MarkedMonitor) → map monitor_of (slice_set xs n y) ≡ slice_set (map monitor_of xs) n (monitor_of y)
set_seen [] n y = refl
set_seen (x ∷ xs) zero y = refl
set_seen (x ∷ xs) (suc n) y = ap (λ ms. monitor_of x ∷ ms) (set_seen xs n y)

pub at_seen : (xs : List MarkedMonitor) (n : ℕ) (x : MarkedMonitor) → x ≡ slice_index_or xs n x → monitor_of x ≡ slice_index_or (map monitor_of xs) n (monitor_of x)
at_seen xs n x at = ap monitor_of at ∙ by xs n
  where
    by : (xs : List MarkedMonitor) (n : ℕ) → monitor_of (slice_index_or xs n x) ≡ slice_index_or (map monitor_of xs) n (monitor_of x)
    by [] n = refl
    by (y ∷ xs) zero = refl
    by (y ∷ xs) (suc n) = by xs n
