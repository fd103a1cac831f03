-- Monitors that are foreseen: their marks, the first that has an id, and what becomes of it.
use Rattle.std.proofs.Common.{◌≡◌, ℕ, zero, suc, ◌+◌, ◌<◌, arith, Bool, true, false, cond, not, nat_lt, List, [], ◌∷◌, ◌++◌, find, get_or, length, map, position, slice_index_or, slice_set, Option, Some, None, option_map, refl, sym, ap, subst, ◌∙◌}
use Rattle.std.specs.Prelude.{flat_map, option_and_then}
use Rattle.std.specs.List.{position_or_len}
use Rattle.std.proofs.lemmas.Bool.Decides.{nat_tests}
use Rattle.std.proofs.lemmas.List.{length-map}
use Rattle.std.proofs.lemmas.Option.{none-some, same_Some}
use Rattle.odb_chain.specs.Chains.{Chains}
use Rattle.odb_monitor.specs.View.{query}
use Rattle.odb_request.specs.Request.{update}
use Rattle.odb_schema.specs.Json.{Data, null}
use Rattle.odb_schema.specs.Schema.{Schema}
use Rattle.odb_service.specs.Server.{served_by}
use Rattle.odb_service.specs.Session.{Monitor, at_first, leaves, refilter}
use Rattle.odb_sessions.specs.Asked.{is_same}
use Rattle.odb_round.specs.Foreseen.{Ahead, as_told, marked_ahead, marks_ahead, seen_ahead}
use Rattle.odb_sessions.specs.Filtered.{Filters}
use Rattle.odb_sessions.specs.Marked.{MarkedMonitor, Sessions, marks_in, monitor_of}
use Rattle.odb_round.specs.Planned.{Due, due, update_of}
use Rattle.odb_sessions.specs.Represented.Under.{filters_in, item_in}
use Rattle.odb_sessions.specs.Tied.{AreLive}
use Rattle.odb_round.specs.Known.{AreKnownAs, IsKnownAs}
use Rattle.odb_sessions.specs.declared.under.Under.{Under}
use Rattle.odb_sessions.specs.declared.under.Under.TheVariants.{Asked, Changed}
use Rattle.odb_sessions.proofs.NamedReplays.{made_found, made_nowhere}
use Rattle.odb_sessions.proofs.Releases.{live-left, live-right}
use Rattle.odb_round.proofs.Updates.{refilter_none, told_as}
use Rattle.odb_round.proofs.Known.{known_at}
use Rattle.odb_tables.specs.Database.{Db}

-- ---- marks

pub marks_told : (xs : List MarkedMonitor) → marks_ahead (map as_told xs) ≡ flat_map marks_in xs
marks_told [] = refl
marks_told (x ∷ xs) = ap (λ ms. marks_in x ++ ms) (marks_told xs)

pub seen_told : (db : Db) (xs : List MarkedMonitor) → map (seen_ahead db) (map as_told xs) ≡ map monitor_of xs
seen_told db [] = refl
seen_told db (x ∷ xs) = ap (λ ms. monitor_of x ∷ ms) (seen_told db xs)

pub held_told : (xs : List MarkedMonitor) → marked_ahead (map as_told xs) ≡ xs
held_told [] = refl
held_told (x ∷ xs) = ap (λ hs. x ∷ hs) (held_told xs)

-- where the monitor at a place is foreseen otherwise
pub still_held : (xs : List Ahead) (i : ℕ) (d y : Ahead) → i < length xs → y.marked ≡ (get_or xs i d).marked → marked_ahead (slice_set xs i y) ≡ marked_ahead xs
still_held [] i d y low is = absurd (omega (arith, low))
still_held (x ∷ xs) zero d y low is = ap (λ h. h ∷ marked_ahead xs) is
still_held (x ∷ xs) (suc i) d y low is = ap (λ hs. x.marked ∷ hs) (still_held xs i d y (omega (arith, low)) is)

held_at : (xs : List Ahead) (i : ℕ) (d : Ahead) → get_or (marked_ahead xs) i d.marked ≡ (get_or xs i d).marked
held_at [] i d = refl
held_at (x ∷ xs) zero d = refl
held_at (x ∷ xs) (suc i) d = held_at xs i d

-- the monitor at a place of a session that has a number is known by both
pub known_ahead : (m : Sessions) (w : Option ℕ) (v : Option (ℕ × ℕ)) (xs : List Ahead) (i : ℕ) (x : Ahead) → i < length xs → x ≡ get_or xs i x → v ≡ option_map (λ n. (n, i)) w → AreKnownAs m w (marked_ahead xs) → IsKnownAs m v x.marked
known_ahead m None v xs i x low at is h = subst (λ (o : Option (ℕ × ℕ)). IsKnownAs m o x.marked) (sym is) tt
known_ahead m (Some n) v xs i x low at is h =
    let long : length (marked_ahead xs) ≡ length xs = length-map xs (λ (a : Ahead). a.marked) in
    let known : IsKnownAs m (Some (n, i)) (get_or (marked_ahead xs) i x.marked) = known_at m n i (marked_ahead xs) x.marked (omega (arith, low, long)) h in
    subst (λ (o : Option (ℕ × ℕ)). IsKnownAs m o x.marked) (sym is) (subst (IsKnownAs m (Some (n, i))) (held_at xs i x ∙ ap (λ (a : Ahead). a.marked) (sym at)) known)

pub live_ahead : (k : Chains) (xs : List Ahead) (i : ℕ) (d : Ahead) → i < length xs → AreLive k (marks_ahead xs) → AreLive k (marks_in (get_or xs i d).marked)
live_ahead k [] i d low live = absurd (omega (arith, low))
live_ahead k (x ∷ xs) zero d low live = live-left k (marks_in x.marked) (marks_ahead xs) live
live_ahead k (x ∷ xs) (suc i) d low live = live_ahead k xs i d (omega (arith, low)) (live-right k (marks_in x.marked) (marks_ahead xs) live)

pub same_marks : (xs : List Ahead) (i : ℕ) (d y : Ahead) → i < length xs → y.marked ≡ (get_or xs i d).marked → marks_ahead (slice_set xs i y) ≡ marks_ahead xs
same_marks [] i d y low is = absurd (omega (arith, low))
same_marks (x ∷ xs) zero d y low is = ap (λ z. marks_in z ++ marks_ahead xs) is
same_marks (x ∷ xs) (suc i) d y low is = ap (λ ms. marks_in x.marked ++ ms) (same_marks xs i d y (omega (arith, low)) is)

abbrev nobody : Ahead
nobody = as_told (record { id = null; notation = update; tables = []; since = None })

-- ---- positions

module _ {A B : Type 0} (g : A → B) (p : B → Bool) where
  abbrev at : List A → ℕ
  at xs = position_or_len (λ x. p (g x)) xs

  found_at : (d : A) (xs : List A) → find p (map g xs) ≡ cond (nat_lt (at xs) (length xs)) (Some (g (slice_index_or xs (at xs) d))) None
  found_at d [] = refl
  found_at d (x ∷ xs) =
      let n : ℕ = at xs in
      let one_more : 1 + n ≡ suc n = omega arith in
      let below : nat_lt (suc n) (suc (length xs)) ≡ nat_lt n (length xs) = grind (arith, nat_tests) in
      let some : nat_lt 0 (suc (length xs)) ≡ true = grind (arith, nat_tests) in
      elim (p (g x)) as (λ b. cond b (Some (g x)) (find p (map g xs)) ≡ cond (nat_lt (cond (not b) (1 + n) 0) (suc (length xs))) (Some (g (slice_index_or (x ∷ xs) (cond (not b) (1 + n) 0) d))) None) [
        | true ↦ ap (λ b. cond b (Some (g x)) None) (sym some)
        | false ↦
            found_at d xs ∙ ap (λ b. cond b (Some (g (slice_index_or xs n d))) None) (sym below)
            ∙ ap (λ m. cond (nat_lt m (suc (length xs))) (Some (g (slice_index_or (x ∷ xs) m d))) None) (sym one_more)
      ]

  found_place : (d : A) (xs : List A) (k : ℕ) → position (λ x. p (g x)) xs ≡ Some k → find p (map g xs) ≡ Some (g (slice_index_or xs k d))
  found_place d xs k e = found_at d xs ∙ by (nat_lt (at xs) (length xs)) e
    where
      by : (b : Bool) → cond b (Some (at xs)) None ≡ Some k → cond b (Some (g (slice_index_or xs (at xs) d))) None ≡ Some (g (slice_index_or xs k d))
      by true e = ap (λ n. Some (g (slice_index_or xs n d))) (same_Some (at xs) k e)
      by false e = absurd (none-some k e)

  found_nowhere : (d : A) (xs : List A) → position (λ x. p (g x)) xs ≡ None → find p (map g xs) ≡ None
  found_nowhere d xs e = found_at d xs ∙ by (nat_lt (at xs) (length xs)) e
    where
      by : (b : Bool) → cond b (Some (at xs)) None ≡ None → cond b (Some (g (slice_index_or xs (at xs) d))) None ≡ None
      by true e = absurd (none-some (at xs) (sym e))
      by false e = refl

  module _ (f : B → B) (F : A → A) (same : (x : A) → g (F x) ≡ f (g x)) where
    mapped_first : (xs : List A) → at_first p f (map g xs) ≡ map g (at_first (λ x. p (g x)) F xs)
    mapped_first [] = refl
    mapped_first (x ∷ xs) = by (p (g x)) (mapped_first xs)
      where
        by : (b : Bool) → at_first p f (map g xs) ≡ map g (at_first (λ x. p (g x)) F xs)
            → cond b (f (g x) ∷ map g xs) (g x ∷ at_first p f (map g xs)) ≡ map g (cond b (F x ∷ xs) (x ∷ at_first (λ x. p (g x)) F xs))
        by true rest = ap (λ b. b ∷ map g xs) (sym (same x))
        by false rest = ap (λ bs. g x ∷ bs) rest

-- ---- the first monitor that has an id

abbrev has : Data → Monitor → Bool
has i m = is_same i m.watch.id

abbrev brought_under : Db → Filters → Monitor → Monitor
brought_under db fs m = record m { view = query db (refilter fs m.watch.requests) }

abbrev due_under : Schema → Db → Filters → Monitor → Option Due
due_under s db fs m = update_of (served_by s) db (refilter fs m.watch.requests) m

due_is : (s : Schema) (db : Db) (i : Data) (u : Under) (ms : List Monitor) → option_and_then (due_under s db (filters_in u)) (find (has i) ms) ≡ due (served_by s) db (item_in i u) ms
due_is s db i Asked ms = λ j. option_and_then (λ (m : Monitor). update_of (served_by s) db (refilter_none m.watch.requests j) m) (find (has i) ms)
due_is s db i (Changed c) ms = refl

leaves_is : (s : Schema) (db : Db) (i : Data) (u : Under) (ms : List Monitor) → at_first (has i) (brought_under db (filters_in u)) ms ≡ leaves (served_by s) db (item_in i u) ms
leaves_is s db i Asked ms = λ j. at_first (has i) (λ (m : Monitor). record m { view = query db (refilter_none m.watch.requests j) }) ms
leaves_is s db i (Changed c) ms = refl

module _ (s : Schema) (db : Db) (i : Data) (u : Under) (xs : List Ahead) where
  abbrev ms : List Monitor
  ms = map (seen_ahead db) xs

  abbrev is_it : Ahead → Bool
  is_it x = is_same i x.marked.id

  abbrev bring : Ahead → Ahead
  bring x = told_as x.marked (filters_in u)

  -- there is none
  pub due_nowhere : position is_it xs ≡ None → due (served_by s) db (item_in i u) ms ≡ None
  due_nowhere none = sym (due_is s db i u ms) ∙ ap (option_and_then (due_under s db (filters_in u))) (found_nowhere (seen_ahead db) (has i) nobody xs none)

  pub leaves_nowhere : position is_it xs ≡ None → leaves (served_by s) db (item_in i u) ms ≡ ms
  leaves_nowhere none =
      sym (leaves_is s db i u ms)
      ∙ mapped_first (seen_ahead db) (has i) (brought_under db (filters_in u)) bring (λ x. refl) xs
      ∙ ap (map (seen_ahead db)) (made_nowhere is_it bring nobody xs none)

  -- it stands at this place
  pub due_found : (x : Ahead) (k : ℕ) → position is_it xs ≡ Some k → x ≡ slice_index_or xs k x → due (served_by s) db (item_in i u) ms ≡ due_under s db (filters_in u) (seen_ahead db x)
  due_found x k some at =
      sym (due_is s db i u ms)
      ∙ ap (option_and_then (due_under s db (filters_in u))) (found_place (seen_ahead db) (has i) x xs k some)
      ∙ ap (λ y. due_under s db (filters_in u) (seen_ahead db y)) (sym at)

  pub leaves_found : (x y : Ahead) (k : ℕ) → position is_it xs ≡ Some k → x ≡ slice_index_or xs k x → y ≡ bring x → leaves (served_by s) db (item_in i u) ms ≡ map (seen_ahead db) (slice_set xs k y)
  leaves_found x y k some at is =
      sym (leaves_is s db i u ms)
      ∙ mapped_first (seen_ahead db) (has i) (brought_under db (filters_in u)) bring (λ x. refl) xs
      ∙ ap (map (seen_ahead db)) (made_found is_it bring x xs k some)
      ∙ ap (λ z. map (seen_ahead db) (slice_set xs k z)) (ap bring (sym at) ∙ sym is)
