-- The monitors as asked, without their filters; and the first of a list that passes a test, by its position.
use Rattle.std.proofs.Common.{◌≡◌, ℕ, suc, ◌+◌, arith, Bool, true, false, cond, not, ◌||◌, bytes_eq, nat_lt, List, [], ◌∷◌, length, map, find, slice_set, slice_index_or, Some, None, option_map, refl, sym, ap, ◌∙◌}
use Rattle.std.proofs.lemmas.Bool.Decides.{nat_tests}
use Rattle.std.proofs.lemmas.List.{map-append, map-id}
use Rattle.std.proofs.lemmas.Option.{none-some, same_Some}
use Rattle.std.specs.List.{list_any, position, position_or_len, remove}
use Rattle.odb_cond.specs.Filter.{Filter}
use Rattle.odb_request.specs.Request.{Request, update}
use Rattle.odb_schema.specs.Json.{Data, null}
use Rattle.odb_schema.specs.Schema.{Schema}
use Rattle.odb_service.specs.Server.{served_by}
use Rattle.odb_service.specs.Session.{Item, Session, Watch, asked, asked_after, asks, at_first, changed, drop_first, refilter, renamed, same_id, say, shapes, shift, start, stopped, sync}
use Rattle.odb_service.specs.World.{watched}
use Rattle.odb_sessions.specs.Asked.{is_same}
use Rattle.odb_sessions.specs.Marked.{Watched}
use Rattle.odb_sessions.specs.Named.{Named, asks_named, named, named_after, named_asked, under_id}
use Rattle.odb_sessions.proofs.Replays.{map-map, taken_found, taken_nowhere}

refiltered : (fs : List (List ℕ × Filter)) (qs : List Request) → shapes (refilter fs qs) ≡ shapes qs
refiltered fs [] = refl
refiltered fs (q ∷ qs) = ap (λ ss. q.shape ∷ ss) (refiltered fs qs)

module _ (s : Schema) where
  renamed_named : (old new : Data) (fs : List (List ℕ × Filter)) (ks : List Watch) → map named (at_first (λ k. same_id (served_by s) old k.id) (changed (served_by s) new fs) ks) ≡ at_first (λ n. is_same old n.id) (under_id new) (map named ks)
  renamed_named old new fs [] = refl
  renamed_named old new fs (k ∷ ks) = by (is_same old k.id) (renamed_named old new fs ks)
    where
      by : (b : Bool) → map named (at_first (λ k. same_id (served_by s) old k.id) (changed (served_by s) new fs) ks) ≡ at_first (λ n. is_same old n.id) (under_id new) (map named ks)
          → map named (cond b (changed (served_by s) new fs k ∷ ks) (k ∷ at_first (λ k. same_id (served_by s) old k.id) (changed (served_by s) new fs) ks)) ≡ cond b (under_id new (named k) ∷ map named ks) (named k ∷ at_first (λ n. is_same old n.id) (under_id new) (map named ks))
      by true rest = λ i. let n : Named = record { id = new; notation = k.notation; shapes = refiltered fs k.requests i } in n ∷ map named ks
      by false rest = ap (λ ns. named k ∷ ns) rest

  stopped_named : (i : Data) (ks : List Watch) → map named (drop_first (λ k. same_id (served_by s) i k.id) ks) ≡ drop_first (λ n. is_same i n.id) (map named ks)
  stopped_named i [] = refl
  stopped_named i (k ∷ ks) = by (is_same i k.id) (stopped_named i ks)
    where
      by : (b : Bool) → map named (drop_first (λ k. same_id (served_by s) i k.id) ks) ≡ drop_first (λ n. is_same i n.id) (map named ks)
          → map named (cond b ks (k ∷ drop_first (λ k. same_id (served_by s) i k.id) ks)) ≡ cond b (map named ks) (named k ∷ drop_first (λ n. is_same i n.id) (map named ks))
      by true rest = refl
      by false rest = ap (λ ns. named k ∷ ns) rest

  asks_of : (i : Item) (ks : List Watch) → map named (asks (served_by s) i ks) ≡ asks_named i (map named ks)
  asks_of (say a d) ks = refl
  asks_of (start d k) ks = map-append named ks (k ∷ [])
  asks_of (sync i) ks = refl
  asks_of (shift i fs) ks = refl
  asks_of (renamed d old new fs) ks = renamed_named old new fs ks
  asks_of (stopped d i) ks = stopped_named i ks

  after_of : (is : List Item) (ks : List Watch) → map named (asked_after (served_by s) is ks) ≡ named_after is (map named ks)
  after_of [] ks = refl
  after_of (i ∷ is) ks = after_of is (asks (served_by s) i ks) ∙ ap (named_after is) (asks_of i ks)

  pub asked_named : (x : Session) → map named (asked (served_by s) x) ≡ named_asked x
  asked_named x = after_of x.queue (map (λ m. m.watch) x.monitors) ∙ ap (named_after x.queue) (map-map (λ m. m.watch) named x.monitors)

  pub found_named : (i : Data) (ks : List Watch) → find (λ n. is_same i n.id) (map named ks) ≡ option_map named (watched (served_by s) i ks)
  found_named i [] = refl
  found_named i (k ∷ ks) = by (is_same i k.id) (found_named i ks)
    where
      by : (b : Bool) → find (λ n. is_same i n.id) (map named ks) ≡ option_map named (find (λ k. same_id (served_by s) i k.id) ks) → cond b (Some (named k)) (find (λ n. is_same i n.id) (map named ks)) ≡ option_map named (cond b (Some k) (find (λ k. same_id (served_by s) i k.id) ks))
      by true rest = refl
      by false rest = rest

-- ---- positions

module _ {A : Type 0} (p : A → Bool) (f : A → A) (d : A) where
  abbrev at : List A → ℕ
  at xs = position_or_len p xs

  made_at : (xs : List A) → at_first p f xs ≡ cond (nat_lt (at xs) (length xs)) (slice_set xs (at xs) (f (slice_index_or xs (at xs) d))) xs
  made_at [] = refl
  made_at (x ∷ xs) =
      let n : ℕ = at xs in
      let one_more : 1 + n ≡ suc n = omega arith in
      let below : nat_lt (suc n) (suc (length xs)) ≡ nat_lt n (length xs) = grind (arith, nat_tests) in
      let some : nat_lt 0 (suc (length xs)) ≡ true = grind (arith, nat_tests) in
      elim (p x) as (λ b. cond b (f x ∷ xs) (x ∷ at_first p f xs) ≡ cond (nat_lt (cond (not b) (1 + n) 0) (suc (length xs))) (slice_set (x ∷ xs) (cond (not b) (1 + n) 0) (f (slice_index_or (x ∷ xs) (cond (not b) (1 + n) 0) d))) (x ∷ xs)) [
        | true ↦ ap (λ b. cond b (f x ∷ xs) (x ∷ xs)) (sym some)
        | false ↦
            ap (λ ys. x ∷ ys) (made_at xs) ∙ out (nat_lt n (length xs)) x (slice_set xs n (f (slice_index_or xs n d))) xs
            ∙ ap (λ b. cond b (x ∷ slice_set xs n (f (slice_index_or xs n d))) (x ∷ xs)) (sym below)
            ∙ ap (λ m. cond (nat_lt m (suc (length xs))) (slice_set (x ∷ xs) m (f (slice_index_or (x ∷ xs) m d))) (x ∷ xs)) (sym one_more)
      ]
    where
      out : (b : Bool) (y : A) (ys zs : List A) → (let l : List A = y ∷ cond b ys zs in l) ≡ cond b (y ∷ ys) (y ∷ zs)
      out true y ys zs = refl
      out false y ys zs = refl

  -- by the position that was found, or where there is none
  pub made_found : (xs : List A) (k : ℕ) → position p xs ≡ Some k → at_first p f xs ≡ slice_set xs k (f (slice_index_or xs k d))
  made_found xs k e = made_at xs ∙ by (nat_lt (at xs) (length xs)) e
    where
      by : (b : Bool) → cond b (Some (at xs)) None ≡ Some k → cond b (slice_set xs (at xs) (f (slice_index_or xs (at xs) d))) xs ≡ slice_set xs k (f (slice_index_or xs k d))
      by true e = ap (λ n. slice_set xs n (f (slice_index_or xs n d))) (same_Some (at xs) k e)
      by false e = absurd (none-some k e)

  pub made_nowhere : (xs : List A) → position p xs ≡ None → at_first p f xs ≡ xs
  made_nowhere xs e = made_at xs ∙ by (nat_lt (at xs) (length xs)) e
    where
      by : (b : Bool) → cond b (Some (at xs)) None ≡ None → cond b (slice_set xs (at xs) (f (slice_index_or xs (at xs) d))) xs ≡ xs
      by true e = absurd (none-some (at xs) (sym e))
      by false e = refl

pub gone_found : {A : Type 0} (p : A → Bool) (xs : List A) (k : ℕ) → position p xs ≡ Some k → drop_first p xs ≡ remove xs k
gone_found {A} p xs k e = ap (drop_first p) (sym (map-id xs)) ∙ taken_found (λ (x : A). x) p xs k e ∙ map-id (remove xs k)

pub gone_nowhere : {A : Type 0} (p : A → Bool) (xs : List A) → position p xs ≡ None → drop_first p xs ≡ xs
gone_nowhere {A} p xs e = ap (drop_first p) (sym (map-id xs)) ∙ taken_nowhere (λ (x : A). x) p xs e ∙ map-id xs

abbrev pub nameless : Named
nameless = record { id = null; notation = update; shapes = [] }

-- a test of the tables' names, on what is held and on what is named
pub any_shape : (name : List ℕ) (ws : List Watched) → list_any (λ (w : Watched). bytes_eq name w.request.shape.name) ws ≡ list_any (λ s. bytes_eq name s.name) (shapes (map (λ w. w.request) ws))
any_shape name [] = refl
any_shape name (w ∷ ws) = ap (λ b. bytes_eq name w.request.shape.name || b) (any_shape name ws)
