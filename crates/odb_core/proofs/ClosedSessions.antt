-- What becomes of transactions that wait: at a cancel, at a moment, and when their session closes.
use Rattle.std.proofs.Common.{◌≡◌, ℕ, zero, suc, Bool, true, false, cond, not, ◌==◌, ◌||◌, List, [], ◌∷◌, ◌++◌, map, take, drop, Some, None, refl, sym, ◌∙◌, ap, append_assoc, true≢false}
use Rattle.std.specs.Prelude.{filter, option_and_then, option_map, option_to_list, slice_get}
use Rattle.std.specs.List.{list_any, position, remove}
use Rattle.std.proofs.lemmas.List.{append-nil}
use Rattle.odb_atoms.specs.FinMap as finite
use Rattle.odb_locks.specs.Locks.{drop_session}
use Rattle.odb_rpc.specs.Message.{canceled, failure}
use Rattle.odb_schema.specs.Json.{Data}
use Rattle.odb_wire.specs.Message.{id_of}
use Rattle.odb_service.specs.Service.{Service}
use Rattle.odb_service.specs.Session.{Item, say, to}
use Rattle.odb_service.specs.World.{Waiting, World, at_moment, cancel, cancel_one, close, is_due, is_of, post, retry_all, split_first, tick, try_due, untried, with_waiting, attempt}
use Rattle.odb_core.specs.Represented.Places.{split_at}
use Rattle.odb_queue.specs.Represented.Post.{told_of}
use Rattle.odb_sessions.specs.Posts.{all_posted}
use Rattle.odb_core.proofs.Attempts.{post_as}
use Rattle.odb_core.proofs.ListPlaces.{first_at}
use Rattle.odb_core.proofs.WorldPosts.{notices_as, removed_all}
use Rattle.odb_service.proofs.Retried.{retried_none}
use Rattle.odb_service.proofs.Each.{Each, each_append, each_filter, no_split, none_passes}

-- ---- none of a list is left to be tried

module _ {A : Type 0} (p : A → Bool) where
  pub none_filtered : (q : A → Bool) (xs : List A) → split_first p xs ≡ None → split_first p (filter q xs) ≡ None
  none_filtered q xs e = no_split p (filter q xs) (each_filter (λ x. p x ≡ false) q xs (none_passes p xs e))

  pub none_pushed : (xs : List A) (y : A) → split_first p xs ≡ None → p y ≡ false → split_first p (xs ++ y ∷ []) ≡ None
  none_pushed xs y e isnt = no_split p (xs ++ y ∷ []) (each_append (λ x. p x ≡ false) xs (y ∷ []) (none_passes p xs e) (isnt, tt))

  each_removed : (xs : List A) (k : ℕ) → Each (λ x. p x ≡ false) xs → Each (λ x. p x ≡ false) (remove xs k)
  each_removed [] zero h = tt
  each_removed [] (suc k) h = tt
  each_removed (x ∷ xs) zero h = h.1
  each_removed (x ∷ xs) (suc k) h = (h.0, each_removed xs k h.1)

  pub none_removed : (xs : List A) (k : ℕ) → split_first p xs ≡ None → split_first p (remove xs k) ≡ None
  none_removed xs k e = no_split p (remove xs k) (each_removed xs k (none_passes p xs e))

module _ (h : Service) where
  -- ---- cancel

  abbrev Split : Type 0
  Split = List Waiting × Waiting × List Waiting

  pub cancels_at : (n : ℕ) (id : Data) (w : World) (k : ℕ) (x : Waiting) → position (is_of h n id) w.waiting ≡ Some k → slice_get w.waiting k ≡ Some x
      → cancel h n id w ≡ record (post n (say (to x.request) (failure (id_of x.request) canceled) ∷ []) w) { waiting = remove w.waiting k }
  cancels_at n id w k x there at =
      let is : List Item = say (to x.request) (failure (id_of x.request) canceled) ∷ [] in
      let without : World → World = λ u. record u { waiting = remove w.waiting k } in
      ap (λ o. cancel_one h n o w) (first_at (is_of h n id) w.waiting ∙ ap (option_and_then (split_at w.waiting)) there ∙ ap (option_map (λ y. let t : Split = (take k w.waiting, y, drop (suc k) w.waiting) in t)) at)
      ∙ post_as n is (without w) ∙ sym (ap without (post_as n is w))

  pub cancels_none : (n : ℕ) (id : Data) (w : World) → position (is_of h n id) w.waiting ≡ None → cancel h n id w ≡ w
  cancels_none n id w none = ap (λ o. cancel_one h n o w) (first_at (is_of h n id) w.waiting ∙ ap (option_and_then (split_at w.waiting)) none)

  -- ---- a moment

  either_false : (a b : Bool) → (a || b) ≡ false → (a ≡ false) × (b ≡ false)
  either_false true b e = absurd (true≢false e)
  either_false false b e = (refl, e)

  nothing_due : (ps : List Waiting) (w : World) → list_any (λ p. is_due w.now p.deadline) ps ≡ false → try_due h ps w ≡ record w { waiting = w.waiting ++ ps }
  nothing_due [] w none = ap (λ qs. record w { waiting = qs }) (sym (append-nil w.waiting))
  nothing_due (p ∷ ps) w none =
      let e : (is_due w.now p.deadline ≡ false) × (list_any (λ p. is_due w.now p.deadline) ps ≡ false) = either_false _ _ none in
      let v : World = record w { waiting = w.waiting ++ p ∷ [] } in
      ap (λ b. try_due h ps (cond b (with_waiting h (λ ps o. ps ++ option_to_list o) w.waiting (attempt h p w)) v)) e.0
      ∙ nothing_due ps v e.1 ∙ ap (λ qs. record w { waiting = qs }) (append_assoc w.waiting (p ∷ []) ps)

  -- where no deadline has come and each was tried, the moment alone changes
  pub ticks_idly : (now : ℕ) (w : World) → list_any (λ p. is_due (at_moment h now w).now p.deadline) w.waiting ≡ false → untried h w ≡ None → tick h now w ≡ at_moment h now w
  ticks_idly now w none tried =
      ap (retry_all h) (nothing_due w.waiting (record (at_moment h now w) { waiting = [] }) none) ∙ retried_none h (at_moment h now w) tried

  -- ---- a session that closes

  pub closes_as : (n : ℕ) (w : World) → close h n w ≡ record w {
    locks = (drop_session w.locks n).0;
    sessions = finite.remove (all_posted w.sessions (map told_of (drop_session w.locks n).1)) n;
    waiting = filter (λ p. not (p.session == n)) w.waiting;
  }
  closes_as n w =
      let v : World = record w { locks = (drop_session w.locks n).0; sessions = finite.remove w.sessions n; waiting = filter (λ p. not (p.session == n)) w.waiting } in
      notices_as (drop_session w.locks n).1 v
      ∙ ap (λ m. record v { sessions = m }) (sym (removed_all w.sessions (map told_of (drop_session w.locks n).1) n))
