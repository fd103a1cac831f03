-- A transaction that waits and is canceled, and a session that closes: what the code's steps come to.
use Rattle.std.proofs.Common.{◌≡◌, ℕ, zero, suc, ◌<◌, Bool, true, false, cond, not, ◌==◌, nat_lt, List, [], ◌∷◌, map, length, Some, None, refl, sym, ◌∙◌, ap, arith}
use Rattle.std.specs.Prelude.{filter, slice_get, slice_index_or}
use Rattle.std.specs.List.{position, position_or_len, remove}
use Rattle.std.proofs.lemmas.Bool.Decides.{nat_tests}
use Rattle.std.proofs.lemmas.Option.{none-some, same_Some}
use Rattle.odb_atoms.specs.FinMap as finite
use Rattle.odb_locks.specs.Locks.{Locks, drop_session}
use Rattle.odb_rpc.specs.Message.{canceled, failure}
use Rattle.odb_schema.specs.Json.{Data}
use Rattle.odb_wire.specs.Message.{id_of}
use Rattle.odb_service.specs.Service.{Service}
use Rattle.odb_service.specs.Session.{Item, say, to}
use Rattle.odb_service.specs.World.{Waiting, World, cancel, close, is_of, is_untried, post, split_first, untried}
use Rattle.odb_queue.specs.Represented.Post.{told_of}
use Rattle.odb_sessions.specs.Book.{Sessions}
use Rattle.odb_sessions.specs.Posts.{all_posted}
use Rattle.odb_core.proofs.Attempts.{post_as}
use Rattle.odb_core.proofs.ClosedSessions.{cancels_at, closes_as, none_filtered, none_removed}

pub below : {A : Type 0} (p : A → Bool) (xs : List A) (k : ℕ) → position p xs ≡ Some k → k < length xs
below p xs k e = by (nat_lt (position_or_len p xs) (length xs)) refl e
  where
    by : (b : Bool) → nat_lt (position_or_len p xs) (length xs) ≡ b → cond b (Some (position_or_len p xs)) None ≡ Some k → k < length xs
    by true is e =
        let same : position_or_len p xs ≡ k = same_Some _ _ e in
        let within : position_or_len p xs < length xs = grind (arith, nat_tests) in
        omega (arith, same, within)
    by false is e = absurd (none-some k e)

pub stands_at : {A : Type 0} (xs : List A) (k : ℕ) (x : A) → k < length xs → x ≡ slice_index_or xs k x → slice_get xs k ≡ Some x
stands_at [] k x h e = absurd (omega arith)
stands_at (y ∷ ys) zero x h e = ap (λ z. Some z) (sym e)
stands_at (y ∷ ys) (suc k) x h e = stands_at ys k x (omega (arith, h)) e

module _ (h : Service) (n : ℕ) (w v : World) (k : ℕ) (i : Item) (ps : List Waiting) where
  pub cancels_as : (id : Data) (x : Waiting) → position (is_of h n id) w.waiting ≡ Some k → slice_get w.waiting k ≡ Some x
      → i ≡ say (to x.request) (failure (id_of x.request) canceled) → post n (i ∷ []) w ≡ v → ps ≡ remove v.waiting k → cancel h n id w ≡ record v { waiting = ps }
  cancels_as id x there at is posts left =
      let without : World → World = λ u. record u { waiting = remove w.waiting k } in
      let with_ones : List Waiting → World = λ qs. record v { waiting = qs } in
      let same : w.waiting ≡ v.waiting = sym (ap (λ (u : World). u.waiting) (post_as n (i ∷ []) w)) ∙ ap (λ (u : World). u.waiting) posts in
      cancels_at h n id w k x there at
      ∙ ap without (ap (λ j. post n (j ∷ []) w) (sym is) ∙ posts)
      ∙ ap with_ones (ap (λ qs. remove qs k) same ∙ sym left)

  pub still_tried : post n (i ∷ []) w ≡ v → ps ≡ remove v.waiting k → untried h w ≡ None → untried h (record v { waiting = ps }) ≡ None
  still_tried posts left tried =
      ap (split_first (is_untried v.commits)) left
      ∙ ap (λ (u : World). split_first (is_untried u.commits) (remove u.waiting k)) (sym posts ∙ post_as n (i ∷ []) w)
      ∙ none_removed (is_untried w.commits) w.waiting k tried

pub closed_as : (h : Service) (n : ℕ) (w : World) (l : Locks) (m : Sessions) (ps : List Waiting)
    → l ≡ (drop_session w.locks n).0 → m ≡ finite.remove (all_posted w.sessions (map told_of (drop_session w.locks n).1)) n → ps ≡ filter (λ p. not (p.session == n)) w.waiting
    → close h n w ≡ record w { locks = l; sessions = m; waiting = ps }
closed_as h n w l m ps a b c = closes_as h n w ∙ (λ i. record w { locks = sym a i; sessions = sym b i; waiting = sym c i })

pub closed_tried : (h : Service) (n : ℕ) (w : World) (ps : List Waiting) → ps ≡ filter (λ p. not (p.session == n)) w.waiting → untried h w ≡ None → split_first (is_untried w.commits) ps ≡ None
closed_tried h n w ps c tried = ap (split_first (is_untried w.commits)) c ∙ none_filtered (is_untried w.commits) (λ p. not (p.session == n)) w.waiting tried
