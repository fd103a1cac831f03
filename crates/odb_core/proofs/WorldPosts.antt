-- What posts make of the world's sessions.
use Rattle.std.proofs.Common.{◌≡◌, ℕ, Bool, true, false, cond, List, [], ◌∷◌, ◌++◌, map, Option, Some, None, refl, sym, ◌∙◌, ap}
use Rattle.std.specs.Prelude.{option_to_list}
use Rattle.std.proofs.lemmas.List.{append-nil}
use Rattle.std.specs.Ordering.{eq_by_cmp, nat_cmp}
use Rattle.odb_atoms.specs.FinMap.{get, insert, remove}
use Rattle.odb_locks.specs.Locks.{Notice}
use Rattle.odb_core.proofs.Attempts.{post_as}
use Rattle.odb_service.proofs.SessionMaps.{get-insert, get-remove, key-itself, same_key, same_map}
use Rattle.odb_service.specs.Session.{Item, Session, no_request, say}
use Rattle.odb_service.specs.World.{World, notice_of, post, post_notices, post_to, push}
use Rattle.odb_queue.specs.Represented.Post.{told_of}
use Rattle.odb_sessions.specs.Book.{Sessions}
use Rattle.odb_sessions.specs.Posts.{all_posted, posted}

-- notices are posted as their items
pub notices_as : (ns : List Notice) (w : World) → post_notices ns w ≡ record w { sessions = all_posted w.sessions (map told_of ns) }
notices_as [] w = refl
notices_as (n ∷ ns) w =
    let v : World = record w { sessions = posted w.sessions (told_of n) } in
    ap (post_notices ns) (post_as n.session (say no_request (notice_of n) ∷ []) w) ∙ notices_as ns v

-- posts are posted one list after the other
pub posted_append : (m : Sessions) (xs ys : List (ℕ × Item)) → all_posted m (xs ++ ys) ≡ all_posted (all_posted m xs) ys
posted_append m [] ys = refl
posted_append m (x ∷ xs) ys = posted_append (posted m x) xs ys

-- ---- a session that closes

-- it is of no matter to it what it is posted
removed_posted : (m : Sessions) (p : ℕ × Item) (s : ℕ) → remove (posted m p) s ≡ posted (remove m s) p
removed_posted m p s = by (eq_by_cmp nat_cmp p.0 s) refl
  where
    f : Session → Session
    f = push (p.1 ∷ [])

    away : p.0 ≡ s → (o : Option Session) → remove (elim o as (λ _. Sessions) [ None ↦ m | Some x ↦ insert m p.0 (f x) ]) s ≡ remove m s
    away is None = refl
    away is (Some x) = same_map _ _ (λ q. get-remove (insert m p.0 (f x)) s q ∙ at (eq_by_cmp nat_cmp q s) q refl ∙ sym (get-remove m s q))
      where
        at : (b : Bool) (q : ℕ) → eq_by_cmp nat_cmp q s ≡ b → cond b None (get (insert m p.0 (f x)) q) ≡ cond b None (get m q)
        at true q e = refl
        at false q e = get-insert m p.0 (f x) q ∙ ap (λ k. cond (eq_by_cmp nat_cmp q k) (Some (f x)) (get m q)) is ∙ ap (λ b. cond b (Some (f x)) (get m q)) e

    beside : eq_by_cmp nat_cmp p.0 s ≡ false → (o : Option Session) → remove (elim o as (λ _. Sessions) [ None ↦ m | Some x ↦ insert m p.0 (f x) ]) s ≡ (elim o as (λ _. Sessions) [ None ↦ remove m s | Some x ↦ insert (remove m s) p.0 (f x) ])
    beside isnt None = refl
    beside isnt (Some x) = same_map _ _ (λ q.
        get-remove (insert m p.0 (f x)) s q ∙ ap (cond (eq_by_cmp nat_cmp q s) None) (get-insert m p.0 (f x) q)
        ∙ both (eq_by_cmp nat_cmp q s) (eq_by_cmp nat_cmp q p.0) q refl refl
        ∙ ap (cond (eq_by_cmp nat_cmp q p.0) (Some (f x))) (sym (get-remove m s q)) ∙ sym (get-insert (remove m s) p.0 (f x) q))
      where
        both : (a b : Bool) (q : ℕ) → eq_by_cmp nat_cmp q s ≡ a → eq_by_cmp nat_cmp q p.0 ≡ b → cond a None (cond b (Some (f x)) (get m q)) ≡ cond b (Some (f x)) (cond a None (get m q))
        both true true q e g = absurd (apart (sym isnt ∙ ap (λ k. eq_by_cmp nat_cmp k s) (sym (same_key q p.0 g)) ∙ e))
          where
            apart : false ≡ true → ⊥
            apart e = cc
        both true false q e g = refl
        both false b q e g = refl

    gone : p.0 ≡ s → posted (remove m s) p ≡ remove m s
    gone is = ap (λ o. elim o as (λ _. Sessions) [ None ↦ remove m s | Some x ↦ insert (remove m s) p.0 (f x) ]) (get-remove m s p.0 ∙ ap (λ b. cond b None (get m p.0)) same)
      where
        same : eq_by_cmp nat_cmp p.0 s ≡ true
        same = ap (eq_by_cmp nat_cmp p.0) (sym is) ∙ key-itself p.0

    by : (b : Bool) → eq_by_cmp nat_cmp p.0 s ≡ b → remove (posted m p) s ≡ posted (remove m s) p
    by true e = away (same_key p.0 s e) (get m p.0) ∙ sym (gone (same_key p.0 s e))
    by false e = beside e (get m p.0) ∙ ap (λ o. elim o as (λ _. Sessions) [ None ↦ remove m s | Some x ↦ insert (remove m s) p.0 (f x) ]) (sym (get-remove m s p.0 ∙ ap (λ b. cond b None (get m p.0)) e))

pub removed_all : (m : Sessions) (ps : List (ℕ × Item)) (s : ℕ) → remove (all_posted m ps) s ≡ all_posted (remove m s) ps
removed_all m [] s = refl
removed_all m (p ∷ ps) s = removed_all (posted m p) ps s ∙ ap (λ n. all_posted n ps) (removed_posted m p s)

-- ---- nothing that is posted

pub reinserted : (m : Sessions) (k : ℕ) (x : Session) → get m k ≡ Some x → insert m k x ≡ m
reinserted m k x e = same_map _ _ (λ q. get-insert m k x q ∙ by (eq_by_cmp nat_cmp q k) q refl)
  where
    by : (b : Bool) (q : ℕ) → eq_by_cmp nat_cmp q k ≡ b → cond b (Some x) (get m q) ≡ get m q
    by true q is = sym e ∙ ap (get m) (sym (same_key q k is))
    by false q is = refl

pub nothing_posted : (n : ℕ) (w : World) → post n [] w ≡ w
nothing_posted n w = by (get w.sessions n) refl
  where
    by : (o : Option Session) → get w.sessions n ≡ o → post_to n [] o w ≡ w
    by None e = refl
    by (Some x) e =
        let same : push [] x ≡ x = λ i. record { queue = append-nil x.queue i; monitors = x.monitors } in
        ap (λ m. record w { sessions = m }) (ap (insert w.sessions n) same ∙ reinserted w.sessions n x e)

pub none_posted : (n : ℕ) (is : Option Item) (w : World) → None ≡ is → post n (option_to_list is) w ≡ w
none_posted n is w e = ap (λ o. post n (option_to_list o) w) (sym e) ∙ nothing_posted n w
