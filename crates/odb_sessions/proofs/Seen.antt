-- Posts, as the machine sees them; the marks stay.
use Rattle.std.proofs.Common.{◌≡◌, ℕ, List, [], ◌∷◌, ◌++◌, Option, Some, None, option_map, IfOk, OnErr, Result, Ok, Err, refl, sym, ap, subst, ◌∙◌}
use Rattle.std.proofs.lemmas.List.{append-nil}
use Rattle.std.specs.Ordering.{nat_cmp}
use Rattle.odb_atoms.specs.FinMap.{FinMap, get, insert}
use Rattle.odb_chain.specs.Chains.{Chains}
use Rattle.odb_sessions.specs.Newest.{without_last}
use Rattle.odb_service.specs.Session.{Item, Session}
use Rattle.odb_service.specs.World.{push}
use Rattle.odb_sessions.specs.Marked.{MarkedItem, MarkedSession, Sessions, all_seen, item_seen, marks_of, plain, seen}
use Rattle.odb_sessions.specs.Posts.{all_marked_posted, all_posted, at_number, marked_posted, marked_unposted, unposted, with_item, without_newest}
use Rattle.odb_sessions.specs.Tied.{AreLive, IsTied, uses}
use Rattle.odb_sessions.proofs.Newest.{marks-with, seen-with, seen-without}
use Rattle.odb_sessions.proofs.Posts.{at_open, at_shut}
use Rattle.odb_sessions.proofs.Sums.{slot}
use Rattle.odb_sessions.proofs.Ties.{get-seen, seen-insert, tied_put}
use Rattle.odb_sessions.specs.Watches.{KeepsWatch}
use Rattle.odb_sessions.proofs.WatchNumbers.{joins_kept, keeps_so}

-- ---- at one number

pub at_seen : (f : MarkedSession → MarkedSession) (g : Session → Session) (m : Sessions) (s : ℕ) → ((x : MarkedSession) → seen (f x) ≡ g (seen x)) → all_seen (at_number f m s) ≡ at_number g (all_seen m) s
at_seen f g m s same = by (get m s) refl
  where
    by : (o : Option MarkedSession) → get m s ≡ o → all_seen (at_number f m s) ≡ at_number g (all_seen m) s
    by None is = ap all_seen (at_shut f m s is) ∙ sym (at_shut g (all_seen m) s (get-seen m s ∙ ap (option_map seen) is))
    by (Some x) is = ap all_seen (at_open f m s x is) ∙ seen-insert m s (f x) ∙ ap (insert (all_seen m) s) (same x) ∙ sym (at_open g (all_seen m) s (seen x) (get-seen m s ∙ ap (option_map seen) is))

pub at_tied : (k : Chains) (f : MarkedSession → MarkedSession) (m : Sessions) (s : ℕ) → ((x : MarkedSession) → marks_of (f x) ≡ marks_of x) → ((x : MarkedSession) → KeepsWatch x (f x)) → IsTied k m → IsTied k (at_number f m s)
at_tied k f m s same keeps h = by (get m s) refl
  where
    by : (o : Option MarkedSession) → get m s ≡ o → IsTied k (at_number f m s)
    by None is = subst (IsTied k) (sym (at_shut f m s is)) h
    by (Some x) is =
        subst (IsTied k) (sym (at_open f m s x is))
        (tied_put k m s (f x) h (λ t p. ap (uses t p) (same x) ∙ sym (ap (slot (λ (y : MarkedSession). uses t p (marks_of y))) is)) (subst (AreLive k) (sym (same x)) (h.2 s x is)) (joins_kept m s x (f x) h.3 is (keeps x)))

-- ---- posts

pub posts_seen : (m : Sessions) (ps : List (ℕ × Item)) → all_seen (all_marked_posted m ps) ≡ all_posted (all_seen m) ps
posts_seen m [] = refl
posts_seen m (p ∷ ps) = posts_seen (marked_posted m p) ps ∙ ap (λ (n : FinMap nat_cmp Session). all_posted n ps) (at_seen (with_item (plain p.1)) (push (p.1 ∷ [])) m p.0 (λ x. seen-with (plain p.1 ∷ []) x))

pub posts_tied : (k : Chains) (m : Sessions) (ps : List (ℕ × Item)) → IsTied k m → IsTied k (all_marked_posted m ps)
posts_tied k m [] h = h
posts_tied k m (p ∷ ps) h = posts_tied k (marked_posted m p) ps (at_tied k (with_item (plain p.1)) m p.0 (λ x. marks-with (plain p.1 ∷ []) x ∙ append-nil (marks_of x)) (λ x. keeps_so x (with_item (plain p.1) x) refl refl) h)

pub unposts_seen : (ss : List ℕ) (m : Sessions) → all_seen (marked_unposted ss m) ≡ unposted ss (all_seen m)
unposts_seen [] m = refl
unposts_seen (s ∷ ss) m = at_seen without_newest without_last (marked_unposted ss m) s seen-without ∙ ap (λ (n : FinMap nat_cmp Session). at_number without_last n s) (unposts_seen ss m)

pub either_posted : {A E Q : Type 0} {P : A → Type 0} (r : Result A E) (G : Type 0) → IfOk r P → OnErr r Q → ((x : A) → P x → G) → (Q → G) → G
either_posted (Ok a) G p q f g = f a p
either_posted (Err e) G p q f g = g q

-- ---- one item is taken back

pub taken_back_seen : (m : Sessions) (s : ℕ) → all_seen (at_number without_newest m s) ≡ at_number without_last (all_seen m) s
taken_back_seen m s = at_seen without_newest without_last m s seen-without

pub handed_seen : (m : Sessions) (q : MarkedItem) (s : ℕ) → all_seen (at_number (with_item q) m s) ≡ at_number (push (item_seen q ∷ [])) (all_seen m) s
handed_seen m q s = at_seen (with_item q) (push (item_seen q ∷ [])) m s (λ x. seen-with (q ∷ []) x)

pub unposted-append : (ss : List ℕ) (s : ℕ) (m : FinMap nat_cmp Session) → unposted (ss ++ s ∷ []) m ≡ unposted ss (at_number without_last m s)
unposted-append [] s m = refl
unposted-append (t ∷ ts) s m = ap (λ (n : FinMap nat_cmp Session). at_number without_last n t) (unposted-append ts s m)
