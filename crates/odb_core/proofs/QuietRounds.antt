-- A round gives nothing to quiet sessions and changes nothing of them, so it is the round over the others alone.
use Rattle.std.proofs.Common.{◌≡◌, ℕ, ◌==◌, Bool, true, false, cond, not, List, [], ◌∷◌, ◌++◌, map, filter, Option, Some, None, Ok, refl, sym, ap, ◌∙◌, true≢false}
use Rattle.std.specs.Prelude.{Result}
use Rattle.std.specs.BTreeSet.{BTreeSet, contains}
use Rattle.std.specs.Ordering.{eq_by_cmp, nat_cmp}
use borrow.Author.Tests.{eqb-true}
use Rattle.odb_atoms.specs.FinMap.{get, insert}
use Rattle.odb_service.specs.Run.{Refusal, Sent, once, round, sent, take_each, take_of}
use Rattle.odb_service.specs.Server.{Server, printed, serve, served_by}
use Rattle.odb_service.specs.Service.{Service}
use Rattle.odb_service.specs.Session.{Out, Session, take}
use Rattle.odb_service.specs.World.{World, revision_of}
use Rattle.odb_service.proofs.SessionMaps.{get-insert, same_key}
use Rattle.odb_core.specs.Represented.Core.{IsQuietBut}
use Rattle.odb_core.specs.Represented.Rounds.{book_in}
use Rattle.odb_sessions.specs.Book.{Sessions}
use Rattle.odb_sessions.specs.Owed.{AreOwed}
use Rattle.odb_core.proofs.WorldPosts.{reinserted}

-- ---- what is listed once, of some

filters_commute : (p q : ℕ → Bool) (xs : List ℕ) → filter p (filter q xs) ≡ filter q (filter p xs)
filters_commute p q [] = refl
filters_commute p q (x ∷ xs) = by (p x) (q x) refl refl (filters_commute p q xs)
  where
    by : (a b : Bool) → p x ≡ a → q x ≡ b → filter p (filter q xs) ≡ filter q (filter p xs)
        → filter p (cond b (x ∷ filter q xs) (filter q xs)) ≡ filter q (cond a (x ∷ filter p xs) (filter p xs))
    by true true e f h =
        ap (λ c. cond c (x ∷ filter p (filter q xs)) (filter p (filter q xs))) e ∙ ap (λ ys. x ∷ ys) h
        ∙ sym (ap (λ c. cond c (x ∷ filter q (filter p xs)) (filter q (filter p xs))) f)
    by true false e f h = h ∙ sym (ap (λ c. cond c (x ∷ filter q (filter p xs)) (filter q (filter p xs))) f)
    by false true e f h = ap (λ c. cond c (x ∷ filter p (filter q xs)) (filter p (filter q xs))) e ∙ h
    by false false e f h = h

-- who isn't among them needn't be left out
left_out : (p : ℕ → Bool) (s : ℕ) → p s ≡ false → (xs : List ℕ) → filter (λ t. not (t == s)) (filter p xs) ≡ filter p xs
left_out p s out [] = refl
left_out p s out (x ∷ xs) = by (p x) refl (left_out p s out xs)
  where
    apart : p x ≡ true → (b : Bool) → (x == s) ≡ b → b ≡ false
    apart is_in true e = absurd (true≢false (sym is_in ∙ ap p (eqb-true x s e) ∙ out))
    apart is_in false e = refl

    by : (b : Bool) → p x ≡ b → filter (λ t. not (t == s)) (filter p xs) ≡ filter p xs
        → filter (λ t. not (t == s)) (cond b (x ∷ filter p xs) (filter p xs)) ≡ cond b (x ∷ filter p xs) (filter p xs)
    by true is_in h =
        ap (λ c. cond (not c) (x ∷ filter (λ t. not (t == s)) (filter p xs)) (filter (λ t. not (t == s)) (filter p xs))) (apart is_in (x == s) refl)
        ∙ ap (λ ys. x ∷ ys) h
    by false out h = h

once-filter : (p : ℕ → Bool) (ss : List ℕ) → once (filter p ss) ≡ filter p (once ss)
once-filter p [] = refl
once-filter p (s ∷ ss) = by (p s) refl (once-filter p ss)
  where
    by : (b : Bool) → p s ≡ b → once (filter p ss) ≡ filter p (once ss)
        → once (cond b (s ∷ filter p ss) (filter p ss)) ≡ cond b (s ∷ filter p (filter (λ t. not (t == s)) (once ss))) (filter p (filter (λ t. not (t == s)) (once ss)))
    by true is h = ap (λ ys. s ∷ filter (λ t. not (t == s)) ys) h ∙ ap (λ ys. s ∷ ys) (filters_commute (λ t. not (t == s)) p (once ss))
    by false is h = h ∙ sym (left_out p s is (once ss)) ∙ filters_commute (λ t. not (t == s)) p (once ss)

-- ---- takings

-- a taking of an open session that isn't among them gives nothing and changes nothing
abbrev AreQuiet : (ℕ → Bool) → Service → World → Type 0
AreQuiet p h w = (q : ℕ) (x : Session) → p q ≡ false → get w.sessions q ≡ Some x → take h (revision_of w) x ≡ (None, x)

nothing_taken : (h : Service) (w : World) (s : ℕ) (o : Option Session) → get w.sessions s ≡ o → ((x : Session) → o ≡ Some x → take h (revision_of w) x ≡ (None, x)) → take_of h s o w ≡ (w, [])
nothing_taken h w s None there quiet = refl
nothing_taken h w s (Some x) there quiet =
    ap (λ (t : Option Out × Session). let r : World × List Sent = (record w { sessions = insert w.sessions s t.1 }, sent s t.0) in r) (quiet x refl)
    ∙ ap (λ (m : Sessions). let r : World × List Sent = (record w { sessions = m }, []) in r) (reinserted w.sessions s x there)

still_quiet : (p : ℕ → Bool) (h : Service) (w : World) (s : ℕ) → p s ≡ true → (o : Option Session) → AreQuiet p h w → AreQuiet p h (take_of h s o w).0
still_quiet p h w s is_in None quiet = quiet
still_quiet p h w s is_in (Some y) quiet = λ q x out there.
    quiet q x out (sym (get-insert w.sessions s (take h (revision_of w) y).1 q ∙ ap (λ c. cond c (Some (take h (revision_of w) y).1) (get w.sessions q)) (apart q out (eq_by_cmp nat_cmp q s) refl)) ∙ there)
  where
    apart : (q : ℕ) → p q ≡ false → (b : Bool) → eq_by_cmp nat_cmp q s ≡ b → b ≡ false
    apart q out true tie = absurd (true≢false (sym is_in ∙ ap p (sym (same_key q s tie)) ∙ out))
    apart q out false tie = refl

fewer_taken : (p : ℕ → Bool) (h : Service) (ss : List ℕ) (w : World) → AreQuiet p h w → take_each h ss w ≡ take_each h (filter p ss) w
fewer_taken p h [] w quiet = refl
fewer_taken p h (s ∷ ss) w quiet = by (λ v still. fewer_taken p h ss v still) (p s) refl
  where
    one : World × List Sent
    one = take_of h s (get w.sessions s) w

    with_rest : World × List Sent → World × List Sent
    with_rest o = ((take_each h ss o.0).0, o.1 ++ (take_each h ss o.0).1)

    by : ((v : World) → AreQuiet p h v → take_each h ss v ≡ take_each h (filter p ss) v) → (b : Bool) → p s ≡ b → with_rest one ≡ take_each h (cond b (s ∷ filter p ss) (filter p ss)) w
    by rest true is_in = ap (λ (r : World × List Sent). let t : World × List Sent = (r.0, one.1 ++ r.1) in t) (rest one.0 (still_quiet p h w s is_in (get w.sessions s) quiet))
    by rest false out = ap with_rest (nothing_taken h w s (get w.sessions s) refl (λ x there. quiet s x out there)) ∙ rest w quiet

-- ---- a round of the server

pub round_among : (owed : BTreeSet ℕ) (s : Server) → IsQuietBut owed s → (ss : List ℕ) → serve (round ss) s ≡ serve (round (filter (contains nat_cmp owed) ss)) s
round_among owed s quiet ss =
    let p = contains nat_cmp owed in
    let h = served_by s.schema in
    ap (λ (r : World × List Sent). let a : Result (Server × List (ℕ × List ℕ)) Refusal = Ok (record { schema = s.schema; world = r.0; opened = s.opened }, map printed r.1) in a)
    (fewer_taken p h (once ss) s.world quiet ∙ ap (λ ys. take_each h ys s.world) (sym (once-filter p ss)))

-- who isn't in the set of those that may be owed something is quiet
pub quiet_but : (owed : BTreeSet ℕ) (s : Server) → AreOwed owed (book_in s.world) → IsQuietBut owed s
quiet_but owed s quiet q x out there = (quiet q out x there).1 s.schema (revision_of s.world) refl
