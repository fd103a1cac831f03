-- Who has a claim of which name after each step.
use Rattle.std.specs.Prelude.{◌≡◌, ℕ, Bool, true, false, cond, not, ◌&&◌, ◌||◌, ◌==◌, T, List, [], ◌∷◌, ◌++◌, Option, Some, None, unwrap_or}
use mathlib.Core.Path.{refl, sym, ap, subst, ◌∙◌}
use Rattle.std.specs.Cmp.{unsigned_Decides}
use Rattle.std.specs.List.{filter, list_any}
use Rattle.std.specs.Str.{bytes_eq}
use Rattle.std.proofs.lemmas.List.Folds.{list_any-append}
use Rattle.odb_atoms.specs.FinMap as finite
use Rattle.odb_locks.specs.Locks.{Claim, Lock, Locks, claims_left, has_claim, is_empty, is_free, lock_of, put_lock, robbed_now, without}
use Rattle.odb_locks.specs.Represented.Lock.{with_claim}
use Rattle.odb_locks.specs.Represented.Locks.{released}
use Rattle.odb_locks.specs.Represented.Index.{Indexes, Sets}
use Rattle.odb_locks.specs.declared.index.Index.{Index}
use Rattle.odb_locks.proofs.Tables.{get-put, get-remove, put_if_claimed, put_if_free, same_bytes}

abbrev nobody : Lock
nobody = record { claims = []; robbed = [] }

-- ---- one lock

free_is_nobody : (k : Lock) → is_free k ≡ true → nobody ≡ k
free_is_nobody k e = by k.claims k.robbed e
  where
    by : (claims : List Claim) (robbed : List ℕ) → (is_empty claims && is_empty robbed) ≡ true → nobody ≡ record { claims = claims; robbed = robbed }
    by [] [] e = refl
    by [] (t ∷ ts) e = absurd (subst T (sym e) tt)
    by (c ∷ cs) robbed e = absurd (subst T (sym e) tt)

joined : (a b r : Bool) → ((a || (b || false)) || r) ≡ cond b true (a || r)
joined true true r = refl
joined true false r = refl
joined false true r = refl
joined false false r = refl

in_front : (b a r : Bool) → ((b || a) || (r || false)) ≡ cond b true (a || r)
in_front true a r = refl
in_front false true r = refl
in_front false false true = refl
in_front false false false = refl

robs : (b d a r : Bool) → ((b || a) || (r || (d || false))) ≡ cond b true ((d || a) || r)
robs true d a r = refl
robs false true true r = refl
robs false true false true = refl
robs false true false false = refl
robs false false true r = refl
robs false false false true = refl
robs false false false false = refl

-- by a claim its session has one, and all others keep theirs
pub has_claim-with_claim : (c : Claim) (k : Lock) (t : ℕ) → has_claim t (with_claim c k) ≡ cond (c.session == t) true (has_claim t k)
has_claim-with_claim c k t = by c.stolen
  where
    claims : Claim → Bool
    claims d = d.session == t

    is_t : ℕ → Bool
    is_t u = u == t

    in_turn : (cs : List Claim) → ((list_any claims (c ∷ claims_left cs)) || list_any is_t (k.robbed ++ robbed_now cs)) ≡ cond (c.session == t) true (list_any claims cs || list_any is_t k.robbed)
    in_turn [] = ap (λ r. ((c.session == t) || false) || r) (list_any-append is_t k.robbed []) ∙ in_front (c.session == t) false (list_any is_t k.robbed)
    in_turn (d ∷ ds) = at d.stolen
      where
        at : (b : Bool) → ((list_any claims (c ∷ cond b ds (d ∷ ds))) || list_any is_t (k.robbed ++ cond b (d.session ∷ []) [])) ≡ cond (c.session == t) true (list_any claims (d ∷ ds) || list_any is_t k.robbed)
        at true = ap (λ r. ((c.session == t) || list_any claims ds) || r) (list_any-append is_t k.robbed (d.session ∷ [])) ∙ robs (c.session == t) (d.session == t) (list_any claims ds) (list_any is_t k.robbed)
        at false = ap (λ r. ((c.session == t) || list_any claims (d ∷ ds)) || r) (list_any-append is_t k.robbed []) ∙ in_front (c.session == t) (list_any claims (d ∷ ds)) (list_any is_t k.robbed)

    by : (b : Bool) → has_claim t (cond b (record { claims = c ∷ claims_left k.claims; robbed = k.robbed ++ robbed_now k.claims }) (record k { claims = k.claims ++ c ∷ [] })) ≡ cond (c.session == t) true (has_claim t k)
    by true = in_turn k.claims
    by false = ap (λ b. b || list_any is_t k.robbed) (list_any-append claims k.claims (c ∷ [])) ∙ joined (list_any claims k.claims) (c.session == t) (list_any is_t k.robbed)

any-filter : {A : Type 0} (f : A → ℕ) (s t : ℕ) (xs : List A) → list_any (λ x. f x == t) (filter (λ x. not (f x == s)) xs) ≡ cond (s == t) false (list_any (λ x. f x == t) xs)
any-filter f s t [] = neither (s == t)
  where
    neither : (b : Bool) → false ≡ cond b false false
    neither true = refl
    neither false = refl
any-filter {A} f s t (x ∷ xs) = at (any-filter f s t xs) (f x == s) refl
  where
    rest : Bool
    rest = list_any (λ y. f y == t) xs

    gone : (b : Bool) → cond b false rest ≡ cond b false (b || rest)
    gone true = refl
    gone false = refl

    stays : (b : Bool) → (s == t) ≡ b → (f x == s) ≡ false → ((f x == t) || cond b false rest) ≡ cond b false ((f x == t) || rest)
    stays true e differs = ap (λ a. a || false) (ap (λ u. f x == u) (sym ((unsigned_Decides s t).0 e)) ∙ differs)
    stays false e differs = refl

    at : list_any (λ y. f y == t) (filter (λ y. not (f y == s)) xs) ≡ cond (s == t) false rest → (b : Bool) → (f x == s) ≡ b → list_any (λ y. f y == t) (cond (not b) (x ∷ filter (λ y. not (f y == s)) xs) (filter (λ y. not (f y == s)) xs)) ≡ cond (s == t) false ((f x == t) || rest)
    at before true e = before ∙ gone (s == t) ∙ ap (λ u. cond (s == t) false ((u == t) || rest)) (sym ((unsigned_Decides (f x) s).0 e))
    at before false e = ap (λ r. (f x == t) || r) before ∙ stays (s == t) refl e

-- a session's claim goes, and all others keep theirs
pub has_claim-without : (s : ℕ) (k : Lock) (t : ℕ) → has_claim t (without s k) ≡ cond (s == t) false (has_claim t k)
has_claim-without s k t = (λ i. any-filter (λ c. c.session) s t k.claims i || any-filter (λ u. u) s t k.robbed i) ∙ both_gone (s == t)
  where
    both_gone : (b : Bool) → (cond b false (list_any (λ c. c.session == t) k.claims) || cond b false (list_any (λ u. u == t) k.robbed)) ≡ cond b false (has_claim t k)
    both_gone true = refl
    both_gone false = refl

-- ---- the locks

unwrapped : (b : Bool) (o p : Option Lock) → unwrap_or (cond b o p) nobody ≡ cond b (unwrap_or o nobody) (unwrap_or p nobody)
unwrapped true o p = refl
unwrapped false o p = refl

pub lock_of-insert : (l : Locks) (name : List ℕ) (k : Lock) (q : List ℕ) → lock_of (finite.insert l name k) q ≡ cond (bytes_eq name q) k (lock_of l q)
lock_of-insert l name k q = ap (λ o. unwrap_or o nobody) (get-put l name k q) ∙ unwrapped (bytes_eq name q) (Some k) (finite.get l q)

pub lock_of-put : (l : Locks) (name : List ℕ) (k : Lock) (q : List ℕ) → lock_of (put_lock l name k) q ≡ cond (bytes_eq name q) k (lock_of l q)
lock_of-put l name k q = at (is_free k) refl
  where
    at : (b : Bool) → is_free k ≡ b → lock_of (put_lock l name k) q ≡ cond (bytes_eq name q) k (lock_of l q)
    at true e =
        ap (λ m. lock_of m q) (put_if_free l name k e)
        ∙ ap (λ o. unwrap_or o nobody) (get-remove l name q) ∙ unwrapped (bytes_eq name q) None (finite.get l q)
        ∙ ap (λ j. cond (bytes_eq name q) j (lock_of l q)) (free_is_nobody k e)
    at false e = ap (λ m. lock_of m q) (put_if_claimed l name k e) ∙ lock_of-insert l name k q

pub and-true : (b : Bool) → (b && true) ≡ b
and-true true = refl
and-true false = refl

pub and-false : (b : Bool) → (b && false) ≡ false
and-false true = refl
and-false false = refl

-- where a lock is put, the claims are those of the new lock at its name, and elsewhere as they were
at_name : (l : Locks) (name : List ℕ) (k : Lock) (s t : ℕ) (b : Bool) → has_claim t k ≡ cond (s == t) b (has_claim t (lock_of l name)) → (q : List ℕ) → has_claim t (cond (bytes_eq name q) k (lock_of l q)) ≡ cond ((s == t) && bytes_eq name q) b (has_claim t (lock_of l q))
at_name l name k s t b is q = at (bytes_eq name q) refl
  where
    at : (d : Bool) → bytes_eq name q ≡ d → has_claim t (cond d k (lock_of l q)) ≡ cond ((s == t) && d) b (has_claim t (lock_of l q))
    at true e = is ∙ (λ i. cond (sym (and-true (s == t)) i) b (has_claim t (lock_of l (same_bytes name q e i))))
    at false e = ap (λ d. cond d b (has_claim t (lock_of l q))) (sym (and-false (s == t)))

pub has_claim-claimed : (l : Locks) (c : Claim) (name : List ℕ) (t : ℕ) (q : List ℕ) → has_claim t (lock_of (finite.insert l name (with_claim c (lock_of l name))) q) ≡ cond ((c.session == t) && bytes_eq name q) true (has_claim t (lock_of l q))
has_claim-claimed l c name t q =
    ap (has_claim t) (lock_of-insert l name (with_claim c (lock_of l name)) q)
    ∙ at_name l name (with_claim c (lock_of l name)) c.session t true (has_claim-with_claim c (lock_of l name) t) q

pub has_claim-released : (l : Locks) (s : ℕ) (name : List ℕ) (t : ℕ) (q : List ℕ) → has_claim t (lock_of (released s l name) q) ≡ cond ((s == t) && bytes_eq name q) false (has_claim t (lock_of l q))
has_claim-released l s name t q =
    ap (has_claim t) (lock_of-put l name (without s (lock_of l name)) q)
    ∙ at_name l name (without s (lock_of l name)) s t false (has_claim-without s (lock_of l name) t) q

-- the index follows the locks
pub indexes_claimed : (old new : Index) (l : Locks) (c : Claim) (name : List ℕ) → Indexes old l → Sets old new c.session name true → Indexes new (finite.insert l name (with_claim c (lock_of l name)))
indexes_claimed old new l c name are sets t q = sets t q ∙ ap (cond ((c.session == t) && bytes_eq name q) true) (are t q) ∙ sym (has_claim-claimed l c name t q)

pub indexes_released : (old new : Index) (l : Locks) (s : ℕ) (name : List ℕ) → Indexes old l → Sets old new s name false → Indexes new (released s l name)
indexes_released old new l s name are sets t q = sets t q ∙ ap (cond ((s == t) && bytes_eq name q) false) (are t q) ∙ sym (has_claim-released l s name t q)
