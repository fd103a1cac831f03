-- To drop a session is to take back its claims of the names that the index has.
use Rattle.std.specs.Prelude.{◌≡◌, ℕ, Bool, true, false, cond, ◌&&◌, ◌||◌, ◌==◌, T, List, [], ◌∷◌, ◌++◌, map, is_some, Option, Some, None, unwrap_or, string_bytes}
use mathlib.Core.Path.{refl, sym, ap, subst, ◌∙◌}
use Rattle.std.specs.declared.cmp.Ordering.{Ordering}
use Rattle.std.specs.declared.cmp.Ordering.TheVariants.{Less, Equal, Greater}
use Rattle.std.specs.declared.string.String.{String}
use Rattle.std.specs.declared.alloc.Global.{Global}
use Rattle.std.specs.BTreeSet.{BTreeSet, IsOrdered, contains_text}
use Rattle.std.specs.Cmp.{Equal-is, unsigned_Decides}
use Rattle.std.specs.Cmp.Lexicographic.{nat_list_cmp_total}
use Rattle.std.specs.FinMap.Entries.{below_all, find, is_some-find, is_sorted, same_entries}
use Rattle.std.specs.List.{AllByRecursion, filter, list_any}
use Rattle.std.specs.List.Sorted.{IsStrictlySortedBy}
use Rattle.std.specs.Ordering.{eq_by_cmp, is_eq, is_lt}
use Rattle.std.specs.Str.{bytes_eq}
use Rattle.std.specs.String.{string_cmp}
use Rattle.std.proofs.lemmas.List.Kept.{IsStrictlySortedBy-filter}
use Rattle.std.proofs.lemmas.Map.Text.{is_eq-slice_cmp}
use Rattle.odb_atoms.specs.FinMap as finite
use Rattle.odb_atoms.specs.Text.{same_text}
use Rattle.odb_atoms.proofs.FinMaps.{contains_key-keys}
use Rattle.odb_locks.specs.Locks.{Claim, Lock, Locks, Notice, drop_names, drop_session, has_claim, is_first, lock_of, notices_when_freed, owns, without}
use Rattle.odb_locks.specs.Represented.Lock.{next_of}
use Rattle.odb_locks.specs.Represented.Notice.{notice_to}
use Rattle.odb_locks.specs.Represented.Locks.{all_notices, all_released, notice_of_release, released}
use Rattle.odb_locks.specs.Represented.Index.{Forgets, Indexes}
use Rattle.odb_locks.specs.declared.index.Index.{Index}
use Rattle.odb_locks.proofs.Claims.{and-false, and-true, has_claim-released, lock_of-put}
use Rattle.odb_locks.proofs.Tables.{by_bytes, by_bytes-IsAntisymmetric, either_way}

pub map-map : {A B C : Type 0} (f : B → C) (g : A → B) (xs : List A) → map f (map g xs) ≡ map (λ x. f (g x)) xs
map-map f g [] = refl
map-map f g (x ∷ xs) = ap (λ ys. f (g x) ∷ ys) (map-map f g xs)

both : (a b : Bool) → T a → T b → T (a && b)
both true b p q = q
both false b p q = p

first : (a b : Bool) → T (a && b) → T a
first true b p = tt
first false b p = p

second : (a b : Bool) → T (a && b) → T b
second true b p = p
second false b p = absurd p

less : (o : Ordering) → T (is_lt o) → o ≡ Less
less Less p = refl
less Equal p = absurd p
less Greater p = absurd p

rising-after : (x : List ℕ) (es : List (List ℕ × Lock)) → T (below_all by_bytes x es) → AllByRecursion (λ n. by_bytes x n ≡ Less) (map (λ e. e.0) es)
rising-after x [] h = tt
rising-after x (e ∷ es) h = (less _ (first _ _ h), rising-after x es (second _ _ h))

rising : (es : List (List ℕ × Lock)) → T (is_sorted by_bytes es) → IsStrictlySortedBy by_bytes (map (λ e. e.0) es)
unfolding IsStrictlySortedBy
rising [] h = tt
rising (e ∷ es) h = (rising-after e.0 es (first _ _ h), rising es (second _ _ h))

rising-keys : (l : Locks) → IsStrictlySortedBy by_bytes (finite.keys l)
unfolding finite.keys
rising-keys l = rising l.entries l.sorted

-- ---- one name

told-next : (s : ℕ) (name : List ℕ) (cs : List Claim) → notices_when_freed s name cs ≡ notice_to (next_of s cs) false name
told-next s name [] = refl
told-next s name (c ∷ []) = refl
told-next s name (c ∷ d ∷ cs) = at (c.session == s)
  where
    at : (b : Bool) → cond b (let n : Notice = record { session = d.session; stolen = false; name = name } in n ∷ []) [] ≡ notice_to (cond b (Some d.session) None) false name
    at true = refl
    at false = refl

first_is : (a b : Bool) → (a || b) ≡ false → a ≡ false
first_is true b e = absurd (subst T e tt)
first_is false b e = refl

-- nobody is told where the session has no claim
untold : (s : ℕ) (name : List ℕ) (k : Lock) → has_claim s k ≡ false → notices_when_freed s name k.claims ≡ []
untold s name k e = by k.claims (first_is _ _ e)
  where
    by : (cs : List Claim) → list_any (λ c. c.session == s) cs ≡ false → notices_when_freed s name cs ≡ []
    by [] h = refl
    by (c ∷ []) h = refl
    by (c ∷ d ∷ cs) h = ap (λ b. cond b (let n : Notice = record { session = d.session; stolen = false; name = name } in n ∷ []) []) (first_is _ _ h)

-- ---- all names of a session

keep : (s : ℕ) (at : List ℕ → Lock) (l : Locks) (name : List ℕ) (names : List (List ℕ)) → AllByRecursion (λ n. by_bytes name n ≡ Less) names → AllByRecursion (λ n. lock_of l n ≡ at n) names → AllByRecursion (λ n. lock_of (released s l name) n ≡ at n) names
keep s at l name [] below are = tt
keep s at l name (n ∷ names) below are = (lock_of-put l name (without s (lock_of l name)) n ∙ ap (λ b. cond b (without s (lock_of l name)) (lock_of l n)) (sym (is_eq-slice_cmp name n) ∙ ap is_eq below.0) ∙ are.0, keep s at l name names below.1 are.1)

-- the session's names, one after another, are those that it has a claim of
dropped : (s : ℕ) (at : List ℕ → Lock) (names : List (List ℕ)) (l : Locks) → IsStrictlySortedBy (by_bytes) names → AllByRecursion (λ n. lock_of l n ≡ at n) names → drop_names s names l ≡ (all_released s l (filter (λ n. has_claim s (at n)) names), all_notices s at (filter (λ n. has_claim s (at n)) names))
unfolding IsStrictlySortedBy
dropped s at [] l up are = refl
dropped s at (name ∷ names) l up are =
    by (has_claim s k) refl (dropped s at names (released s l name) up.1 (keep s at l name names up.0 are.1)) (dropped s at names l up.1 are.1)
  where
    k : Lock
    k = lock_of l name

    claimed : List (List ℕ)
    claimed = filter (λ n. has_claim s (at n)) names

    told_here : notices_when_freed s name k.claims ≡ notice_of_release s at name
    told_here = told-next s name k.claims ∙ ap (λ (j : Lock). notice_to (next_of s j.claims) false name) are.0

    after : Locks → Locks × List Notice
    after m = ((drop_names s names m).0, notices_when_freed s name k.claims ++ (drop_names s names m).1)

    listed : List (List ℕ) → Locks × List Notice
    listed ns = (all_released s l ns, all_notices s at ns)

    by : (b : Bool) → has_claim s k ≡ b → drop_names s names (released s l name) ≡ (all_released s (released s l name) claimed, all_notices s at claimed) → drop_names s names l ≡ listed claimed → after (cond b (released s l name) l) ≡ listed (cond (has_claim s (at name)) (name ∷ claimed) claimed)
    by true e h g =
        (λ i. let r : Locks × List Notice = ((h i).0, told_here i ++ (h i).1) in r)
        ∙ ap (λ b. listed (cond b (name ∷ claimed) claimed)) (sym e ∙ ap (has_claim s) are.0)
    by false e h g =
        (λ i. let r : Locks × List Notice = ((g i).0, untold s name k e i ++ (g i).1) in r)
        ∙ ap (λ b. listed (cond b (name ∷ claimed) claimed)) (sym e ∙ ap (has_claim s) are.0)

-- ---- the names that the index has are these

abbrev bare : List ℕ → List ℕ × Unit {0}
bare n = (n, tt)

below-bare : (x : List ℕ) (ns : List (List ℕ)) → AllByRecursion (λ n. by_bytes x n ≡ Less) ns → T (below_all by_bytes x (map bare ns))
below-bare x [] h = tt
below-bare x (n ∷ ns) h = both _ _ (subst (λ r. T (is_lt r)) (sym h.0) tt) (below-bare x ns h.1)

sorted-bare : (ns : List (List ℕ)) → IsStrictlySortedBy by_bytes ns → T (is_sorted by_bytes (map bare ns))
unfolding IsStrictlySortedBy
sorted-bare [] h = tt
sorted-bare (n ∷ ns) h = both _ _ (below-bare n ns h.0) (sorted-bare ns h.1)

keys-bare : (ns : List (List ℕ)) → map (λ e. e.0) (map bare ns) ≡ ns
keys-bare [] = refl
keys-bare (n ∷ ns) = ap (λ ms. n ∷ ms) (keys-bare ns)

same_unit : (o p : Option (Unit {0})) → is_some o ≡ is_some p → o ≡ p
same_unit None None e = refl
same_unit None (Some y) e = absurd (subst T (sym e) tt)
same_unit (Some x) None e = absurd (subst T e tt)
same_unit (Some x) (Some y) e = refl

found-bare : (q : List ℕ) (ns : List (List ℕ)) → is_some (find by_bytes q (map bare ns)) ≡ list_any (eq_by_cmp by_bytes q) ns
found-bare q ns = is_some-find by_bytes q (map bare ns) ∙ ap (list_any (eq_by_cmp by_bytes q)) (keys-bare ns)

-- rising lists with the same members are equal
same_names : (ms ns : List (List ℕ)) → IsStrictlySortedBy by_bytes ms → IsStrictlySortedBy by_bytes ns → ((q : List ℕ) → list_any (eq_by_cmp by_bytes q) ms ≡ list_any (eq_by_cmp by_bytes q) ns) → ms ≡ ns
same_names ms ns g h is =
    sym (keys-bare ms)
    ∙ ap (map (λ e. e.0)) (same_entries by_bytes nat_list_cmp_total by_bytes-IsAntisymmetric (map bare ms) (map bare ns) (sorted-bare ms g) (sorted-bare ns h) (λ q. same_unit _ _ (found-bare q ms ∙ is q ∙ sym (found-bare q ns))))
    ∙ keys-bare ns

any-filter : (p : List ℕ → Bool) (q : List ℕ) (ns : List (List ℕ)) → list_any (eq_by_cmp by_bytes q) (filter p ns) ≡ (p q && list_any (eq_by_cmp by_bytes q) ns)
any-filter p q [] = sym (and-false (p q))
any-filter p q (n ∷ ns) = at (any-filter p q ns) (p n) refl
  where
    here : Bool
    here = eq_by_cmp by_bytes q n

    there : Bool
    there = list_any (eq_by_cmp by_bytes q) ns

    kept_here : (b : Bool) → here ≡ b → p n ≡ true → (b || (p q && there)) ≡ (p q && (b || there))
    kept_here true e is = sym (and-true (p q) ∙ ap p (by_bytes-IsAntisymmetric q n ((Equal-is (by_bytes q n)).0 e)) ∙ is)
    kept_here false e is = refl

    left_out : (b : Bool) → here ≡ b → p n ≡ false → (p q && there) ≡ (p q && (b || there))
    left_out true e is =
        let no : p q ≡ false = ap p (by_bytes-IsAntisymmetric q n ((Equal-is (by_bytes q n)).0 e)) ∙ is in
        ap (λ b. b && there) no ∙ ap (λ b. b && true) (sym no)
    left_out false e is = refl

    at : list_any (eq_by_cmp by_bytes q) (filter p ns) ≡ (p q && there) → (b : Bool) → p n ≡ b → list_any (eq_by_cmp by_bytes q) (cond b (n ∷ filter p ns) (filter p ns)) ≡ (p q && (here || there))
    at h true e = ap (λ r. here || r) h ∙ kept_here here refl e
    at h false e = h ∙ left_out here refl e

-- a claim stands at a name of the locks
there_with_claim : (s : ℕ) (o : Option Lock) → (has_claim s (unwrap_or o (record { claims = []; robbed = [] })) && is_some o) ≡ has_claim s (unwrap_or o (record { claims = []; robbed = [] }))
there_with_claim s None = refl
there_with_claim s (Some k) = and-true (has_claim s k)

claimed_names : (l : Locks) (s : ℕ) (names : List (List ℕ)) → IsStrictlySortedBy by_bytes names → ((q : List ℕ) → list_any (eq_by_cmp by_bytes q) names ≡ has_claim s (lock_of l q)) → filter (λ n. has_claim s (lock_of l n)) (finite.keys l) ≡ names
claimed_names l s names up are =
    same_names _ names (IsStrictlySortedBy-filter by_bytes (λ n. has_claim s (lock_of l n)) (finite.keys l) (rising-keys l)) up
    (λ q. any-filter (λ n. has_claim s (lock_of l n)) q (finite.keys l)
    ∙ ap (λ b. has_claim s (lock_of l q) && b) (sym (contains_key-keys l q))
    ∙ there_with_claim s (finite.get l q)
    ∙ sym (are q))

all_same : (l : Locks) (names : List (List ℕ)) → AllByRecursion (λ n. lock_of l n ≡ lock_of l n) names
all_same l [] = tt
all_same l (n ∷ names) = (refl, all_same l names)

-- to drop a session is to take back its claims of the names that it has claims of
drop_session-names : (l : Locks) (s : ℕ) (names : List (List ℕ)) → IsStrictlySortedBy by_bytes names → ((q : List ℕ) → list_any (eq_by_cmp by_bytes q) names ≡ has_claim s (lock_of l q)) → drop_session l s ≡ (all_released s l names, all_notices s (lock_of l) names)
drop_session-names l s names up are =
    dropped s (lock_of l) (finite.keys l) l (rising-keys l) (all_same l (finite.keys l))
    ∙ ap (λ ns. let r : Locks × List Notice = (all_released s l ns, all_notices s (lock_of l) ns) in r) (claimed_names l s names up are)

-- ---- as the code has it

rising-texts : (ks : List (String Global)) → IsStrictlySortedBy string_cmp ks → IsStrictlySortedBy by_bytes (map string_bytes ks)
unfolding IsStrictlySortedBy
rising-texts [] h = tt
rising-texts (k ∷ ks) h = (after k ks h.0, rising-texts ks h.1)
  where
    after : (x : String Global) (ys : List (String Global)) → AllByRecursion (λ y. string_cmp x y ≡ Less) ys → AllByRecursion (λ y. by_bytes (string_bytes x) y ≡ Less) (map string_bytes ys)
    after x [] g = tt
    after x (y ∷ ys) g = (g.0, after x ys g.1)

any-texts : (q : List ℕ) (ks : List (String Global)) → list_any (eq_by_cmp by_bytes q) (map string_bytes ks) ≡ list_any (λ k. is_eq (by_bytes q (string_bytes k))) ks
any-texts q [] = refl
any-texts q (k ∷ ks) = ap (λ b. eq_by_cmp by_bytes q (string_bytes k) || b) (any-texts q ks)

pub drop_session-set : (l : Locks) (s : ℕ) (names : BTreeSet (String Global)) → IsOrdered string_cmp names → ((q : List ℕ) → contains_text names q ≡ has_claim s (lock_of l q)) → drop_session l s ≡ (all_released s l (map string_bytes names.keys), all_notices s (lock_of l) (map string_bytes names.keys))
drop_session-set l s names up are = drop_session-names l s (map string_bytes names.keys) (rising-texts names.keys up) (λ q. any-texts q names.keys ∙ are q)

pub drop_session-none : (l : Locks) (s : ℕ) → ((q : List ℕ) → false ≡ has_claim s (lock_of l q)) → drop_session l s ≡ (l, [])
unfolding IsStrictlySortedBy
drop_session-none l s are = drop_session-names l s [] tt are

-- ---- the locks that a session owns

-- who owns has a claim
owner_claims : (s : ℕ) (k : Lock) → is_first s k.claims ≡ true → has_claim s k ≡ true
owner_claims s k e = by k.claims e
  where
    by : (cs : List Claim) → is_first s cs ≡ true → (list_any (λ c. c.session == s) cs || list_any (λ t. t == s) k.robbed) ≡ true
    by [] h = absurd (subst T (sym h) tt)
    by (c ∷ cs) h = ap (λ b. (b || list_any (λ d. d.session == s) cs) || list_any (λ t. t == s) k.robbed) h

filter-narrow : (p q : List ℕ → Bool) → ((n : List ℕ) → p n ≡ true → q n ≡ true) → (ns : List (List ℕ)) → filter p (filter q ns) ≡ filter p ns
filter-narrow p q then_too [] = refl
filter-narrow p q then_too (n ∷ ns) = by (filter-narrow p q then_too ns) (p n) refl (q n) refl
  where
    by : filter p (filter q ns) ≡ filter p ns → (a : Bool) → p n ≡ a → (b : Bool) → q n ≡ b → filter p (cond b (n ∷ filter q ns) (filter q ns)) ≡ cond (p n) (n ∷ filter p ns) (filter p ns)
    by rest a is true e = ap (cond (p n) (n ∷ filter p (filter q ns))) rest ∙ ap (λ ms. cond (p n) (n ∷ ms) (filter p ns)) rest
    by rest true is false e = absurd (subst T (sym (then_too n is) ∙ e) tt)
    by rest false is false e = rest ∙ ap (λ b. cond b (n ∷ filter p ns) (filter p ns)) (sym is)

owned_names : (l : Locks) (s : ℕ) (names : List (List ℕ)) → filter (λ n. has_claim s (lock_of l n)) (finite.keys l) ≡ names → filter (owns l s) names ≡ filter (owns l s) (finite.keys l)
owned_names l s names are = ap (filter (owns l s)) (sym are) ∙ filter-narrow (owns l s) (λ n. has_claim s (lock_of l n)) (λ n e. owner_claims s (lock_of l n) e) (finite.keys l)

pub owned-set : (l : Locks) (s : ℕ) (names : BTreeSet (String Global)) → IsOrdered string_cmp names → ((q : List ℕ) → contains_text names q ≡ has_claim s (lock_of l q)) → filter (owns l s) (map string_bytes names.keys) ≡ filter (owns l s) (finite.keys l)
owned-set l s names up are = owned_names l s (map string_bytes names.keys) (claimed_names l s (map string_bytes names.keys) (rising-texts names.keys up) (λ q. any-texts q names.keys ∙ are q))

pub owned-none : (l : Locks) (s : ℕ) → ((q : List ℕ) → false ≡ has_claim s (lock_of l q)) → [] ≡ filter (owns l s) (finite.keys l)
unfolding IsStrictlySortedBy
owned-none l s are = owned_names l s [] (claimed_names l s [] tt are)

owned_there : (s : ℕ) (o : Option Lock) → (is_first s (unwrap_or o (record { claims = []; robbed = [] })).claims && is_some o) ≡ is_first s (unwrap_or o (record { claims = []; robbed = [] })).claims
owned_there s None = refl
owned_there s (Some k) = and-true (is_first s k.claims)

-- a name is among them just when the session owns its lock
pub owned-any : (l : Locks) (s : ℕ) (q : List ℕ) → list_any (same_text q) (filter (owns l s) (finite.keys l)) ≡ owns l s q
owned-any l s q =
    (λ i. list_any (λ n. sym (is_eq-slice_cmp q n) i) (filter (owns l s) (finite.keys l)))
    ∙ any-filter (owns l s) q (finite.keys l)
    ∙ ap (λ b. owns l s q && b) (sym (contains_key-keys l q))
    ∙ owned_there s (finite.get l q)

twice : (x a b h : Bool) → cond (x && a) false (cond (x && b) false h) ≡ cond (x && (b || a)) false h
twice true true true h = refl
twice true true false h = refl
twice true false true h = refl
twice true false false h = refl
twice false a b h = refl

has_claim-all : (s t : ℕ) (q : List ℕ) (names : List (List ℕ)) (l : Locks) → has_claim t (lock_of (all_released s l names) q) ≡ cond ((s == t) && list_any (λ n. bytes_eq n q) names) false (has_claim t (lock_of l q))
has_claim-all s t q [] l = ap (λ b. cond b false (has_claim t (lock_of l q))) (sym (and-false (s == t)))
has_claim-all s t q (n ∷ names) l =
    has_claim-all s t q names (released s l n)
    ∙ ap (cond ((s == t) && list_any (λ m. bytes_eq m q) names) false) (has_claim-released l s n t q)
    ∙ twice (s == t) (list_any (λ m. bytes_eq m q) names) (bytes_eq n q) (has_claim t (lock_of l q))

pub indexes_forgotten : (old new : Index) (l : Locks) (s : ℕ) (names : BTreeSet (String Global)) → Indexes old l → Forgets old new s → ((q : List ℕ) → contains_text names q ≡ has_claim s (lock_of l q)) → Indexes new (all_released s l (map string_bytes names.keys))
indexes_forgotten old new l s names are forgets listed t q =
    forgets t q
    ∙ ap (cond (s == t) false) (are t q)
    ∙ at (s == t) refl
    ∙ sym (has_claim-all s t q texts l)
  where
    texts : List (List ℕ)
    texts = map string_bytes names.keys

    any_is : list_any (λ n. bytes_eq n q) texts ≡ has_claim s (lock_of l q)
    any_is = (λ i. list_any (λ n. sym (either_way q n) i) texts) ∙ any-texts q names.keys ∙ listed q

    none_left : (b : Bool) → false ≡ cond b false b
    none_left true = refl
    none_left false = refl

    at : (b : Bool) → (s == t) ≡ b → cond b false (has_claim t (lock_of l q)) ≡ cond (b && list_any (λ n. bytes_eq n q) texts) false (has_claim t (lock_of l q))
    at true e = none_left (has_claim s (lock_of l q)) ∙ (λ i. cond (sym any_is i) false (has_claim ((unsigned_Decides s t).0 e i) (lock_of l q)))
    at false e = refl
