-- A table of locks answers as the map that it stands for, and changes as it does.
use Rattle.std.specs.Prelude.{◌≡◌, ℕ, Bool, true, false, cond, not, ◌&&◌, T, List, [], ◌∷◌, map, length, string_bytes, Option, Some, None, unwrap_or, IsSome}
use mathlib.Core.Path.{refl, sym, ap, subst, ◌∙◌}
use Rattle.std.specs.declared.cmp.Ordering.{Ordering}
use Rattle.std.specs.declared.cmp.Ordering.TheVariants.{Less, Equal, Greater}
use Rattle.std.specs.declared.string.String.{String}
use Rattle.std.specs.declared.alloc.Global.{Global}
use Rattle.std.specs.BTreeMap.{BTreeMap, IsOrdered, UpdatesBy, get_by_text, is_at, btree_map_len}
use Rattle.std.specs.Cmp.Lexicographic.{slice_cmp, nat_list_cmp_total}
use Rattle.std.specs.FinMap.{IsAntisymmetric, nat_cmp-IsAntisymmetric, slice_cmp-IsAntisymmetric}
use Rattle.std.specs.FinMap.Entries.{below_all, find, is_sorted, same_entries}
use Rattle.std.specs.List.{AllByRecursion}
use Rattle.std.specs.List.Sorted.{IsStrictlySortedBy}
use Rattle.std.specs.Map.{keys_of, lookup}
use Rattle.std.specs.Ordering.{eq_by_cmp, is_eq, is_lt, nat_cmp, ordering_reverse}
use Rattle.std.specs.Str.{bytes_eq}
use Rattle.std.specs.String.{string_cmp}
use Rattle.std.proofs.lemmas.List.{length-map}
use Rattle.std.proofs.lemmas.Map.Text.{btree_map_updates_text, is_eq-slice_cmp}
use Rattle.odb_atoms.specs.FinMap as finite
use Rattle.odb_atoms.proofs.FinMaps.{get-empty, get-insert, get-retain_keys, same_map}
use Rattle.odb_locks.specs.Locks.{Claim, Lock, Locks, is_free, lock_of, put_lock, without}
use Rattle.odb_locks.specs.Represented.Lock.{with_claim}
use Rattle.odb_locks.specs.Represented.LockTable.{locks_in}

abbrev pub by_bytes : List ℕ → List ℕ → Ordering
by_bytes = slice_cmp nat_cmp

pub by_bytes-IsAntisymmetric : IsAntisymmetric by_bytes
by_bytes-IsAntisymmetric = slice_cmp-IsAntisymmetric nat_cmp-IsAntisymmetric

pub same_locks : (l m : Locks) → ((q : List ℕ) → finite.get l q ≡ finite.get m q) → l ≡ m
same_locks = same_map nat_list_cmp_total by_bytes-IsAntisymmetric

abbrev pub named : String Global × Lock → List ℕ × Lock
named e = (string_bytes e.0, e.1)

get-from_entries : (es : List (List ℕ × Lock)) (q : List ℕ) → finite.get (finite.from_entries {R = by_bytes} es) q ≡ find by_bytes q es
get-from_entries [] q = get-empty by_bytes q
get-from_entries (e ∷ es) q = get-insert nat_list_cmp_total (finite.from_entries es) e.0 e.1 q ∙ ap (cond (eq_by_cmp by_bytes q e.0) (Some e.1)) (get-from_entries es q)

find-named : (q : List ℕ) (es : List (String Global × Lock)) → find by_bytes q (map named es) ≡ lookup (is_at (λ k. by_bytes q (string_bytes k))) es
find-named q [] = refl
find-named q (e ∷ es) = ap (cond (eq_by_cmp by_bytes q (string_bytes e.0)) (Some e.1)) (find-named q es)

pub get-locks_in : (m : BTreeMap (String Global) Lock) (q : List ℕ) → finite.get (locks_in m) q ≡ get_by_text m q
get-locks_in m q = get-from_entries (map named m.entries) q ∙ find-named q m.entries

is_eq-reverse : (r : Ordering) → is_eq (ordering_reverse r) ≡ is_eq r
is_eq-reverse Less = refl
is_eq-reverse Equal = refl
is_eq-reverse Greater = refl

pub either_way : (q k : List ℕ) → eq_by_cmp by_bytes q k ≡ bytes_eq k q
either_way q k = ap is_eq (nat_list_cmp_total.antisymm q k) ∙ is_eq-reverse (by_bytes k q) ∙ is_eq-slice_cmp k q

pub get-remove : (l : Locks) (k q : List ℕ) → finite.get (finite.remove l k) q ≡ cond (bytes_eq k q) None (finite.get l q)
get-remove l k q =
    get-retain_keys l (λ x. not (eq_by_cmp by_bytes k x)) q (λ x t. ap (λ y. not (eq_by_cmp by_bytes k y)) (sym (by_bytes-IsAntisymmetric q x t)))
    ∙ turned (eq_by_cmp by_bytes k q)
    ∙ ap (λ b. cond b None (finite.get l q)) (is_eq-slice_cmp k q)
  where
    turned : (b : Bool) → cond (not b) (finite.get l q) None ≡ cond b None (finite.get l q)
    turned true = refl
    turned false = refl

pub get-put : (l : Locks) (k : List ℕ) (x : Lock) (q : List ℕ) → finite.get (finite.insert l k x) q ≡ cond (bytes_eq k q) (Some x) (finite.get l q)
get-put l k x q = get-insert nat_list_cmp_total l k x q ∙ ap (λ b. cond b (Some x) (finite.get l q)) (either_way q k)

-- ---- a change of the table is one of the map

after : (bs : List ℕ) (m n : BTreeMap (String Global) Lock) (w : Option Lock) → UpdatesBy string_cmp (λ k. by_bytes bs (string_bytes k)) m n w → (q : List ℕ) → finite.get (locks_in n) q ≡ cond (bytes_eq bs q) w (finite.get (locks_in m) q)
after bs m n w h q = get-locks_in n q ∙ btree_map_updates_text bs m n w h q ∙ ap (cond (bytes_eq bs q) w) (sym (get-locks_in m q))

pub inserted : (bs : List ℕ) (m n : BTreeMap (String Global) Lock) (x : Lock) → UpdatesBy string_cmp (λ k. by_bytes bs (string_bytes k)) m n (Some x) → locks_in n ≡ finite.insert (locks_in m) bs x
inserted bs m n x h = same_locks _ _ (λ q. after bs m n (Some x) h q ∙ sym (get-put (locks_in m) bs x q))

pub removed : (bs : List ℕ) (m n : BTreeMap (String Global) Lock) → UpdatesBy string_cmp (λ k. by_bytes bs (string_bytes k)) m n None → locks_in n ≡ finite.remove (locks_in m) bs
removed bs m n h = same_locks _ _ (λ q. after bs m n None h q ∙ sym (get-remove (locks_in m) bs q))

pub remove-insert : (l : Locks) (k : List ℕ) (x : Lock) → finite.remove (finite.insert l k x) k ≡ finite.remove l k
remove-insert l k x = same_locks _ _ (λ q. get-remove _ k q ∙ ap (cond (bytes_eq k q) None) (get-put l k x q) ∙ shadowed (bytes_eq k q) _ ∙ sym (get-remove l k q))
  where
    shadowed : (b : Bool) (o : Option Lock) → cond b None (cond b (Some x) o) ≡ cond b None o
    shadowed true o = refl
    shadowed false o = refl

pub same_bytes : (k q : List ℕ) → bytes_eq k q ≡ true → k ≡ q
same_bytes k q e = by_bytes-IsAntisymmetric k q (tied (by_bytes k q) (is_eq-slice_cmp k q ∙ e))
  where
    tied : (r : Ordering) → is_eq r ≡ true → r ≡ Equal
    tied Less e = absurd (subst T (sym e) tt)
    tied Equal e = refl
    tied Greater e = absurd (subst T (sym e) tt)

pub remove_absent : (l : Locks) (k : List ℕ) → finite.get l k ≡ None → finite.remove l k ≡ l
remove_absent l k none = same_locks _ _ (λ q. get-remove l k q ∙ at q (bytes_eq k q) refl)
  where
    at : (q : List ℕ) (b : Bool) → bytes_eq k q ≡ b → cond b None (finite.get l q) ≡ finite.get l q
    at q true e = sym (ap (finite.get l) (sym (same_bytes k q e)) ∙ none)
    at q false e = refl

pub insert_same : (l : Locks) (k : List ℕ) (x : Lock) → Some x ≡ finite.get l k → finite.insert l k x ≡ l
insert_same l k x is = same_locks _ _ (λ q. get-put l k x q ∙ at q (bytes_eq k q) refl)
  where
    at : (q : List ℕ) (b : Bool) → bytes_eq k q ≡ b → cond b (Some x) (finite.get l q) ≡ finite.get l q
    at q true e = is ∙ ap (finite.get l) (same_bytes k q e)
    at q false e = refl

-- ---- what a look-up of the table found is the lock of the name

pub found : (bs : List ℕ) (l : Locks) (m : BTreeMap (String Global) Lock) (o : Option Lock) → locks_in m ≡ l → o ≡ get_by_text m bs → o ≡ finite.get l bs
found bs l m o is e = e ∙ sym (get-locks_in m bs) ∙ ap (λ (k : Locks). finite.get k bs) is

pub lock_of-found : (bs : List ℕ) (l : Locks) (m : BTreeMap (String Global) Lock) (o : Option Lock) → locks_in m ≡ l → o ≡ get_by_text m bs → unwrap_or o (record { claims = []; robbed = [] }) ≡ lock_of l bs
lock_of-found bs l m o is e = ap (λ p. unwrap_or p (record { claims = []; robbed = [] })) (found bs l m o is e)

-- a lock that was found and written to
abbrev pub Writes : List ℕ → BTreeMap (String Global) Lock → BTreeMap (String Global) Lock → Lock → Type 0
Writes bs m n y = IsSome (get_by_text m bs) → UpdatesBy string_cmp (λ k. by_bytes bs (string_bytes k)) m n (Some y)

pub written : (bs : List ℕ) (l : Locks) (m n : BTreeMap (String Global) Lock) (x y : Lock) → locks_in m ≡ l → Some x ≡ get_by_text m bs → Writes bs m n y → locks_in n ≡ finite.insert l bs y
written bs l m n x y is e writes = inserted bs m n y (writes (subst IsSome e refl)) ∙ ap (λ (k : Locks). finite.insert k bs y) is

pub claimed : (bs : List ℕ) (l : Locks) (m n : BTreeMap (String Global) Lock) (x y : Lock) (c : Claim) → locks_in m ≡ l → Some x ≡ get_by_text m bs → Writes bs m n y → y ≡ with_claim c x → locks_in n ≡ finite.insert l bs (with_claim c (lock_of l bs))
claimed bs l m n x y c is e writes new = written bs l m n x y is e writes ∙ ap (finite.insert l bs) (new ∙ ap (with_claim c) (lock_of-found bs l m (Some x) is e))

pub kept : (bs : List ℕ) (l : Locks) (m n : BTreeMap (String Global) Lock) (x y : Lock) → locks_in m ≡ l → Some x ≡ get_by_text m bs → Writes bs m n y → y ≡ x → locks_in n ≡ l
kept bs l m n x y is e writes same = written bs l m n x y is e writes ∙ ap (finite.insert l bs) same ∙ insert_same l bs x (found bs l m (Some x) is e)

pub claimed_anew : (bs : List ℕ) (l : Locks) (m m' n : BTreeMap (String Global) Lock) (y : Lock) (c : Claim) (key : String Global) → locks_in m ≡ l → m' ≡ m → None ≡ get_by_text m bs → string_bytes key ≡ bs → UpdatesBy string_cmp (string_cmp key) m' n (Some y) → y ≡ with_claim c (record { claims = []; robbed = [] }) → locks_in n ≡ finite.insert l bs (with_claim c (lock_of l bs))
claimed_anew bs l m m' n y c key is same e bytes h new =
    inserted (string_bytes key) m' n y h
    ∙ (λ i. finite.insert ((ap locks_in same ∙ is) i) (bytes i) (new i))
    ∙ ap (λ k. finite.insert l bs (with_claim c k)) (lock_of-found bs l m None is e)

-- ---- a release

pub put_if_free : (l : Locks) (name : List ℕ) (k : Lock) → is_free k ≡ true → put_lock l name k ≡ finite.remove l name
put_if_free l name k e = ap (λ b. cond b (finite.remove l name) (finite.insert l name k)) e

pub put_if_claimed : (l : Locks) (name : List ℕ) (k : Lock) → is_free k ≡ false → put_lock l name k ≡ finite.insert l name k
put_if_claimed l name k e = ap (λ b. cond b (finite.remove l name) (finite.insert l name k)) e

pub nothing_released : (bs : List ℕ) (l : Locks) (m n : BTreeMap (String Global) Lock) (s : ℕ) → locks_in m ≡ l → None ≡ get_by_text m bs → n ≡ m → locks_in n ≡ put_lock l bs (without s (lock_of l bs))
nothing_released bs l m n s is e same =
    ap locks_in same ∙ is ∙ sym (remove_absent l bs (sym (found bs l m None is e)))
    ∙ ap (λ k. put_lock l bs (without s k)) (lock_of-found bs l m None is e)

pub released : (bs : List ℕ) (l : Locks) (m n : BTreeMap (String Global) Lock) (s : ℕ) (x y : Lock) → locks_in m ≡ l → Some x ≡ get_by_text m bs → Writes bs m n y → y ≡ without s x → is_free y ≡ false → locks_in n ≡ put_lock l bs (without s (lock_of l bs))
released bs l m n s x y is e writes new claimed =
    written bs l m n x y is e writes
    ∙ sym (put_if_claimed l bs y claimed)
    ∙ ap (put_lock l bs) (new ∙ ap (without s) (lock_of-found bs l m (Some x) is e))

pub freed : (bs : List ℕ) (l : Locks) (m n n' : BTreeMap (String Global) Lock) (s : ℕ) (x y : Lock) → locks_in m ≡ l → Some x ≡ get_by_text m bs → Writes bs m n y → y ≡ without s x → is_free y ≡ true → UpdatesBy string_cmp (λ k. by_bytes bs (string_bytes k)) n n' None → locks_in n' ≡ put_lock l bs (without s (lock_of l bs))
freed bs l m n n' s x y is e writes new free h =
    removed bs n n' h
    ∙ ap (λ (k : Locks). finite.remove k bs) (written bs l m n x y is e writes)
    ∙ remove-insert l bs y
    ∙ sym (put_if_free l bs y free)
    ∙ ap (put_lock l bs) (new ∙ ap (without s) (lock_of-found bs l m (Some x) is e))

-- ---- its length

both : (a b : Bool) → T a → T b → T (a && b)
both true b p q = q
both false b p q = p

below-named : (x : String Global) (es : List (String Global × Lock)) → AllByRecursion (λ y. string_cmp x y ≡ Less) (keys_of es) → T (below_all by_bytes (string_bytes x) (map named es))
below-named x [] h = tt
below-named x (e ∷ es) h = both _ _ (subst (λ r. T (is_lt r)) (sym h.0) tt) (below-named x es h.1)

sorted-named : (es : List (String Global × Lock)) → IsStrictlySortedBy string_cmp (keys_of es) → T (is_sorted by_bytes (map named es))
unfolding IsStrictlySortedBy
sorted-named [] h = tt
sorted-named (e ∷ es) h = both _ _ (below-named e.0 es h.0) (sorted-named es h.1)

pub entries-locks_in : (m : BTreeMap (String Global) Lock) → IsOrdered string_cmp m → (locks_in m).entries ≡ map named m.entries
unfolding finite.get
entries-locks_in m h = same_entries by_bytes nat_list_cmp_total by_bytes-IsAntisymmetric (locks_in m).entries (map named m.entries) (locks_in m).sorted (sorted-named m.entries h) (get-from_entries (map named m.entries))

pub len-locks_in : (m : BTreeMap (String Global) Lock) → IsOrdered string_cmp m → finite.len (locks_in m) ≡ btree_map_len m
unfolding finite.len
len-locks_in m h = ap length (entries-locks_in m h) ∙ length-map m.entries named
