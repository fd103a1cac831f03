-- Rows that are taken out one after another are taken out at once.
use Rattle.std.proofs.Common.{◌≡◌, ℕ, zero, suc, Bool, true, false, cond, not, ◌||◌, List, [], ◌∷◌, length, map as map_list, slice_get, slice_set, unwrap_or, Option, Some, None, refl, sym, ap, ◌∙◌}
use Rattle.std.proofs.lemmas.List.{length-map}
use Rattle.std.specs.List.{list_any}
use Rattle.std.specs.Ordering.{eq_by_cmp}
use Rattle.odb_atoms.specs.FinMap as map
use Rattle.odb_atoms.specs.FinSet as set
use Rattle.odb_atoms.specs.Represented.Atom.{uuid_of}
use Rattle.odb_atoms.specs.Uuid.{Uuid, uuid_cmp}
use Rattle.odb_atoms.proofs.Atoms.{uuid_cmp-IsAntisymmetric}
use Rattle.odb_atoms.proofs.FinMaps.{contains_key-keys, get-insert, get-retain_keys, same_map}
use Rattle.odb_ops.specs.Represented.Parts.{without_found, without_rows}
use Rattle.odb_ops.proofs.Drafts.{set_same}
use Rattle.odb_tables.specs.Database.{Table, table_at}
use Rattle.odb_tables.specs.Draft.{Draft, removed_at, without_row}
use Rattle.odb_tables.specs.Represented.Key.{uuid_cmp_total}
use Rattle.odb_tables.proofs.KeyedMaps.{get-remove}

-- how many keys a map has
pub length-keys : {X : Type 0} (m : map.FinMap uuid_cmp X) → length (map.keys m) ≡ map.len m
unfolding map.keys map.len
length-keys m = length-map m.entries (λ e. e.0)

-- a place that is written twice, the second time by what it holds then
pub set_again : {A : Type 0} (f : A → A) (xs : List A) (t : ℕ) (x d : A) → slice_set (slice_set xs t x) t (f (unwrap_or (slice_get (slice_set xs t x) t) d)) ≡ slice_set xs t (f x)
set_again f [] t x d = refl
set_again f (y ∷ xs) zero x d = refl
set_again f (y ∷ xs) (suc t) x d = ap (λ ys. y ∷ ys) (set_again f xs t x d)

-- ---- a table without keys, and a set with them

removes : {X : Type 0} → List Uuid → map.FinMap uuid_cmp X → map.FinMap uuid_cmp X
removes [] m = m
removes (u ∷ us) m = removes us (map.remove m u)

adds : List Uuid → set.FinSet uuid_cmp → set.FinSet uuid_cmp
adds [] s = s
adds (u ∷ us) s = adds us (set.insert s u)

gone_either : {A : Type 0} (a b : Bool) (o : Option A) → cond b None (cond a None o) ≡ cond (a || b) None o
gone_either true true o = refl
gone_either true false o = refl
gone_either false b o = refl

there_either : {A : Type 0} (a b : Bool) (x o : A) → cond b x (cond a x o) ≡ cond (a || b) x o
there_either true true x o = refl
there_either true false x o = refl
there_either false b x o = refl

there_first : {A : Type 0} (a b : Bool) (x o : A) → cond a x (cond b x o) ≡ cond (a || b) x o
there_first true b x o = refl
there_first false b x o = refl

turned : {A : Type 0} (b : Bool) (o : Option A) → cond (not b) o None ≡ cond b None o
turned true o = refl
turned false o = refl

get-removes : {X : Type 0} (us : List Uuid) (m : map.FinMap uuid_cmp X) (q : Uuid) → map.get (removes us m) q ≡ cond (list_any (eq_by_cmp uuid_cmp q) us) None (map.get m q)
unfolding removes
get-removes [] m q = refl
get-removes (u ∷ us) m q =
    get-removes us (map.remove m u) q ∙ ap (cond (list_any (eq_by_cmp uuid_cmp q) us) None) (get-remove m u q)
    ∙ gone_either (eq_by_cmp uuid_cmp q u) (list_any (eq_by_cmp uuid_cmp q) us) (map.get m q)

get-adds : (us : List Uuid) (s : set.FinSet uuid_cmp) (q : Uuid) → map.get (adds us s) q ≡ cond (list_any (eq_by_cmp uuid_cmp q) us) (Some tt) (map.get s q)
unfolding adds
get-adds [] s q = refl
get-adds (u ∷ us) s q =
    get-adds us (set.insert s u) q ∙ ap (cond (list_any (eq_by_cmp uuid_cmp q) us) (Some tt)) (get-insert uuid_cmp_total s u tt q)
    ∙ there_either (eq_by_cmp uuid_cmp q u) (list_any (eq_by_cmp uuid_cmp q) us) (Some tt) (map.get s q)

get-insert_all : (us : List Uuid) (s : set.FinSet uuid_cmp) (q : Uuid) → map.get (set.insert_all s us) q ≡ cond (list_any (eq_by_cmp uuid_cmp q) us) (Some tt) (map.get s q)
get-insert_all [] s q = refl
get-insert_all (u ∷ us) s q =
    get-insert uuid_cmp_total (set.insert_all s us) u tt q ∙ ap (cond (eq_by_cmp uuid_cmp q u) (Some tt)) (get-insert_all us s q)
    ∙ there_first (eq_by_cmp uuid_cmp q u) (list_any (eq_by_cmp uuid_cmp q) us) (Some tt) (map.get s q)

adds_all : (us : List Uuid) (s : set.FinSet uuid_cmp) → adds us s ≡ set.insert_all s us
adds_all us s = same_map uuid_cmp_total uuid_cmp-IsAntisymmetric (adds us s) (set.insert_all s us) (λ q. get-adds us s q ∙ sym (get-insert_all us s q))

removes_all : {X Y : Type 0} (m : map.FinMap uuid_cmp X) (gone : map.FinMap uuid_cmp Y) → removes (map.keys gone) m ≡ map.retain_keys m (λ u. not (map.contains_key gone u))
removes_all m gone =
    let p : Uuid → Bool = λ u. not (map.contains_key gone u) in
    same_map uuid_cmp_total uuid_cmp-IsAntisymmetric (removes (map.keys gone) m) (map.retain_keys m p)
    (λ q. get-removes (map.keys gone) m q ∙ ap (λ b. cond b None (map.get m q)) (sym (contains_key-keys gone q)) ∙ sym (turned (map.contains_key gone q) (map.get m q))
    ∙ sym (get-retain_keys m p q (λ x e. ap p (sym (uuid_cmp-IsAntisymmetric q x e)))))

-- ---- drafts

one_by_one : (t : ℕ) (us : List Uuid) (d : Draft) → without_rows t us d ≡ record d { now = slice_set d.now t (removes us (table_at d.now t)); removed = slice_set d.removed t (adds us (removed_at d t)) }
unfolding removes adds
one_by_one t [] d =
    let now = set_same d.now t map.empty in
    let removed = set_same d.removed t set.empty in
    λ i. record { old = d.old; now = sym now i; removed = sym removed i }
one_by_one t (u ∷ us) d =
    let now = set_again (removes us) d.now t (map.remove (table_at d.now t) u) map.empty in
    let removed = set_again (adds us) d.removed t (set.insert (removed_at d t) u) set.empty in
    one_by_one t us (without_row t u d) ∙ (λ i. record { old = d.old; now = now i; removed = removed i })

pub without_all : (t : ℕ) (gone : Table) (d : Draft) → without_rows t (map.keys gone) d ≡ without_found t gone d
without_all t gone d =
    let now = ap (slice_set d.now t) (removes_all (table_at d.now t) gone) in
    let removed = ap (slice_set d.removed t) (adds_all (map.keys gone) (removed_at d t)) in
    one_by_one t (map.keys gone) d ∙ (λ i. record { old = d.old; now = now i; removed = removed i })

-- ---- results

-- as many as the keys of a map
pub counted : {X : Type 0} (uuids : List (List ℕ)) (m : map.FinMap uuid_cmp X) (n : ℕ) → map_list uuid_of uuids ≡ map.keys m → n ≡ length uuids → n ≡ map.len m
counted uuids m n keys long = long ∙ sym (length-map uuids uuid_of) ∙ ap length keys ∙ length-keys m
