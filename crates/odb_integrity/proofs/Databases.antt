-- Databases by their rows: the ids of all rows, the row of an id, and what it is after a change of one row or of each.
use Rattle.std.specs.Prelude.{◌≡◌, ℕ, zero, suc, ◌+◌, ◌<◌, Bool, true, false, cond, not, ◌&&◌, ◌||◌, ◌==◌, List, [], ◌∷◌, ◌++◌, flat_map, length, map as map_list, take, slice_set, is_some, Option, Some, None, option_and_then}
use Rattle.std.specs.List.{enumerate_from, list_any}
use Rattle.std.specs.Ordering.{eq_by_cmp}
use Rattle.std.specs.Cmp.{unsigned_Decides, unsigned_tied}
use mathlib.Core.Path.{refl, sym, ap, ◌∙◌}
use Rattle.std.proofs.Common.{add-one, append_assoc, arith}
use Rattle.std.proofs.lemmas.Bool.Decides.{nat_tests}
use mathlib.Core.Bool.{true≢false}
use Rattle.std.proofs.Common.{get_or}
use Rattle.std.proofs.Math.ListN.{length-set}
use Rattle.std.proofs.lemmas.List.{append-nil}
use Rattle.std.proofs.lemmas.List.Folds.{list_any-append, list_any_more}
use Rattle.odb_atoms.specs.FinMap as map
use Rattle.odb_atoms.specs.Row.{Row}
use Rattle.odb_atoms.specs.Uuid.{Uuid, same_uuid, uuid_cmp}
use Rattle.odb_atoms.proofs.Atoms.{uuid_cmp-IsAntisymmetric}
use Rattle.odb_atoms.proofs.FinMaps.{contains_key-keys, get-empty, get-insert, get-map_entries, get-retain_keys, same_map}
use Rattle.odb_atoms.proofs.Lists.{any-map}
use Rattle.odb_tables.specs.Database.{Db, Table, table_at}
use Rattle.odb_tables.specs.Represented.Key.{uuid_cmp_total}
use Rattle.odb_integrity.specs.Settlement.{RowId, each_row, is_there, row_ids, row_of, same_row}
use Rattle.odb_integrity.specs.Steps.{without_rows}

-- ---- the ids of all rows

-- those of a table at a place
abbrev pub ids_at : ℕ → Table → List RowId
ids_at k t = map_list (λ u. (k, u)) (map.keys t)

-- those of tables of which the first is at a place
abbrev pub ids_from : ℕ → Db → List RowId
ids_from n db = flat_map (λ e. ids_at e.0 e.1) (enumerate_from n db)

pub any_both : {A : Type 0} (b : Bool) (p : A → Bool) (xs : List A) → list_any (λ x. b && p x) xs ≡ (b && list_any p xs)
any_both true p xs = refl
any_both false p [] = refl
any_both false p (x ∷ xs) = any_both false p xs

any-ids_at : (k : ℕ) (t : Table) (x : RowId) → list_any (same_row x) (ids_at k t) ≡ ((x.0 == k) && is_some (map.get t x.1))
any-ids_at k t x =
    any-map (same_row x) (λ u. (k, u)) (map.keys t)
    ∙ any_both (x.0 == k) (same_uuid x.1) (map.keys t)
    ∙ sym (λ i. (x.0 == k) && list_any (λ u. unsigned_tied x.1.number u.number i) (map.keys t))
    ∙ ap (λ b. (x.0 == k) && b) (sym (contains_key-keys t x.1))

test_differs : (m n : ℕ) → m < n → (m == n) ≡ false
test_differs m n h = grind (arith, nat_tests)

test_exceeds : (m n k : ℕ) → m ≡ n + suc k → (m == n) ≡ false
test_exceeds m n k h = grind (arith, nat_tests)

none_before : (db : Db) (n m : ℕ) (u : Uuid) → m < n → list_any (same_row (m, u)) (ids_from n db) ≡ false
none_before [] n m u low = refl
none_before (t ∷ db) n m u low =
    list_any-append (same_row (m, u)) (ids_at n t) (ids_from (n + 1) db)
    ∙ ap (λ b. b || list_any (same_row (m, u)) (ids_from (n + 1) db)) (any-ids_at n t (m, u) ∙ ap (λ b. b && is_some (map.get t u)) (test_differs m n low))
    ∙ none_before db (n + 1) m u (omega arith)

any-ids_from : (db : Db) (n k m : ℕ) (u : Uuid) → m ≡ n + k → list_any (same_row (m, u)) (ids_from n db) ≡ is_some (map.get (table_at db k) u)
any-ids_from [] n zero m u e = sym (ap is_some (get-empty uuid_cmp u))
any-ids_from [] n (suc k) m u e = sym (ap is_some (get-empty uuid_cmp u))
any-ids_from (t ∷ db) n zero m u e =
    list_any-append (same_row (m, u)) (ids_at n t) (ids_from (n + 1) db)
    ∙ (λ i. any-ids_at n t (m, u) i || none_before db (n + 1) m u (omega arith) i)
    ∙ ap (λ b. (b && is_some (map.get t u)) || false) ((unsigned_Decides m n).1 (omega arith))
    ∙ or_false (is_some (map.get t u))
  where
    or_false : (b : Bool) → (b || false) ≡ b
    or_false true = refl
    or_false false = refl
any-ids_from (t ∷ db) n (suc k) m u e =
    list_any-append (same_row (m, u)) (ids_at n t) (ids_from (n + 1) db)
    ∙ ap (λ b. b || list_any (same_row (m, u)) (ids_from (n + 1) db)) (any-ids_at n t (m, u) ∙ ap (λ b. b && is_some (map.get t u)) (test_exceeds m n k e))
    ∙ any-ids_from db (n + 1) k m u (omega arith)

-- an id is listed where its row is there
pub any-row_ids : (db : Db) (x : RowId) → list_any (same_row x) (row_ids db) ≡ is_there db x
any-row_ids db x = any-ids_from db 0 x.0 x.0 x.1 (omega arith)

ids_from-more : (db : Db) (n k m : ℕ) → m ≡ n + k → k < length db → ids_from n (take (suc k) db) ≡ ids_from n (take k db) ++ ids_at m (table_at db k)
ids_from-more [] n k m e low = absurd (omega (arith, low))
ids_from-more (t ∷ db) n zero m e low = append-nil (ids_at n t) ∙ ap (λ k. ids_at k t) (let same : n ≡ m = omega arith in same)
ids_from-more (t ∷ db) n (suc k) m e low = ap (λ ys. ids_at n t ++ ys) (ids_from-more db (n + 1) k m (omega arith) (omega (arith, low))) ∙ sym (append_assoc (ids_at n t) _ _)

-- one table more
pub row_ids-more : (db : Db) (k : ℕ) → k < length db → row_ids (take (k + 1) db) ≡ row_ids (take k db) ++ ids_at k (table_at db k)
row_ids-more db k low = ap (λ n. row_ids (take n db)) (add-one k) ∙ ids_from-more db 0 k k (omega arith) low

-- ---- the row of an id

-- databases with the same rows
pub same_db : (a b : Db) → length a ≡ length b → ((x : RowId) → row_of a x ≡ row_of b x) → a ≡ b
same_db [] [] e h = refl
same_db [] (u ∷ b) e h = absurd (omega (arith, e))
same_db (t ∷ a) [] e h = absurd (omega (arith, e))
same_db (t ∷ a) (u ∷ b) e h = λ i. same_map uuid_cmp_total uuid_cmp-IsAntisymmetric t u (λ q. h (0, q)) i ∷ same_db a b (omega (arith, e)) (λ x. h (suc x.0, x.1)) i

each_from : (RowId → Row → Option Row) → ℕ → Db → Db
each_from f n db = map_list (λ e. map.map_entries (λ u r. f (e.0, u) r) e.1) (enumerate_from n db)

length-each_from : (f : RowId → Row → Option Row) (n : ℕ) (db : Db) → length (each_from f n db) ≡ length db
unfolding each_from
length-each_from f n [] = refl
length-each_from f n (t ∷ db) = ap suc (length-each_from f (n + 1) db)

pub length-each_row : (f : RowId → Row → Option Row) (db : Db) → length (each_row f db) ≡ length db
unfolding each_from
length-each_row f db = length-each_from f 0 db

row_of-each_from : (f : RowId → Row → Option Row) (db : Db) (n k m : ℕ) (u : Uuid) → m ≡ n + k → map.get (table_at (each_from f n db) k) u ≡ option_and_then (f (m, u)) (map.get (table_at db k) u)
unfolding each_from
row_of-each_from f [] n zero m u e = get-empty uuid_cmp u ∙ sym (ap (option_and_then (f (m, u))) (get-empty uuid_cmp u))
row_of-each_from f [] n (suc k) m u e = get-empty uuid_cmp u ∙ sym (ap (option_and_then (f (m, u))) (get-empty uuid_cmp u))
row_of-each_from f (t ∷ db) n zero m u e =
    let same : n ≡ m = omega arith in
    get-map_entries uuid_cmp_total uuid_cmp-IsAntisymmetric (λ u r. f (n, u) r) t u ∙ ap (λ j. option_and_then (f (j, u)) (map.get t u)) same
row_of-each_from f (t ∷ db) n (suc k) m u e = row_of-each_from f db (n + 1) k m u (omega arith)

-- what f makes of the row
pub row_of-each_row : (f : RowId → Row → Option Row) (db : Db) (x : RowId) → row_of (each_row f db) x ≡ option_and_then (f x) (row_of db x)
unfolding each_from
row_of-each_row f db x = row_of-each_from f db 0 x.0 x.0 x.1 (omega arith)

-- ---- a table set

table_at-set : (db : Db) (t : ℕ) (new : Table) (k : ℕ) → t < length db → table_at (slice_set db t new) k ≡ cond (k == t) new (table_at db k)
table_at-set [] t new k low = absurd (omega (arith, low))
table_at-set (x ∷ db) zero new zero low = refl
table_at-set (x ∷ db) zero new (suc k) low = sym (ap (λ b. cond b new (table_at db k)) (test_exceeds (suc k) 0 k (omega arith)))
table_at-set (x ∷ db) (suc t) new zero low = sym (ap (λ b. cond b new x) (test_differs 0 (suc t) (omega arith)))
table_at-set (x ∷ db) (suc t) new (suc k) low = table_at-set db t new k (omega (arith, low)) ∙ ap (λ b. cond b new (table_at db k)) (both_more k t)
  where
    both_more : (k t : ℕ) → (k == t) ≡ (suc k == suc t)
    both_more k t = grind (arith, nat_tests)

get-remove : (m : Table) (k q : Uuid) → map.get (map.remove m k) q ≡ cond (same_uuid q k) None (map.get m q)
get-remove m k q =
    get-retain_keys m (λ x. not (eq_by_cmp uuid_cmp k x)) q (λ x tie. ap (λ y. not (eq_by_cmp uuid_cmp k y)) (sym (uuid_cmp-IsAntisymmetric q x tie)))
    ∙ ap (λ b. cond (not b) (map.get m q) None) (unsigned_tied k.number q.number)
    ∙ by (k.number == q.number) (q.number == k.number) (either_way k.number q.number)
  where
    either_way : (m n : ℕ) → (m == n) ≡ (n == m)
    either_way m n = grind (arith, nat_tests)

    by : (b c : Bool) → b ≡ c → cond (not b) (map.get m q) None ≡ cond c None (map.get m q)
    by true c e = ap (λ d. cond d None (map.get m q)) e
    by false c e = ap (λ d. cond d None (map.get m q)) e

pub row_of-removed : (db : Db) (t : ℕ) (u : Uuid) (x : RowId) → t < length db → row_of (slice_set db t (map.remove (table_at db t) u)) x ≡ cond (same_row x (t, u)) None (row_of db x)
row_of-removed db t u x low = ap (λ m. map.get m x.1) (table_at-set db t (map.remove (table_at db t) u) x.0 low) ∙ by (x.0 == t) refl
  where
    by : (b : Bool) → (x.0 == t) ≡ b → map.get (cond b (map.remove (table_at db t) u) (table_at db x.0)) x.1 ≡ cond (b && same_uuid x.1 u) None (row_of db x)
    by true e = get-remove (table_at db t) u x.1 ∙ ap (λ k. cond (same_uuid x.1 u) None (map.get (table_at db k) x.1)) (sym ((unsigned_Decides x.0 t).0 e))
    by false e = refl

pub row_of-put : (db : Db) (t : ℕ) (u : Uuid) (r : Row) (x : RowId) → t < length db → row_of (slice_set db t (map.insert (table_at db t) u r)) x ≡ cond (same_row x (t, u)) (Some r) (row_of db x)
row_of-put db t u r x low = ap (λ m. map.get m x.1) (table_at-set db t (map.insert (table_at db t) u r) x.0 low) ∙ by (x.0 == t) refl
  where
    by : (b : Bool) → (x.0 == t) ≡ b → map.get (cond b (map.insert (table_at db t) u r) (table_at db x.0)) x.1 ≡ cond (b && same_uuid x.1 u) (Some r) (row_of db x)
    by true e = get-insert uuid_cmp_total (table_at db t) u r x.1 ∙ (λ i. cond (unsigned_tied x.1.number u.number i) (Some r) (map.get (table_at db t) x.1)) ∙ ap (λ k. cond (same_uuid x.1 u) (Some r) (map.get (table_at db k) x.1)) (sym ((unsigned_Decides x.0 t).0 e))
    by false e = refl

-- ---- each row

-- a row that is there is in one of the tables
pub there_inside : (db : Db) (x : RowId) → is_there db x ≡ true → x.0 < length db
there_inside db x e = at db x.0 e
  where
    at : (tables : Db) (k : ℕ) → is_some (map.get (table_at tables k) x.1) ≡ true → k < length tables
    at [] zero e = absurd (true≢false (sym e ∙ ap is_some (get-empty uuid_cmp x.1)))
    at [] (suc k) e = absurd (true≢false (sym e ∙ ap is_some (get-empty uuid_cmp x.1)))
    at (t ∷ tables) zero e = omega arith
    at (t ∷ tables) (suc k) e = let rest = at tables k e in omega arith

-- a function that keeps all rows as they are
pub each_row_same : (f : RowId → Row → Option Row) (db : Db) → ((x : RowId) (r : Row) → row_of db x ≡ Some r → f x r ≡ Some r) → each_row f db ≡ db
each_row_same f db h = same_db (each_row f db) db (length-each_row f db) (λ x. row_of-each_row f db x ∙ by x (row_of db x) refl)
  where
    by : (x : RowId) (o : Option Row) → row_of db x ≡ o → option_and_then (f x) o ≡ o
    by x None e = refl
    by x (Some r) e = h x r e

-- ---- rows taken out one by one

unless_listed : List RowId → RowId → Row → Option Row
unless_listed xs x r = cond (list_any (same_row x) xs) None (Some r)

pub without_none : (db : Db) → db ≡ without_rows [] db
without_none db = sym (each_row_same _ db (λ x r e. refl))

pub without_more : (db : Db) (rows : List RowId) (i : ℕ) (y : RowId) → i < length rows → y ≡ get_or rows i y → y.0 < length db → slice_set (without_rows (take i rows) db) y.0 (map.remove (table_at (without_rows (take i rows) db) y.0) y.1) ≡ without_rows (take (i + 1) rows) db
unfolding unless_listed
without_more db rows i y inside is low =
    let before = without_rows (take i rows) db in
    let long : length before ≡ length db = length-each_row (unless_listed (take i rows)) db in
    same_db (slice_set before y.0 (map.remove (table_at before y.0) y.1)) (without_rows (take (i + 1) rows) db) (length-set before y.0 _ ∙ long ∙ sym (length-each_row (unless_listed (take (i + 1) rows)) db)) (λ x.
    row_of-removed before y.0 y.1 x (omega arith)
    ∙ ap (λ o. cond (same_row x y) None o) (row_of-each_row (unless_listed (take i rows)) db x)
    ∙ tests (row_of db x) (list_any (same_row x) (take i rows)) (same_row x y)
    ∙ ap (λ b. option_and_then (λ r. cond b None (Some r)) (row_of db x)) (ap (λ z. list_any (same_row x) (take i rows) || same_row x z) is ∙ sym (list_any_more (same_row x) rows i y inside))
    ∙ sym (row_of-each_row (unless_listed (take (i + 1) rows)) db x))
  where
    tests : (o : Option Row) (l t : Bool) → cond t None (option_and_then (λ r. cond l None (Some r)) o) ≡ option_and_then (λ r. cond (l || t) None (Some r)) o
    tests None true true = refl
    tests None true false = refl
    tests None false true = refl
    tests None false false = refl
    tests (Some r) true true = refl
    tests (Some r) true false = refl
    tests (Some r) false true = refl
    tests (Some r) false false = refl
