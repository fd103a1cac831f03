-- Loops over the tables of a schema and a database.
use Rattle.std.specs.Prelude.{◌≡◌, ℕ, zero, suc, ◌+◌, ◌-◌, ◌<◌, ◌≤◌, Bool, true, false, not, ◌&&◌, ◌||◌, nat_lt, nat_le, List, [], ◌∷◌, drop, length, sum_by, take, zip, Option, Some}
use Rattle.std.specs.List.{list_all, list_any}
use mathlib.Core.Path.{refl, sym, ap, ◌∙◌}
use Rattle.std.proofs.Common.{add-one, arith, get_or}
use Rattle.std.proofs.lemmas.Bool.Decides.{nat_tests}
use Rattle.std.proofs.lemmas.List.{drop_all, take_all}
use Rattle.std.proofs.lemmas.List.Sums.{sum_by-take-le, sum_by_more}
use Rattle.odb_atoms.specs.ColType.{at_most}
use Rattle.odb_atoms.specs.FinMap as map
use Rattle.odb_schema.specs.Schema.{TableSchema}
use Rattle.odb_tables.specs.Database.{Db, Table, table_at}
use Rattle.odb_integrity.specs.Settlement.{row_count}
use Rattle.odb_integrity.proofs.Prunings.{neither}

zip_suc : (ts : List TableSchema) (db : Db) (k : ℕ) (t : TableSchema) → k < length ts → length db ≡ length ts → t ≡ get_or ts k t → zip (drop k ts) (drop k db) ≡ (t, table_at db k) ∷ zip (drop (suc k) ts) (drop (suc k) db)
zip_suc [] db k t low long is = absurd (omega (arith, low))
zip_suc (x ∷ ts) [] k t low long is = absurd (omega (arith, long))
zip_suc (x ∷ ts) (d ∷ db) zero t low long is = ap (λ y. let e : TableSchema × Table = (y, d) in e ∷ zip ts db) (sym is)
zip_suc (x ∷ ts) (d ∷ db) (suc k) t low long is = zip_suc ts db k t (omega (arith, low)) (omega (arith, long)) is

-- the table at a place that there is
table_there : (db : Db) (k : ℕ) → k < length db → table_at db k ≡ get_or db k (table_at db k)
table_there [] k low = absurd (omega (arith, low))
table_there (t ∷ db) zero low = refl
table_there (t ∷ db) (suc k) low = table_there db k (omega (arith, low))

-- the next table
pub zip_next : (ts : List TableSchema) (db : Db) (k : ℕ) (t : TableSchema) → k < length ts → length db ≡ length ts → t ≡ get_or ts k t → zip (drop k ts) (drop k db) ≡ (t, table_at db k) ∷ zip (drop (k + 1) ts) (drop (k + 1) db)
zip_next ts db k t low long is = zip_suc ts db k t low long is ∙ ap (λ n. let e : TableSchema × Table = (t, table_at db k) in e ∷ zip (drop n ts) (drop n db)) (sym (add-one k))

pub zip_past : (ts : List TableSchema) (db : Db) (k : ℕ) → length ts ≤ k → zip (drop k ts) (drop k db) ≡ []
zip_past ts db k past = ap (λ xs. zip xs (drop k db)) (drop_all k ts past)

-- more than the bound
pub exceeds : (m count : ℕ) (bound : Option ℕ) (t : Table) → Some m ≡ bound → count ≡ map.len t → nat_lt m count ≡ not (at_most nat_le bound (map.len t))
exceeds m count bound t e long = ap (nat_lt m) long ∙ turned m (map.len t) ∙ ap (λ o. not (at_most nat_le o (map.len t))) e
  where
    turned : (m n : ℕ) → nat_lt m n ≡ not (nat_le n m)
    turned m n = grind (arith, nat_tests)

-- no table passes, so this one doesn't
pub none_at_place : (p : TableSchema × Table → Bool) (ts : List TableSchema) (db : Db) (k : ℕ) (t : TableSchema) → k < length ts → length db ≡ length ts → t ≡ get_or ts k t → list_any p (zip ts db) ≡ false → p (t, table_at db k) ≡ false
none_at_place p [] db k t low long is none = absurd (omega (arith, low))
none_at_place p (x ∷ ts) [] k t low long is none = absurd (omega (arith, long))
none_at_place p (x ∷ ts) (d ∷ db) zero t low long is none = ap (λ y. p (y, d)) is ∙ (neither (p (x, d)) (list_any p (zip ts db)) none).0
none_at_place p (x ∷ ts) (d ∷ db) (suc k) t low long is none = none_at_place p ts db k t (omega (arith, low)) (omega (arith, long)) is (neither (p (x, d)) (list_any p (zip ts db)) none).1

-- ---- the number of all rows

-- the next table has more rows than are left of the limit
pub above_limit : (db : Db) (k left limit count : ℕ) → k < length db → left + sum_by map.len (take k db) ≡ limit → count ≡ map.len (table_at db k) → left < count → true ≡ not (nat_le (row_count db) limit)
above_limit db k left limit count low so_far is more =
    let one = sum_by_more map.len db k (table_at db k) low in
    let at : get_or db k (table_at db k) ≡ table_at db k = sym (table_there db k low) in
    let here : map.len (get_or db k (table_at db k)) ≡ map.len (table_at db k) = ap map.len at in
    let upto = sum_by-take-le map.len db (k + 1) in
    sym (ap not (tests (row_count db) limit (omega (arith, one, here, upto, so_far, is, more))))
  where
    tests : (m n : ℕ) → n < m → nat_le m n ≡ false
    tests m n h = grind (arith, nat_tests)

-- it hasn't
pub limit_left : (db : Db) (k left limit count : ℕ) → k < length db → left + sum_by map.len (take k db) ≡ limit → count ≡ map.len (table_at db k) → count ≤ left → left - count + sum_by map.len (take (k + 1) db) ≡ limit
limit_left db k left limit count low so_far is upto =
    let one = sum_by_more map.len db k (table_at db k) low in
    let here : map.len (get_or db k (table_at db k)) ≡ map.len (table_at db k) = ap map.len (sym (table_there db k low)) in
    omega (arith, one, here, so_far, is, upto)

-- all tables were counted
pub within_limit : (db : Db) (k left limit : ℕ) → length db ≤ k → left + sum_by map.len (take k db) ≡ limit → false ≡ not (nat_le (row_count db) limit)
within_limit db k left limit past so_far =
    let all : sum_by map.len (take k db) ≡ row_count db = ap (sum_by map.len) (take_all k db past) in
    sym (ap not (tests (row_count db) limit (omega (arith, all, so_far))))
  where
    tests : (m n : ℕ) → m ≤ n → nat_le m n ≡ true
    tests m n h = grind (arith, nat_tests)

-- a test of all tables, of which one fails or holds of the next
module _ (p : TableSchema × Table → Bool) (ts : List TableSchema) (db : Db) (k : ℕ) (t : TableSchema) (all : Bool) (low : k < length ts) (long : length db ≡ length ts) (is : t ≡ get_or ts k t) (left : list_all p (zip (drop k ts) (drop k db)) ≡ all) (b : Bool) (answer : b ≡ not (p (t, table_at db k))) where
  next : list_all p (zip (drop k ts) (drop k db)) ≡ (p (t, table_at db k) && list_all p (zip (drop (k + 1) ts) (drop (k + 1) db)))
  next = ap (list_all p) (zip_next ts db k t low long is)

  test_is : (b c : Bool) → b ≡ not c → c ≡ not b
  test_is true true e = e
  test_is true false e = refl
  test_is false true e = refl
  test_is false false e = e

  pub one_fails : b ≡ true → true ≡ not all
  one_fails e = sym (ap not (sym left ∙ next ∙ ap (λ c. c && list_all p (zip (drop (k + 1) ts) (drop (k + 1) db))) (test_is b _ answer ∙ ap not e)))

  pub one_passes : b ≡ false → list_all p (zip (drop (k + 1) ts) (drop (k + 1) db)) ≡ all
  one_passes e = sym (next ∙ ap (λ c. c && list_all p (zip (drop (k + 1) ts) (drop (k + 1) db))) (test_is b _ answer ∙ ap not e)) ∙ left

-- a test of any table, which holds of the next or doesn't
module _ (p : TableSchema × Table → Bool) (ts : List TableSchema) (db : Db) (k : ℕ) (t : TableSchema) (all : Bool) (low : k < length ts) (long : length db ≡ length ts) (is : t ≡ get_or ts k t) (left : list_any p (zip (drop k ts) (drop k db)) ≡ all) (b : Bool) (answer : b ≡ p (t, table_at db k)) where
  any_next : list_any p (zip (drop k ts) (drop k db)) ≡ (p (t, table_at db k) || list_any p (zip (drop (k + 1) ts) (drop (k + 1) db)))
  any_next = ap (list_any p) (zip_next ts db k t low long is)

  pub one_holds : b ≡ true → true ≡ all
  one_holds e = sym (sym left ∙ any_next ∙ ap (λ c. c || list_any p (zip (drop (k + 1) ts) (drop (k + 1) db))) (sym answer ∙ e))

  pub one_lacks : b ≡ false → list_any p (zip (drop (k + 1) ts) (drop (k + 1) db)) ≡ all
  one_lacks e = sym (any_next ∙ ap (λ c. c || list_any p (zip (drop (k + 1) ts) (drop (k + 1) db))) (sym answer ∙ e)) ∙ left
