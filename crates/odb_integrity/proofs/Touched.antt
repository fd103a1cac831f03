-- Databases that were changed in some rows alone: which tests these rows decide.
use Rattle.std.specs.Prelude.{◌≡◌, ℕ, zero, suc, ◌+◌, ◌<◌, ◌≤◌, nat_lt, Bool, true, false, ◌&&◌, List, [], ◌∷◌, ◌++◌, length, map as map_list, is_some, unwrap_or, Option, Some, None, option_map}
use Rattle.std.specs.List.{list_any}
use Rattle.std.specs.Ordering.{eq_by_cmp}
use Rattle.std.specs.Cmp.{unsigned_Decides, unsigned_tied}
use mathlib.Core.Path.{refl, sym, ap, subst, ◌∙◌}
use mathlib.Core.Bool.{true≢false}
use Rattle.std.proofs.Common.{arith, take}
use Rattle.std.proofs.lemmas.Bool.Decides.{nat_tests}
use Rattle.std.proofs.lemmas.List.{take_all}
use Rattle.std.proofs.lemmas.List.Folds.{list_any-append}
use Rattle.odb_atoms.proofs.FinMaps.{get-empty}
use Rattle.odb_atoms.proofs.Lists.{any-map, gives_any}
use Rattle.odb_atoms.specs.Row.{Row}
use Rattle.odb_atoms.specs.Uuid.{Uuid, same_uuid, uuid_cmp}
use Rattle.odb_tables.specs.Database.{Db}
use Rattle.odb_integrity.specs.Settlement.{RowId, any_row, at_row, is_there, row_ids, row_of, same_row}
use Rattle.odb_integrity.specs.Touched.{Covers, SameAt, SameBut}
use Rattle.odb_integrity.proofs.Databases.{any-row_ids}
use Rattle.odb_integrity.proofs.Ids.{member}
use Rattle.odb_integrity.proofs.Listings.{any_row-listed}
use Rattle.odb_integrity.proofs.Prunings.{neither, not_found}
use Rattle.odb_integrity.proofs.Settles.{nowhere_passes, passes_nowhere}

-- ---- tests that the rows of a list decide

module _ (p : RowId → Row → Bool) (db : Db) where
  there_at : (x : RowId) → at_row p db x ≡ true → is_there db x ≡ true
  there_at x e = by (row_of db x) e
    where
      by : (o : Option Row) → unwrap_or (option_map (p x) o) false ≡ true → is_some o ≡ true
      by None e = absurd (true≢false (sym e))
      by (Some r) e = refl

  -- one row of which it holds
  pub one_row : (y : RowId) → at_row p db y ≡ true → true ≡ any_row p db
  one_row y e = sym (any_row-listed p db ∙ gives_any (at_row p db) (row_ids db) y (member y (row_ids db) (any-row_ids db y ∙ there_at y e)) e)

  -- it holds of none of the list
  pub no_row : (rows : List RowId) → Covers p db rows → (i : ℕ) → length rows ≤ i → list_any (at_row p db) (take i rows) ≡ false → false ≡ any_row p db
  no_row rows covers i past none = sym (nowhere_passes p db (λ x r there. by x r there (list_any (same_row x) rows) refl))
    where
      by : (x : RowId) (r : Row) → row_of db x ≡ Some r → (b : Bool) → list_any (same_row x) rows ≡ b → p x r ≡ false
      by x r there true e = sym (ap (λ o. unwrap_or (option_map (p x) o) false) there) ∙ not_found (at_row p db) rows (ap (list_any (at_row p db)) (sym (take_all i rows past)) ∙ none) x (member x rows e)
      by x r there false e = covers x r there e

-- ---- rows that weren't touched

module _ (old now : Db) (xs : List RowId) (same : SameBut xs old now) where
  -- a test that none passed before
  pub covers_old : (p : RowId → Row → Bool) → any_row p old ≡ false → Covers p now xs
  covers_old p none x r there absent = passes_nowhere p old none x r (sym (same x absent) ∙ there)

-- ---- the rows that were touched, table by table

tie : (u v : Uuid) → eq_by_cmp uuid_cmp u v ≡ same_uuid u v
tie u v = unsigned_tied u.number v.number

-- those of the table are in the list now
pub own_listed : (k : ℕ) (u : Uuid) (before rows : List RowId) (uuids : List Uuid) → rows ≡ before ++ map_list (λ u. let x : RowId = (k, u) in x) uuids → list_any (same_row (k, u)) rows ≡ false → list_any (eq_by_cmp uuid_cmp u) uuids ≡ false
own_listed k u before rows uuids is absent =
    let added : List RowId = map_list (λ u. let x : RowId = (k, u) in x) uuids in
    (λ i. list_any (λ v. tie u v i) uuids)
    ∙ (λ i. list_any (λ v. sym ((unsigned_Decides k k).1 refl) i && same_uuid u v) uuids)
    ∙ sym (any-map (same_row (k, u)) (λ u. let x : RowId = (k, u) in x) uuids)
    ∙ (neither (list_any (same_row (k, u)) before) (list_any (same_row (k, u)) added) (sym (list_any-append (same_row (k, u)) before added) ∙ ap (list_any (same_row (k, u))) (sym is) ∙ absent)).1

-- what was listed before is listed still
pub others_listed : (old now : Db) (k : ℕ) (before rows added : List RowId) → rows ≡ before ++ added → SameAt k before old now → SameAt k rows old now
others_listed old now k before rows added is h u absent =
    h u (neither (list_any (same_row (k, u)) before) (list_any (same_row (k, u)) added) (sym (list_any-append (same_row (k, u)) before added) ∙ ap (list_any (same_row (k, u))) (sym is) ∙ absent)).0

-- one table more
pub same_so_far : (old now : Db) (before rows : List RowId) (k t : ℕ) → t ≡ k → ((j : ℕ) → j < k → SameAt j before old now) → SameAt t rows old now → ((j : ℕ) → SameAt j before old now → SameAt j rows old now) → (j : ℕ) → j < k + 1 → SameAt j rows old now
same_so_far old now before rows k t at h own others j low = by (nat_lt j k) refl
  where
    below : (m n : ℕ) → nat_lt m n ≡ true → m < n
    below m n e = grind (arith, nat_tests)

    here : (m n : ℕ) → nat_lt m n ≡ false → m < n + 1 → n ≡ m
    here m n e low = grind (arith, nat_tests)

    by : (b : Bool) → nat_lt j k ≡ b → SameAt j rows old now
    by true e = others j (h j (below j k e))
    by false e = subst (λ n. SameAt n rows old now) (at ∙ here j k e low) own

past_end : (db : Db) (k : ℕ) (u : Uuid) → length db ≤ k → row_of db (k, u) ≡ None
past_end [] zero u past = get-empty uuid_cmp u
past_end [] (suc k) u past = get-empty uuid_cmp u
past_end (t ∷ db) zero u past = absurd (omega (arith, past))
past_end (t ∷ db) (suc k) u past = past_end db k u (omega (arith, past))

-- all tables
pub same_by_tables : (old now : Db) (rows : List RowId) (k : ℕ) → length old ≡ length now → length now ≤ k → ((j : ℕ) → j < k → SameAt j rows old now) → SameBut rows old now
same_by_tables old now rows k long past h x absent = by (nat_lt x.0 k) refl
  where
    below : (m n : ℕ) → nat_lt m n ≡ true → m < n
    below m n e = grind (arith, nat_tests)

    above : (m n : ℕ) → nat_lt m n ≡ false → n ≤ m
    above m n e = grind (arith, nat_tests)

    by : (b : Bool) → nat_lt x.0 k ≡ b → row_of now x ≡ row_of old x
    by true e = h x.0 (below x.0 k e) x.1 absent
    by false e =
        let far = above x.0 k e in
        past_end now x.0 x.1 (omega (arith, past, far)) ∙ sym (past_end old x.0 x.1 (omega (arith, past, far, long)))
