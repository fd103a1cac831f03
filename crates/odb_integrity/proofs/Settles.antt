-- What settlement leaves is settled, so are tables without rows, and what is settled settles to itself.
use Rattle.std.specs.Prelude.{◌≡◌, ◌⊎◌, ℕ, Bool, true, false, cond, not, ◌&&◌, ◌||◌, nat_le, List, [], ◌∷◌, ◌++◌, filter, filter_map, flat_map, length, map as map_list, replicate, zip, is_some, unwrap_or, Option, Some, None, option_and_then, option_map}
use Rattle.std.specs.List.{cons_option, list_all, list_any}
use mathlib.Core.Path.{refl, sym, ap, subst, ◌∙◌}
use mathlib.Core.Logic.{inl, inr}
use mathlib.Core.Bool.{true≢false}
use Rattle.std.proofs.Common.{arith}
use Rattle.std.proofs.lemmas.Bool.Decides.{nat_tests}
use Rattle.std.proofs.lemmas.List.Folds.{list_any-append}
use Rattle.std.proofs.lemmas.Option.{none-some, same_Some}
use Rattle.odb_atoms.proofs.FinMaps.{get-empty}
use Rattle.odb_atoms.proofs.Lists.{Member, any-map, of_filter}
use Rattle.odb_atoms.specs.Atom.{Atom}
use Rattle.odb_atoms.specs.ColType.{ColType, at_most, value_base}
use Rattle.odb_atoms.specs.Error.{referential_integrity_violation}
use Rattle.odb_atoms.specs.First.{Ok, demand, ◌>>◌}
use Rattle.odb_atoms.specs.FinMap as map
use Rattle.odb_atoms.specs.FinSet as set
use Rattle.odb_atoms.specs.Row.{Row}
use Rattle.odb_atoms.specs.Uuid.{uuid_cmp}
use Rattle.odb_atoms.specs.Value.{Pairs, Value, map_of, set_of}
use Rattle.odb_schema.specs.Schema.{Column, Schema, TableSchema, columns_at, is_root_at}
use Rattle.odb_tables.specs.Database.{Db}
use Rattle.odb_tables.specs.Typed.{IsTyped}
use Rattle.odb_integrity.specs.References.{has_type, is_mixed}
use Rattle.odb_integrity.specs.Settled.{IsSettled}
use Rattle.odb_integrity.specs.Settlement.{IsSupported, RowId, any_row, at_row, constrained, dangles, has_dangling, has_duplicates, has_too_few, is_kept, is_stale, is_there, kept, pruned, pruned_row, pruned_value, referent, refers, row_count, row_ids, row_of, same_row, settle, strong_of_row, strong_of_value, strong_target, weak_target, within_max_rows}
use Rattle.odb_integrity.specs.Steps.{has_stale, row_has_stale}
use Rattle.odb_integrity.proofs.Databases.{any-row_ids, each_row_same, row_of-each_row}
use Rattle.odb_integrity.proofs.Ids.{member}
use Rattle.odb_integrity.proofs.KeepsTyped.{Passed, items-retain, left_entry, none_at, settled_passed}
use Rattle.odb_integrity.proofs.Kept.{kept_is_largest, kept_is_supported}
use Rattle.odb_integrity.proofs.Listings.{any_agree, any_row-listed}
use Rattle.odb_integrity.proofs.Prunings.{neither, not_found, row_same}
use Rattle.odb_integrity.proofs.Targets.{row_strong}
use Rattle.odb_integrity.proofs.Settled.{last_test}

not_so : (b : Bool) → not b ≡ true → b ≡ false
not_so true e = sym e
not_so false e = refl

never : {A : Type 0} (xs : List A) → list_any (λ _. false) xs ≡ false
never [] = refl
never (x ∷ xs) = never xs

pub none_found : {A : Type 0} (p : A → Bool) (xs : List A) → ((x : A) → Member x xs → p x ≡ false) → list_any p xs ≡ false
none_found p xs h = any_agree p (λ _. false) xs h ∙ never xs

-- ---- tests that no row passes

module _ (p : RowId → Row → Bool) (db : Db) where
  pub passes_nowhere : any_row p db ≡ false → (x : RowId) (r : Row) → row_of db x ≡ Some r → p x r ≡ false
  passes_nowhere none x r there =
      sym (ap (λ o. unwrap_or (option_map (p x) o) false) there)
      ∙ not_found (at_row p db) (row_ids db) (sym (any_row-listed p db) ∙ none) x (member x (row_ids db) (any-row_ids db x ∙ ap is_some there))

  pub nowhere_passes : ((x : RowId) (r : Row) → row_of db x ≡ Some r → p x r ≡ false) → any_row p db ≡ false
  nowhere_passes h = any_row-listed p db ∙ none_found (at_row p db) (row_ids db) (λ x m. by x (row_of db x) refl)
    where
      by : (x : RowId) (o : Option Row) → row_of db x ≡ o → unwrap_or (option_map (p x) o) false ≡ false
      by x None e = refl
      by x (Some r) e = h x r e

-- ---- the rows to which values refer

pub any-filter_map : {A B : Type 0} (p : B → Bool) (f : A → Option B) (xs : List A) → list_any p (filter_map f xs) ≡ list_any (λ x. unwrap_or (option_map p (f x)) false) xs
any-filter_map p f [] = refl
any-filter_map {B = B} p f (x ∷ xs) = by (f x) (any-filter_map p f xs)
  where
    by : (o : Option B) → list_any p (filter_map f xs) ≡ list_any (λ x. unwrap_or (option_map p (f x)) false) xs → list_any p (cons_option o (filter_map f xs)) ≡ (unwrap_or (option_map p o) false || list_any (λ x. unwrap_or (option_map p (f x)) false) xs)
    by None rest = rest
    by (Some y) rest = ap (λ b. p y || b) rest

pub any-flat_map : {A B : Type 0} (p : B → Bool) (f : A → List B) (xs : List A) → list_any p (flat_map f xs) ≡ list_any (λ x. list_any p (f x)) xs
any-flat_map p f [] = refl
any-flat_map p f (x ∷ xs) = list_any-append p (f x) (flat_map f xs) ∙ ap (λ b. list_any p (f x) || b) (any-flat_map p f xs)

fewer : {A : Type 0} (p q : A → Bool) (xs : List A) → list_any q xs ≡ false → list_any q (filter p xs) ≡ false
fewer p q [] e = refl
fewer p q (x ∷ xs) e =
    let h = neither (q x) (list_any q xs) e in
    let rest = fewer p q xs h.1 in
    elim (p x) as (λ b. list_any q (cond b (x ∷ filter p xs) (filter p xs)) ≡ false) [ true ↦ (λ i. h.0 i || rest i) | false ↦ rest ]

-- ---- databases with rows at the same ids

module _ (a b : Db) (there : (x : RowId) → is_there a x ≡ is_there b x) where
  pub stale_alike : (t : Option ℕ) (x : Atom) → is_stale a t x ≡ is_stale b t x
  stale_alike t x = λ i. unwrap_or (option_map (λ y. not (there y i)) (referent t x)) false

  pub has_stale_alike : (s : Schema) (t : ColType) (v : Value) → has_stale s a t v ≡ has_stale s b t v
  has_stale_alike s t (set_of v) = λ i. list_any (λ x. stale_alike (weak_target s t.key) x i) (set.items v)
  has_stale_alike s t (map_of m) = λ i. list_any (λ e. stale_alike (weak_target s t.key) e.0 i || stale_alike (weak_target s (value_base t)) e.1 i) (map.entries_of m)

-- ---- pruned databases

module _ (s : Schema) (rest : Db) where
  there_pruned : (x : RowId) → is_there (pruned s rest) x ≡ is_there rest x
  there_pruned x = ap is_some (row_of-each_row (λ x r. Some (pruned_row s rest x r)) rest x) ∙ by (row_of rest x)
    where
      by : (o : Option Row) → is_some (option_and_then (λ r. Some (pruned_row s rest x r)) o) ≡ is_some o
      by None = refl
      by (Some r) = refl

  stale_pruned : (t : Option ℕ) (a : Atom) → is_stale (pruned s rest) t a ≡ is_stale rest t a
  stale_pruned = stale_alike (pruned s rest) rest there_pruned

  -- nothing that pruning left is stale
  value_fresh : (t : ColType) (v : Value) → has_stale s (pruned s rest) t (pruned_value s rest t v) ≡ false
  value_fresh t (set_of v) =
      let stale : Atom → Bool = is_stale rest (weak_target s t.key) in
      (λ i. list_any (λ a. stale_pruned (weak_target s t.key) a i) (items-retain v (λ a. not (stale a)) i))
      ∙ none_found stale (filter (λ a. not (stale a)) (set.items v)) (λ a m. not_so (stale a) (of_filter (λ a. not (stale a)) (set.items v) a m))
  value_fresh t (map_of m) =
      let stale : Atom → Atom → Bool = λ k v. is_stale rest (weak_target s t.key) k || is_stale rest (weak_target s (value_base t)) v in
      let left : Pairs = map.map_entries (λ k v. cond (stale k v) None (Some v)) m in
      (λ i. list_any (λ e. stale_pruned (weak_target s t.key) e.0 i || stale_pruned (weak_target s (value_base t)) e.1 i) (map.entries_of left))
      ∙ none_found (λ e. stale e.0 e.1) (map.entries_of left) (λ e there. (left_entry m stale e there).1)

  -- where no strong reference of a value led nowhere, none does in what pruning left
  value_joined : (t : ColType) (v : Value) → list_any (λ y. not (is_there rest y)) (strong_of_value s t v) ≡ false → list_any (λ y. not (is_there (pruned s rest) y)) (strong_of_value s t (pruned_value s rest t v)) ≡ false
  unfolding map.keys
  value_joined t (set_of v) e =
      let k : Option ℕ = strong_target s t.key in
      let p : Atom → Bool = λ a. not (is_stale rest (weak_target s t.key) a) in
      any-filter_map (λ y. not (is_there (pruned s rest) y)) (referent k) (set.items (set.retain v p))
      ∙ (λ i. list_any (λ a. stale_pruned k a i) (items-retain v p i))
      ∙ fewer p (is_stale rest k) (set.items v) (sym (any-filter_map (λ y. not (is_there rest y)) (referent k) (set.items v)) ∙ e)
  value_joined t (map_of m) e =
      let k : Option ℕ = strong_target s t.key in
      let w : Option ℕ = strong_target s (value_base t) in
      let stale : Atom → Atom → Bool = λ k v. is_stale rest (weak_target s t.key) k || is_stale rest (weak_target s (value_base t)) v in
      let left : Pairs = map.map_entries (λ k v. cond (stale k v) None (Some v)) m in
      let h = neither (list_any (is_stale rest k) (map_list (λ e. e.0) m.entries)) (list_any (is_stale rest w) (map_list (λ e. e.1) m.entries)) (sym (apart rest k w m) ∙ e) in
      let keys = sym (any-map (is_stale rest k) (λ (e : Atom × Atom). e.0) m.entries) ∙ h.0 in
      let values = sym (any-map (is_stale rest w) (λ (e : Atom × Atom). e.1) m.entries) ∙ h.1 in
      apart (pruned s rest) k w left
      ∙ (λ i. list_any (λ a. stale_pruned k a i) (map_list (λ e. e.0) left.entries) || list_any (λ a. stale_pruned w a i) (map_list (λ e. e.1) left.entries))
      ∙ (λ i. any-map (is_stale rest k) (λ (e : Atom × Atom). e.0) left.entries i || any-map (is_stale rest w) (λ (e : Atom × Atom). e.1) left.entries i)
      ∙ (λ i. none_found (λ (e : Atom × Atom). is_stale rest k e.0) left.entries (λ e there. not_found (λ (e : Atom × Atom). is_stale rest k e.0) m.entries keys e (left_entry m stale e there).0) i
      || none_found (λ (e : Atom × Atom). is_stale rest w e.1) left.entries (λ e there. not_found (λ (e : Atom × Atom). is_stale rest w e.1) m.entries values e (left_entry m stale e there).0) i)
    where
      apart : (db : Db) (k w : Option ℕ) (m : Pairs) → list_any (λ y. not (is_there db y)) (filter_map (referent k) (map_list (λ e. e.0) m.entries) ++ filter_map (referent w) (map_list (λ e. e.1) m.entries)) ≡ (list_any (is_stale db k) (map_list (λ e. e.0) m.entries) || list_any (is_stale db w) (map_list (λ e. e.1) m.entries))
      apart db k w m =
          let p : RowId → Bool = λ y. not (is_there db y) in
          list_any-append p (filter_map (referent k) (map_list (λ e. e.0) m.entries)) (filter_map (referent w) (map_list (λ e. e.1) m.entries))
          ∙ (λ i. any-filter_map p (referent k) (map_list (λ e. e.0) m.entries) i || any-filter_map p (referent w) (map_list (λ e. e.1) m.entries) i)

  -- a test of the cells that pruning brings about or keeps
  cells_pruned : (p q : Column × Value → Bool) → ((c : Column) (v : Value) → p (c, v) ≡ false → q (c, pruned_value s rest c.type v) ≡ false) → (cs : List Column) (vs : List Value) → list_any p (zip cs vs) ≡ false → list_any q (zip cs (map_list (λ e. pruned_value s rest e.0.type e.1) (zip cs vs))) ≡ false
  cells_pruned p q h [] vs e = refl
  cells_pruned p q h (c ∷ cs) [] e = refl
  cells_pruned p q h (c ∷ cs) (v ∷ vs) e =
      let parts = neither (p (c, v)) (list_any p (zip cs vs)) e in
      λ i. h c v parts.0 i || cells_pruned p q h cs vs parts.1 i

  row_fresh : (x : RowId) (r : Row) → row_has_stale s (pruned s rest) x (pruned_row s rest x r) ≡ false
  row_fresh x r = cells_pruned (λ _. false) (λ e. has_stale s (pruned s rest) e.0.type e.1) (λ c v _. value_fresh c.type v) (columns_at s x.0) r.columns (never (zip (columns_at s x.0) r.columns))

  row_joined : (x : RowId) (r : Row) → dangles s rest x r ≡ false → dangles s (pruned s rest) x (pruned_row s rest x r) ≡ false
  row_joined x r e =
      let led : Db → Column × Value → Bool = λ db e. list_any (λ y. not (is_there db y)) (strong_of_value s e.0.type e.1) in
      any-flat_map (λ y. not (is_there (pruned s rest) y)) (λ (e : Column × Value). strong_of_value s e.0.type e.1) _
      ∙ cells_pruned (led rest) (led (pruned s rest)) (λ c v. value_joined c.type v) (columns_at s x.0) r.columns
      (sym (any-flat_map (λ y. not (is_there rest y)) (λ (e : Column × Value). strong_of_value s e.0.type e.1) (zip (columns_at s x.0) r.columns)) ∙ e)

  -- a test that fails on each row as it is pruned
  none_pruned : (q : RowId → Row → Bool) → ((x : RowId) (r : Row) → row_of rest x ≡ Some r → q x (pruned_row s rest x r) ≡ false) → any_row q (pruned s rest) ≡ false
  none_pruned q h = nowhere_passes q (pruned s rest) (λ x r there. by x r (row_of rest x) refl (sym (row_of-each_row (λ x r. Some (pruned_row s rest x r)) rest x) ∙ there))
    where
      by : (x : RowId) (r : Row) (o : Option Row) → row_of rest x ≡ o → option_and_then (λ r. Some (pruned_row s rest x r)) o ≡ Some r → q x r ≡ false
      by x r None there e = absurd (none-some r e)
      by x r (Some old) there e = ap (q x) (sym (same_Some (pruned_row s rest x old) r e)) ∙ h x old there

-- ---- kept rows of another database

-- a set of rows that is supported in one database is so in another, where these rows are there and refer as they did
pub carried : (s : Schema) (a b : Db) (p : RowId → Bool) → ((x : RowId) → p x ≡ true → is_there b x ≡ true) → ((y x : RowId) → p y ≡ true → refers s a y x ≡ true → refers s b y x ≡ true) → IsSupported s a p → IsSupported s b p
carried s a b p there same h x e = (any-row_ids b x ∙ there x e, by (h x e).1)
  where
    by : (is_root_at s x.0 ≡ true) ⊎ ((y : RowId) × (p y ≡ true) × (same_row x y ≡ false) × (refers s a y x ≡ true)) → (is_root_at s x.0 ≡ true) ⊎ ((y : RowId) × (p y ≡ true) × (same_row x y ≡ false) × (refers s b y x ≡ true))
    by (inl root) = inl root
    by (inr v) = inr (v.0, v.1, v.2, same v.0 x v.1 v.3)

module _ (s : Schema) (db : Db) where
  abbrev left : Db
  left = kept s db

  row_left : (x : RowId) → row_of left x ≡ option_and_then (λ r. cond (is_kept s db x) (Some r) None) (row_of db x)
  row_left x = row_of-each_row (λ x r. cond (is_kept s db x) (Some r) None) db x

  -- who is left was kept
  pub was_kept : (x : RowId) → is_there left x ≡ true → is_kept s db x ≡ true
  was_kept x e = by (row_of db x) (is_kept s db x) (sym (ap is_some (row_left x)) ∙ e)
    where
      by : (o : Option Row) (b : Bool) → is_some (option_and_then (λ r. cond b (Some r) None) o) ≡ true → b ≡ true
      by None b e = absurd (true≢false (sym e))
      by (Some r) true e = refl
      by (Some r) false e = e

  pub kept_left : (x : RowId) → is_kept s db x ≡ true → row_of left x ≡ row_of db x
  kept_left x e = row_left x ∙ ap (λ b. option_and_then (λ r. cond b (Some r) None) (row_of db x)) e ∙ by (row_of db x)
    where
      by : (o : Option Row) → option_and_then (λ r. Some r) o ≡ o
      by None = refl
      by (Some r) = refl

  -- each row that pruning leaves is kept, where no column is mixed
  pub kept_again : has_type is_mixed s ≡ false → (x : RowId) → is_there (pruned s left) x ≡ true → is_kept s (pruned s left) x ≡ true
  kept_again plain x e = kept_is_largest s (pruned s left) (is_kept s db) (carried s db (pruned s left) (is_kept s db) there refer (kept_is_supported s db)) x (was_kept x (sym (there_pruned s left x) ∙ e))
    where
      there : (y : RowId) → is_kept s db y ≡ true → is_there (pruned s left) y ≡ true
      there y k = there_pruned s left y ∙ ap is_some (kept_left y k) ∙ sym (any-row_ids db y) ∙ (kept_is_supported s db y k).0

      pruned_alike : (y z : RowId) (o : Option Row) → unwrap_or (option_map (λ r. list_any (same_row z) (strong_of_row s y r)) (option_and_then (λ r. Some (pruned_row s left y r)) o)) false ≡ unwrap_or (option_map (λ r. list_any (same_row z) (strong_of_row s y r)) o) false
      pruned_alike y z None = refl
      pruned_alike y z (Some r) = ap (list_any (same_row z)) (row_strong s left plain y r)

      refer : (y z : RowId) → is_kept s db y ≡ true → refers s db y z ≡ true → refers s (pruned s left) y z ≡ true
      refer y z k one =
          ap (λ o. unwrap_or (option_map (λ r. list_any (same_row z) (strong_of_row s y r)) o) false) (row_of-each_row (λ x r. Some (pruned_row s left x r)) left y ∙ ap (option_and_then (λ r. Some (pruned_row s left y r))) (kept_left y k))
          ∙ pruned_alike y z (row_of db y) ∙ one

-- what settlement leaves
pub settles : (s : Schema) (max_rows : ℕ) (db new : Db) → settle s max_rows db ≡ Ok new → IsSettled s new
settles s max_rows db new e =
    let rest : Db = kept s db in
    let passed : Passed s rest (pruned s rest) new = settled_passed s max_rows db new e in
    subst (IsSettled s) (sym passed.is) (record {
      kept = kept_again s db;
      joined = none_pruned s rest (dangles s (pruned s rest)) (λ x r there. row_joined s rest x r (passes_nowhere (dangles s rest) rest (not_so _ passed.joined) x r there));
      fresh = none_pruned s rest (row_has_stale s (pruned s rest)) (λ x r there. row_fresh s rest x r);
      filled = not_so _ passed.filled;
      bounded = passed.bounded;
      apart = not_so _ passed.apart;
    })

-- ---- tables without rows

nothing_twice : (t : TableSchema) → has_duplicates (t, map.empty) ≡ false
unfolding map.empty
nothing_twice t = never t.indexes

none_too_many : (t : TableSchema) → within_max_rows (t, map.empty) ≡ true
unfolding map.empty map.len
none_too_many t = by t.max_rows
  where
    low : (n : ℕ) → nat_le 0 n ≡ true
    low n = grind (arith, nat_tests)

    by : (o : Option ℕ) → at_most nat_le o 0 ≡ true
    by None = refl
    by (Some n) = low n

each_bounded : (ts : List TableSchema) → list_all within_max_rows (zip ts (replicate (length ts) map.empty)) ≡ true
each_bounded [] = refl
each_bounded (t ∷ ts) = λ i. none_too_many t i && each_bounded ts i

each_apart : (ts : List TableSchema) → list_any has_duplicates (zip ts (replicate (length ts) map.empty)) ≡ false
each_apart [] = refl
each_apart (t ∷ ts) = λ i. nothing_twice t i || each_apart ts i

pub empty_settled : (s : Schema) → IsSettled s (replicate (length s.tables) map.empty)
empty_settled s =
    let db : Db = replicate (length s.tables) map.empty in
    let none : (p : RowId → Row → Bool) → any_row p db ≡ false = λ p. nowhere_passes p db (λ x r there. absurd (none-some r (sym (ap (λ t. map.get t x.1) (none_at (length s.tables) x.0) ∙ get-empty uuid_cmp x.1) ∙ there))) in
    record { kept = λ plain x there. absurd (true≢false (sym there ∙ ap is_some (ap (λ t. map.get t x.1) (none_at (length s.tables) x.0) ∙ get-empty uuid_cmp x.1))); joined = none (dangles s db); fresh = none (row_has_stale s db); filled = none (has_too_few s); bounded = each_bounded s.tables; apart = each_apart s.tables }

-- ---- settled again

-- A typed and settled database of which every row is kept settles to itself, within the limit of all rows: no more than that is asked of one.
pub settled_again : (s : Schema) (max_rows : ℕ) (db : Db) → IsTyped s db → IsSettled s db → ((x : RowId) → is_there db x ≡ true → is_kept s db x ≡ true) → nat_le (row_count db) max_rows ≡ true → settle s max_rows db ≡ Ok db
unfolding settle
settled_again s max_rows db typed h all low =
    (λ i. ◌>>◌ (demand (not (has_dangling s (same_kept i))) referential_integrity_violation) (constrained s max_rows (pruned s (same_kept i))))
    ∙ (λ i. ◌>>◌ (demand (not (h.joined i)) referential_integrity_violation) (constrained s max_rows (same_pruned i)))
    ∙ last_test s max_rows db h.filled h.bounded h.apart true low
  where
    same_kept : kept s db ≡ db
    same_kept = each_row_same (λ x r. cond (is_kept s db x) (Some r) None) db (λ x r there. ap (λ b. cond b (Some r) None) (all x (ap is_some there)))

    same_pruned : pruned s db ≡ db
    same_pruned = each_row_same (λ x r. Some (pruned_row s db x r)) db (λ x r there. ap Some (row_same s db x r (typed.1 x.0 x.1 r there) (passes_nowhere (row_has_stale s db) db h.fresh x r there)))
