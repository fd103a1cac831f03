-- Which references types of columns make, and what pruning leaves of strong ones.
use Rattle.std.specs.Prelude.{◌≡◌, ◌⊎◌, ℕ, zero, suc, Bool, true, false, cond, not, ◌&&◌, ◌||◌, List, [], ◌∷◌, ◌++◌, filter_map, flat_map, map as map_list, slice_get, zip, unwrap_or, Option, Some, None, option_and_then, option_map}
use Rattle.std.specs.List.{list_any}
use mathlib.Core.Path.{refl, sym, ap, ◌∙◌}
use mathlib.Core.Logic.{inl, inr}
use mathlib.Core.Bool.{true≢false}
use Rattle.odb_atoms.specs.Atom.{Atom, boolean, integer, text, uuid}
use Rattle.odb_atoms.specs.ColType.{Base, ColType, Reference, value_base}
use Rattle.odb_atoms.specs.FinMap as map
use Rattle.odb_atoms.specs.FinSet as set
use Rattle.odb_atoms.specs.Row.{Row}
use Rattle.odb_atoms.specs.Value.{Value, map_of, set_of}
use Rattle.odb_schema.specs.Schema.{Column, Schema, TableSchema, columns_at, table_place}
use Rattle.odb_tables.specs.Database.{Db}
use Rattle.odb_integrity.specs.References.{has_type, is_mixed, is_strong}
use Rattle.odb_integrity.specs.Settlement.{RowId, is_stale, is_weak, pruned_row, pruned_value, referent, strong_of_row, strong_of_value, strong_target, target, weak_target}
use Rattle.odb_integrity.specs.Steps.{has_stale}
use Rattle.odb_integrity.proofs.Named.{none_named}
use Rattle.odb_integrity.proofs.Prunings.{neither, value_same}

pub nowhere : {A : Type 0} (p : A → Bool) → ((x : A) → p x ≡ false) → (xs : List A) → list_any p xs ≡ false
nowhere p h [] = refl
nowhere p h (x ∷ xs) = λ i. h x i || nowhere p h xs i

-- ---- the targets of types

pub strong_none : (s : Schema) (b : Base) → is_strong b ≡ false → strong_target s b ≡ None
strong_none s b e = by b.reference e
  where
    turned : (b : Bool) → not b ≡ false → b ≡ true
    turned true e = refl
    turned false e = absurd (true≢false e)

    by : (o : Option Reference) → unwrap_or (option_map (λ r. not r.weak) o) false ≡ false → cond (unwrap_or (option_map (λ r. r.weak) o) false) None (option_and_then (λ r. table_place s r.table) o) ≡ None
    by None e = refl
    by (Some r) e = ap (λ b. cond b None (table_place s r.table)) (turned r.weak e)

weak_none : (s : Schema) (b : Base) → is_weak b ≡ false → weak_target s b ≡ None
weak_none s b e = ap (λ w. cond w (target s b) None) e

weak_not_strong : (b : Base) → is_weak b ≡ true → is_strong b ≡ false
weak_not_strong b e = by b.reference e
  where
    by : (o : Option Reference) → unwrap_or (option_map (λ r. r.weak) o) false ≡ true → unwrap_or (option_map (λ r. not r.weak) o) false ≡ false
    by None e = refl
    by (Some r) e = ap not e

abbrev pub NoStrong : Schema → ColType → Type 0
NoStrong s t = (strong_target s t.key ≡ None) × (strong_target s (value_base t) ≡ None)

abbrev NoWeak : Schema → ColType → Type 0
NoWeak s t = (weak_target s t.key ≡ None) × (weak_target s (value_base t) ≡ None)

-- a type that isn't mixed has no strong references, or no weak ones
not_mixed : (s : Schema) (t : ColType) → is_mixed t ≡ false → NoStrong s t ⊎ NoWeak s t
not_mixed s t e = by (is_weak t.key) refl (is_weak (value_base t)) refl
  where
    h : ((is_weak t.key && is_strong (value_base t)) ≡ false) × ((is_weak (value_base t) && is_strong t.key) ≡ false)
    h = neither (is_weak t.key && is_strong (value_base t)) (is_weak (value_base t) && is_strong t.key) e

    by : (k : Bool) → is_weak t.key ≡ k → (v : Bool) → is_weak (value_base t) ≡ v → NoStrong s t ⊎ NoWeak s t
    by true key v value = inl (strong_none s t.key (weak_not_strong t.key key), strong_none s (value_base t) (sym (ap (λ b. b && is_strong (value_base t)) key) ∙ h.0))
    by false key true value = inl (strong_none s t.key (sym (ap (λ b. b && is_strong t.key) value) ∙ h.1), strong_none s (value_base t) (weak_not_strong (value_base t) value))
    by false key false value = inr (weak_none s t.key key, weak_none s (value_base t) value)

-- ---- values

nothing_stale : (db : Db) (k : Option ℕ) → k ≡ None → (a : Atom) → is_stale db k a ≡ false
nothing_stale db k e a = ap (λ k. is_stale db k a) e ∙ by a
  where
    by : (a : Atom) → is_stale db None a ≡ false
    by (integer z) = refl
    by (boolean b) = refl
    by (text t) = refl
    by (uuid u) = refl

fresh_value : (s : Schema) (db : Db) (t : ColType) → NoWeak s t → (v : Value) → has_stale s db t v ≡ false
fresh_value s db t h (set_of x) = nowhere (is_stale db (weak_target s t.key)) (nothing_stale db (weak_target s t.key) h.0) (set.items x)
fresh_value s db t h (map_of m) = nowhere (λ e. is_stale db (weak_target s t.key) e.0 || is_stale db (weak_target s (value_base t)) e.1) (λ e i. nothing_stale db (weak_target s t.key) h.0 e.0 i || nothing_stale db (weak_target s (value_base t)) h.1 e.1 i) (map.entries_of m)

pub no_strong : (s : Schema) (t : ColType) → NoStrong s t → (v : Value) → strong_of_value s t v ≡ []
no_strong s t h (set_of x) = ap (λ k. filter_map (referent k) (set.items x)) h.0 ∙ none_named (set.items x)
no_strong s t h (map_of m) = (λ i. filter_map (referent (h.0 i)) (map.keys m) ++ filter_map (referent (h.1 i)) (map.values m)) ∙ (λ i. none_named (map.keys m) i ++ none_named (map.values m) i)

value_strong : (s : Schema) (db : Db) (t : ColType) (v : Value) → is_mixed t ≡ false → strong_of_value s t (pruned_value s db t v) ≡ strong_of_value s t v
value_strong s db t v e = by (not_mixed s t e)
  where
    by : NoStrong s t ⊎ NoWeak s t → strong_of_value s t (pruned_value s db t v) ≡ strong_of_value s t v
    by (inl h) = no_strong s t h (pruned_value s db t v) ∙ sym (no_strong s t h v)
    by (inr h) = ap (strong_of_value s t) (value_same s db t v (fresh_value s db t h v))

-- ---- rows

-- no column of a table has the type, where none of the schema has
none_at_table : (p : ColType → Bool) (s : Schema) → has_type p s ≡ false → (k : ℕ) → list_any (λ c. p c.type) (columns_at s k) ≡ false
none_at_table p s e k = at s.tables k e
  where
    at : (ts : List TableSchema) (k : ℕ) → list_any (λ t. list_any (λ c. p c.type) t.columns) ts ≡ false → list_any (λ c. p c.type) (unwrap_or (option_map (λ t. t.columns) (slice_get ts k)) []) ≡ false
    at [] zero e = refl
    at [] (suc k) e = refl
    at (t ∷ ts) zero e = (neither (list_any (λ c. p c.type) t.columns) (list_any (λ t. list_any (λ c. p c.type) t.columns) ts) e).0
    at (t ∷ ts) (suc k) e = at ts k (neither (list_any (λ c. p c.type) t.columns) (list_any (λ t. list_any (λ c. p c.type) t.columns) ts) e).1

module _ (s : Schema) (db : Db) where
  cells_strong : (cs : List Column) (vs : List Value) → list_any (λ c. is_mixed c.type) cs ≡ false → flat_map (λ e. strong_of_value s e.0.type e.1) (zip cs (map_list (λ e. pruned_value s db e.0.type e.1) (zip cs vs))) ≡ flat_map (λ e. strong_of_value s e.0.type e.1) (zip cs vs)
  cells_strong [] vs h = refl
  cells_strong (c ∷ cs) [] h = refl
  cells_strong (c ∷ cs) (v ∷ vs) h =
      let parts = neither (is_mixed c.type) (list_any (λ c. is_mixed c.type) cs) h in
      λ i. value_strong s db c.type v parts.0 i ++ cells_strong cs vs parts.1 i

  -- pruning leaves each strong reference, where no column is mixed
  pub row_strong : has_type is_mixed s ≡ false → (x : RowId) (r : Row) → strong_of_row s x (pruned_row s db x r) ≡ strong_of_row s x r
  row_strong e x r = cells_strong (columns_at s x.0) r.columns (none_at_table is_mixed s e x.0)
