-- Settlement keeps databases of their schema.
use Rattle.std.specs.Prelude.{◌≡◌, ℕ, zero, suc, ◌<◌, replicate, slice_set, Bool, true, false, cond, not, ◌&&◌, ◌||◌, ◌==◌, List, [], ◌∷◌, filter, length, map as map_list, zip, nat_le, is_some, Option, Some, None, option_and_then}
use Rattle.std.specs.List.{list_all, list_any}
use Rattle.std.specs.Cmp.{unsigned_Decides}
use mathlib.Core.Path.{refl, sym, ap, subst, ◌∙◌}
use mathlib.Core.Bool.{true≢false}
use Rattle.std.proofs.Common.{arith}
use Rattle.std.proofs.lemmas.Option.{same_Some}
use Rattle.odb_atoms.proofs.Atoms.{atom_cmp-IsAntisymmetric}
use Rattle.odb_atoms.proofs.FinMaps.{get-empty, get-entries, get-map_entries}
use Rattle.odb_atoms.proofs.Lists.{Member, all_gives, both, gives_all}
use Rattle.odb_atoms.specs.Atom.{Atom}
use Rattle.odb_atoms.specs.ColType.{ColType, has_kind, is_a, value_base}
use Rattle.odb_atoms.specs.Error.{Error, constraint_violation, referential_integrity_violation, resources_exhausted}
use Rattle.odb_atoms.specs.First.{Ok, Result, demand, ◌>>◌}
use Rattle.odb_atoms.specs.FinMap as map
use Rattle.odb_atoms.specs.FinSet as set
use Rattle.odb_atoms.specs.Row.{Row}
use Rattle.odb_atoms.specs.Uuid.{Uuid, uuid_cmp}
use Rattle.odb_atoms.specs.Value.{Atoms, Pairs, Value, map_of, set_of}
use Rattle.odb_atoms.specs.Represented.AtomOrder.{atom_cmp_total}
use Rattle.odb_mutate.proofs.Each.{all-filter, filter-map}
use Rattle.odb_schema.specs.Schema.{Column, Schema, columns_at}
use Rattle.odb_tables.specs.Database.{Db, table_at}
use Rattle.odb_tables.specs.Typed.{IsTyped, fits}
use Rattle.odb_integrity.specs.Settlement.{RowId, any_row, has_dangling, has_duplicates, has_too_few, is_stale, kept, pruned, pruned_row, pruned_value, row_count, row_of, same_row, settle, weak_target, within_max_rows}
use Rattle.odb_integrity.proofs.Databases.{length-each_row, row_of-each_row, row_of-put}
use Rattle.odb_integrity.proofs.Ids.{same_row_equal}
use Rattle.std.proofs.Math.ListN.{length-set}
use Rattle.std.proofs.lemmas.List.{length-replicate}
use Rattle.odb_integrity.proofs.Listings.{entry_found}
use Rattle.odb_integrity.proofs.Prunings.{found_member}
use Rattle.odb_integrity.proofs.Settled.{kept_typed}

pub items-retain : (x : Atoms) (p : Atom → Bool) → set.items (set.retain x p) ≡ filter p (set.items x)
unfolding map.keys map.retain_keys
items-retain x p = filter-map (λ (e : Atom × Unit {0}). e.0) p x.entries

-- an entry that is left was one before, and isn't stale
pub left_entry : (m : Pairs) (stale : Atom → Atom → Bool) (e : Atom × Atom) → Member e (map.entries_of (map.map_entries (λ k v. cond (stale k v) None (Some v)) m)) → Member e m.entries × (stale e.0 e.1 ≡ false)
left_entry m stale e there =
    let left : Pairs = map.map_entries (λ k v. cond (stale k v) None (Some v)) m in
    by (map.get m e.0) refl (sym (get-map_entries atom_cmp_total atom_cmp-IsAntisymmetric (λ k v. cond (stale k v) None (Some v)) m e.0) ∙ get-entries left e.0 ∙ entry_found atom_cmp_total left.entries e left.sorted there)
  where
    test : (v : Atom) → map.get m e.0 ≡ Some v → (b : Bool) → stale e.0 v ≡ b → cond b None (Some v) ≡ Some e.1 → Member e m.entries × (stale e.0 e.1 ≡ false)
    test v at true t is = absurd (true≢false (sym (ap is_some is)))
    test v at false t is = (found_member e.0 m.entries e.1 (sym (get-entries m e.0) ∙ at ∙ is), ap (stale e.0) (sym (same_Some v e.1 is)) ∙ t)

    by : (o : Option Atom) → map.get m e.0 ≡ o → option_and_then (λ v. cond (stale e.0 v) None (Some v)) o ≡ Some e.1 → Member e m.entries × (stale e.0 e.1 ≡ false)
    by None at is = absurd (true≢false (sym (ap is_some is)))
    by (Some v) at is = test v at (stale e.0 v) refl is

module _ (s : Schema) (db : Db) where
  kind_pruned : (t : ColType) (v : Value) → has_kind t v ≡ true → has_kind t (pruned_value s db t v) ≡ true
  kind_pruned t (set_of x) kind =
      let h = both (cond (is_some t.value) false true) (list_all (is_a t.key.kind) (set.items x)) kind in
      let p : Atom → Bool = λ a. not (is_stale db (weak_target s t.key) a) in
      λ i. h.0 i && (ap (list_all (is_a t.key.kind)) (items-retain x p) ∙ all-filter (is_a t.key.kind) p (set.items x) h.1) i
  kind_pruned t (map_of m) kind =
      let q : Atom × Atom → Bool = λ e. is_a t.key.kind e.0 && is_a (value_base t).kind e.1 in
      let h = both (cond (is_some t.value) true false) (list_all q m.entries) kind in
      let stale : Atom → Atom → Bool = λ k v. is_stale db (weak_target s t.key) k || is_stale db (weak_target s (value_base t)) v in
      λ i. h.0 i && gives_all q (map.entries_of (map.map_entries (λ k v. cond (stale k v) None (Some v)) m)) (λ e there. all_gives q m.entries h.1 e (left_entry m stale e there).0) i

  kinds_pruned : (cs : List Column) (vs : List Value) → list_all (λ e. has_kind e.0.type e.1) (zip cs vs) ≡ true → list_all (λ e. has_kind e.0.type e.1) (zip cs (map_list (λ e. pruned_value s db e.0.type e.1) (zip cs vs))) ≡ true
  kinds_pruned [] vs h = refl
  kinds_pruned (c ∷ cs) [] h = refl
  kinds_pruned (c ∷ cs) (v ∷ vs) h =
      let parts = both (has_kind c.type v) (list_all (λ e. has_kind e.0.type e.1) (zip cs vs)) h in
      λ i. kind_pruned c.type v parts.0 i && kinds_pruned cs vs parts.1 i

  length-pruned : (cs : List Column) (vs : List Value) → length vs ≡ length cs → length (map_list (λ e. pruned_value s db e.0.type e.1) (zip cs vs)) ≡ length cs
  length-pruned [] vs e = refl
  length-pruned (c ∷ cs) [] e = e
  length-pruned (c ∷ cs) (v ∷ vs) e = let rest = length-pruned cs vs (omega (arith, e)) in omega (arith, rest)

  row_fits : (cs : List Column) (r q : Row) → q.columns ≡ map_list (λ e. pruned_value s db e.0.type e.1) (zip cs r.columns) → fits cs r ≡ true → fits cs q ≡ true
  row_fits cs r q is fit =
      let h = both (length r.columns == length cs) (list_all (λ e. has_kind e.0.type e.1) (zip cs r.columns)) fit in
      let long : length q.columns ≡ length cs = ap length is ∙ length-pruned cs r.columns ((unsigned_Decides (length r.columns) (length cs)).0 h.0) in
      λ i. (unsigned_Decides (length q.columns) (length cs)).1 long i && (ap (λ vs. list_all (λ e. has_kind e.0.type e.1) (zip cs vs)) is ∙ kinds_pruned cs r.columns h.1) i

  pub pruned_typed : IsTyped s db → IsTyped s (pruned s db)
  pruned_typed typed = (length-each_row (λ x r. Some (pruned_row s db x r)) db ∙ typed.0, λ k u r e. by k u r (row_of db (k, u)) refl (sym (row_of-each_row (λ x r. Some (pruned_row s db x r)) db (k, u)) ∙ e))
    where
      by : (k : ℕ) (u : Uuid) (r : Row) (o : Option Row) → row_of db (k, u) ≡ o → option_and_then (λ q. Some (pruned_row s db (k, u) q)) o ≡ Some r → fits (columns_at s k) r ≡ true
      by k u r None there e = absurd (true≢false (sym (ap is_some e)))
      by k u r (Some q) there e =
          let same : r ≡ pruned_row s db (k, u) q = cc in
          row_fits (columns_at s k) q r (ap (λ (p : Row). p.columns) same) (typed.1 k u q there)

passed : (b : Bool) (e : Error) (r : Result Db Error) (x : Db) → ◌>>◌ (demand b e) r ≡ Ok x → (b ≡ true) × (r ≡ Ok x)
passed true e r x is = (refl, is)
passed false e r x is = cc

-- what is settled is pruned and passed the tests
pub record Passed (s : Schema) (rest last new : Db) : Type 0 where
  pub is : new ≡ last
  pub joined : not (has_dangling s rest) ≡ true
  pub filled : not (any_row (has_too_few s) last) ≡ true
  pub bounded : list_all within_max_rows (zip s.tables last) ≡ true
  pub apart : not (list_any has_duplicates (zip s.tables last)) ≡ true

pub settled_passed : (s : Schema) (max_rows : ℕ) (db new : Db) → settle s max_rows db ≡ Ok new → Passed s (kept s db) (pruned s (kept s db)) new
unfolding settle
settled_passed s max_rows db new e =
    let last : Db = pruned s (kept s db) in
    let done : Result Db Error = Ok last in
    let limited : Result Db Error = ◌>>◌ (demand (nat_le (row_count last) max_rows) resources_exhausted) done in
    let apart : Result Db Error = ◌>>◌ (demand (not (list_any has_duplicates (zip s.tables last))) constraint_violation) limited in
    let few : Result Db Error = ◌>>◌ (demand (list_all within_max_rows (zip s.tables last)) constraint_violation) apart in
    let whole : Result Db Error = ◌>>◌ (demand (not (any_row (has_too_few s) last)) constraint_violation) few in
    let one = passed (not (has_dangling s (kept s db))) referential_integrity_violation whole new e in
    let two = passed (not (any_row (has_too_few s) last)) constraint_violation few new one.1 in
    let three = passed (list_all within_max_rows (zip s.tables last)) constraint_violation apart new two.1 in
    let four = passed (not (list_any has_duplicates (zip s.tables last))) constraint_violation limited new three.1 in
    let five = passed (nat_le (row_count last) max_rows) resources_exhausted done new four.1 in
    record { is = same last new five.1; joined = one.0; filled = two.0; bounded = three.0; apart = four.0 }
  where
    same : (a b : Db) → ◌≡◌ {A = Result Db Error} (Ok a) (Ok b) → b ≡ a
    same a b e = cc

pub settled_is : (s : Schema) (max_rows : ℕ) (db new : Db) → settle s max_rows db ≡ Ok new → new ≡ pruned s (kept s db)
settled_is s max_rows db new e = (settled_passed s max_rows db new e).is

pub settled_typed : (s : Schema) (max_rows : ℕ) (db new : Db) → settle s max_rows db ≡ Ok new → IsTyped s db → IsTyped s new
settled_typed s max_rows db new e typed = subst (IsTyped s) (sym (settled_is s max_rows db new e)) (pruned_typed s (kept s db) (kept_typed s db typed))

-- ---- drafts of databases of their schema

pub none_at : (n k : ℕ) → table_at (replicate n map.empty) k ≡ map.empty
none_at zero zero = refl
none_at zero (suc k) = refl
none_at (suc n) zero = refl
none_at (suc n) (suc k) = none_at n k

pub empty_typed : (s : Schema) → IsTyped s (replicate (length s.tables) map.empty)
empty_typed s = (length-replicate (length s.tables) map.empty, λ k u r e. absurd (true≢false (sym (ap is_some (sym (ap (λ t. map.get t u) (none_at (length s.tables) k) ∙ get-empty uuid_cmp u) ∙ e)))))

pub put_typed : (s : Schema) (db : Db) (t : ℕ) (u : Uuid) (r : Row) → IsTyped s db → t < length db → fits (columns_at s t) r ≡ true → IsTyped s (slice_set db t (map.insert (table_at db t) u r))
put_typed s db t u r typed low fit = (length-set db t _ ∙ typed.0, λ k v q e. by k v q (same_row (k, v) (t, u)) refl (sym (row_of-put db t u r (k, v) low) ∙ e))
  where
    by : (k : ℕ) (v : Uuid) (q : Row) (b : Bool) → same_row (k, v) (t, u) ≡ b → cond b (Some r) (row_of db (k, v)) ≡ Some q → fits (columns_at s k) q ≡ true
    by k v q true same e =
        let place : k ≡ t = ap (λ (x : RowId). x.0) (same_row_equal (k, v) (t, u) same) in
        let there : q ≡ r = cc in
        (λ i. fits (columns_at s (place i)) (there i)) ∙ fit
    by k v q false same e = typed.1 k v q e
