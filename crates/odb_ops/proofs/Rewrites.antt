-- Rows that are rewritten one after another are rewritten at once.
use Rattle.std.proofs.Common.{◌≡◌, ℕ, Bool, true, false, cond, ◌&&◌, ◌||◌, T, List, [], ◌∷◌, map as map_list, unwrap_or, Option, Some, None, is_some, option_and_then, option_map, refl, sym, ap, ◌∙◌}
use Rattle.std.proofs.lemmas.Bool.{false≢true}
use Rattle.std.specs.declared.cmp.Ordering.{Ordering}
use Rattle.std.specs.declared.cmp.Ordering.TheVariants.{Less, Equal, Greater}
use Rattle.std.specs.FinMap.Entries.{below_all, is_sorted}
use Rattle.std.specs.List.{list_any}
use Rattle.std.specs.Ordering.{eq_by_cmp, is_eq, is_lt}
use Rattle.odb_atoms.specs.FinMap as map
use Rattle.odb_atoms.specs.FinSet as set
use Rattle.odb_atoms.specs.Row.{Row}
use Rattle.odb_atoms.specs.Uuid.{Uuid, uuid_cmp}
use Rattle.odb_atoms.proofs.Atoms.{uuid_cmp-IsAntisymmetric}
use Rattle.odb_atoms.proofs.FinMaps.{contains_key-keys, get-insert, get-map_entries, same_key, same_map}
use Rattle.odb_cond.specs.Condition.{Clause, holds_all}
use Rattle.odb_ops.specs.Execution.{on_matching}
use Rattle.odb_ops.specs.Represented.Parts.{all_rewritten, rewritten, with_rows}
use Rattle.odb_ops.proofs.Deletes.{set_again}
use Rattle.odb_ops.proofs.Drafts.{set_same, with_row_is}
use Rattle.odb_tables.specs.Database.{Table, table_at}
use Rattle.odb_tables.specs.Draft.{Draft, removed_at, with_row}
use Rattle.odb_tables.specs.Matching.{matching}
use Rattle.odb_tables.specs.Represented.Key.{uuid_cmp_total}

-- ---- the keys of a map are apart

abbrev pub AreApart : List Uuid → Type 0
AreApart [] = Unit {0}
AreApart (u ∷ us) = (list_any (eq_by_cmp uuid_cmp u) us ≡ false) × AreApart us

pub less_is_other : (o : Ordering) → T (is_lt o) → is_eq o ≡ false
less_is_other Less h = refl
less_is_other Equal h = absurd h
less_is_other Greater h = absurd h

pub halves : (a b : Bool) → T (a && b) → T a × T b
halves true b h = (tt, h)
halves false b h = absurd h

neither_is : (a b : Bool) → a ≡ false → b ≡ false → (a || b) ≡ false
neither_is a b e f = λ i. e i || f i

below_is_other : {X : Type 0} (u : Uuid) (es : List (Uuid × X)) → T (below_all uuid_cmp u es) → list_any (eq_by_cmp uuid_cmp u) (map_list (λ e. e.0) es) ≡ false
below_is_other u [] h = refl
below_is_other u (e ∷ es) h =
    let parts : T (is_lt (uuid_cmp u e.0)) × T (below_all uuid_cmp u es) = halves _ _ h in
    neither_is _ _ (less_is_other (uuid_cmp u e.0) parts.0) (below_is_other u es parts.1)

sorted_apart : {X : Type 0} (es : List (Uuid × X)) → T (is_sorted uuid_cmp es) → AreApart (map_list (λ e. e.0) es)
sorted_apart [] h = tt
sorted_apart (e ∷ es) h =
    let parts : T (below_all uuid_cmp e.0 es) × T (is_sorted uuid_cmp es) = halves _ _ h in
    (below_is_other e.0 es parts.0, sorted_apart es parts.1)

pub keys_apart : {X : Type 0} (m : map.FinMap uuid_cmp X) → AreApart (map.keys m)
unfolding map.keys
keys_apart m = sorted_apart m.entries m.sorted

-- ---- a table

module _ (f : Row → Option Row) where
  -- what f makes of a row, or the row itself
  abbrev pub or_same : Row → Row
  or_same r = unwrap_or (f r) r

  abbrev pub touched : Uuid → Table → Table
  touched u table = map.insert_if (option_and_then f (map.get table u)) u table

  pub all_touched : List Uuid → Table → Table
  all_touched [] table = table
  all_touched (u ∷ us) table = all_touched us (touched u table)

  get-insert_if : (table : Table) (u q : Uuid) (b : Bool) → eq_by_cmp uuid_cmp q u ≡ b → (o : Option Row) → map.get table u ≡ o → map.get (map.insert_if (option_and_then f o) u table) q ≡ cond b (option_map or_same o) (map.get table q)
  get-insert_if table u q true e None is = ap (map.get table) (same_key uuid_cmp-IsAntisymmetric q u e) ∙ is
  get-insert_if table u q false e None is = refl
  get-insert_if table u q b e (Some r) is = by (f r) refl b e
    where
      by : (x : Option Row) → f r ≡ x → (b : Bool) → eq_by_cmp uuid_cmp q u ≡ b → map.get (map.insert_if x u table) q ≡ cond b (Some (unwrap_or x r)) (map.get table q)
      by (Some new) _ b e = get-insert uuid_cmp_total table u new q ∙ ap (λ t. cond t (Some new) (map.get table q)) e
      by None _ true e = ap (map.get table) (same_key uuid_cmp-IsAntisymmetric q u e) ∙ is
      by None _ false e = refl

  pub get-touched : (table : Table) (u q : Uuid) → map.get (touched u table) q ≡ cond (eq_by_cmp uuid_cmp q u) (option_map or_same (map.get table q)) (map.get table q)
  get-touched table u q = get-insert_if table u q (eq_by_cmp uuid_cmp q u) refl (map.get table u) refl ∙ at (eq_by_cmp uuid_cmp q u) refl
    where
      at : (b : Bool) → eq_by_cmp uuid_cmp q u ≡ b → cond b (option_map or_same (map.get table u)) (map.get table q) ≡ cond b (option_map or_same (map.get table q)) (map.get table q)
      at true e = ap (λ k. option_map or_same (map.get table k)) (sym (same_key uuid_cmp-IsAntisymmetric q u e))
      at false e = refl

  once : (a b : Bool) (o : Option Row) → (a ≡ true → b ≡ false) → cond b (option_map or_same (cond a (option_map or_same o) o)) (cond a (option_map or_same o) o) ≡ cond (a || b) (option_map or_same o) o
  once true true o apart = absurd (false≢true (sym (apart refl)))
  once true false o apart = refl
  once false b o apart = refl

  get-all_touched : (us : List Uuid) (table : Table) (q : Uuid) → AreApart us → map.get (all_touched us table) q ≡ cond (list_any (eq_by_cmp uuid_cmp q) us) (option_map or_same (map.get table q)) (map.get table q)
  unfolding all_touched
  get-all_touched [] table q apart = refl
  get-all_touched (u ∷ us) table q apart =
      let b = list_any (eq_by_cmp uuid_cmp q) us in
      let a = eq_by_cmp uuid_cmp q u in
      let other : a ≡ true → b ≡ false = λ e. ap (λ k. list_any (eq_by_cmp uuid_cmp k) us) (same_key uuid_cmp-IsAntisymmetric q u e) ∙ apart.0 in
      get-all_touched us (touched u table) q apart.1 ∙ ap (λ o. cond b (option_map or_same o) o) (get-touched table u q) ∙ once a b (map.get table q) other

  one_entry : (o : Option Row) (holds : Row → Bool) → cond (is_some (option_and_then (λ r. cond (holds r) (Some r) None) o)) (option_map or_same o) o ≡ option_and_then (λ r. Some (cond (holds r) (or_same r) r)) o
  one_entry None holds = refl
  one_entry (Some r) holds = elim (holds r) as (λ b. cond (is_some (cond b (Some r) None)) (Some (or_same r)) (Some r) ≡ Some (cond b (or_same r) r)) [ true ↦ refl | false ↦ refl ]

  found_touched : (clauses : List Clause) (table : Table) → all_touched (map.keys (matching clauses table)) table ≡ on_matching clauses or_same table
  found_touched clauses table =
      let found : Table = matching clauses table in
      same_map uuid_cmp_total uuid_cmp-IsAntisymmetric (all_touched (map.keys found) table) (on_matching clauses or_same table)
      (λ q. get-all_touched (map.keys found) table q (keys_apart found)
      ∙ ap (λ b. cond b (option_map or_same (map.get table q)) (map.get table q)) (sym (contains_key-keys found q) ∙ ap is_some (get-map_entries uuid_cmp_total uuid_cmp-IsAntisymmetric (λ u r. cond (holds_all clauses u r) (Some r) None) table q))
      ∙ one_entry (map.get table q) (holds_all clauses q)
      ∙ sym (get-map_entries uuid_cmp_total uuid_cmp-IsAntisymmetric (λ u r. Some (cond (holds_all clauses u r) (or_same r) r)) table q))

  -- ---- drafts

  one_by_one : (t : ℕ) (us : List Uuid) (d : Draft) → all_rewritten f t us d ≡ with_rows t (all_touched us (table_at d.now t)) d
  unfolding all_touched
  one_by_one t [] d = let now = set_same d.now t map.empty in λ i. record { old = d.old; now = sym now i; removed = d.removed }
  one_by_one t (u ∷ us) d =
      let now = set_again (all_touched us) d.now t (touched u (table_at d.now t)) map.empty in
      one_by_one t us (rewritten f t u d) ∙ (λ i. record { old = d.old; now = now i; removed = d.removed })

  pub rewritten_at_once : (t : ℕ) (clauses : List Clause) (d : Draft) → all_rewritten f t (map.keys (matching clauses (table_at d.now t))) d ≡ with_rows t (on_matching clauses or_same (table_at d.now t)) d
  rewritten_at_once t clauses d = one_by_one t (map.keys (matching clauses (table_at d.now t))) d ∙ ap (λ table. with_rows t table d) (found_touched clauses (table_at d.now t))

  -- the row that is there is put in its place
  pub there_rewritten : (t : ℕ) (u : Uuid) (d : Draft) (old new : Row) → Some old ≡ map.get (table_at d.now t) u → set.contains (removed_at d t) u ≡ false → f old ≡ Some new → with_row t u new d ≡ rewritten f t u d
  there_rewritten t u d old new there kept made =
      with_row_is t u new d kept ∙ ap (λ o. with_rows t (map.insert_if o u (table_at d.now t)) d) (sym made ∙ ap (option_and_then f) there)

  -- where there is none, or f makes none, nothing changes
  pub none_rewritten : (t : ℕ) (u : Uuid) (d : Draft) → option_and_then f (map.get (table_at d.now t) u) ≡ None → d ≡ rewritten f t u d
  none_rewritten t u d none =
      let now = set_same d.now t map.empty in
      (λ i. record { old = d.old; now = sym now i; removed = d.removed }) ∙ ap (λ o. with_rows t (map.insert_if o u (table_at d.now t)) d) (sym none)
