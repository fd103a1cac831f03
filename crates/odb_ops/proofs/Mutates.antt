-- Rows that are mutated one after another: they fit as they did, and their faults are those of the rows as they were.
use Rattle.std.proofs.Common.{◌≡◌, ℕ, zero, suc, Bool, true, false, cond, T, List, [], ◌∷◌, ◌++◌, map as map_list, slice_get, slice_set, unwrap_or, option_to_list, Option, Some, None, option_and_then, option_map, Result, Ok, Err, refl, sym, ap, subst, ◌∙◌}
use Rattle.std.proofs.lemmas.Option.{none-some, same_Some}
use Rattle.std.specs.Cmp.{tied_itself}
use Rattle.std.specs.FinMap.Entries.{below_all, find, is_sorted}
use Rattle.std.specs.List.{cons_option, filter_map, list_any}
use Rattle.std.specs.Ordering.{eq_by_cmp, is_eq, is_lt}
use Rattle.std.specs.Result.{result_err, result_ok}
use Rattle.odb_atoms.specs.FinMap as map
use Rattle.odb_atoms.specs.Error.{Error}
use Rattle.odb_atoms.specs.Row.{Row}
use Rattle.odb_atoms.specs.Uuid.{Uuid, uuid_cmp}
use Rattle.odb_atoms.proofs.Atoms.{uuid_cmp-IsAntisymmetric}
use Rattle.odb_atoms.proofs.FinMaps.{get-empty, get-entries, get-map_entries}
use Rattle.odb_cond.specs.Condition.{Clause, holds_all}
use Rattle.odb_mutate.specs.Mutation.{Mutation}
use Rattle.odb_ops.specs.Execution.{faults, mutated}
use Rattle.odb_ops.specs.Represented.Parts.{AllFit, all_faults, rewritten, row_fault}
use Rattle.odb_ops.proofs.Drafts.{neither}
use Rattle.odb_ops.proofs.Fits.{mutated_fit}
use Rattle.odb_ops.proofs.Rewrites.{AreApart, get-touched, halves, keys_apart, less_is_other, or_same, touched}
use Rattle.odb_schema.specs.Schema.{Column}
use Rattle.odb_tables.specs.Database.{Table, table_at}
use Rattle.odb_tables.specs.Draft.{Draft}
use Rattle.odb_tables.specs.Matching.{matching}
use Rattle.odb_tables.specs.Represented.Key.{keys_equivalent, uuid_cmp_total}
use Rattle.odb_tables.specs.Typed.{fits}

-- what holds of what is written, and of what stood there, holds of what stands there then
set_at : {A : Type 0} (P : A → Type 0) (xs : List A) (t : ℕ) (x d : A) → P x → P (unwrap_or (slice_get xs t) d) → P (unwrap_or (slice_get (slice_set xs t x) t) d)
set_at P [] t x d new old = old
set_at P (y ∷ xs) zero x d new old = new
set_at P (y ∷ xs) (suc t) x d new old = set_at P xs t x d new old

-- ---- rows that fit

module _ (cs : List Column) (ms : List Mutation) where
  abbrev pub made : Row → Option Row
  made r = result_ok (mutated cs ms r)

  or_same_fit : (r : Row) → fits cs r ≡ true → (q : Result Row Error) → mutated cs ms r ≡ q → fits cs (unwrap_or (result_ok q) r) ≡ true
  or_same_fit r fit (Ok new) e = mutated_fit cs ms r new fit e
  or_same_fit r fit (Err x) e = fit

  touched_fit : (u : Uuid) (table : Table) → AllFit cs table → AllFit cs (touched made u table)
  touched_fit u table h q r e = by (eq_by_cmp uuid_cmp q u) (map.get table q) refl (sym (get-touched made table u q) ∙ e)
    where
      by : (b : Bool) (o : Option Row) → map.get table q ≡ o → cond b (option_map (or_same made) o) o ≡ Some r → fits cs r ≡ true
      by true None there e = absurd (none-some r e)
      by true (Some p) there e = subst (λ x. fits cs x ≡ true) (same_Some (or_same made p) r e) (or_same_fit p (h q p there) (mutated cs ms p) refl)
      by false o there e = h q r (there ∙ e)

  pub rewritten_fit : (t : ℕ) (u : Uuid) (d : Draft) → AllFit cs (table_at d.now t) → AllFit cs (table_at (rewritten made t u d).now t)
  rewritten_fit t u d h = set_at (AllFit cs) d.now t (touched made u (table_at d.now t)) map.empty (touched_fit u (table_at d.now t) h) h

-- ---- faults

cons_is : {A : Type 0} (o : Option A) (xs : List A) → option_to_list o ++ xs ≡ cons_option o xs
cons_is None xs = refl
cons_is (Some x) xs = refl

module _ (f : Row → Result Row Error) where
  abbrev step : Row → Option Row
  step r = result_ok (f r)

  -- the faults of rows by their identifiers
  abbrev faults_at : Table → List Uuid → List Error
  faults_at table us = filter_map (λ u. row_fault f (map.get table u)) us

  -- a row that is rewritten leaves the others
  others_stay : (table : Table) (u : Uuid) (us : List Uuid) → list_any (eq_by_cmp uuid_cmp u) us ≡ false → faults_at (touched step u table) us ≡ faults_at table us
  others_stay table u [] e = refl
  others_stay table u (v ∷ us) e =
      let parts : (eq_by_cmp uuid_cmp u v ≡ false) × (list_any (eq_by_cmp uuid_cmp u) us ≡ false) = neither _ _ e in
      let same : map.get (touched step u table) v ≡ map.get table v = get-touched step table u v ∙ ap (λ b. cond b (option_map (or_same step) (map.get table v)) (map.get table v)) (keys_equivalent.symm v u ∙ parts.0) in
      let rest = others_stay table u us parts.1 in
      λ i. cons_option (row_fault f (same i)) (rest i)

  touched-empty : (u : Uuid) → touched step u map.empty ≡ map.empty
  touched-empty u = ap (λ o. map.insert_if (option_and_then step o) u map.empty) (get-empty uuid_cmp u)

  table_rewritten : (t : ℕ) (u : Uuid) (d : Draft) → table_at (rewritten step t u d).now t ≡ touched step u (table_at d.now t)
  table_rewritten t u d = at d.now t
    where
      at : (db : List Table) (t : ℕ) → table_at (slice_set db t (touched step u (table_at db t))) t ≡ touched step u (table_at db t)
      at [] t = sym (touched-empty u)
      at (x ∷ db) zero = refl
      at (x ∷ db) (suc t) = at db t

  one_by_one : (t : ℕ) (us : List Uuid) (d : Draft) → AreApart us → all_faults f t us d ≡ faults_at (table_at d.now t) us
  one_by_one t [] d apart = refl
  one_by_one t (u ∷ us) d apart =
      let here = row_fault f (map.get (table_at d.now t) u) in
      let rest = one_by_one t us (rewritten step t u d) apart.1 ∙ ap (λ table. faults_at table us) (table_rewritten t u d) ∙ others_stay (table_at d.now t) u us apart.0 in
      ap (λ es. option_to_list here ++ es) rest ∙ cons_is here (faults_at (table_at d.now t) us)

-- ---- the entries of a map by their keys

module _ {X : Type 0} where
  behind_first : (k : Uuid) (v : X) (all es : List (Uuid × X)) → T (below_all uuid_cmp k es) → map_list (λ e. find uuid_cmp e.0 ((k, v) ∷ all)) es ≡ map_list (λ e. find uuid_cmp e.0 all) es
  behind_first k v all [] h = refl
  behind_first k v all (e ∷ es) h =
      let parts : T (is_lt (uuid_cmp k e.0)) × T (below_all uuid_cmp k es) = halves _ _ h in
      let other = keys_equivalent.symm e.0 k ∙ less_is_other (uuid_cmp k e.0) parts.0 in
      let rest = behind_first k v all es parts.1 in
      λ i. cond (other i) (Some v) (find uuid_cmp e.0 all) ∷ rest i

  found_each : (es : List (Uuid × X)) → T (is_sorted uuid_cmp es) → map_list (λ e. find uuid_cmp e.0 es) es ≡ map_list (λ e. Some e.1) es
  found_each [] h = refl
  found_each (e ∷ es) h =
      let parts : T (below_all uuid_cmp e.0 es) × T (is_sorted uuid_cmp es) = halves _ _ h in
      let itself = ap is_eq (tied_itself uuid_cmp_total e.0) in
      let rest = behind_first e.0 e.1 es es parts.0 ∙ found_each es parts.1 in
      λ i. cond (itself i) (Some e.1) (find uuid_cmp e.0 es) ∷ rest i

-- what gives alike on each of a list
each_alike : {A B C : Type 0} (g h : A → B) (k : A → C) (m : B → C) → ((x : A) → g x ≡ h x → k x ≡ m (h x)) → (xs : List A) → map_list g xs ≡ map_list h xs → map_list k xs ≡ map_list (λ x. m (h x)) xs
each_alike g h k m alike [] e = refl
each_alike g h k m alike (x ∷ xs) e =
    let first : g x ≡ h x = cc in
    let rest : map_list g xs ≡ map_list h xs = cc in
    λ i. alike x first i ∷ each_alike g h k m alike xs rest i

kept_is : (b : Bool) (r q : Row) → cond b (Some r) None ≡ Some q → Some r ≡ Some q
kept_is true r q e = e
kept_is false r q e = absurd (none-some q e)

module _ (cs : List Column) (clauses : List Clause) (ms : List Mutation) (table : Table) where
  abbrev found : Table
  found = matching clauses table

  in_table : (u : Uuid) (r : Row) → map.get found u ≡ Some r → map.get table u ≡ Some r
  in_table u r e = by (map.get table u) (sym (get-map_entries uuid_cmp_total uuid_cmp-IsAntisymmetric (λ u r. cond (holds_all clauses u r) (Some r) None) table u) ∙ e)
    where
      by : (o : Option Row) → option_and_then (λ r. cond (holds_all clauses u r) (Some r) None) o ≡ Some r → o ≡ Some r
      by None e = absurd (none-some r e)
      by (Some q) e = kept_is (holds_all clauses u q) q r e

  rows_there : map_list (λ e. map.get table e.0) found.entries ≡ map_list (λ e. Some e.1) found.entries
  rows_there = each_alike (λ e. find uuid_cmp e.0 found.entries) (λ e. Some e.1) (λ e. map.get table e.0) (λ o. o) (λ e is. in_table e.0 e.1 (get-entries found e.0 ∙ is)) found.entries (found_each found.entries found.sorted)

  by_entries : (es : List (Uuid × Row)) → map_list (λ e. map.get table e.0) es ≡ map_list (λ e. Some e.1) es → faults_at (mutated cs ms) table (map_list (λ e. e.0) es) ≡ filter_map (λ e. result_err (mutated cs ms e.1)) es
  by_entries [] h = refl
  by_entries (e ∷ es) h =
      let first : map.get table e.0 ≡ Some e.1 = cc in
      let rest : map_list (λ x. map.get table x.0) es ≡ map_list (λ x. Some x.1) es = cc in
      λ i. cons_option (row_fault (mutated cs ms) (first i)) (by_entries es rest i)

  by_keys : faults_at (mutated cs ms) table (map.keys found) ≡ faults cs ms found
  unfolding map.keys
  by_keys = by_entries found.entries rows_there

-- the faults of the rows that were found
pub faults_at_once : (cs : List Column) (t : ℕ) (clauses : List Clause) (ms : List Mutation) (d : Draft)
    → all_faults (mutated cs ms) t (map.keys (matching clauses (table_at d.now t))) d ≡ faults cs ms (matching clauses (table_at d.now t))
faults_at_once cs t clauses ms d =
    one_by_one (mutated cs ms) t (map.keys (matching clauses (table_at d.now t))) d (keys_apart (matching clauses (table_at d.now t)))
    ∙ by_keys cs clauses ms (table_at d.now t)
