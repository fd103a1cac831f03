-- Tests of all rows, by the ids of the rows.
use Rattle.std.specs.Prelude.{◌≡◌, ℕ, suc, ◌+◌, Bool, false, cond, ◌||◌, T, List, [], ◌∷◌, unwrap_or, Option, Some, option_map}
use Rattle.std.specs.List.{enumerate_from, list_any}
use Rattle.std.specs.declared.cmp.Ordering.{Ordering}
use Rattle.std.specs.Ordering.{eq_by_cmp, is_eq, ordering_reverse}
use Rattle.std.specs.Cmp.{IsTotalOrder, tied_itself}
use Rattle.std.specs.FinMap.Entries.{below_all, find, is_sorted}
use mathlib.Core.Path.{refl, sym, ap, ◌∙◌}
use mathlib.Core.Logic.{inl, inr}
use Rattle.std.proofs.Common.{arith}
use Rattle.std.proofs.lemmas.List.Folds.{list_any-append}
use Rattle.odb_atoms.proofs.Lists.{Member, any-map}
use Rattle.odb_atoms.proofs.Rising.{first, less, second}
use Rattle.odb_atoms.specs.FinMap as map
use Rattle.odb_atoms.specs.Row.{Row}
use Rattle.odb_atoms.specs.Uuid.{Uuid, uuid_cmp}
use Rattle.odb_tables.specs.Database.{Db, Table, table_at}
use Rattle.odb_tables.specs.Represented.Key.{uuid_cmp_total}
use Rattle.odb_integrity.specs.Settlement.{RowId, any_row, at_row, row_ids, row_of}
use Rattle.odb_integrity.proofs.Databases.{ids_at, ids_from}

-- ---- entries are found by their keys

module _ {K X : Type 0} {R : K → K → Ordering} (o : IsTotalOrder R) where
  pub before_later : (k : K) (es : List (K × X)) (m : K × X) → T (below_all R k es) → Member m es → eq_by_cmp R m.0 k ≡ false
  before_later k [] m low n = absurd n
  before_later k (e ∷ es) m low (inl h) = ap (λ y. eq_by_cmp R y.0 k) h ∙ ap is_eq (o.antisymm e.0 k ∙ ap ordering_reverse (less _ (first _ _ low)))
  before_later k (e ∷ es) m low (inr n) = before_later k es m (second _ _ low) n

  pub entry_found : (es : List (K × X)) (m : K × X) → T (is_sorted R es) → Member m es → find R m.0 es ≡ Some m.1
  entry_found [] m up n = absurd n
  entry_found (e ∷ es) m up (inl h) =
      ap (λ y. cond (eq_by_cmp R y.0 e.0) (Some e.1) (find R y.0 es)) h
      ∙ ap (λ b. cond b (Some e.1) (find R e.0 es)) (ap is_eq (tied_itself o e.0))
      ∙ ap (λ y. Some y.1) (sym h)
  entry_found (e ∷ es) m up (inr n) =
      ap (λ b. cond b (Some e.1) (find R m.0 es)) (before_later e.0 es m (first _ _ up) n)
      ∙ entry_found es m (second _ _ up) n

-- tests that agree on the members
pub any_agree : {A : Type 0} (p q : A → Bool) (xs : List A) → ((x : A) → Member x xs → p x ≡ q x) → list_any p xs ≡ list_any q xs
any_agree p q [] h = refl
any_agree p q (x ∷ xs) h = λ i. h x (inl refl) i || any_agree p q xs (λ y m. h y (inr m)) i

-- ---- tests of all rows

any_from : (RowId → Row → Bool) → ℕ → Db → Bool
any_from p n db = list_any (λ e. list_any (λ f. p (e.0, f.0) f.1) (map.entries_of e.1)) (enumerate_from n db)

any_in_table : (q : Uuid → Row → Bool) (t : Table) → list_any (λ f. q f.0 f.1) (map.entries_of t) ≡ list_any (λ u. unwrap_or (option_map (q u) (map.get t u)) false) (map.keys t)
unfolding map.keys map.get
any_in_table q t =
    any_agree (λ f. q f.0 f.1) (λ f. unwrap_or (option_map (q f.0) (find uuid_cmp f.0 t.entries)) false) t.entries (λ f m. sym (ap (λ o. unwrap_or (option_map (q f.0) o) false) (entry_found uuid_cmp_total t.entries f t.sorted m)))
    ∙ sym (any-map (λ u. unwrap_or (option_map (q u) (find uuid_cmp u t.entries)) false) (λ e. e.0) t.entries)

any_from-listed : (p : RowId → Row → Bool) (g : RowId → Option Row) (db : Db) (n : ℕ) → ((k m : ℕ) (u : Uuid) → m ≡ n + k → g (m, u) ≡ map.get (table_at db k) u) → any_from p n db ≡ list_any (λ x. unwrap_or (option_map (p x) (g x)) false) (ids_from n db)
unfolding any_from
any_from-listed p g [] n at = refl
any_from-listed p g (t ∷ db) n at =
    (λ i. any_in_table (λ u r. p (n, u) r) t i || any_from-listed p g db (n + 1) (λ k m u e. at (suc k) m u (omega arith)) i)
    ∙ ap (λ b. b || list_any (λ x. unwrap_or (option_map (p x) (g x)) false) (ids_from (n + 1) db))
    ((λ i. list_any (λ u. unwrap_or (option_map (p (n, u)) (sym (at 0 n u (omega arith)) i)) false) (map.keys t)) ∙ sym (any-map (λ x. unwrap_or (option_map (p x) (g x)) false) (λ u. let x : RowId = (n, u) in x) (map.keys t)))
    ∙ sym (list_any-append (λ x. unwrap_or (option_map (p x) (g x)) false) (ids_at n t) (ids_from (n + 1) db))

pub any_row-listed : (p : RowId → Row → Bool) (db : Db) → any_row p db ≡ list_any (at_row p db) (row_ids db)
unfolding any_from
any_row-listed p db = any_from-listed p (row_of db) db 0 (λ k m u e. let same : m ≡ k = omega arith in ap (λ j. map.get (table_at db j) u) same)
