-- The change of a table from the rows that were touched, with the version of the commit in it.
use Rattle.std.proofs.Common.{◌≡◌, Bool, true, false, cond, ◌&&◌, not, suc, ◌<◌, arith, List, [], ◌∷◌, ◌++◌, append_assoc, length, length-append, get_or, drop, drop-cons, zip, map, Option, Some, None, is_some, option_map, option_and_then, refl, sym, ap, subst, ◌∙◌}
use mathlib.Core.Bool.{true≢false}
use Rattle.std.specs.FinMap.Entries.{find}
use Rattle.std.specs.List.{IsDistinct}
use Rattle.std.specs.Map.{keys_of}
use Rattle.std.specs.Ordering.{eq_by_cmp}
use Rattle.odb_atoms.specs.FinMap as finite
use Rattle.odb_atoms.specs.Row.{Row}
use Rattle.odb_atoms.specs.Uuid.{Uuid, same_uuid, uuid_cmp}
use Rattle.odb_atoms.specs.Value.{same_values}
use Rattle.odb_atoms.proofs.Atoms.{uuid_cmp-IsAntisymmetric}
use Rattle.odb_atoms.proofs.Equal.{same_values-itself}
use Rattle.odb_atoms.proofs.FinMaps.{get-map_entries, same_key, same_map}
use Rattle.odb_tables.specs.Change.{Changes, change, change_between, changed_row}
use Rattle.odb_tables.specs.Database.{Db, Table}
use Rattle.odb_tables.specs.Represented.Draft.{all_overlaid, laid, overlaid}
use Rattle.odb_tables.specs.Represented.Overlay.{Touched}
use Rattle.odb_tables.specs.Represented.Key.{uuid_cmp_total}
use Rattle.odb_tables.specs.Stamped.{stamped, stamped_row, stamped_table, with_number}
use Rattle.odb_tables.proofs.KeyedMaps.{get-from_entries}
use Rattle.odb_tables.proofs.Overlays.{get-overlaid}
use Rattle.odb_tables.proofs.TableChanges.{changes-are, changes_of, unchanged}

-- ---- one row

module _ (v : Uuid) (p q : Row) where
  and_false : (b : Bool) → (b && false) ≡ false
  and_false true = refl
  and_false false = refl

  abbrev Goal : Bool → Type 0
  Goal b = (b ≡ not (is_some (changed_row (Some p) (Some (cond b p (with_number v q)))))) × (b ≡ false → changed_row (Some p) (Some (cond b p (with_number v q))) ≡ Some (Some p, Some (with_number v q)))

  split : (b : Bool) → same_values p.columns q.columns ≡ b → Goal b
  split true e = (ap (λ o. not (is_some o)) (sym (unchanged (Some p))), λ f. absurd (true≢false f))
  split false e =
      let other : changed_row (Some p) (Some (with_number v q)) ≡ Some (Some p, Some (with_number v q)) = ap (λ b. cond b None (Some (Some p, Some (with_number v q)))) (ap (λ b. same_uuid p.version v && b) e ∙ and_false (same_uuid p.version v)) in
      (ap (λ o. not (is_some o)) (sym other), λ f. other)

  pub same_columns : same_values p.columns q.columns ≡ not (is_some (changed_row (Some p) (Some (stamped_row v (Some p) q))))
  same_columns = (split (same_values p.columns q.columns) refl).0

-- a row that is stamped has the number
pub changed-stamped : (v : Uuid) (p q : Option Row) → not (is_some (changed_row p (option_map (stamped_row v p) q))) ≡ false → changed_row p (option_map (stamped_row v p) q) ≡ Some (p, option_map (with_number v) q)
changed-stamped v None None e = absurd (true≢false e)
changed-stamped v None (Some q) e = refl
changed-stamped v (Some p) None e = refl
changed-stamped v (Some p) (Some q) e = (split v p q (same_values p.columns q.columns) refl).1 (same_columns v p q ∙ e)

pub not-changed : (c : Option (Option Row × Option Row)) → not (is_some c) ≡ true → None ≡ c
not-changed None e = refl
not-changed (Some c) e = absurd (true≢false (sym e))

-- a row that is as it was stays so
unstamped : (v : Uuid) (r : Option Row) → r ≡ option_map (stamped_row v r) r
unstamped v None = refl
unstamped v (Some p) = ap (λ b. Some (cond b p (with_number v p))) (sym (same_values-itself p.columns))

-- ---- the rows that were touched

module _ (v : Uuid) (t : Table) where
  abbrev pub stamped_entry : Uuid × Option Row → Uuid × Option Row
  stamped_entry e = (e.0, option_map (stamped_row v (finite.get t e.0)) e.1)

  abbrev pub stamped_entries : List (Uuid × Option Row) → List (Uuid × Option Row)
  stamped_entries es = map stamped_entry es

  keys-stamped : (es : List (Uuid × Option Row)) → keys_of (map stamped_entry es) ≡ keys_of es
  keys-stamped [] = refl
  keys-stamped (e ∷ es) = ap (λ ks. e.0 ∷ ks) (keys-stamped es)

  pub distinct-stamped : (es : List (Uuid × Option Row)) → IsDistinct (eq_by_cmp uuid_cmp) (keys_of es) → IsDistinct (eq_by_cmp uuid_cmp) (keys_of (map stamped_entry es))
  distinct-stamped es h = subst (IsDistinct (eq_by_cmp uuid_cmp)) (sym (keys-stamped es)) h

  abbrev stamp_at : Uuid → Option Row → Option Row
  stamp_at q = option_map (stamped_row v (finite.get t q))

  find-stamped : (q : Uuid) (es : List (Uuid × Option Row)) → find uuid_cmp q (map stamped_entry es) ≡ option_map (stamp_at q) (find uuid_cmp q es)
  find-stamped q [] = refl
  find-stamped q (e ∷ es) = by (eq_by_cmp uuid_cmp q e.0) refl (find-stamped q es)
    where
      by : (b : Bool) → eq_by_cmp uuid_cmp q e.0 ≡ b → find uuid_cmp q (map stamped_entry es) ≡ option_map (stamp_at q) (find uuid_cmp q es)
          → cond b (Some (stamp_at e.0 e.1)) (find uuid_cmp q (map stamped_entry es)) ≡ option_map (stamp_at q) (cond b (Some e.1) (find uuid_cmp q es))
      by true is rest = ap (λ u. Some (stamp_at u e.1)) (sym (same_key uuid_cmp-IsAntisymmetric q e.0 is))
      by false is rest = rest

  get-stamped : (u : Table) (q : Uuid) → finite.get (stamped_table v (t, u)) q ≡ stamp_at q (finite.get u q)
  get-stamped u q = get-map_entries uuid_cmp_total uuid_cmp-IsAntisymmetric (λ k r. Some (stamped_row v (finite.get t k) r)) u q ∙ by (finite.get u q)
    where
      by : (o : Option Row) → option_and_then (λ (r : Row). Some (stamped_row v (finite.get t q) r)) o ≡ stamp_at q o
      by None = refl
      by (Some r) = refl

  laid-stamped : (q : Uuid) (w : Option (Option Row)) → laid (finite.get t q) (option_map (stamp_at q) w) ≡ stamp_at q (laid (finite.get t q) w)
  laid-stamped q None = unstamped v (finite.get t q)
  laid-stamped q (Some now) = refl

  -- the table with the stamped rows over it is the stamped table
  pub overlaid-stamped : (es : List (Uuid × Option Row)) → overlaid t (finite.from_entries (map stamped_entry es)) ≡ stamped_table v (t, overlaid t (finite.from_entries es))
  overlaid-stamped es =
      same_map uuid_cmp_total uuid_cmp-IsAntisymmetric _ _
      (λ q.
      let o = finite.from_entries {R = uuid_cmp} es in
      get-overlaid t (finite.from_entries (map stamped_entry es)) q ∙ ap (laid (finite.get t q)) (get-from_entries (map stamped_entry es) q ∙ find-stamped q es ∙ ap (option_map (stamp_at q)) (sym (get-from_entries es q)))
      ∙ laid-stamped q (finite.get o q) ∙ ap (stamp_at q) (sym (get-overlaid t o q)) ∙ sym (get-stamped (overlaid t o) q))

  pub stamped-changes : (es : List (Uuid × Option Row)) → IsDistinct (eq_by_cmp uuid_cmp) (keys_of es) → finite.from_entries {R = uuid_cmp} (changes_of t (map stamped_entry es)) ≡ change t (stamped_table v (t, overlaid t (finite.from_entries es)))
  stamped-changes es h = changes-are t (map stamped_entry es) (distinct-stamped es h) ∙ ap (change t) (overlaid-stamped es)

-- ---- all tables

abbrev pub committed : Uuid → Db → List Touched → List Changes
committed v db os = map (λ e. change e.0 (stamped_table v (e.0, overlaid e.0 e.1))) (zip db os)

pub committed-is : (v : Uuid) (db : Db) (os : List Touched) → committed v db os ≡ change_between db (stamped v db (all_overlaid db os))
committed-is v [] os = refl
committed-is v (t ∷ db) [] = refl
committed-is v (t ∷ db) (o ∷ os) = ap (λ cs. change t (stamped_table v (t, overlaid t o)) ∷ cs) (committed-is v db os)

pub one-committed : (v : Uuid) (db : Db) (os : List Touched) (done : List Changes) (t : Table) (o : Touched) (made : Changes) → length done < length db → t ≡ get_or db (length done) t → made ≡ change t (stamped_table v (t, overlaid t o))
    → (done ++ made ∷ []) ++ committed v (drop (length (done ++ made ∷ [])) db) os ≡ done ++ committed v (drop (length done) db) (o ∷ os)
one-committed v db os done t o made inside table is =
    let longer : length (done ++ made ∷ []) ≡ suc (length done) = omega (arith, length-append done (made ∷ [])) in
    let front : drop (length done) db ≡ t ∷ drop (suc (length done)) db = drop-cons db (length done) t inside ∙ ap (λ x. x ∷ drop (suc (length done)) db) (sym table) in
    append_assoc done (made ∷ []) (committed v (drop (length (done ++ made ∷ [])) db) os)
    ∙ (λ i. done ++ is i ∷ committed v (drop (longer i) db) os)
    ∙ ap (λ ts. done ++ committed v ts (o ∷ os)) (sym front)

pub length-stamped : (v : Uuid) (db : Db) (os : List Touched) → length os ≡ length db → length (stamped v db (all_overlaid db os)) ≡ length db
length-stamped v [] os e = refl
length-stamped v (t ∷ db) [] e = absurd (omega (arith, e))
length-stamped v (t ∷ db) (o ∷ os) e = ap suc (length-stamped v db os (omega (arith, e)))
