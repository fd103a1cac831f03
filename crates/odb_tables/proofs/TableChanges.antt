-- The change of a table from the rows that were touched.
use Rattle.std.proofs.Common.{◌≡◌, Bool, true, false, cond, ◌&&◌, List, [], ◌∷◌, ◌++◌, Bor, map, option_to_list, Option, Some, None, option_map, option_and_then, refl, sym, ap, subst, ◌∙◌, filter_map}
use Rattle.std.specs.Cmp.{unsigned_Decides}
use Rattle.std.specs.List.{AllByRecursion, IsDistinct, cons_option}
use Rattle.std.specs.FinMap.Entries.{find}
use Rattle.std.specs.Map.{keys_of}
use Rattle.std.specs.Map.Iter.{deref_pair}
use Rattle.std.specs.Ordering.{eq_by_cmp}
use Rattle.std.proofs.lemmas.Map.Keys.{IsDistinct-cons, IsDistinct-head, IsDistinct-tail}
use Rattle.odb_atoms.specs.FinMap as finite
use Rattle.odb_atoms.specs.Row.{Row}
use Rattle.odb_atoms.specs.Uuid.{Uuid, uuid_cmp}
use Rattle.odb_atoms.proofs.Atoms.{uuid_cmp-IsAntisymmetric}
use Rattle.odb_atoms.proofs.Equal.{same_values-itself}
use Rattle.odb_atoms.proofs.FinMaps.{get-combine, same_key, same_map}
use Rattle.odb_tables.specs.Change.{change, changed_row}
use Rattle.odb_tables.specs.Database.{Table}
use Rattle.odb_tables.specs.Represented.Draft.{laid, overlaid}
use Rattle.std.specs.declared.sync.Arc.{Arc}
use Rattle.odb_tables.specs.Represented.Key.{uuid_cmp_total}
use Rattle.odb_tables.specs.Represented.Overlay.{row_of}
use Rattle.odb_tables.specs.Represented.RowChange.{change_at}
use Rattle.odb_tables.proofs.KeyedMaps.{get-from_entries, keys-shown, none_behind}
use Rattle.odb_tables.specs.Represented.Keyed.{shown}
use Rattle.odb_tables.specs.Represented.TableChange.{AreDistinct}
use Rattle.odb_tables.proofs.Overlays.{get-overlaid}

abbrev pub Entry : Type 0
Entry = Uuid × (Option Row × Option Row)

-- a row that is the same is no change
pub unchanged : (r : Option Row) → changed_row r r ≡ None
unchanged None = refl
unchanged (Some p) =
    ap (λ b. cond {A = Option (Option Row × Option Row)} b None (Some (Some p, Some p)))
    ((λ i. (unsigned_Decides p.version.number p.version.number).1 refl i && same_values-itself p.columns i))

module _ (t : Table) where
  abbrev pub change_of : Uuid × Option Row → Option Entry
  change_of e = change_at e.0 (finite.get t e.0) e.1

  abbrev pub changes_of : List (Uuid × Option Row) → List Entry
  changes_of es = filter_map change_of es

  at_other : (q k : Uuid) (c : Option (Option Row × Option Row)) (cs : List Entry) → eq_by_cmp uuid_cmp q k ≡ false → find uuid_cmp q (cons_option (option_map (λ d. let e : Entry = (k, d) in e) c) cs) ≡ find uuid_cmp q cs
  at_other q k None cs other = refl
  at_other q k (Some d) cs other = ap (λ b. cond b (Some d) (find uuid_cmp q cs)) other

  at_same : (q k : Uuid) (c : Option (Option Row × Option Row)) (cs : List Entry) → eq_by_cmp uuid_cmp q k ≡ true → find uuid_cmp q cs ≡ None → find uuid_cmp q (cons_option (option_map (λ d. let e : Entry = (k, d) in e) c) cs) ≡ c
  at_same q k None cs same none = none
  at_same q k (Some d) cs same none = ap (λ b. cond b (Some d) (find uuid_cmp q cs)) same

  pub find-changes : (es : List (Uuid × Option Row)) (q : Uuid) → IsDistinct (eq_by_cmp uuid_cmp) (keys_of es) → find uuid_cmp q (changes_of es) ≡ option_and_then (changed_row (finite.get t q)) (find uuid_cmp q es)
  find-changes [] q h = refl
  find-changes (e ∷ es) q h = by (find-changes es q (IsDistinct-tail (eq_by_cmp uuid_cmp) e.0 (keys_of es) h)) (eq_by_cmp uuid_cmp q e.0) refl
    where
      Goal : Bool → Type 0
      Goal b = find uuid_cmp q (changes_of (e ∷ es)) ≡ option_and_then (changed_row (finite.get t q)) (cond b (Some e.1) (find uuid_cmp q es))

      by : find uuid_cmp q (changes_of es) ≡ option_and_then (changed_row (finite.get t q)) (find uuid_cmp q es) → (b : Bool) → eq_by_cmp uuid_cmp q e.0 ≡ b → Goal b
      by rest true is =
          let here : q ≡ e.0 = same_key uuid_cmp-IsAntisymmetric q e.0 is in
          let absent : find uuid_cmp q es ≡ None = ap (λ u. find uuid_cmp u es) here ∙ none_behind e.0 es (IsDistinct-head (eq_by_cmp uuid_cmp) e.0 (keys_of es) h) in
          at_same q e.0 (changed_row (finite.get t e.0) e.1) (changes_of es) is (rest ∙ ap (option_and_then (changed_row (finite.get t q))) absent) ∙ ap (λ u. changed_row (finite.get t u) e.1) (sym here)
      by rest false is = at_other q e.0 (changed_row (finite.get t e.0) e.1) (changes_of es) is ∙ rest

  after_laid : (r : Option Row) (w : Option (Option Row)) → changed_row r (laid r w) ≡ option_and_then (changed_row r) w
  after_laid r None = unchanged r
  after_laid r (Some now) = refl

  -- the changes of the rows touched are those of the table
  pub changes-are : (es : List (Uuid × Option Row)) → IsDistinct (eq_by_cmp uuid_cmp) (keys_of es) → finite.from_entries {R = uuid_cmp} (changes_of es) ≡ change t (overlaid t (finite.from_entries es))
  changes-are es h =
      same_map uuid_cmp_total uuid_cmp-IsAntisymmetric _ _
      (λ q.
      let o = finite.from_entries {R = uuid_cmp} es in
      get-from_entries (changes_of es) q ∙ find-changes es q h ∙ ap (option_and_then (changed_row (finite.get t q))) (sym (get-from_entries es q))
      ∙ sym (after_laid (finite.get t q) (finite.get o q)) ∙ ap (changed_row (finite.get t q)) (sym (get-overlaid t o q))
      ∙ sym (get-combine uuid_cmp_total uuid_cmp-IsAntisymmetric changed_row refl t (overlaid t o) q))

-- an entry of the code's map, as an iterator yields it
abbrev pub touched_entry : {Z : Type 0} → Bor Uuid × Bor (Option (Arc Row Z)) → Uuid × Option Row
touched_entry e = (e.0.now, row_of e.1.now)

pub changes-more : (t : Table) (es : List (Uuid × Option Row)) (e : Uuid × Option Row) → changes_of t (es ++ e ∷ []) ≡ changes_of t es ++ option_to_list (change_of t e)
changes-more t [] e = by (change_of t e)
  where
    by : (o : Option Entry) → cons_option o [] ≡ option_to_list o
    by None = refl
    by (Some c) = refl
changes-more t (d ∷ es) e = by (change_of t d) (changes_of t es) (changes-more t es e)
  where
    by : (o : Option Entry) (cs : List Entry) {ds : List Entry} → ds ≡ cs ++ option_to_list (change_of t e) → cons_option o ds ≡ cons_option o cs ++ option_to_list (change_of t e)
    by None cs h = h
    by (Some c) cs h = ap (λ xs. c ∷ xs) h

all-changes : (t : Table) (P : Uuid → Type 0) (es : List (Uuid × Option Row)) → AllByRecursion P (keys_of es) → AllByRecursion P (keys_of (changes_of t es))
all-changes t P [] h = tt
all-changes t P (e ∷ es) h = by (changed_row (finite.get t e.0) e.1) (changes_of t es) (all-changes t P es h.1)
  where
    by : (c : Option (Option Row × Option Row)) (cs : List Entry) → AllByRecursion P (keys_of cs) → AllByRecursion P (keys_of (cons_option (option_map (λ d. let x : Entry = (e.0, d) in x) c) cs))
    by None cs r = r
    by (Some d) cs r = (h.0, r)

pub distinct-changes : (t : Table) (es : List (Uuid × Option Row)) → IsDistinct (eq_by_cmp uuid_cmp) (keys_of es) → AreDistinct (changes_of t es)
unfolding IsDistinct
distinct-changes t [] h = tt
distinct-changes t (e ∷ es) h = by (changed_row (finite.get t e.0) e.1) (changes_of t es) (distinct-changes t es (IsDistinct-tail (eq_by_cmp uuid_cmp) e.0 (keys_of es) h)) (all-changes t (λ y. eq_by_cmp uuid_cmp e.0 y ≡ false) es (IsDistinct-head (eq_by_cmp uuid_cmp) e.0 (keys_of es) h))
  where
    by : (c : Option (Option Row × Option Row)) (cs : List Entry) → AreDistinct cs → AllByRecursion (λ y. eq_by_cmp uuid_cmp e.0 y ≡ false) (keys_of cs) → AreDistinct (cons_option (option_map (λ d. let x : Entry = (e.0, d) in x) c) cs)
    by None cs r a = r
    by (Some d) cs r a = IsDistinct-cons (eq_by_cmp uuid_cmp) e.0 (keys_of cs) a r

same_entries : {Z : Type 0} (zs : List (Bor Uuid × Bor (Option (Arc Row Z)))) → map touched_entry zs ≡ map (shown row_of) (map deref_pair zs)
same_entries [] = refl
same_entries (z ∷ zs) = ap (λ xs. touched_entry z ∷ xs) (same_entries zs)

-- what an iterator yielded, as the entries that it goes over
pub entries-are : {Z : Type 0} (ys : List (Bor Uuid × Bor (Option (Arc Row Z)))) (es : List (Uuid × Option (Arc Row Z))) → map deref_pair ys ≡ es → map touched_entry ys ≡ map (shown row_of) es
entries-are ys es e = same_entries ys ∙ ap (map (shown row_of)) e

pub distinct-shown : {Z : Type 0} (es : List (Uuid × Option (Arc Row Z))) → IsDistinct (eq_by_cmp uuid_cmp) (keys_of es) → IsDistinct (eq_by_cmp uuid_cmp) (keys_of (map (shown row_of) es))
distinct-shown es h = subst (IsDistinct (eq_by_cmp uuid_cmp)) (keys-shown row_of es) h
