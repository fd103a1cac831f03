-- The changes that entries by identifiers come to, one for each that g finds changed.
use Rattle.std.proofs.Common.{◌≡◌, Bool, true, false, cond, List, [], ◌∷◌, ◌++◌, option_to_list, Option, Some, None, option_map, option_and_then, refl, sym, ap, ◌∙◌, filter_map, ◌&&◌}
use Rattle.std.specs.Cmp.{unsigned_Decides}
use Rattle.std.specs.List.{AllByRecursion, IsDistinct, cons_option}
use Rattle.std.specs.FinMap.Entries.{find}
use Rattle.std.specs.Map.{keys_of}
use Rattle.std.specs.Ordering.{eq_by_cmp}
use Rattle.std.proofs.lemmas.Map.Keys.{IsDistinct-cons, IsDistinct-head, IsDistinct-tail}
use Rattle.odb_atoms.specs.Row.{Row}
use Rattle.odb_atoms.specs.Uuid.{Uuid, uuid_cmp}
use Rattle.odb_atoms.proofs.Atoms.{uuid_cmp-IsAntisymmetric}
use Rattle.odb_atoms.proofs.Equal.{same_values-itself}
use Rattle.odb_atoms.proofs.FinMaps.{same_key}
use Rattle.odb_tables.specs.Change.{changed_row}
use Rattle.odb_tables.specs.Represented.TableChange.{AreDistinct}
use Rattle.odb_tables.proofs.KeyedMaps.{none_behind}

abbrev pub Sides : Type 0
Sides = Option Row × Option Row

abbrev pub Entry : Type 0
Entry = Uuid × Sides

-- a row that is the same is no change
pub unchanged : (r : Option Row) → changed_row r r ≡ None
unchanged None = refl
unchanged (Some p) =
    ap (λ b. cond {A = Option Sides} b None (Some (Some p, Some p)))
    ((λ i. (unsigned_Decides p.version.number p.version.number).1 refl i && same_values-itself p.columns i))

module _ {X : Type 0} (g : Uuid → X → Option Sides) where
  abbrev pub change_of : Uuid × X → Option Entry
  change_of e = option_map (λ d. let c : Entry = (e.0, d) in c) (g e.0 e.1)

  abbrev pub changes_of : List (Uuid × X) → List Entry
  changes_of es = filter_map change_of es

  at_other : (q k : Uuid) (c : Option Sides) (cs : List Entry) → eq_by_cmp uuid_cmp q k ≡ false → find uuid_cmp q (cons_option (option_map (λ d. let e : Entry = (k, d) in e) c) cs) ≡ find uuid_cmp q cs
  at_other q k None cs other = refl
  at_other q k (Some d) cs other = ap (λ b. cond b (Some d) (find uuid_cmp q cs)) other

  at_same : (q k : Uuid) (c : Option Sides) (cs : List Entry) → eq_by_cmp uuid_cmp q k ≡ true → find uuid_cmp q cs ≡ None → find uuid_cmp q (cons_option (option_map (λ d. let e : Entry = (k, d) in e) c) cs) ≡ c
  at_same q k None cs same none = none
  at_same q k (Some d) cs same none = ap (λ b. cond b (Some d) (find uuid_cmp q cs)) same

  pub find-changes : (es : List (Uuid × X)) (q : Uuid) → IsDistinct (eq_by_cmp uuid_cmp) (keys_of es) → find uuid_cmp q (changes_of es) ≡ option_and_then (g q) (find uuid_cmp q es)
  find-changes [] q h = refl
  find-changes (e ∷ es) q h = by (find-changes es q (IsDistinct-tail (eq_by_cmp uuid_cmp) e.0 (keys_of es) h)) (eq_by_cmp uuid_cmp q e.0) refl
    where
      Goal : Bool → Type 0
      Goal b = find uuid_cmp q (changes_of (e ∷ es)) ≡ option_and_then (g q) (cond b (Some e.1) (find uuid_cmp q es))

      by : find uuid_cmp q (changes_of es) ≡ option_and_then (g q) (find uuid_cmp q es) → (b : Bool) → eq_by_cmp uuid_cmp q e.0 ≡ b → Goal b
      by rest true is =
          let here : q ≡ e.0 = same_key uuid_cmp-IsAntisymmetric q e.0 is in
          let absent : find uuid_cmp q es ≡ None = ap (λ u. find uuid_cmp u es) here ∙ none_behind e.0 es (IsDistinct-head (eq_by_cmp uuid_cmp) e.0 (keys_of es) h) in
          at_same q e.0 (g e.0 e.1) (changes_of es) is (rest ∙ ap (option_and_then (g q)) absent) ∙ ap (λ u. g u e.1) (sym here)
      by rest false is = at_other q e.0 (g e.0 e.1) (changes_of es) is ∙ rest

  pub changes-more : (es : List (Uuid × X)) (e : Uuid × X) → changes_of (es ++ e ∷ []) ≡ changes_of es ++ option_to_list (change_of e)
  changes-more [] e = by (change_of e)
    where
      by : (o : Option Entry) → cons_option o [] ≡ option_to_list o
      by None = refl
      by (Some c) = refl
  changes-more (d ∷ es) e = by (change_of d) (changes_of es) (changes-more es e)
    where
      by : (o : Option Entry) (cs : List Entry) {ds : List Entry} → ds ≡ cs ++ option_to_list (change_of e) → cons_option o ds ≡ cons_option o cs ++ option_to_list (change_of e)
      by None cs h = h
      by (Some c) cs h = ap (λ xs. c ∷ xs) h

  all-changes : (P : Uuid → Type 0) (es : List (Uuid × X)) → AllByRecursion P (keys_of es) → AllByRecursion P (keys_of (changes_of es))
  all-changes P [] h = tt
  all-changes P (e ∷ es) h = by (g e.0 e.1) (changes_of es) (all-changes P es h.1)
    where
      by : (c : Option Sides) (cs : List Entry) → AllByRecursion P (keys_of cs) → AllByRecursion P (keys_of (cons_option (option_map (λ d. let x : Entry = (e.0, d) in x) c) cs))
      by None cs r = r
      by (Some d) cs r = (h.0, r)

  pub distinct-changes : (es : List (Uuid × X)) → IsDistinct (eq_by_cmp uuid_cmp) (keys_of es) → AreDistinct (changes_of es)
  unfolding IsDistinct
  distinct-changes [] h = tt
  distinct-changes (e ∷ es) h = by (g e.0 e.1) (changes_of es) (distinct-changes es (IsDistinct-tail (eq_by_cmp uuid_cmp) e.0 (keys_of es) h)) (all-changes (λ y. eq_by_cmp uuid_cmp e.0 y ≡ false) es (IsDistinct-head (eq_by_cmp uuid_cmp) e.0 (keys_of es) h))
    where
      by : (c : Option Sides) (cs : List Entry) → AreDistinct cs → AllByRecursion (λ y. eq_by_cmp uuid_cmp e.0 y ≡ false) (keys_of cs) → AreDistinct (cons_option (option_map (λ d. let x : Entry = (e.0, d) in x) c) cs)
      by None cs r a = r
      by (Some d) cs r a = IsDistinct-cons (eq_by_cmp uuid_cmp) e.0 (keys_of cs) a r
