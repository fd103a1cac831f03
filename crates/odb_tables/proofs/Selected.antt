-- The rows of a table as a list of entries: of those that pass a test, and of those under keys among which is each row's.
use Rattle.std.proofs.Common.{◌≡◌, Bool, true, false, cond, ◌||◌, List, [], ◌∷◌, ◌++◌, filter, Option, Some, None, is_some, option_and_then, option_map, refl, sym, ap, ◌∙◌}
use mathlib.Core.Logic.{inl, inr}
use Rattle.std.proofs.lemmas.List.{append-nil}
use Rattle.std.proofs.lemmas.List.Elements.{filter_map-append}
use Rattle.std.proofs.lemmas.Option.{none-some}
use Rattle.std.proofs.lemmas.Map.Keys.{IsDistinct-cons, IsDistinct-head, IsDistinct-tail}
use Rattle.std.specs.FinMap.Entries.{find}
use Rattle.std.specs.List.{AllByRecursion, IsDistinct, cons_option, list_any}
use Rattle.std.specs.Map.{keys_of}
use Rattle.std.specs.Ordering.{eq_by_cmp}
use Rattle.odb_atoms.specs.FinMap as finite
use Rattle.odb_atoms.specs.Row.{Row}
use Rattle.odb_atoms.specs.Uuid.{Uuid, uuid_cmp}
use Rattle.odb_atoms.proofs.Atoms.{uuid_cmp-IsAntisymmetric}
use Rattle.odb_atoms.proofs.EachEntry.{get-entry}
use Rattle.odb_atoms.proofs.FinMaps.{same_key, same_map}
use Rattle.odb_atoms.proofs.Lists.{Member}
use Rattle.odb_tables.specs.Database.{Table}
use Rattle.odb_tables.specs.Represented.Found.{passing}
use Rattle.odb_tables.specs.Represented.RowIndex.{Covers}
use Rattle.odb_tables.specs.Represented.Key.{uuid_cmp_total}
use Rattle.odb_tables.specs.Represented.Table.{entries_at, entry_at}
use Rattle.odb_tables.proofs.Found.{distinct_found, get-passing, if_passes, matches}
use Rattle.odb_tables.proofs.KeyedMaps.{get-from_entries, none_behind}
use Rattle.odb_tables.proofs.Overlays.{none_twice}

module _ (p : Uuid → Row → Bool) where
  -- the row of the entry passes
  abbrev pub passes : Uuid × Row → Bool
  passes e = p e.0 e.1

  find-filter : (es : List (Uuid × Row)) (q : Uuid) → IsDistinct (eq_by_cmp uuid_cmp) (keys_of es) → find uuid_cmp q (filter passes es) ≡ option_and_then (if_passes p q) (find uuid_cmp q es)
  find-filter [] q h = refl
  find-filter (e ∷ es) q h = by (p e.0 e.1) refl (eq_by_cmp uuid_cmp q e.0) refl (find-filter es q (IsDistinct-tail (eq_by_cmp uuid_cmp) e.0 (keys_of es) h))
    where
      absent : eq_by_cmp uuid_cmp q e.0 ≡ true → find uuid_cmp q es ≡ None
      absent is = ap (λ u. find uuid_cmp u es) (same_key uuid_cmp-IsAntisymmetric q e.0 is) ∙ none_behind e.0 es (IsDistinct-head (eq_by_cmp uuid_cmp) e.0 (keys_of es) h)

      here : eq_by_cmp uuid_cmp q e.0 ≡ true → p q e.1 ≡ p e.0 e.1
      here is = ap (λ u. p u e.1) (same_key uuid_cmp-IsAntisymmetric q e.0 is)

      by : (b : Bool) → p e.0 e.1 ≡ b → (a : Bool) → eq_by_cmp uuid_cmp q e.0 ≡ a → find uuid_cmp q (filter passes es) ≡ option_and_then (if_passes p q) (find uuid_cmp q es)
          → find uuid_cmp q (cond b (e ∷ filter passes es) (filter passes es)) ≡ option_and_then (if_passes p q) (cond a (Some e.1) (find uuid_cmp q es))
      by true pe true is rest = ap (λ b. cond b (Some e.1) (find uuid_cmp q (filter passes es))) is ∙ sym (ap (λ b. cond b (Some e.1) None) (here is ∙ pe))
      by true pe false is rest = ap (λ b. cond b (Some e.1) (find uuid_cmp q (filter passes es))) is ∙ rest
      by false pe true is rest = rest ∙ ap (option_and_then (if_passes p q)) (absent is) ∙ sym (ap (λ b. cond b (Some e.1) None) (here is ∙ pe))
      by false pe false is rest = rest

  -- the entries that pass are those of the rows that pass
  pub passing-filter : (es : List (Uuid × Row)) → IsDistinct (eq_by_cmp uuid_cmp) (keys_of es) → finite.from_entries (filter passes es) ≡ passing p (finite.from_entries es)
  passing-filter es h = same_map uuid_cmp_total uuid_cmp-IsAntisymmetric _ _ (λ q.
      get-from_entries (filter passes es) q ∙ find-filter es q h ∙ ap (option_and_then (if_passes p q)) (sym (get-from_entries es q)) ∙ sym (get-passing p (finite.from_entries es) q))

  -- and their keys are distinct
  pub distinct-filter : (es : List (Uuid × Row)) → IsDistinct (eq_by_cmp uuid_cmp) (keys_of es) → IsDistinct (eq_by_cmp uuid_cmp) (keys_of (filter passes es))
  distinct-filter es h = distinct_found passes es h

  -- where there is no row none passes
  pub none-passing : finite.empty ≡ passing p finite.empty
  none-passing = passing-filter [] none_twice

-- ---- the rows under keys

module _ (t : Table) where
  pub entries-none : (us : List Uuid) (u : Uuid) → finite.get t u ≡ None → entries_at t us ≡ entries_at t (us ++ u ∷ [])
  entries-none us u none = sym (append-nil (entries_at t us)) ∙ ap (λ o. entries_at t us ++ cons_option (option_map (λ r. let e : Uuid × Row = (u, r) in e) o) []) (sym none) ∙ sym (filter_map-append (entry_at t) us (u ∷ []))

  pub entries-some : (us : List Uuid) (u : Uuid) (r : Row) → finite.get t u ≡ Some r → entries_at t us ++ (u, r) ∷ [] ≡ entries_at t (us ++ u ∷ [])
  entries-some us u r some = ap (λ o. entries_at t us ++ cons_option (option_map (λ r. let e : Uuid × Row = (u, r) in e) o) []) (sym some) ∙ sym (filter_map-append (entry_at t) us (u ∷ []))

  find-entries_at : (us : List Uuid) (q : Uuid) → find uuid_cmp q (entries_at t us) ≡ cond (list_any (eq_by_cmp uuid_cmp q) us) (finite.get t q) None
  find-entries_at [] q = refl
  find-entries_at (u ∷ us) q = by (eq_by_cmp uuid_cmp q u) refl (finite.get t u) refl (find-entries_at us q)
    where
      here : eq_by_cmp uuid_cmp q u ≡ true → finite.get t q ≡ finite.get t u
      here is = ap (finite.get t) (same_key uuid_cmp-IsAntisymmetric q u is)

      nothing : (b : Bool) (o : Option Row) → o ≡ None → cond b o None ≡ o
      nothing true o e = refl
      nothing false o e = sym e

      by : (a : Bool) → eq_by_cmp uuid_cmp q u ≡ a → (o : Option Row) → finite.get t u ≡ o → find uuid_cmp q (entries_at t us) ≡ cond (list_any (eq_by_cmp uuid_cmp q) us) (finite.get t q) None
          → find uuid_cmp q (cons_option (option_map (λ r. let e : Uuid × Row = (u, r) in e) o) (entries_at t us)) ≡ cond (a || list_any (eq_by_cmp uuid_cmp q) us) (finite.get t q) None
      by true is None at rest = rest ∙ nothing (list_any (eq_by_cmp uuid_cmp q) us) (finite.get t q) (here is ∙ at)
      by true is (Some r) at rest = ap (λ b. cond b (Some r) (find uuid_cmp q (entries_at t us))) is ∙ sym (here is ∙ at)
      by false is None at rest = rest
      by false is (Some r) at rest = ap (λ b. cond b (Some r) (find uuid_cmp q (entries_at t us))) is ∙ rest

  all-entries_at : (P : Uuid → Type 0) (us : List Uuid) → AllByRecursion P us → AllByRecursion P (keys_of (entries_at t us))
  all-entries_at P [] h = tt
  all-entries_at P (u ∷ us) h = by (finite.get t u) (all-entries_at P us h.1)
    where
      by : (o : Option Row) → AllByRecursion P (keys_of (entries_at t us)) → AllByRecursion P (keys_of (cons_option (option_map (λ r. let e : Uuid × Row = (u, r) in e) o) (entries_at t us)))
      by None rest = rest
      by (Some r) rest = (h.0, rest)

  pub distinct-entries_at : (us : List Uuid) → IsDistinct (eq_by_cmp uuid_cmp) us → IsDistinct (eq_by_cmp uuid_cmp) (keys_of (entries_at t us))
  distinct-entries_at [] h = none_twice
  distinct-entries_at (u ∷ us) h = by (finite.get t u) (distinct-entries_at us (IsDistinct-tail (eq_by_cmp uuid_cmp) u us h))
    where
      by : (o : Option Row) → IsDistinct (eq_by_cmp uuid_cmp) (keys_of (entries_at t us)) → IsDistinct (eq_by_cmp uuid_cmp) (keys_of (cons_option (option_map (λ r. let e : Uuid × Row = (u, r) in e) o) (entries_at t us)))
      by None rest = rest
      by (Some r) rest = IsDistinct-cons (eq_by_cmp uuid_cmp) u (keys_of (entries_at t us)) (all-entries_at _ us (IsDistinct-head (eq_by_cmp uuid_cmp) u us h)) rest

  -- they are all rows where each row's key is among the keys
  pub all-found : (us : List Uuid) → ((u : Uuid) → finite.contains_key t u ≡ true → list_any (eq_by_cmp uuid_cmp u) us ≡ true) → finite.from_entries (entries_at t us) ≡ t
  all-found us h = same_map uuid_cmp_total uuid_cmp-IsAntisymmetric _ _ (λ q. get-from_entries (entries_at t us) q ∙ find-entries_at us q ∙ by q (finite.get t q) (h q))
    where
      by : (q : Uuid) (o : Option Row) → (is_some o ≡ true → list_any (eq_by_cmp uuid_cmp q) us ≡ true) → cond (list_any (eq_by_cmp uuid_cmp q) us) o None ≡ o
      by q None here = elim (list_any (eq_by_cmp uuid_cmp q) us) as (λ b. cond {A = Option Row} b None None ≡ None) [ true ↦ refl | false ↦ refl ]
      by q (Some r) here = ap (λ b. cond {A = Option Row} b (Some r) None) (here refl)

  -- those under the keys of some of its rows are these
  these_entries : (es : List (Uuid × Row)) → ((e : Uuid × Row) → Member e es → finite.get t e.0 ≡ Some e.1) → entries_at t (keys_of es) ≡ es
  these_entries [] h = refl
  these_entries (e ∷ es) h =
      ap (λ o. cons_option (option_map (λ r. let f : Uuid × Row = (e.0, r) in f) o) (entries_at t (keys_of es))) (h e (inl refl))
      ∙ ap (λ fs. e ∷ fs) (these_entries es (λ f m. h f (inr m)))

-- so they are all rows that pass where the keys cover these
pub covered-found : (p : Uuid → Row → Bool) (t : Table) (us : List Uuid) → Covers us p t → finite.from_entries (entries_at (passing p t) us) ≡ passing p t
covered-found p t us h = all-found (passing p t) us (λ u e. h u (sym (matches p t u) ∙ e))

-- and in order where the keys are theirs in order
pub passing-found : (p : Uuid → Row → Bool) (t : Table) → entries_at t (finite.keys (passing p t)) ≡ finite.entries_of (passing p t)
unfolding finite.keys
passing-found p t = these_entries t (passing p t).entries (λ e m. there e.0 e.1 (sym (get-passing p t e.0) ∙ get-entry uuid_cmp_total (passing p t) e m))
  where
    kept : (b : Bool) (q r : Row) → cond b (Some q) None ≡ Some r → Some q ≡ Some r
    kept true q r e = e
    kept false q r e = absurd (none-some r e)

    by : (u : Uuid) (r : Row) (o : Option Row) → option_and_then (if_passes p u) o ≡ Some r → o ≡ Some r
    by u r None e = absurd (none-some r e)
    by u r (Some q) e = kept (p u q) q r e

    there : (u : Uuid) (r : Row) → option_and_then (if_passes p u) (finite.get t u) ≡ Some r → finite.get t u ≡ Some r
    there u r e = by u r (finite.get t u) e
