-- The rows of a change, as the code lists them and as the finite map has them.
use Rattle.std.specs.Prelude.{◌≡◌, ℕ, Bool, true, false, cond, ◌||◌, List, [], ◌∷◌, Some, None}
use mathlib.Core.Path.{refl, sym, ap, ◌∙◌}
use Rattle.std.proofs.lemmas.Map.Keys.{IsDistinct-head, IsDistinct-tail}
use Rattle.std.proofs.lemmas.Option.{none-some}
use Rattle.std.specs.BTreeMap.{get}
use Rattle.std.specs.BTreeSet.{contains}
use Rattle.std.specs.FinMap.Entries.{by_order, find, put}
use Rattle.std.specs.List.{list_any}
use Rattle.std.specs.Map.{keys_of}
use Rattle.std.specs.Ordering.{eq_by_cmp, is_eq, nat_cmp}
use Rattle.std.specs.declared.cmp.Ordering.{Ordering}
use Rattle.std.specs.declared.cmp.Ordering.TheVariants.{Less, Equal, Greater}
use Rattle.odb_atoms.proofs.FinMaps.{entries-insert, get-entries}
use Rattle.odb_atoms.specs.FinMap as finite
use Rattle.odb_atoms.specs.Row.{Selector, declared, own_uuid, own_version}
use Rattle.odb_atoms.specs.Uuid.{uuid_cmp}
use Rattle.odb_interest.specs.Represented.Found.{RowChange, is_found, names_in, names_some}
use Rattle.odb_interest.specs.Represented.Key.{held}
use Rattle.odb_interest.specs.declared.column.SessionsByAtom.{SessionsByAtom}
use Rattle.odb_interest.specs.declared.watched.Watched.{Watched}
use Rattle.odb_tables.proofs.KeyedMaps.{get-from_entries, none_behind}
use Rattle.odb_tables.specs.Change.{Changes}
use Rattle.odb_tables.specs.Represented.Key.{uuid_cmp_total}
use Rattle.odb_tables.specs.Represented.TableChange.{AreDistinct}

swapped : (a b c : Bool) → (a || (b || c)) ≡ (b || (a || c))
swapped true true c = refl
swapped true false c = refl
swapped false true c = refl
swapped false false c = refl

module _ (p : RowChange → Bool) where
  any-put : (e : RowChange) (es : List RowChange) → find uuid_cmp e.0 es ≡ None → list_any p (put uuid_cmp e.0 e.1 es) ≡ (p e || list_any p es)
  any-put e [] none = refl
  any-put e (f ∷ fs) none = by (uuid_cmp e.0 f.0) refl (any-put e fs)
    where
      not_here : uuid_cmp e.0 f.0 ≡ Equal → ⊥
      not_here t = none-some f.1 (sym none ∙ ap (λ r. cond (is_eq r) (Some f.1) (find uuid_cmp e.0 fs)) t)

      later : uuid_cmp e.0 f.0 ≡ Greater → find uuid_cmp e.0 fs ≡ None
      later t = ap (λ r. cond (is_eq r) (Some f.1) (find uuid_cmp e.0 fs)) (sym t) ∙ none

      by : (r : Ordering) → uuid_cmp e.0 f.0 ≡ r → (find uuid_cmp e.0 fs ≡ None → list_any p (put uuid_cmp e.0 e.1 fs) ≡ (p e || list_any p fs)) → list_any p (by_order r ((e.0, e.1) ∷ f ∷ fs) ((f.0, e.1) ∷ fs) (f ∷ put uuid_cmp e.0 e.1 fs)) ≡ (p e || (p f || list_any p fs))
      by Less t rest = refl
      by Equal t rest = absurd (not_here t)
      by Greater t rest = ap (λ b. p f || b) (rest (later t)) ∙ swapped (p f) (p e) (list_any p fs)

  -- a test finds a row in the one where it does in the other
  pub any-rows : (es : List RowChange) → AreDistinct es → list_any p es ≡ list_any p (finite.entries_of (finite.from_entries {R = uuid_cmp} es))
  unfolding finite.empty
  any-rows [] h = refl
  any-rows (e ∷ es) h =
      let m = finite.from_entries {R = uuid_cmp} es in
      let absent : find uuid_cmp e.0 m.entries ≡ None = sym (get-entries m e.0) ∙ get-from_entries es e.0 ∙ none_behind e.0 es (IsDistinct-head (eq_by_cmp uuid_cmp) e.0 (keys_of es) h) in
      ap (λ b. p e || b) (any-rows es (IsDistinct-tail (eq_by_cmp uuid_cmp) e.0 (keys_of es) h)) ∙ sym (ap (list_any p) (entries-insert uuid_cmp_total m e.0 e.1) ∙ any-put e m.entries absent)

pub found-rows : (w : Watched) (es : List RowChange) (d : Changes) → AreDistinct es → finite.from_entries es ≡ d → (s : ℕ) → is_found w es s ≡ is_found w (finite.entries_of d) s
found-rows w es d h is s =
    (λ i. contains nat_cmp w.loose s || (alike w.uuids own_uuid i || (alike w.versions own_version i || list_any (λ j. held (λ c. alike c (declared j) i) (get nat_cmp w.columns j)) (keys_of w.columns.entries))))
    ∙ ap (λ (m : Changes). is_found w (finite.entries_of m) s) is
  where
    alike : (c : SessionsByAtom) (at : Selector) → names_some c at es s ≡ names_some c at (finite.entries_of (finite.from_entries {R = uuid_cmp} es)) s
    alike c at = any-rows (λ e. names_in c at e.0 e.1.0 s || names_in c at e.0 e.1.1 s) es h
