-- How many rows a table has under the rows that a draft touched.
use Rattle.std.specs.Prelude.{◌≡◌, ℕ, ◌+◌, ◌≤◌, Bool, true, false, cond, not, ◌&&◌, List, [], ◌∷◌, length, is_some, Option, Some, None, sum_by}
use Rattle.std.specs.List.{IsDistinct}
use Rattle.std.specs.Map.{keys_of}
use Rattle.std.specs.Ordering.{eq_by_cmp, is_eq}
use Rattle.std.specs.Cmp.{tied_itself}
use Rattle.std.specs.FinMap.Entries.{length-put}
use mathlib.Core.Path.{refl, sym, ap, ◌∙◌}
use Rattle.std.proofs.Common.{arith}
use Rattle.std.proofs.lemmas.List.Sums.{sum_by-cons}
use Rattle.std.proofs.lemmas.Map.Keys.{IsDistinct-head, IsDistinct-tail}
use Rattle.odb_atoms.specs.FinMap as finite
use Rattle.odb_atoms.specs.Row.{Row}
use Rattle.odb_atoms.specs.Uuid.{Uuid, uuid_cmp}
use Rattle.odb_atoms.proofs.Atoms.{uuid_cmp-IsAntisymmetric}
use Rattle.odb_atoms.proofs.FinMaps.{entries-insert, get-entries, get-insert, same_key, same_map}
use Rattle.odb_tables.specs.Database.{Table}
use Rattle.odb_tables.specs.Represented.Counted.{gain, loss}
use Rattle.odb_tables.specs.Represented.Draft.{laid, overlaid}
use Rattle.odb_tables.specs.Represented.Key.{uuid_cmp_total}
use Rattle.odb_tables.specs.Represented.Overlay.{Touched}
use Rattle.odb_tables.proofs.KeyedMaps.{get-from_entries, get-remove, none_behind}
use Rattle.odb_tables.proofs.Overlays.{get-overlaid, overlaid-empty, overlaid-put, overlaid-removed}

-- ---- one entry more, and one less

itself : (k : Uuid) → eq_by_cmp uuid_cmp k k ≡ true
itself k = ap is_eq (tied_itself uuid_cmp_total k)

module _ {X : Type 0} where
  len-insert : (m : finite.FinMap uuid_cmp X) (k : Uuid) (v : X) (o : Option X) → finite.get m k ≡ o → finite.len (finite.insert m k v) ≡ cond (is_some o) (finite.len m) (finite.len m + 1)
  unfolding finite.len
  len-insert m k v o at =
      ap length (entries-insert uuid_cmp_total m k v) ∙ length-put uuid_cmp uuid_cmp_total k v m.entries m.sorted
      ∙ ap (λ o. cond (is_some o) (length m.entries) (length m.entries + 1)) (sym (get-entries m k) ∙ at)

  removed_absent : (m : finite.FinMap uuid_cmp X) (k : Uuid) → finite.get m k ≡ None → finite.remove m k ≡ m
  removed_absent m k none = same_map uuid_cmp_total uuid_cmp-IsAntisymmetric (finite.remove m k) m (λ q. get-remove m k q ∙ by q (eq_by_cmp uuid_cmp q k) refl)
    where
      by : (q : Uuid) (b : Bool) → eq_by_cmp uuid_cmp q k ≡ b → cond b None (finite.get m q) ≡ finite.get m q
      by q true e = sym (ap (finite.get m) (same_key uuid_cmp-IsAntisymmetric q k e) ∙ none)
      by q false e = refl

  put_back : (m : finite.FinMap uuid_cmp X) (k : Uuid) (v : X) → finite.get m k ≡ Some v → finite.insert (finite.remove m k) k v ≡ m
  put_back m k v there = same_map uuid_cmp_total uuid_cmp-IsAntisymmetric (finite.insert (finite.remove m k) k v) m (λ q.
      get-insert uuid_cmp_total (finite.remove m k) k v q ∙ ap (cond (eq_by_cmp uuid_cmp q k) (Some v)) (get-remove m k q) ∙ by q (eq_by_cmp uuid_cmp q k) refl)
    where
      by : (q : Uuid) (b : Bool) → eq_by_cmp uuid_cmp q k ≡ b → cond b (Some v) (cond b None (finite.get m q)) ≡ finite.get m q
      by q true e = sym (ap (finite.get m) (same_key uuid_cmp-IsAntisymmetric q k e) ∙ there)
      by q false e = refl

  len-remove : (m : finite.FinMap uuid_cmp X) (k : Uuid) (v : X) → finite.get m k ≡ Some v → finite.len (finite.remove m k) + 1 ≡ finite.len m
  len-remove m k v there =
      sym (len-insert (finite.remove m k) k v None (get-remove m k k ∙ ap (λ b. cond b None (finite.get m k)) (itself k))) ∙ ap finite.len (put_back m k v there)

-- ---- the rows that were touched, one after another

module _ (t : Table) where
  one_more : (m : Touched) (k : Uuid) (now : Option Row) (o : Option Row) → finite.get t k ≡ o → finite.get (overlaid t m) k ≡ o → finite.len (overlaid t (finite.insert m k now)) + loss t (k, now) ≡ finite.len (overlaid t m) + gain t (k, now)
  one_more m k (Some r) (Some p) was at =
      let long : finite.len (overlaid t (finite.insert m k (Some r))) ≡ finite.len (overlaid t m) = ap finite.len (overlaid-put t m k r) ∙ len-insert (overlaid t m) k r (Some p) at in
      let more : gain t (k, Some r) ≡ 0 = ap (λ x. cond (not (is_some x)) 1 0) was in
      let less : loss t (k, Some r) ≡ 0 = refl in
      omega (arith, long, more, less)
  one_more m k (Some r) None was at =
      let long : finite.len (overlaid t (finite.insert m k (Some r))) ≡ finite.len (overlaid t m) + 1 = ap finite.len (overlaid-put t m k r) ∙ len-insert (overlaid t m) k r None at in
      let more : gain t (k, Some r) ≡ 1 = ap (λ x. cond (not (is_some x)) 1 0) was in
      let less : loss t (k, Some r) ≡ 0 = refl in
      omega (arith, long, more, less)
  one_more m k None (Some p) was at =
      let long : finite.len (overlaid t (finite.insert m k None)) + 1 ≡ finite.len (overlaid t m) = ap (λ n. finite.len n + 1) (overlaid-removed t m k) ∙ len-remove (overlaid t m) k p at in
      let more : gain t (k, None) ≡ 0 = refl in
      let less : loss t (k, None) ≡ 1 = ap (λ x. cond (is_some x) 1 0) was in
      omega (arith, long, more, less)
  one_more m k None None was at =
      let long : finite.len (overlaid t (finite.insert m k None)) ≡ finite.len (overlaid t m) = ap finite.len (overlaid-removed t m k ∙ removed_absent (overlaid t m) k at) in
      let more : gain t (k, None) ≡ 0 = refl in
      let less : loss t (k, None) ≡ 0 = ap (λ x. cond (is_some x) 1 0) was in
      omega (arith, long, more, less)

  -- what came and what went
  pub counted : (es : List (Uuid × Option Row)) → IsDistinct (eq_by_cmp uuid_cmp) (keys_of es) → finite.len (overlaid t (finite.from_entries es)) + sum_by (loss t) es ≡ finite.len t + sum_by (gain t) es
  counted [] h = ap (λ m. finite.len m + 0) (overlaid-empty t)
  counted (e ∷ es) h =
      let m : Touched = finite.from_entries es in
      let rest = counted es (IsDistinct-tail (eq_by_cmp uuid_cmp) e.0 (keys_of es) h) in
      let absent : finite.get m e.0 ≡ None = get-from_entries es e.0 ∙ none_behind e.0 es (IsDistinct-head (eq_by_cmp uuid_cmp) e.0 (keys_of es) h) in
      let one = one_more m e.0 e.1 (finite.get t e.0) refl (get-overlaid t m e.0 ∙ ap (laid (finite.get t e.0)) absent) in
      let gained = sum_by-cons (gain t) e es in
      let lost = sum_by-cons (loss t) e es in
      omega (arith, rest, one, gained, lost)

  pub gain_one : (e : Uuid × Option Row) → gain t e ≤ 1
  gain_one e = elim (is_some e.1 && not (finite.contains_key t e.0)) as (λ b. cond b 1 0 ≤ 1) [ true ↦ omega arith | false ↦ omega arith ]

  pub loss_one : (e : Uuid × Option Row) → loss t e ≤ 1
  loss_one e = elim (not (is_some e.1) && finite.contains_key t e.0) as (λ b. cond b 1 0 ≤ 1) [ true ↦ omega arith | false ↦ omega arith ]

-- no more than one for each entry
pub sum_upto : {X : Type 0} (f : X → ℕ) → ((x : X) → f x ≤ 1) → (xs : List X) → sum_by f xs ≤ length xs
sum_upto f one [] = omega arith
sum_upto f one (x ∷ xs) =
    let more = sum_by-cons f x xs in
    let here = one x in
    let rest = sum_upto f one xs in
    omega (arith, rest, here, more)
