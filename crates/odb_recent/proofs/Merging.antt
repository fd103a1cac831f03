-- What several commits replaced, merged, leads back as they do one by one.
use Rattle.std.proofs.Common.{◌≡◌, ℕ, zero, suc, ◌<◌, arith, Bool, true, false, cond, drop, length, slice_get, take, unwrap_or, List, [], ◌∷◌, Option, Some, None, is_some, refl, sym, ap, ◌∙◌}
use Rattle.std.specs.FinMap.Entries.{find}
use Rattle.std.specs.Ordering.{eq_by_cmp}
use Rattle.odb_atoms.specs.FinMap as map
use Rattle.odb_atoms.specs.Row.{Row}
use Rattle.odb_atoms.specs.Uuid.{Uuid, uuid_cmp}
use Rattle.odb_atoms.proofs.Atoms.{uuid_cmp_total, uuid_cmp-IsAntisymmetric}
use Rattle.odb_atoms.proofs.FinMaps.{get-combine, get-empty, get-insert, same_key, same_map}
use Rattle.odb_tables.specs.Database.{Table}
use Rattle.odb_tables.proofs.KeyedMaps.{get-from_entries}
use Rattle.odb_recent.specs.Represented.Merged.{first_of, merged, with_old, with_olds}
use Rattle.odb_recent.specs.Undo.{Olds, Undo, old_or, olds_at, table_ago, undone_by}

-- ---- leading back

abbrev Old : Type 0
Old = Option (Option Row)

twice : (r : Option Row) (o m : Old) → old_or (old_or r o) m ≡ old_or r (first_of m o)
twice r o None = refl
twice r o (Some x) = refl

undone-none : (t : Table) → t ≡ undone_by t map.empty
undone-none t =
    same_map uuid_cmp_total uuid_cmp-IsAntisymmetric _ _
    (λ q. sym (get-combine uuid_cmp_total uuid_cmp-IsAntisymmetric old_or refl t map.empty q ∙ ap (old_or (map.get t q)) (get-empty uuid_cmp q)))

undone-twice : (t : Table) (o m : Olds) → undone_by (undone_by t o) m ≡ undone_by t (map.combine first_of m o)
undone-twice t o m =
    same_map uuid_cmp_total uuid_cmp-IsAntisymmetric _ _
    (λ q. get-combine uuid_cmp_total uuid_cmp-IsAntisymmetric old_or refl (undone_by t o) m q
    ∙ ap (λ r. old_or r (map.get m q)) (get-combine uuid_cmp_total uuid_cmp-IsAntisymmetric old_or refl t o q)
    ∙ twice (map.get t q) (map.get o q) (map.get m q)
    ∙ ap (old_or (map.get t q)) (sym (get-combine uuid_cmp_total uuid_cmp-IsAntisymmetric first_of refl m o q))
    ∙ sym (get-combine uuid_cmp_total uuid_cmp-IsAntisymmetric old_or refl t (map.combine first_of m o) q))

pub ago-merged : (k : ℕ) (us : List Undo) (t : Table) → table_ago k us t ≡ undone_by t (merged k us)
ago-merged k [] t = undone-none t
ago-merged k (u ∷ us) t = ago-merged k us (undone_by t (olds_at u k)) ∙ undone-twice t (olds_at u k) (merged k us)

pub merged-more : (k : ℕ) (all : List Undo) (n p : ℕ) → p < n → p < length all
    → map.combine first_of (merged k (drop (suc p) (take n all))) (olds_at (unwrap_or (slice_get all p) []) k) ≡ merged k (drop p (take n all))
merged-more k [] n p low few = absurd (omega (arith, few))
merged-more k (u ∷ us) zero p low few = absurd (omega (arith, low))
merged-more k (u ∷ us) (suc n) zero low few = refl
merged-more k (u ∷ us) (suc n) (suc p) low few = merged-more k us n p (omega (arith, low)) (omega (arith, few))

-- ---- row by row

first-none : (o : Old) → first_of o None ≡ o
first-none None = refl
first-none (Some x) = refl

same : (b : Bool) (x : Old) → cond b x x ≡ x
same true x = refl
same false x = refl

get-with_old : (m : Olds) (k : Uuid) (o : Option Row) (q : Uuid) → map.get (with_old m (k, o)) q ≡ cond (map.contains_key m k) (map.get m q) (cond (eq_by_cmp uuid_cmp q k) (Some o) (map.get m q))
get-with_old m k o q = by (map.contains_key m k)
  where
    by : (b : Bool) → map.get (cond b m (map.insert m k o)) q ≡ cond b (map.get m q) (cond (eq_by_cmp uuid_cmp q k) (Some o) (map.get m q))
    by true = refl
    by false = get-insert uuid_cmp_total m k o q

get-with_olds : (m : Olds) (es : List (Uuid × Option Row)) (q : Uuid) → map.get (with_olds m es) q ≡ first_of (map.get m q) (find uuid_cmp q es)
get-with_olds m [] q = sym (first-none (map.get m q))
get-with_olds m (e ∷ es) q =
    get-with_olds (with_old m e) es q ∙ ap (λ o. first_of o (find uuid_cmp q es)) (get-with_old m e.0 e.1 q) ∙ by (eq_by_cmp uuid_cmp q e.0) refl
  where
    there : (x rest : Old) → first_of (cond (is_some x) x (Some e.1)) rest ≡ first_of x (Some e.1)
    there None rest = refl
    there (Some x) rest = refl

    by : (b : Bool) → eq_by_cmp uuid_cmp q e.0 ≡ b
        → first_of (cond (map.contains_key m e.0) (map.get m q) (cond b (Some e.1) (map.get m q))) (find uuid_cmp q es) ≡ first_of (map.get m q) (cond b (Some e.1) (find uuid_cmp q es))
    by true is =
        ap (λ u. first_of (cond (is_some (map.get m u)) (map.get m q) (Some e.1)) (find uuid_cmp q es)) (sym (same_key uuid_cmp-IsAntisymmetric q e.0 is))
        ∙ there (map.get m q) (find uuid_cmp q es)
    by false is = ap (λ o. first_of o (find uuid_cmp q es)) (same (map.contains_key m e.0) (map.get m q))

pub with-all : (m : Olds) (es : List (Uuid × Option Row)) → with_olds m es ≡ map.combine first_of m (map.from_entries es)
with-all m es =
    same_map uuid_cmp_total uuid_cmp-IsAntisymmetric _ _
    (λ q. get-with_olds m es q ∙ ap (first_of (map.get m q)) (sym (get-from_entries es q))
    ∙ sym (get-combine uuid_cmp_total uuid_cmp-IsAntisymmetric first_of refl m (map.from_entries es) q))
