-- The change between two contents leads from the one to the other, and back.
use Rattle.std.specs.Prelude.{◌≡◌, ℕ, zero, suc, Bool, true, false, cond, ◌&&◌, [], ◌∷◌, length, slice_get, Option, Some, None}
use mathlib.Core.Path.{refl, sym, ap, ◌∙◌}
use Rattle.std.proofs.Common.{arith}
use Rattle.std.proofs.lemmas.Option.{none-some, same_Some}
use Rattle.std.specs.Cmp.{unsigned_Decides}
use Rattle.odb_atoms.proofs.Atoms.{uuid_cmp_total, uuid_cmp-IsAntisymmetric}
use Rattle.odb_atoms.proofs.Equal.{same_values-equal}
use Rattle.odb_atoms.proofs.FinMaps.{get-combine, same_map}
use Rattle.odb_atoms.proofs.Lists.{both}
use Rattle.odb_atoms.specs.FinMap as map
use Rattle.odb_atoms.specs.Row.{Row}
use Rattle.odb_atoms.specs.Uuid.{Uuid, same_uuid, same_number-same}
use Rattle.odb_atoms.specs.Value.{same_values}
use Rattle.odb_tables.specs.Change.{Changes, changed_row, change, after, before, changed_by, undone, change_between, all_changed_by, all_undone}
use Rattle.odb_tables.specs.Database.{Db, Table, table_at}
use Rattle.odb_tables.specs.Installing.{IsChangeOf}

same_rows : (p q : Row) → (same_uuid p.version q.version && same_values p.columns q.columns) ≡ true → p ≡ q
same_rows p q e =
    let h = both (same_uuid p.version q.version) (same_values p.columns q.columns) e in
    λ i. record { version = same_number-same p.version q.version ((unsigned_Decides p.version.number q.version.number).0 h.0) i; columns = same_values-equal p.columns q.columns h.1 i }

-- where two rows pass for the same, there is no change, and they are one
if_same : (b : Bool) (p q : Row) → (same_uuid p.version q.version && same_values p.columns q.columns) ≡ b → (after (Some p) (cond b None (Some (Some p, Some q))) ≡ Some q) × (before (Some q) (cond b None (Some (Some p, Some q))) ≡ Some p)
if_same true p q e = (ap Some (same_rows p q e), sym (ap Some (same_rows p q e)))
if_same false p q e = (refl, refl)

after_changed : (x y : Option Row) → after x (changed_row x y) ≡ y
after_changed None None = refl
after_changed None (Some q) = refl
after_changed (Some p) None = refl
after_changed (Some p) (Some q) = (if_same (same_uuid p.version q.version && same_values p.columns q.columns) p q refl).0

before_changed : (x y : Option Row) → before y (changed_row x y) ≡ x
before_changed None None = refl
before_changed None (Some q) = refl
before_changed (Some p) None = refl
before_changed (Some p) (Some q) = (if_same (same_uuid p.version q.version && same_values p.columns q.columns) p q refl).1

pub changed_by-change : (t u : Table) → changed_by t (change t u) ≡ u
changed_by-change t u =
    same_map uuid_cmp_total uuid_cmp-IsAntisymmetric (changed_by t (change t u)) u
    (λ q. get-combine uuid_cmp_total uuid_cmp-IsAntisymmetric after refl t (change t u) q
    ∙ ap (after (map.get t q)) (get-combine uuid_cmp_total uuid_cmp-IsAntisymmetric changed_row refl t u q)
    ∙ after_changed (map.get t q) (map.get u q))

pub undone-change : (t u : Table) → undone u (change t u) ≡ t
undone-change t u =
    same_map uuid_cmp_total uuid_cmp-IsAntisymmetric (undone u (change t u)) t
    (λ q. get-combine uuid_cmp_total uuid_cmp-IsAntisymmetric before refl u (change t u) q
    ∙ ap (before (map.get u q)) (get-combine uuid_cmp_total uuid_cmp-IsAntisymmetric changed_row refl t u q)
    ∙ before_changed (map.get t q) (map.get u q))

-- the two databases have as many tables
abbrev pub AreAlike : Db → Db → Type 0
AreAlike [] [] = Unit {0}
AreAlike [] (u ∷ new) = ⊥
AreAlike (t ∷ old) [] = ⊥
AreAlike (t ∷ old) (u ∷ new) = AreAlike old new

pub all_changed_by-change : (old new : Db) → AreAlike old new → all_changed_by old (change_between old new) ≡ new
all_changed_by-change [] [] a = refl
all_changed_by-change [] (u ∷ new) a = absurd a
all_changed_by-change (t ∷ old) [] a = absurd a
all_changed_by-change (t ∷ old) (u ∷ new) a = λ i. changed_by-change t u i ∷ all_changed_by-change old new a i

pub all_undone-change : (old new : Db) → AreAlike old new → all_undone new (change_between old new) ≡ old
all_undone-change [] [] a = refl
all_undone-change [] (u ∷ new) a = absurd a
all_undone-change (t ∷ old) [] a = absurd a
all_undone-change (t ∷ old) (u ∷ new) a = λ i. undone-change t u i ∷ all_undone-change old new a i

-- ---- of databases with as many tables

as_many : (old new : Db) → length new ≡ length old → AreAlike old new
as_many [] [] e = tt
as_many [] (u ∷ new) e = absurd (omega (arith, e))
as_many (t ∷ old) [] e = absurd (omega (arith, e))
as_many (t ∷ old) (u ∷ new) e = as_many old new (omega (arith, e))

pub leads-to : (old new : Db) → length new ≡ length old → all_changed_by old (change_between old new) ≡ new
leads-to old new e = all_changed_by-change old new (as_many old new e)

pub leads-back : (old new : Db) → length new ≡ length old → all_undone new (change_between old new) ≡ old
leads-back old new e = all_undone-change old new (as_many old new e)

-- the old side of a change is the row that changed
own_side : (x y : Option Row) → before x (changed_row x y) ≡ x
own_side None None = refl
own_side None (Some q) = refl
own_side (Some p) None = refl
own_side (Some p) (Some q) = by (same_uuid p.version q.version && same_values p.columns q.columns)
  where
    by : (b : Bool) → before (Some p) (cond b None (Some (Some p, Some q))) ≡ Some p
    by true = refl
    by false = refl

length-between : (old new : Db) → length new ≡ length old → length (change_between old new) ≡ length old
length-between [] new e = refl
length-between (t ∷ old) [] e = absurd (omega (arith, e))
length-between (t ∷ old) (u ∷ new) e = ap suc (length-between old new (omega (arith, e)))

own_rows : (old new : Db) → length new ≡ length old → (k : ℕ) (c : Changes) → slice_get (change_between old new) k ≡ Some c → (q : Uuid) → before (map.get (table_at old k) q) (map.get c q) ≡ map.get (table_at old k) q
own_rows [] new e k c at q = absurd (none-some c at)
own_rows (t ∷ old) [] e k c at q = absurd (omega (arith, e))
own_rows (t ∷ old) (u ∷ new) e zero c at q =
    ap (λ (d : Changes). before (map.get t q) (map.get d q)) (sym (same_Some (change t u) c at))
    ∙ ap (before (map.get t q)) (get-combine uuid_cmp_total uuid_cmp-IsAntisymmetric changed_row refl t u q) ∙ own_side (map.get t q) (map.get u q)
own_rows (t ∷ old) (u ∷ new) e (suc k) c at q = own_rows old new (omega (arith, e)) k c at q

-- what leads from a database to another is a change of it
pub change-of : (old new : Db) → length new ≡ length old → IsChangeOf old (change_between old new)
change-of old new e = (length-between old new e, own_rows old new e)
