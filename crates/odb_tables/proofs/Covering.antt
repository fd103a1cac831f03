-- Keys among which are those of all rows that pass a test: how they are put together.
use Rattle.std.proofs.Common.{◌≡◌, ◌⊎◌, ◌==◌, Bool, true, false, cond, not, ◌||◌, List, ◌∷◌, length, map, Option, Some, None, refl, sym, ap, ◌∙◌}
use mathlib.Core.Bool.{true≢false}
use mathlib.Core.Logic.{inl, inr}
use Rattle.std.specs.BTreeSet.{BTreeSet, Updates, contains}
use Rattle.std.specs.List.{list_any}
use Rattle.std.specs.Ordering.{eq_by_cmp, is_eq}
use Rattle.odb_atoms.specs.FinMap as finite
use Rattle.odb_atoms.specs.Row.{Row}
use Rattle.odb_atoms.specs.Uuid.{Uuid, uuid_cmp}
use Rattle.odb_atoms.proofs.Atoms.{uuid_cmp-IsAntisymmetric}
use Rattle.odb_atoms.proofs.FinMaps.{same_key}
use Rattle.odb_atoms.proofs.Lists.{either}
use Rattle.odb_cond.specs.Filter.{Filter, member_holds, selects}
use Rattle.odb_cond.specs.Represented.Filter.{member_of}
use Rattle.odb_cond.specs.Represented.Prepared.{some_holds}
use Rattle.odb_cond.specs.declared.filter.Member.{Member}
use Rattle.odb_cond.specs.declared.filter.Member.TheVariants.{Always}
use Rattle.odb_cond.proofs.Filters as filters
use Rattle.odb_tables.specs.Database.{Table}
use Rattle.odb_tables.specs.Represented.RowIndex.{Covers, KeepsKeys}
use Rattle.odb_tables.specs.Represented.Overlay.{passes_now}

-- ---- keys that are put into a set

pub grown : (old new : BTreeSet Uuid) (k : Uuid) → Updates uuid_cmp old new k true → KeepsKeys old.keys new.keys
grown old new k h u e = h.0 u ∙ by (is_eq (uuid_cmp k u))
  where
    by : (b : Bool) → cond b true (contains uuid_cmp old u) ≡ true
    by true = refl
    by false = e

-- a key among those that are left is the next, which was put in, or one after it
pub next_added : (keys : List Uuid) (k : Uuid) (left : List Uuid) (u : Uuid) → list_any (eq_by_cmp uuid_cmp k) keys ≡ true → list_any (eq_by_cmp uuid_cmp u) (k ∷ left) ≡ true
    → (list_any (eq_by_cmp uuid_cmp u) keys ≡ true) ⊎ (list_any (eq_by_cmp uuid_cmp u) left ≡ true)
next_added keys k left u in_it h = elim (either (eq_by_cmp uuid_cmp u k) (list_any (eq_by_cmp uuid_cmp u) left) h) as (λ _. (list_any (eq_by_cmp uuid_cmp u) keys ≡ true) ⊎ (list_any (eq_by_cmp uuid_cmp u) left ≡ true)) [
  | inl is ↦ inl (ap (λ v. list_any (eq_by_cmp uuid_cmp v) keys) (same_key uuid_cmp-IsAntisymmetric u k is) ∙ in_it)
  | inr more ↦ inr more
]

-- ---- row by row

pub covers : (keys : List Uuid) (p : Uuid → Row → Bool) (t : Table) → ((u : Uuid) (r : Row) → finite.get t u ≡ Some r → p u r ≡ true → list_any (eq_by_cmp uuid_cmp u) keys ≡ true) → Covers keys p t
covers keys p t h u e = by (finite.get t u) refl e
  where
    by : (o : Option Row) → finite.get t u ≡ o → passes_now p u o ≡ true → list_any (eq_by_cmp uuid_cmp u) keys ≡ true
    by None at f = absurd (true≢false (sym f))
    by (Some r) at f = h u r at f

pub covered : (keys : List Uuid) (p : Uuid → Row → Bool) (t : Table) → Covers keys p t → (u : Uuid) (r : Row) → finite.get t u ≡ Some r → p u r ≡ true → list_any (eq_by_cmp uuid_cmp u) keys ≡ true
covered keys p t h u r at e = h u (ap (passes_now p u) at ∙ e)

-- ---- members

pub none-holds : (m : Member) (b : Bool) (u : Uuid) (r : Row) → m ≡ Always b → not b ≡ true → member_holds u r (member_of m) ≡ false
none-holds m b u r is off = ap (λ n. member_holds u r (member_of n)) is ∙ by b off
  where
    by : (a : Bool) → not a ≡ true → a ≡ false
    by true e = sym e
    by false e = refl

-- a row of which one of the members that are left holds is covered by the next one's keys, or one after it holds of it
pub next_covered : (keys : List Uuid) (t : Table) (m : Member) (left : List Member) (u : Uuid) (r : Row) → finite.get t u ≡ Some r → Covers keys (λ v s. member_holds v s (member_of m)) t → some_holds u r (m ∷ left) ≡ true
    → (list_any (eq_by_cmp uuid_cmp u) keys ≡ true) ⊎ (some_holds u r left ≡ true)
next_covered keys t m left u r at h e = elim (either (member_holds u r (member_of m)) (some_holds u r left) e) as (λ _. (list_any (eq_by_cmp uuid_cmp u) keys ≡ true) ⊎ (some_holds u r left ≡ true)) [
  | inl is ↦ inl (covered keys (λ v s. member_holds v s (member_of m)) t h u r at is)
  | inr more ↦ inr more
]

-- a filter with members selects the rows of which one of them holds
pub selects-some : (f : Filter) (ms : List Member) → map member_of ms ≡ f → (length ms == 0) ≡ false → (u : Uuid) (r : Row) → selects f u r ≡ some_holds u r ms
selects-some f ms is some u r = ap (λ g. selects g u r) (sym is) ∙ filters.selected ms u r ∙ ap (λ b. b || some_holds u r ms) some
