-- A condition that wants `_uuid` to be an identifier holds of no row under another.
use Rattle.std.specs.Prelude.{◌≡◌, ℕ, zero, suc, ◌<◌, true, List, [], ◌∷◌, length, get_or, drop, Option, None, Some}
use Rattle.std.specs.List.{list_all}
use Rattle.std.proofs.Common.{arith, ⊎_elim}
use Rattle.std.proofs.lemmas.Option.{none-some, same_Some}
use mathlib.Core.Path.{refl, sym, subst, ap, ◌∙◌}
use Rattle.odb_atoms.specs.FinSet as set
use Rattle.odb_atoms.specs.Atom.{Atom, uuid, atom_cmp}
use Rattle.odb_atoms.specs.Row.{Row, Selector, cell, own_uuid}
use Rattle.odb_atoms.specs.Uuid.{Uuid}
use Rattle.odb_atoms.specs.Value.{Value, atoms, includes_all, map_of, set_of}
use mathlib.Core.Bool.{true≢false}
use Rattle.odb_atoms.proofs.FinSets.{contains-from_list}
use Rattle.odb_atoms.proofs.Atoms.{atom_cmp-IsAntisymmetric}
use Rattle.odb_atoms.specs.Represented.AtomOrder.{atom_cmp_total}
use Rattle.odb_atoms.proofs.FinMaps.{same_key}
use Rattle.odb_atoms.proofs.Lists.{both, either}
use Rattle.odb_atoms.proofs.Values.{same_value-equal}
use Rattle.odb_cond.specs.Condition.{Clause, Function, equal, holds, holds_all, includes, relates}
use Rattle.odb_cond.specs.Pinned.{lone_uuid, or_later, pinned, pinned_by, uuid_in, wanted}

same_uuid : (u w : Uuid) → uuid u ≡ uuid w → u ≡ w
same_uuid u w e = same_Some u w (ap (λ a. lone_uuid (a ∷ [])) e)

abbrev one : Uuid → Value
one u = set_of (atoms (uuid u ∷ []))

-- the one element of a list that a set of one includes
listed : (u w : Uuid) (xs : List Atom) → lone_uuid xs ≡ Some w → list_all (set.contains {R = atom_cmp} (atoms (uuid u ∷ []))) xs ≡ true → u ≡ w
listed u w (uuid v ∷ []) is all =
    let has = sym (contains-from_list atom_cmp_total (uuid u ∷ []) (uuid v)) ∙ (both (set.contains {R = atom_cmp} (atoms (uuid u ∷ [])) (uuid v)) true all).0 in
    ⊎_elim (λ e. sym (same_uuid v u (same_key atom_cmp-IsAntisymmetric (uuid v) (uuid u) e)) ∙ same_Some v w is) (λ e. absurd (true≢false (sym e))) (either _ _ has)
listed u w xs is all = absurd (none-some w is)

included : (u w : Uuid) (v : Value) → uuid_in v ≡ Some w → includes_all (one u) v ≡ true → u ≡ w
included u w (set_of s) is all = listed u w (set.items s) is all
included u w (map_of m) is all = absurd (none-some w is)

alone : (u w : Uuid) (r : Row) (column : Selector) (f : Function) (v : Value) → wanted column f v ≡ Some w → relates f (cell u r column) v ≡ true → u ≡ w
alone u w r own_uuid equal v is h = included u w v is (both (includes_all (one u) v) (includes_all v (one u)) h).0
alone u w r own_uuid includes v is h = included u w v is h
alone u w r column f v is h = absurd (none-some w is)

-- only a row under the pinned identifier matches
pub no_other : (cs : List Clause) (u w : Uuid) (r : Row) → pinned cs ≡ Some w → holds_all cs u r ≡ true → u ≡ w
no_other [] u w r is h = absurd (none-some w is)
no_other (c ∷ cs) u w r is h = let all = both (holds c u r) (holds_all cs u r) h in by (pinned_by c) refl is (no_other cs u w r) all.0 all.1
  where
    by : (o : Option Uuid) → pinned_by c ≡ o → or_later o (pinned cs) ≡ Some w → (pinned cs ≡ Some w → holds_all cs u r ≡ true → u ≡ w) → holds c u r ≡ true → holds_all cs u r ≡ true → u ≡ w
    by None own is rest here later = rest is later
    by (Some x) own is rest here later = alone u w r c.column c.function c.value (own ∙ is) here

-- a condition `==` on a column says what a row has there
pub equal_there : (c : Clause) (s : Selector) → c.column ≡ s → c.function ≡ equal → (u : Uuid) (r : Row) → holds c u r ≡ true → cell u r s ≡ c.value
equal_there c s at is u r h =
    same_value-equal (cell u r s) c.value
    (subst (λ f. relates f (cell u r s) c.value ≡ true) is (subst (λ t. relates c.function (cell u r t) c.value ≡ true) at h))

-- what a condition asks of each row that matches all
pub asked_there : (cs : List Clause) (k : ℕ) (c : Clause) → k < length cs → c ≡ get_or cs k c → (u : Uuid) (r : Row) → holds_all cs u r ≡ true → holds c u r ≡ true
asked_there [] k c low is u r h = absurd (omega arith)
asked_there (d ∷ cs) zero c low is u r h = subst (λ e. holds e u r ≡ true) (sym is) (both (holds d u r) (holds_all cs u r) h).0
asked_there (d ∷ cs) (suc k) c low is u r h = asked_there cs k c (omega arith) is u r (both (holds d u r) (holds_all cs u r) h).1

-- ---- from the front

pub pinned-drop : (cs : List Clause) (k : ℕ) (c : Clause) → k < length cs → c ≡ get_or cs k c → pinned (drop k cs) ≡ or_later (pinned_by c) (pinned (drop (suc k) cs))
pinned-drop [] k c low is = absurd (omega arith)
pinned-drop (d ∷ cs) zero c low is = ap (λ e. or_later (pinned_by e) (pinned cs)) (sym is)
pinned-drop (d ∷ cs) (suc k) c low is = pinned-drop cs k c (omega arith) is
