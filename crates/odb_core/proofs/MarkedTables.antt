-- Tables that are marked as the same, while changes are put over a database.
use Rattle.std.proofs.Common.{◌≡◌, ℕ, zero, suc, ◌+◌, ◌<◌, ◌≤◌, Bool, true, false, nat_lt, ◌||◌, List, [], ◌∷◌, length, map, Some, refl, sym, ap, subst, ◌∙◌, true≢false, arith}
use Rattle.std.specs.List.{list_any}
use Rattle.std.specs.Prelude.{slice_set}
use Rattle.std.proofs.lemmas.Bool.Decides.{nat_tests}
use Rattle.std.proofs.lemmas.Option.{same_Some}
use Rattle.odb_atoms.specs.FinMap as finite
use Rattle.odb_atoms.specs.Uuid.{uuid_cmp}
use Rattle.odb_atoms.proofs.Atoms.{uuid_cmp_total, uuid_cmp-IsAntisymmetric}
use Rattle.odb_atoms.proofs.FinMaps.{get-combine, get-empty, same_map}
use Rattle.odb_schema.specs.Schema.{Schema, table_place}
use Rattle.odb_tables.specs.Change.{Changes, after, all_changed_by, changed_by}
use Rattle.odb_tables.specs.Database.{Db, Table, table_at}
use Rattle.odb_core.specs.Stuck.{IsSameAt}
use Rattle.odb_core.specs.Marked.{AreLeft, AreSame, change_at, is_marked}

-- a change of no row
unchanged : (t : Table) → changed_by t finite.empty ≡ t
unchanged t =
    same_map uuid_cmp_total uuid_cmp-IsAntisymmetric (changed_by t finite.empty) t
    (λ u. get-combine uuid_cmp_total uuid_cmp-IsAntisymmetric after refl t finite.empty u ∙ ap (after (finite.get t u)) (get-empty uuid_cmp u))

table_changed : (db : Db) (cs : List Changes) (t : ℕ) → length cs ≡ length db → table_at (all_changed_by db cs) t ≡ changed_by (table_at db t) (change_at cs t)
table_changed [] [] t e = sym (unchanged finite.empty)
table_changed [] (c ∷ cs) t e = absurd (omega (arith, e))
table_changed (x ∷ db) [] t e = absurd (omega (arith, e))
table_changed (x ∷ db) (c ∷ cs) zero e = refl
table_changed (x ∷ db) (c ∷ cs) (suc t) e = table_changed db cs t (omega (arith, e))

-- what is still marked is the same after one more change
pub same_on : (marks left : List Bool) (old now : Db) (cs : List Changes) → length cs ≡ length now → AreLeft marks left cs → AreSame marks old now → AreSame left old (all_changed_by now cs)
same_on marks left old now cs as_many lefts same t is =
    table_changed now cs t as_many ∙ ap (changed_by (table_at now t)) (lefts t is).1 ∙ unchanged (table_at now t) ∙ same t (lefts t is).0

-- so is the table of a name, where that is marked
pub same_named : (s : Schema) (name : List ℕ) (place : ℕ) (marks : List Bool) (old new : Db) → table_place s name ≡ Some place → is_marked marks place ≡ true → AreSame marks old new → IsSameAt s name old new
same_named s name place marks old new at is same t e = same t (subst (λ u. is_marked marks u ≡ true) (same_Some place t (sym at ∙ e)) is)

-- ---- unmarking

-- no mark stands past the end
pub within : (marks : List Bool) (t : ℕ) → is_marked marks t ≡ true → t < length marks
within [] t is = absurd (true≢false (sym is))
within (b ∷ marks) zero is = omega arith
within (b ∷ marks) (suc t) is = let rest : t < length marks = within marks t is in omega (arith, rest)

-- after one is unmarked
pub others : (marks : List Bool) (k t : ℕ) → is_marked (slice_set marks k false) t ≡ true → (is_marked marks t ≡ true) × (t ≡ k → ⊥)
others [] k t is = absurd (true≢false (sym is))
others (b ∷ marks) zero zero is = absurd (true≢false (sym is))
others (b ∷ marks) zero (suc t) is = (is, λ e. absurd (omega (arith, e)))
others (b ∷ marks) (suc k) zero is = (is, λ e. absurd (omega (arith, e)))
others (b ∷ marks) (suc k) (suc t) is =
    let ih : (is_marked marks t ≡ true) × (t ≡ k → ⊥) = others marks k t is in
    (ih.0, λ e. ih.1 (omega (arith, e)))

-- of the tables in front of a place
abbrev pub AreLeftTo : ℕ → List Bool → List Bool → List Changes → Type 0
AreLeftTo k old new cs = (t : ℕ) → is_marked new t ≡ true → (is_marked old t ≡ true) × (t < k → change_at cs t ≡ finite.empty)

by_place : (cs : List Changes) (t k : ℕ) → t < k + 1 → (t ≡ k → change_at cs t ≡ finite.empty) → (t < k → change_at cs t ≡ finite.empty) → change_at cs t ≡ finite.empty
by_place cs t k low here below = by (nat_lt t k) refl
  where
    by : (b : Bool) → nat_lt t k ≡ b → change_at cs t ≡ finite.empty
    by true is = let before : t < k = grind (arith, nat_tests) in below before
    by false is = let at : t ≡ k = grind (arith, nat_tests) in here at

-- one more place
pub left_more : (k : ℕ) (marks old new : List Bool) (cs : List Changes) → AreLeftTo k marks old cs → ((t : ℕ) → is_marked new t ≡ true → (is_marked old t ≡ true) × (t ≡ k → change_at cs t ≡ finite.empty)) → AreLeftTo (k + 1) marks new cs
left_more k marks old new cs h step t is =
    let a : (is_marked old t ≡ true) × (t ≡ k → change_at cs t ≡ finite.empty) = step t is in
    let b : (is_marked marks t ≡ true) × (t < k → change_at cs t ≡ finite.empty) = h t a.0 in
    (b.0, λ low. by_place cs t k low a.1 b.1)

-- all of them
pub left_all : (k : ℕ) (marks new : List Bool) (cs : List Changes) → length new ≤ k → AreLeftTo k marks new cs → AreLeft marks new cs
left_all k marks new cs long h t is =
    let low : t < length new = within new t is in
    ((h t is).0, (h t is).1 (omega (arith, low, long)))

-- ---- lists

pub any_mapped : {A B : Type 0} (p : B → Bool) (f : A → B) (xs : List A) → list_any (λ x. p (f x)) xs ≡ list_any p (map f xs)
any_mapped p f [] = refl
any_mapped p f (x ∷ xs) = ap (λ b. p (f x) || b) (any_mapped p f xs)
