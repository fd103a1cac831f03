-- The set of the keys of rows that were changed.
use Rattle.std.proofs.Common.{◌≡◌, ℕ, ◌+◌, ◌<◌, Bool, true, false, cond, not, ◌||◌, List, [], ◌∷◌, ◌++◌, get_or, length, take, refl, sym, ap, ◌∙◌}
use Rattle.std.specs.BTreeSet.{BTreeSet, Updates, contains}
use Rattle.std.specs.List.{list_any}
use Rattle.std.specs.Map.{keys_of}
use Rattle.std.specs.Ordering.{eq_by_cmp}
use Rattle.odb_atoms.specs.Row.{Row}
use Rattle.odb_atoms.specs.Uuid.{Uuid, uuid_cmp}
use Rattle.odb_monitor.specs.Represented.Candidates.{is_changed, others, unchanged}
use Rattle.odb_monitor.specs.Represented.Sides.{Pair}
use Rattle.odb_monitor.proofs.Loops.{any_more}
use Rattle.odb_print.proofs.Loops.{one_more}
use Rattle.odb_tables.specs.Represented.Key.{keys_equivalent}

keys-++ : (xs ys : List (Uuid × Pair)) → keys_of (xs ++ ys) ≡ keys_of xs ++ keys_of ys
keys-++ [] ys = refl
keys-++ (x ∷ xs) ys = ap (λ us. x.0 ∷ us) (keys-++ xs ys)

chosen : (a b : Bool) → cond a true b ≡ (b || (a || false))
chosen true true = refl
chosen true false = refl
chosen false true = refl
chosen false false = refl

pub seen_more : (old new : BTreeSet Uuid) (cs : List (Uuid × Pair)) (i : ℕ) (x : Uuid × Pair) → i < length cs → x ≡ get_or cs i x → (k : Uuid) → k ≡ x.0 → Updates uuid_cmp old new k true
    → ((u : Uuid) → contains uuid_cmp old u ≡ is_changed (take i cs) u) → (u : Uuid) → contains uuid_cmp new u ≡ is_changed (take (i + 1) cs) u
seen_more old new cs i x inside at k is added seen u =
    added.0 u ∙ (λ j. cond ((ap (λ y. eq_by_cmp uuid_cmp y u) is ∙ keys_equivalent.symm x.0 u) j) true (seen u j))
    ∙ chosen (eq_by_cmp uuid_cmp u x.0) (is_changed (take i cs) u)
    ∙ sym (any_more (eq_by_cmp uuid_cmp u) (keys_of (take i cs)) (x.0 ∷ []))
    ∙ ap (list_any (eq_by_cmp uuid_cmp u)) (sym (ap keys_of (one_more cs i x inside at) ∙ keys-++ (take i cs) (x ∷ [])))

-- the rows that aren't among the keys are those that weren't changed
pub others_unchanged : (keys : BTreeSet Uuid) (cs : List (Uuid × Pair)) → ((u : Uuid) → contains uuid_cmp keys u ≡ is_changed cs u) → (rows : List (Uuid × Row)) → others keys rows ≡ unchanged cs rows
others_unchanged keys cs is [] = refl
others_unchanged keys cs is (r ∷ rows) = λ i. cond (not (is r.0 i)) (r ∷ others_unchanged keys cs is rows i) (others_unchanged keys cs is rows i)
