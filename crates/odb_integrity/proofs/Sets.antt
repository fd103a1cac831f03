-- Sets of rows that grow in loops.
use Rattle.std.specs.Prelude.{◌≡◌, ℕ, ◌+◌, ◌<◌, Bool, true, false, cond, ◌&&◌, ◌||◌, ◌==◌, List, [], ◌∷◌, length, map as map_list, take}
use Rattle.std.specs.BTreeMap.{is_at}
use Rattle.std.specs.BTreeSet.{BTreeSet, Updates, contains}
use Rattle.std.specs.Cmp.{unsigned_tied}
use Rattle.std.specs.List.{list_any}
use Rattle.std.specs.Ordering.{eq_by_cmp}
use mathlib.Core.Path.{refl, sym, ap, ◌∙◌}
use Rattle.std.proofs.Common.{get_or}
use Rattle.std.proofs.lemmas.List.Folds.{list_any_more}
use Rattle.odb_atoms.proofs.Lists.{any-map}
use Rattle.odb_atoms.specs.Represented.Atom.{uuid_of}
use Rattle.odb_atoms.specs.Uuid.{same_uuid, uuid_cmp}
use Rattle.odb_integrity.specs.Settlement.{RowId, same_row}
use Rattle.odb_integrity.specs.Represented.RowId.{row_id_cmp}
use Rattle.odb_integrity.proofs.Databases.{any_both}
use Rattle.odb_integrity.proofs.Ids.{same_either_way, same_test}

-- one row was put in
pub inserted : (now new : BTreeSet RowId) (y : RowId) → Updates row_id_cmp now new y true → (x : RowId) → contains row_id_cmp new x ≡ (contains row_id_cmp now x || same_row x y)
inserted now new y added x = added.0 x ∙ (λ j. cond ((same_test y x ∙ same_either_way y x) j) true (contains row_id_cmp now x)) ∙ turned (same_row x y) (contains row_id_cmp now x)
  where
    turned : (t b : Bool) → cond t true b ≡ (b || t)
    turned true true = refl
    turned true false = refl
    turned false true = refl
    turned false false = refl

-- the rows of one item more
pub grown : {A : Type 0} (p : RowId → A → Bool) (old : RowId → Bool) (now new : BTreeSet RowId) (xs : List A) (i : ℕ) (a : A) → i < length xs → a ≡ get_or xs i a → ((x : RowId) → contains row_id_cmp now x ≡ (old x || list_any (p x) (take i xs))) → ((x : RowId) → contains row_id_cmp new x ≡ (contains row_id_cmp now x || p x a)) → (x : RowId) → contains row_id_cmp new x ≡ (old x || list_any (p x) (take (i + 1) xs))
grown p old now new xs i a inside is before more x =
    more x ∙ ap (λ b. b || p x a) (before x) ∙ grouped (old x) (list_any (p x) (take i xs)) (p x a)
    ∙ ap (λ b. old x || b) (sym (list_any_more (p x) xs i a inside ∙ ap (λ z. list_any (p x) (take i xs) || p x z) (sym is)))
  where
    grouped : (a b c : Bool) → ((a || b) || c) ≡ (a || (b || c))
    grouped true b c = refl
    grouped false b c = refl

-- the rows of a set, one by one
pub any-keys : (set : BTreeSet RowId) (x : RowId) → list_any (same_row x) set.keys ≡ contains row_id_cmp set x
any-keys set x = in_keys set.keys
  where
    in_keys : (ks : List RowId) → list_any (same_row x) ks ≡ list_any (is_at (row_id_cmp x)) ks
    in_keys [] = refl
    in_keys (k ∷ ks) = λ i. sym (same_test x k) i || in_keys ks i

pub nothing_in : (set : BTreeSet RowId) → set.keys ≡ [] → (x : RowId) → contains row_id_cmp set x ≡ false
nothing_in set e x = sym (any-keys set x) ∙ ap (list_any (same_row x)) e

-- the rows of a table with these identifiers
pub any-in_table : (x : RowId) (t : ℕ) (us : List (List ℕ)) → list_any (λ u. same_row x (t, uuid_of u)) us ≡ ((x.0 == t) && list_any (eq_by_cmp uuid_cmp x.1) (map_list uuid_of us))
any-in_table x t us =
    any_both (x.0 == t) (λ u. same_uuid x.1 (uuid_of u)) us
    ∙ ap (λ b. (x.0 == t) && b) (sym (any-map (eq_by_cmp uuid_cmp x.1) uuid_of us ∙ (λ i. list_any (λ u. unsigned_tied x.1.number (uuid_of u).number i) us)))
