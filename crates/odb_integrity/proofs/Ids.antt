-- Row ids: their equality and order, and lists of them.
use Rattle.std.specs.Prelude.{◌≡◌, Bool, true, false, cond, ◌&&◌, ◌||◌, List, [], ◌∷◌, filter}
use Rattle.std.specs.List.{list_any}
use Rattle.std.specs.declared.cmp.Ordering.{Ordering}
use Rattle.std.specs.declared.cmp.Ordering.TheVariants.{Less, Equal, Greater}
use Rattle.std.specs.Ordering.{eq_by_cmp, is_eq, nat_cmp, ordering_then}
use Rattle.std.specs.Cmp.{unsigned_Decides, unsigned_tied}
use mathlib.Core.Path.{refl, sym, ap, subst, ◌∙◌}
use Rattle.odb_atoms.proofs.Lists.{Member, any_gives, both, gives_any}
use Rattle.odb_atoms.specs.Uuid.{same_number-same}
use Rattle.odb_integrity.specs.Settlement.{RowId, same_row}
use Rattle.odb_integrity.specs.Represented.RowId.{row_id_cmp}

pub same_row_equal : (x y : RowId) → same_row x y ≡ true → x ≡ y
same_row_equal x y e = let h = both _ _ e in λ i. ((unsigned_Decides x.0 y.0).0 h.0 i, same_number-same x.1 y.1 ((unsigned_Decides x.1.number y.1.number).0 h.1) i)

pub own_row : (x : RowId) → same_row x x ≡ true
own_row x = λ i. (unsigned_Decides x.0 x.0).1 refl i && (unsigned_Decides x.1.number x.1.number).1 refl i

pub same_either_way : (x y : RowId) → same_row x y ≡ same_row y x
same_either_way x y = by (same_row x y) (same_row y x) refl refl
  where
    by : (b c : Bool) → same_row x y ≡ b → same_row y x ≡ c → b ≡ c
    by true true e f = refl
    by false false e f = refl
    by true false e f = sym (own_row y) ∙ ap (λ z. same_row y z) (sym (same_row_equal x y e)) ∙ f
    by false true e f = sym e ∙ ap (λ z. same_row x z) (same_row_equal y x f) ∙ own_row x

-- rows that tie in their order are the same
pub same_test : (x y : RowId) → eq_by_cmp row_id_cmp x y ≡ same_row x y
same_test x y = both_tie (nat_cmp x.0 y.0) ∙ (λ i. unsigned_tied x.0 y.0 i && unsigned_tied x.1.number y.1.number i)
  where
    both_tie : (r : Ordering) → is_eq (ordering_then r (nat_cmp x.1.number y.1.number)) ≡ (is_eq r && is_eq (nat_cmp x.1.number y.1.number))
    both_tie Less = refl
    both_tie Equal = refl
    both_tie Greater = refl

pub listed : (x : RowId) (xs : List RowId) → Member x xs → list_any (same_row x) xs ≡ true
listed x xs m = gives_any (same_row x) xs x m (own_row x)

pub member : (x : RowId) (xs : List RowId) → list_any (same_row x) xs ≡ true → Member x xs
member x xs e = let w = any_gives (same_row x) xs e in subst (λ y. Member y xs) (sym (same_row_equal x w.0 w.2)) w.1

pub any-filter : (p : RowId → Bool) (x : RowId) (xs : List RowId) → list_any (same_row x) (filter p xs) ≡ (list_any (same_row x) xs && p x)
any-filter p x [] = refl
any-filter p x (y ∷ ys) = by (same_row x y) refl (p y) refl (any-filter p x ys)
  where
    none : (b : Bool) → (b && false) ≡ false
    none true = refl
    none false = refl

    by : (t : Bool) → same_row x y ≡ t → (b : Bool) → p y ≡ b → list_any (same_row x) (filter p ys) ≡ (list_any (same_row x) ys && p x) → list_any (same_row x) (cond b (y ∷ filter p ys) (filter p ys)) ≡ ((t || list_any (same_row x) ys) && p x)
    by true t true e rest =
        let here : p x ≡ true = ap p (same_row_equal x y t) ∙ e in
        ap (λ b. b || list_any (same_row x) (filter p ys)) t ∙ sym here
    by true t false e rest =
        let here : p x ≡ false = ap p (same_row_equal x y t) ∙ e in
        rest ∙ ap (λ b. list_any (same_row x) ys && b) here ∙ none (list_any (same_row x) ys) ∙ sym here
    by false t true e rest = ap (λ b. b || list_any (same_row x) (filter p ys)) t ∙ rest
    by false t false e rest = rest
