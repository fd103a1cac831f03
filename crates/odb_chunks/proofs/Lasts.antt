-- The last item of a list that lies in chunks.
use Rattle.std.specs.Prelude.{◌≡◌, ℕ, zero, suc, ◌-◌, ◌<◌, ◌≤◌, List, [], ◌∷◌, ◌++◌, Vec, Some, get_or, length}
use mathlib.Core.Path.{refl, sym, ap, ◌∙◌}
use Rattle.std.specs.Arc.{arc_value}
use Rattle.std.specs.declared.sync.Arc.{Arc}
use Rattle.std.proofs.Common.{arith}
use Rattle.std.proofs.lemmas.List.{append-nil}
use Rattle.odb_chunks.specs.Represented.Chunks.{AreFilled, items_in, last_of}

last_place : {X : Type 0} (xs : List X) (n : ℕ) (x : X) → suc n ≡ length xs → x ≡ get_or xs n x → last_of xs ≡ Some x
last_place [] n x long is = absurd (omega (arith, long))
last_place (y ∷ []) zero x long is = ap Some (sym is)
last_place (y ∷ []) (suc n) x long is = absurd (omega (arith, long))
last_place (y ∷ z ∷ zs) zero x long is = absurd (omega (arith, long))
last_place (y ∷ z ∷ zs) (suc n) x long is = last_place (z ∷ zs) n x (omega (arith, long)) is

pub last_at : {X : Type 0} (xs : List X) (x : X) → 1 ≤ length xs → x ≡ get_or xs (length xs - 1) x → last_of xs ≡ Some x
last_at xs x long is = last_place xs (length xs - 1) x (omega (arith, long)) is

-- the last of two lists is the second's, where that has one
last_of-append : {X : Type 0} (xs ys : List X) → 0 < length ys → last_of (xs ++ ys) ≡ last_of ys
last_of-append [] ys some = refl
last_of-append (x ∷ []) [] some = absurd (omega arith)
last_of-append (x ∷ []) (y ∷ ys) some = refl
last_of-append (x ∷ z ∷ xs) ys some = last_of-append (z ∷ xs) ys some

module _ {T Y Z : Type 0} where
  some_in : (c : Arc (Vec T Y) Z) (cs : List (Arc (Vec T Y) Z)) → 0 < length (arc_value c).items → 0 < length (items_in (c ∷ cs))
  some_in c cs some = by (arc_value c).items (items_in cs) some
    where
      by : (xs ys : List T) → 0 < length xs → 0 < length (xs ++ ys)
      by [] ys h = absurd (omega arith)
      by (x ∷ xs) ys h = omega arith

  lasts : (front : List T) (cs : List (Arc (Vec T Y) Z)) (n : ℕ) (c : Arc (Vec T Y) Z) → AreFilled cs → suc n ≡ length cs → c ≡ get_or cs n c → last_of (front ++ items_in cs) ≡ last_of (arc_value c).items
  lasts front [] n c all long is = absurd (omega (arith, long))
  lasts front (d ∷ []) zero c all long is = last_of-append front ((arc_value d).items ++ []) (some_in d [] all.0) ∙ ap last_of (append-nil (arc_value d).items) ∙ (λ i. last_of (arc_value (sym is i)).items)
  lasts front (d ∷ []) (suc n) c all long is = absurd (omega (arith, long))
  lasts front (d ∷ e ∷ cs) zero c all long is = absurd (omega (arith, long))
  lasts front (d ∷ e ∷ cs) (suc n) c all long is =
      last_of-append front ((arc_value d).items ++ items_in (e ∷ cs)) (some_in d (e ∷ cs) all.0)
      ∙ lasts (arc_value d).items (e ∷ cs) n c all.1 (omega (arith, long)) is

  pub last_in_chunks : (front : List T) (cs : List (Arc (Vec T Y) Z)) (c : Arc (Vec T Y) Z) → AreFilled cs → 1 ≤ length cs → c ≡ get_or cs (length cs - 1) c → last_of (front ++ items_in cs) ≡ last_of (arc_value c).items
  last_in_chunks front cs c all long is = lasts front cs (length cs - 1) c all (omega (arith, long)) is
