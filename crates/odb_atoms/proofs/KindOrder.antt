-- Atoms in ascending order are in the order of their kinds.
use Rattle.std.specs.Prelude.{◌≡◌, ◌≤◌, Bool, true, false, ◌&&◌, List, [], ◌∷◌, drop, None, Some}
use mathlib.Core.Path.{refl, sym, ap, subst, ◌∙◌}
use mathlib.Core.Bool.{true≢false}
use Rattle.std.proofs.Common.{arith}
use Rattle.std.proofs.lemmas.Bool.{eq-eqb, eqb-true}
use Rattle.std.proofs.lemmas.Option.{none-some, same_Some}
use Rattle.std.specs.declared.cmp.Ordering.TheVariants.{Less}
use Rattle.std.specs.Ordering.{is_lt}
use Rattle.odb_atoms.specs.Atom as model
use Rattle.odb_atoms.specs.Atom.{Kind, atom_cmp, kind_of, rank, same_kind}
use Rattle.odb_atoms.specs.ColType.{is_a}
use Rattle.odb_atoms.specs.Represented.Atom.{atom_of}
use Rattle.odb_atoms.specs.Represented.Value.{AreAscending, each_element}
use Rattle.odb_atoms.specs.declared.atom.Atom.{Atom}
use Rattle.odb_atoms.proofs.Rising.{first, less, second}
use Rattle.odb_chunks.specs.Represented.Chunks.{last_of}

rank_rises : (a b : model.Atom) → atom_cmp a b ≡ Less → rank (kind_of a) ≤ rank (kind_of b)
rank_rises (model.integer x) (model.integer y) e = omega arith
rank_rises (model.integer x) (model.boolean y) e = omega arith
rank_rises (model.integer x) (model.text y) e = omega arith
rank_rises (model.integer x) (model.uuid y) e = omega arith
rank_rises (model.boolean x) (model.integer y) e = absurd (true≢false (sym (ap is_lt e)))
rank_rises (model.boolean x) (model.boolean y) e = omega arith
rank_rises (model.boolean x) (model.text y) e = omega arith
rank_rises (model.boolean x) (model.uuid y) e = omega arith
rank_rises (model.text x) (model.integer y) e = absurd (true≢false (sym (ap is_lt e)))
rank_rises (model.text x) (model.boolean y) e = absurd (true≢false (sym (ap is_lt e)))
rank_rises (model.text x) (model.text y) e = omega arith
rank_rises (model.text x) (model.uuid y) e = omega arith
rank_rises (model.uuid x) (model.integer y) e = absurd (true≢false (sym (ap is_lt e)))
rank_rises (model.uuid x) (model.boolean y) e = absurd (true≢false (sym (ap is_lt e)))
rank_rises (model.uuid x) (model.text y) e = absurd (true≢false (sym (ap is_lt e)))
rank_rises (model.uuid x) (model.uuid y) e = omega arith

module _ (k : Kind) where
  rank_is : (a : model.Atom) → is_a k a ≡ true → rank (kind_of a) ≡ rank k
  rank_is a e = eqb-true (rank (kind_of a)) (rank k) e

  not_of : (a : model.Atom) → (rank (kind_of a) ≡ rank k → ⊥) → is_a k a ≡ false
  not_of a h = by (is_a k a) refl
    where
      by : (b : Bool) → is_a k a ≡ b → b ≡ false
      by true e = absurd (h (rank_is a e))
      by false e = refl

  rank_isnt : (a : model.Atom) → is_a k a ≡ false → rank (kind_of a) ≡ rank k → ⊥
  rank_isnt a e same = true≢false (sym (eq-eqb (rank (kind_of a)) (rank k) same) ∙ e)

  last_rank : (x : Atom) (xs : List Atom) (y : Atom) → AreAscending (x ∷ xs) → last_of (x ∷ xs) ≡ Some y → rank (kind_of (atom_of x)) ≤ rank (kind_of (atom_of y))
  last_rank x [] y up is = subst (λ z. rank (kind_of (atom_of x)) ≤ rank (kind_of (atom_of z))) (same_Some _ _ is) (omega arith)
  last_rank x (z ∷ zs) y up is =
      let step = rank_rises (atom_of x) (atom_of z) (less _ (first _ _ (first _ _ up))) in
      let rest = last_rank z zs y (second _ _ up) is in
      omega (arith, step, rest)

  pub kind_to_last : (x : Atom) (xs : List Atom) (y : Atom) → AreAscending (x ∷ xs) → last_of (x ∷ xs) ≡ Some y → is_a k (atom_of x) ≡ true → is_a k (atom_of y) ≡ each_element (is_a k) (x ∷ xs)
  kind_to_last x [] y up is here = ap (λ z. is_a k (atom_of z)) (sym (same_Some _ _ is)) ∙ here ∙ sym (ap (λ b. b && true) here)
  kind_to_last x (z ∷ zs) y up is here =
      (elim (is_a k (atom_of z)) as (λ b. is_a k (atom_of z) ≡ b → is_a k (atom_of y) ≡ each_element (is_a k) (z ∷ zs)) [
        | true ↦ λ e. kind_to_last z zs y (second _ _ up) is e
        | false ↦ λ e.
            let step = rank_rises (atom_of x) (atom_of z) (less _ (first _ _ (first _ _ up))) in
            let rest = last_rank z zs y (second _ _ up) is in
            let same = rank_is (atom_of x) here in
            let apart = rank_isnt (atom_of z) e in
            not_of (atom_of y) (λ at. apart (omega (arith, step, rest, same, at))) ∙ sym (ap (λ b. b && each_element (is_a k) zs) e)
      ] refl) ∙ sym (ap (λ b. b && each_element (is_a k) (z ∷ zs)) here)

  pub kind_within : (xs : List Atom) (x y : Atom) → xs ≡ x ∷ drop 1 xs → AreAscending xs → last_of xs ≡ Some y → is_a k (atom_of x) ≡ true → is_a k (atom_of y) ≡ each_element (is_a k) xs
  kind_within xs x y is up last here =
      kind_to_last x (drop 1 xs) y (subst AreAscending is up) (subst (λ zs. last_of zs ≡ Some y) is last) here ∙ ap (each_element (is_a k)) (sym is)

has_last : {X : Type 0} (x : X) (xs : List X) → None ≡ last_of (x ∷ xs) → ⊥
has_last x [] e = none-some x e
has_last x (y ∷ ys) e = has_last y ys e

-- a list that has a first has a last
pub some_last : {X : Type 0} (xs : List X) (x : X) → xs ≡ x ∷ drop 1 xs → None ≡ last_of xs → ⊥
some_last xs x is none = has_last x (drop 1 xs) (none ∙ ap last_of is)
