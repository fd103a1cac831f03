-- What is among some elements of a list.
use Rattle.std.specs.Prelude.{◌≡◌, Bool, true, false, cond, ◌&&◌, ◌||◌, List, [], ◌∷◌, filter}
use Rattle.std.specs.List.{list_any}
use mathlib.Core.Path.{refl, sym, ap, ◌∙◌}
use Rattle.odb_atoms.specs.Atom.{Atom, same_atom}
use Rattle.odb_atoms.proofs.Atoms.{atom_cmp-IsAntisymmetric}
use Rattle.odb_atoms.proofs.FinMaps.{same_key}

pub any-filter : (p : Atom → Bool) (q : Atom) (xs : List Atom) → list_any (same_atom q) (filter p xs) ≡ (list_any (same_atom q) xs && p q)
any-filter p q [] = refl
any-filter p q (x ∷ xs) = by (same_atom q x) refl (p x) refl (any-filter p q xs)
  where
    none : (b : Bool) → (b && false) ≡ false
    none true = refl
    none false = refl

    by : (t : Bool) → same_atom q x ≡ t → (b : Bool) → p x ≡ b → list_any (same_atom q) (filter p xs) ≡ (list_any (same_atom q) xs && p q) → list_any (same_atom q) (cond b (x ∷ filter p xs) (filter p xs)) ≡ ((t || list_any (same_atom q) xs) && p q)
    by true t true e rest =
        let here : p q ≡ true = ap p (same_key atom_cmp-IsAntisymmetric q x t) ∙ e in
        ap (λ b. b || list_any (same_atom q) (filter p xs)) t ∙ sym here
    by true t false e rest =
        let here : p q ≡ false = ap p (same_key atom_cmp-IsAntisymmetric q x t) ∙ e in
        rest ∙ ap (λ b. list_any (same_atom q) xs && b) here ∙ none (list_any (same_atom q) xs) ∙ sym here
    by false t true e rest = ap (λ b. b || list_any (same_atom q) (filter p xs)) t ∙ rest
    by false t false e rest = rest
