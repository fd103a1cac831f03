-- What stands at the keys of maps that are made of some pairs of a list.
use Rattle.std.specs.Prelude.{◌≡◌, Bool, true, false, cond, T, List, [], ◌∷◌, filter, Option, Some, None, option_and_then}
use mathlib.Core.Path.{refl, sym, ap, ◌∙◌}
use Rattle.std.specs.FinMap.Entries.{find, find-where_key, is_sorted}
use Rattle.odb_atoms.specs.FinMap as finite
use Rattle.odb_atoms.specs.Atom.{Atom, atom_cmp, same_atom}
use Rattle.odb_atoms.proofs.Atoms.{atom_cmp-IsAntisymmetric}
use Rattle.odb_atoms.specs.Represented.AtomOrder.{atom_cmp_total}
use Rattle.odb_atoms.proofs.FinMaps.{get-empty, get-insert, same_key}
use Rattle.odb_atoms.proofs.Rising.{equal, find-below, first, second, tied_before_all}

pub get-from_entries : (es : List (Atom × Atom)) (q : Atom) → finite.get (finite.from_entries {R = atom_cmp} es) q ≡ find atom_cmp q es
get-from_entries [] q = get-empty atom_cmp q
get-from_entries (e ∷ es) q = get-insert atom_cmp_total (finite.from_entries es) e.0 e.1 q ∙ ap (cond (same_atom q e.0) (Some e.1)) (get-from_entries es q)

-- the entries with some keys
pub find-keys : (p : Atom → Bool) (q : Atom) (es : List (Atom × Atom)) → find atom_cmp q (filter (λ e. p e.0) es) ≡ cond (p q) (find atom_cmp q es) None
find-keys p q es = find-where_key atom_cmp p q (λ x tied. ap p (sym (atom_cmp-IsAntisymmetric q x tied))) es

-- some pairs of a list with rising keys
pub find-pairs : (p : Atom × Atom → Bool) (q : Atom) (es : List (Atom × Atom)) → T (is_sorted atom_cmp es) → find atom_cmp q (filter p es) ≡ option_and_then (λ v. cond (p (q, v)) (Some v) None) (find atom_cmp q es)
find-pairs p q [] up = refl
find-pairs p q (e ∷ es) up = by (same_atom q e.0) refl (p e) refl (find-pairs p q es (second _ _ up))
  where
    kept : Atom → Option Atom
    kept v = cond (p (q, v)) (Some v) None

    by : (t : Bool) → same_atom q e.0 ≡ t → (b : Bool) → p e ≡ b → find atom_cmp q (filter p es) ≡ option_and_then (λ v. cond (p (q, v)) (Some v) None) (find atom_cmp q es) → find atom_cmp q (cond b (e ∷ filter p es) (filter p es)) ≡ option_and_then (λ v. cond (p (q, v)) (Some v) None) (cond t (Some e.1) (find atom_cmp q es))
    by true t true is rest =
        let here : p (q, e.1) ≡ true = ap (λ k. p (k, e.1)) (same_key atom_cmp-IsAntisymmetric q e.0 t) ∙ is in
        ap (λ b. cond b (Some e.1) (find atom_cmp q (filter p es))) t ∙ sym (ap (λ b. cond b (Some e.1) None) here)
    by true t false is rest =
        let here : p (q, e.1) ≡ false = ap (λ k. p (k, e.1)) (same_key atom_cmp-IsAntisymmetric q e.0 t) ∙ is in
        let absent = find-below atom_cmp_total q es (tied_before_all atom_cmp_total q e.0 es (equal _ t) (first _ _ up)) in
        rest ∙ ap (option_and_then (λ v. cond (p (q, v)) (Some v) None)) absent ∙ sym (ap (λ b. cond b (Some e.1) None) here)
    by false t true is rest = ap (λ b. cond b (Some e.1) (find atom_cmp q (filter p es))) t ∙ rest
    by false t false is rest = rest
