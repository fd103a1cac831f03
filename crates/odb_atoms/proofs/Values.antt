-- The test of equal values decides whether they are equal.
use Rattle.std.specs.Prelude.{◌≡◌, Bool, true, false, cond, List, [], ◌∷◌, Option, Some, None}
use mathlib.Core.Bool.{true≢false}
use mathlib.Core.Path.{refl, sym, ap, ◌∙◌}
use Rattle.std.specs.Ordering.{eq_by_cmp}
use Rattle.std.specs.Cmp.{both_ways}
use Rattle.std.proofs.lemmas.Option.{none-some, same_Some}
use Rattle.std.specs.FinMap.Entries.{find}
use mathlib.Core.Logic.{inl, inr}
use Rattle.odb_atoms.specs.FinMap as map
use Rattle.odb_atoms.specs.FinSet as set
use Rattle.odb_atoms.proofs.Atoms.{atom_cmp-IsAntisymmetric}
use Rattle.odb_atoms.specs.Represented.AtomOrder.{atom_cmp_total}
use Rattle.odb_atoms.proofs.FinMaps.{contains_key-keys, get-entries, same_key, same_map}
use Rattle.odb_atoms.proofs.FinSets.{same_set}
use Rattle.odb_atoms.proofs.Lists.{Member, all_gives, any_gives, both}
use Rattle.odb_atoms.specs.Atom.{Atom, atom_cmp}
use Rattle.odb_atoms.specs.Value.{Atoms, Pairs, Value, has_pair, includes_all, is_atom, map_of, same_value, set_of}

-- an element of a set that is included is in the other
included : (c v : Atoms) → includes_all (set_of c) (set_of v) ≡ true → (q : Atom) → set.contains v q ≡ true → set.contains c q ≡ true
included c v all q has =
    let w = any_gives (eq_by_cmp atom_cmp q) (set.items v) (sym (contains_key-keys v q) ∙ has) in
    ap (set.contains c) (same_key atom_cmp-IsAntisymmetric q w.0 w.2) ∙ all_gives (set.contains c) (set.items v) all w.0 w.1

same_value-set : (s t : Atoms) → same_value (set_of s) (set_of t) ≡ true → s ≡ t
same_value-set s t e =
    let h = both (includes_all (set_of s) (set_of t)) (includes_all (set_of t) (set_of s)) e in
    same_set atom_cmp_total atom_cmp-IsAntisymmetric s t (λ q. both_ways (set.contains s q) (set.contains t q) (included t s h.1 q) (included s t h.0 q))

-- what a map has at a key stands in its entries
entry_at : (es : List (Atom × Atom)) (q x : Atom) → find atom_cmp q es ≡ Some x → Member (q, x) es
entry_at [] q x e = absurd (none-some x e)
entry_at (f ∷ es) q x e = by (eq_by_cmp atom_cmp q f.0) refl (entry_at es q x) e
  where
    by : (b : Bool) → eq_by_cmp atom_cmp q f.0 ≡ b → (find atom_cmp q es ≡ Some x → Member (q, x) es) → cond b (Some f.1) (find atom_cmp q es) ≡ Some x → Member (q, x) (f ∷ es)
    by true t rest e = inl (λ i. (same_key atom_cmp-IsAntisymmetric q f.0 t i, sym (same_Some f.1 x e) i))
    by false t rest e = inr (rest e)

is_atom-Some : (o : Option Atom) (x : Atom) → is_atom o x ≡ true → o ≡ Some x
is_atom-Some None x e = absurd (true≢false (sym e))
is_atom-Some (Some v) x e = ap Some (same_key atom_cmp-IsAntisymmetric v x e)

-- what an included map has at a key, the other has there too
same_at : (c v : Pairs) → includes_all (map_of c) (map_of v) ≡ true → (q x : Atom) → map.get v q ≡ Some x → map.get c q ≡ Some x
same_at c v all q x e = is_atom-Some (map.get c q) x (all_gives (has_pair c) v.entries all (q, x) (entry_at v.entries q x (sym (get-entries v q) ∙ e)))

same_options : (o p : Option Atom) → ((x : Atom) → p ≡ Some x → o ≡ Some x) → ((x : Atom) → o ≡ Some x → p ≡ Some x) → o ≡ p
same_options None None f g = refl
same_options None (Some y) f g = f y refl
same_options (Some x) p f g = sym (g x refl)

same_value-map : (m n : Pairs) → same_value (map_of m) (map_of n) ≡ true → m ≡ n
same_value-map m n e =
    let h = both (includes_all (map_of m) (map_of n)) (includes_all (map_of n) (map_of m)) e in
    same_map atom_cmp_total atom_cmp-IsAntisymmetric m n (λ q. same_options (map.get m q) (map.get n q) (same_at m n h.0 q) (same_at n m h.1 q))

-- values that pass the test are equal
pub same_value-equal : (v w : Value) → same_value v w ≡ true → v ≡ w
same_value-equal (set_of s) (set_of t) e = ap set_of (same_value-set s t e)
same_value-equal (set_of s) (map_of n) e = absurd (true≢false (sym e))
same_value-equal (map_of m) (set_of t) e = absurd (true≢false (sym e))
same_value-equal (map_of m) (map_of n) e = ap map_of (same_value-map m n e)
