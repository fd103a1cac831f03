-- Each value passes the test of equal values with itself, and rows that pass it are equal.
use Rattle.std.specs.Prelude.{◌≡◌, Bool, true, false, cond, ◌&&◌, T, List, [], ◌∷◌, Some, None}
use mathlib.Core.Bool.{true≢false}
use mathlib.Core.Path.{refl, sym, ap, subst, ◌∙◌}
use mathlib.Core.Logic.{inl, inr}
use Rattle.std.specs.Ordering.{eq_by_cmp, is_eq, is_lt}
use Rattle.std.specs.Cmp.{tied_itself}
use Rattle.std.specs.declared.cmp.Ordering.{Ordering}
use Rattle.std.specs.declared.cmp.Ordering.TheVariants.{Less, Equal, Greater}
use Rattle.std.proofs.lemmas.Option.{none-some}
use Rattle.std.specs.FinMap.Entries.{find, is_sorted, below_all}
use Rattle.odb_atoms.specs.FinSet as set
use Rattle.odb_atoms.proofs.Atoms.{atom_cmp-IsAntisymmetric}
use Rattle.odb_atoms.specs.Represented.AtomOrder.{atom_cmp_total}
use Rattle.odb_atoms.proofs.Differences.{apply-difference}
use Rattle.odb_atoms.proofs.FinMaps.{contains_key-keys, get-entries, same_key}
use Rattle.odb_atoms.proofs.Lists.{Member, gives_all, gives_any, both}
use Rattle.odb_atoms.proofs.Values.{same_value-equal}
use Rattle.odb_atoms.specs.Atom.{Atom, atom_cmp, same_atom}
use Rattle.odb_atoms.specs.ColType.{ColType, is_single}
use Rattle.odb_atoms.specs.Difference.{changed, difference, apply}
use Rattle.odb_atoms.specs.Value.{Value, has_pair, includes_all, is_atom, map_of, same_value, same_values, set_of}

pub same_atom-itself : (a : Atom) → same_atom a a ≡ true
same_atom-itself a = ap is_eq (tied_itself atom_cmp_total a)

in_both : (a b : Bool) → T (a && b) → T a × T b
in_both true b h = (tt, h)
in_both false b h = absurd h

below_apart : (o : Ordering) → T (is_lt o) → is_eq o ≡ false
below_apart Less h = refl
below_apart Equal h = absurd h
below_apart Greater h = absurd h

-- a key below all of a list's isn't found there
pub find-below : {X K : Type 0} (R : K → K → Ordering) (k : K) (es : List (K × X)) → T (below_all R k es) → find R k es ≡ None
find-below R k [] h = refl
find-below R k (e ∷ es) h =
    let p = in_both (is_lt (R k e.0)) (below_all R k es) h in
    ap (λ b. cond b (Some e.1) (find R k es)) (below_apart (R k e.0) p.0) ∙ find-below R k es p.1

-- an entry of a list whose keys ascend is found at its key
pub entry_found : (es : List (Atom × Atom)) → T (is_sorted atom_cmp es) → (e : Atom × Atom) → Member e es → find atom_cmp e.0 es ≡ Some e.1
entry_found [] s e m = absurd m
entry_found (f ∷ fs) s e (inl is) = subst (λ x. find atom_cmp x.0 (f ∷ fs) ≡ Some x.1) (sym is) (ap (λ b. cond b (Some f.1) (find atom_cmp f.0 fs)) (same_atom-itself f.0))
entry_found (f ∷ fs) s e (inr m) =
    let sorted = in_both (below_all atom_cmp f.0 fs) (is_sorted atom_cmp fs) s in
    let rest : find atom_cmp e.0 fs ≡ Some e.1 = entry_found fs sorted.1 e m in
    elim (eq_by_cmp atom_cmp e.0 f.0) as (λ b. eq_by_cmp atom_cmp e.0 f.0 ≡ b → cond b (Some f.1) (find atom_cmp e.0 fs) ≡ Some e.1) [
      | true ↦ λ t. absurd (none-some e.1 (sym (subst (λ k. find atom_cmp k fs ≡ None) (sym (same_key atom_cmp-IsAntisymmetric e.0 f.0 t)) (find-below atom_cmp f.0 fs sorted.0)) ∙ rest))
      | false ↦ λ _. rest
    ] refl

includes-itself : (v : Value) → includes_all v v ≡ true
includes-itself (set_of s) = gives_all (set.contains s) (set.items s) (λ x m. contains_key-keys s x ∙ gives_any (eq_by_cmp atom_cmp x) (set.items s) x m (same_atom-itself x))
includes-itself (map_of m) =
    gives_all (has_pair m) m.entries (λ e at. ap (λ o. is_atom o e.1) (get-entries m e.0 ∙ entry_found m.entries m.sorted e at) ∙ same_atom-itself e.1)

pub same_value-itself : (v : Value) → same_value v v ≡ true
same_value-itself v = ap (λ b. b && includes_all v v) (includes-itself v) ∙ includes-itself v

pub same_values-equal : (vs ws : List Value) → same_values vs ws ≡ true → vs ≡ ws
same_values-equal [] [] e = refl
same_values-equal [] (w ∷ ws) e = absurd (true≢false (sym e))
same_values-equal (v ∷ vs) [] e = absurd (true≢false (sym e))
same_values-equal (v ∷ vs) (w ∷ ws) e =
    let h = both (same_value v w) (same_values vs ws) e in λ i. same_value-equal v w h.0 i ∷ same_values-equal vs ws h.1 i

pub same_values-itself : (vs : List Value) → same_values vs vs ≡ true
same_values-itself [] = refl
same_values-itself (v ∷ vs) = ap (λ b. b && same_values vs vs) (same_value-itself v) ∙ same_values-itself vs

-- ---- differences of any two values

single_or : (b : Bool) (v w : Value) → changed v (changed v w) ≡ w → cond b (cond b w (changed v w)) (changed v (cond b w (changed v w))) ≡ w
single_or true v w e = refl
single_or false v w e = e

-- the difference leads to the new value, also where one is a set and the other a map
pub difference-applied : (v w : Value) (t : ColType) → apply v (difference v w t) t ≡ w
difference-applied (set_of s) (set_of u) t = apply-difference (set_of s) (set_of u) t refl
difference-applied (map_of m) (map_of n) t = apply-difference (map_of m) (map_of n) t refl
difference-applied (set_of s) (map_of n) t = single_or (is_single t) (set_of s) (map_of n) refl
difference-applied (map_of m) (set_of u) t = single_or (is_single t) (map_of m) (set_of u) refl
