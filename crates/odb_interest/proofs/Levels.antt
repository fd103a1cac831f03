-- What a map of maps, or of sets, answers after one of its values changed.
use Rattle.std.specs.Prelude.{◌≡◌, ℕ, Bool, true, false, cond, ◌&&◌, ◌==◌, List, [], Option, Some, None}
use mathlib.Core.Path.{refl, sym, ap, ◌∙◌}
use Rattle.std.specs.BTreeMap as tree
use Rattle.std.specs.BTreeMap.{BTreeMap, is_at}
use Rattle.std.specs.BTreeSet as sorted
use Rattle.std.specs.BTreeSet.{BTreeSet, contains}
use Rattle.std.specs.Cmp.{Equal-is, both_ways, eq_by_cmp_equiv, nat_cmp_total, tied_itself, unsigned_Decides}
use Rattle.std.specs.FinMap.{nat_cmp-IsAntisymmetric}
use Rattle.std.specs.List.{list_any}
use Rattle.std.specs.Map.{AreApart, IsKeyTest, KeepsOthers, lookup}
use Rattle.std.specs.Ordering.{eq_by_cmp, is_eq, nat_cmp}
use Rattle.odb_atoms.proofs.Atoms.{atom_cmp-IsAntisymmetric}
use Rattle.odb_atoms.proofs.FinMaps.{same_key}
use Rattle.odb_atoms.specs.Atom.{Atom, atom_cmp, same_atom}
use Rattle.odb_atoms.specs.Represented.Atom.{atom_of}
use Rattle.odb_atoms.specs.Represented.AtomOrder.{atom_cmp_total}
use Rattle.odb_atoms.specs.declared.atom.Atom as code
use Rattle.odb_interest.proofs.Booleans.{turned}
use Rattle.odb_interest.specs.Represented.SessionsByAtom.{at_atom}
use Rattle.odb_interest.specs.Represented.Key.{held}

pub is_eq-nat_cmp : (s t : ℕ) → is_eq (nat_cmp s t) ≡ (s == t)
is_eq-nat_cmp s t =
    both_ways (is_eq (nat_cmp s t)) (s == t)
    (λ e. (unsigned_Decides s t).1 (nat_cmp-IsAntisymmetric s t ((Equal-is (nat_cmp s t)).0 e)))
    (λ e. ap (λ u. is_eq (nat_cmp s u)) (sym ((unsigned_Decides s t).0 e)) ∙ ap is_eq (tied_itself nat_cmp_total s))

-- ---- sets of sessions

pub set_now : (session : ℕ) (x y : BTreeSet ℕ) (b : Bool) → sorted.UpdatesBy nat_cmp (nat_cmp session) x y b → (s : ℕ) → contains nat_cmp y s ≡ cond (session == s) b (contains nat_cmp x s)
set_now session x y b h s = h.0 s ∙ ap (λ t. cond t b (contains nat_cmp x s)) (is_eq-nat_cmp session s)

pub none_in : (x : BTreeSet ℕ) → x.keys ≡ [] → (s : ℕ) → contains nat_cmp x s ≡ false
none_in x e s = ap (list_any (is_at (nat_cmp s))) e

-- ---- maps by numbers, and by atoms

pub map_now : {V : Type 0} (key : ℕ) (m n : BTreeMap ℕ V) (w : Option V) → tree.UpdatesBy nat_cmp (nat_cmp key) m n w → (j : ℕ) → tree.get nat_cmp n j ≡ cond (key == j) w (tree.get nat_cmp m j)
map_now key m n w h j = h.0 j ∙ ap (λ t. cond t w (tree.get nat_cmp m j)) (is_eq-nat_cmp key j)

pub same_number : {V : Type 0} (key : ℕ) (m : BTreeMap ℕ V) (j : ℕ) → (key == j) ≡ true → tree.get nat_cmp m key ≡ tree.get nat_cmp m j
same_number key m j e = ap (tree.get nat_cmp m) ((unsigned_Decides key j).0 e)

-- the same, asked the other way round
pub column_now : {V : Type 0} (key : ℕ) (m n : BTreeMap ℕ V) (w : Option V) → tree.UpdatesBy nat_cmp (nat_cmp key) m n w → (j : ℕ) → tree.get nat_cmp n j ≡ cond (j == key) w (tree.get nat_cmp m j)
column_now key m n w h j = map_now key m n w h j ∙ ap (λ t. cond t w (tree.get nat_cmp m j)) (turned key j)

pub same_column : {V : Type 0} (key : ℕ) (m : BTreeMap ℕ V) (j : ℕ) → (j == key) ≡ true → tree.get nat_cmp m key ≡ tree.get nat_cmp m j
same_column key m j e = ap (tree.get nat_cmp m) (sym ((unsigned_Decides j key).0 e))

other_entries : {K X : Type 0} (eq : K → K → Bool) (test : K → Bool) (old new : List (K × X)) → KeepsOthers eq test old new → (other : K → Bool) → IsKeyTest eq other → AreApart test other → lookup other new ≡ lookup other old
unfolding KeepsOthers
other_entries eq test old new h = h

abbrev pub by_atoms : code.Atom → code.Atom → Rattle.std.specs.declared.cmp.Ordering.Ordering
by_atoms a b = atom_cmp (atom_of a) (atom_of b)

pub same_as : (a key : Atom) → same_atom a key ≡ true → a ≡ key
same_as a key e = same_key atom_cmp-IsAntisymmetric a key e

pub atoms_now : {V : Type 0} (key : Atom) (m n : BTreeMap code.Atom V) (w : Option V) → tree.UpdatesBy by_atoms (λ k. atom_cmp key (atom_of k)) m n w → (a : Atom) → at_atom n a ≡ cond (same_atom a key) w (at_atom m a)
atoms_now {V = V} key m n w h a = by (same_atom a key) refl
  where
    apart : same_atom a key ≡ false → (k : code.Atom) → is_eq (atom_cmp key (atom_of k)) ≡ true → is_eq (atom_cmp a (atom_of k)) ≡ false
    apart e k t = ap (λ x. is_eq (atom_cmp a x)) (sym (same_as key (atom_of k) t)) ∙ e

    by : (d : Bool) → same_atom a key ≡ d → at_atom n a ≡ cond d w (at_atom m a)
    by true e = ap (at_atom n) (same_as a key e) ∙ h.1
    by false e = other_entries (eq_by_cmp by_atoms) (is_at (λ k. atom_cmp key (atom_of k))) m.entries n.entries h.3 (is_at (λ k. atom_cmp a (atom_of k))) (λ x y. (eq_by_cmp_equiv atom_cmp_total).congr a (atom_of x) (atom_of y)) (apart e)

pub same_found : {V : Type 0} (key : Atom) (m : BTreeMap code.Atom V) (a : Atom) → same_atom a key ≡ true → at_atom m key ≡ at_atom m a
same_found key m a e = ap (at_atom m) (sym (same_as a key e))

-- ---- a value at one key changed: from old to new, of which `here` tells the key

module _ {J V Q : Type 0} (has : V → Q → Bool) (old new : J → Option V) (key : J) (here : J → Bool) (same : (j : J) → here j ≡ true → old key ≡ old j) where
  abbrev answers : Option V → Q → Bool
  answers o q = held (λ v. has v q) o

  put_at : (test : Q → Bool) (b : Bool) (y : V) → ((j : J) → new j ≡ cond (here j) (Some y) (old j)) → ((q : Q) → has y q ≡ cond (test q) b (answers (old key) q)) → (j : J) (q : Q) → answers (new j) q ≡ cond (here j && test q) b (answers (old j) q)
  put_at test b y changed is j q = ap (λ o. answers o q) (changed j) ∙ by (here j) refl
    where
      by : (d : Bool) → here j ≡ d → answers (cond d (Some y) (old j)) q ≡ cond (d && test q) b (answers (old j) q)
      by true e = is q ∙ ap (λ o. cond (test q) b (answers o q)) (same j e)
      by false e = refl

  -- there was a value, which changed
  pub put_found : (test : Q → Bool) (b : Bool) (x y : V) → Some x ≡ old key → ((j : J) → new j ≡ cond (here j) (Some y) (old j)) → ((q : Q) → has y q ≡ cond (test q) b (has x q)) → (j : J) (q : Q) → answers (new j) q ≡ cond (here j && test q) b (answers (old j) q)
  put_found test b x y found changed is = put_at test b y changed (λ q. is q ∙ ap (λ o. cond (test q) b (answers o q)) found)

  -- there was none
  pub put_first : (test : Q → Bool) (b : Bool) (x y : V) → None ≡ old key → ((q : Q) → has x q ≡ false) → ((j : J) → new j ≡ cond (here j) (Some y) (old j)) → ((q : Q) → has y q ≡ cond (test q) b (has x q)) → (j : J) (q : Q) → answers (new j) q ≡ cond (here j && test q) b (answers (old j) q)
  put_first test b x y found empty changed is = put_at test b y changed (λ q. is q ∙ ap (cond (test q) b) (empty q ∙ ap (λ o. answers o q) found))

  -- there was one, which answers as it did
  pub kept : (x y : V) → Some x ≡ old key → ((j : J) → new j ≡ cond (here j) (Some y) (old j)) → ((q : Q) → has y q ≡ has x q) → (j : J) (q : Q) → answers (new j) q ≡ answers (old j) q
  kept x y found changed is j q = put_at (λ _. false) false y changed (λ q. is q ∙ ap (λ o. answers o q) found) j q ∙ ap (λ t. cond t false (answers (old j) q)) (never (here j))
    where
      never : (d : Bool) → (d && false) ≡ false
      never true = refl
      never false = refl

  -- there was none, and nothing is to be taken out
  pub none_out : (test : Q → Bool) → None ≡ old key → ((j : J) → new j ≡ old j) → (j : J) (q : Q) → answers (new j) q ≡ cond (here j && test q) false (answers (old j) q)
  none_out test none kept j q = ap (λ o. answers o q) (kept j) ∙ by (here j) refl
    where
      all_false : (t : Bool) → false ≡ cond t false false
      all_false true = refl
      all_false false = refl

      by : (d : Bool) → here j ≡ d → answers (old j) q ≡ cond (d && test q) false (answers (old j) q)
      by true e = let nothing : answers (old j) q ≡ false = ap (λ o. answers o q) (sym (none ∙ same j e)) in nothing ∙ all_false (test q) ∙ ap (cond (test q) false) (sym nothing)
      by false e = refl

  -- what is left of the value answers nothing, so that it may go
  pub emptied : (y : V) (last : J → Option V) → ((j : J) → new j ≡ cond (here j) (Some y) (old j)) → ((q : Q) → has y q ≡ false) → ((j : J) → last j ≡ cond (here j) None (new j)) → (j : J) (q : Q) → answers (last j) q ≡ answers (new j) q
  emptied y last changed empty gone j q = ap (λ o. answers o q) (gone j) ∙ by (here j) refl
    where
      by : (d : Bool) → here j ≡ d → answers (cond d None (new j)) q ≡ answers (new j) q
      by true e = sym (ap (λ o. answers o q) (changed j ∙ ap (λ d. cond d (Some y) (old j)) e) ∙ empty q)
      by false e = refl
