-- A table of rings of which one changes.
use Rattle.std.proofs.Common.{◌≡◌, ℕ, ◌==◌, Bool, true, false, cond, Option, Some, None, is_some, refl, sym, ap, subst, ◌∙◌, true≢false}
use Rattle.std.specs.BTreeMap as tree
use Rattle.std.specs.BTreeMap.{BTreeMap}
use Rattle.std.specs.Ordering.{eq_by_cmp, nat_cmp}
use borrow.Author.Tests.{eqb-true}
use Rattle.odb_atoms.specs.FinMap.{get}
use Rattle.odb_hub.specs.Represented.Rings.{rings_in}
use Rattle.odb_hub.specs.Rings.{AreShort, IsFlushed, IsFlushedAt, IsPut, IsPutAt, IsShort, Name, Ring, Rings, Text, fresh_ring}
use Rattle.odb_hub.proofs.HandingOver.{flushed_itself}
use Rattle.odb_hub.proofs.RingsIn.{Updates, get-rings_in, inserted, removed}
use Rattle.odb_service.proofs.SessionMaps.{apart_keys, get-insert, get-remove, key-itself, same_key}

-- what stands at a key of the new table
there : (old new : BTreeMap ℕ Ring) (key : ℕ) (y : Ring) → Updates old new key (Some y) → (s : ℕ) → get (rings_in new) s ≡ cond (eq_by_cmp nat_cmp s key) (Some y) (get (rings_in old) s)
there old new key y changed s = ap (λ m. get m s) (inserted old new key y changed) ∙ get-insert (rings_in old) key y s

at_key : (old : BTreeMap ℕ Ring) (key : ℕ) (x : Ring) → tree.get nat_cmp old key ≡ Some x → get (rings_in old) key ≡ Some x
at_key old key x is = get-rings_in old key ∙ is

pub flushed_one : (old new : BTreeMap ℕ Ring) (key : ℕ) (x y : Ring) → tree.get nat_cmp old key ≡ Some x → Updates old new key (Some y) → IsFlushed x y → (s : ℕ) → IsFlushedAt (get (rings_in old) s) (get (rings_in new) s)
flushed_one old new key x y is changed flushed s = subst (λ (o : Option Ring). IsFlushedAt (get (rings_in old) s) o) (sym (there old new key y changed s)) (by (eq_by_cmp nat_cmp s key) refl)
  where
    by : (b : Bool) → eq_by_cmp nat_cmp s key ≡ b → IsFlushedAt (get (rings_in old) s) (cond b (Some y) (get (rings_in old) s))
    by true tie = subst (λ (o : Option Ring). IsFlushedAt o (Some y)) (sym (ap (get (rings_in old)) (same_key s key tie) ∙ at_key old key x is)) (y, refl, flushed)
    by false _ = flushed_itself (get (rings_in old) s)

pub others_stay : (old new : BTreeMap ℕ Ring) (key : ℕ) (y : Ring) → Updates old new key (Some y) → (s : ℕ) → (key == s) ≡ false → get (rings_in new) s ≡ get (rings_in old) s
others_stay old new key y changed s e = there old new key y changed s ∙ ap (λ c. cond c (Some y) (get (rings_in old) s)) (apart_keys s key e)

pub put_one : (old new : BTreeMap ℕ Ring) (key : ℕ) (text : Text) (x y : Ring) → tree.get nat_cmp old key ≡ Some x → Updates old new key (Some y) → IsPut text x y → (s : ℕ) → IsPutAt (key == s) text (get (rings_in old) s) (get (rings_in new) s)
put_one old new key text x y is changed put s = subst (λ (o : Option Ring). IsPutAt (key == s) text (get (rings_in old) s) o) (sym (there old new key y changed s)) (by (key == s) refl)
  where
    by : (b : Bool) → (key == s) ≡ b → IsPutAt b text (get (rings_in old) s) (cond (eq_by_cmp nat_cmp s key) (Some y) (get (rings_in old) s))
    by true e =
        let same : key ≡ s = eqb-true key s e in
        subst (λ (o : Option Ring). IsPutAt true text o (cond (eq_by_cmp nat_cmp s key) (Some y) o)) (sym (ap (get (rings_in old)) (sym same) ∙ at_key old key x is))
        (y, ap (λ c. cond c (Some y) (Some x)) (ap (λ k. eq_by_cmp nat_cmp k key) (sym same) ∙ key-itself key), put)
    by false e = ap (λ c. cond c (Some y) (get (rings_in old) s)) (apart_keys s key e)

pub put_none : (m : Rings) (key : ℕ) (text : Text) → get m key ≡ None → (s : ℕ) → IsPutAt (key == s) text (get m s) (get m s)
put_none m key text none s = by (key == s) refl
  where
    by : (b : Bool) → (key == s) ≡ b → IsPutAt b text (get m s) (get m s)
    by true e =
        let shut : get m s ≡ None = ap (get m) (sym (eqb-true key s e)) ∙ none in
        subst (λ (o : Option Ring). IsPutAt true text o o) (sym shut) refl
    by false e = refl

-- ---- rings that hold a message back have no room for it

pub short_one : (old new : BTreeMap ℕ Ring) (key : ℕ) (y : Ring) → Updates old new key (Some y) → AreShort (rings_in old) → IsShort y → AreShort (rings_in new)
short_one old new key y changed short one s r is = by (eq_by_cmp nat_cmp s key) (sym (there old new key y changed s) ∙ is)
  where
    same : (a b : Ring) → (let o : Option Ring = Some a in o) ≡ Some b → a ≡ b
    same a b e = cc

    by : (b : Bool) → cond b (Some y) (get (rings_in old) s) ≡ Some r → IsShort r
    by true e = subst IsShort (same y r e) one
    by false e = short s r e

pub short_less : (old new : BTreeMap ℕ Ring) (key : ℕ) → Updates old new key None → AreShort (rings_in old) → AreShort (rings_in new)
short_less old new key changed short s r is = by (eq_by_cmp nat_cmp s key) (sym (ap (λ m. get m s) (removed old new key changed) ∙ get-remove (rings_in old) key s) ∙ is)
  where
    by : (b : Bool) → cond b None (get (rings_in old) s) ≡ Some r → IsShort r
    by true e = absurd (true≢false (sym (ap is_some e)))
    by false e = short s r e

pub short_of : (m : BTreeMap ℕ Ring) (key : ℕ) (x : Ring) → tree.get nat_cmp m key ≡ Some x → AreShort (rings_in m) → IsShort x
short_of m key x is short = short key x (at_key m key x is)

pub short_fresh : (name : Name) → IsShort (fresh_ring name)
short_fresh name t held = absurd (true≢false (sym (ap is_some held)))
