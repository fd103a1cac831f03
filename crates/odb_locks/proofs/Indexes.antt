-- What the index says after a change of one session's names.
use Rattle.std.specs.Prelude.{◌≡◌, ℕ, Bool, true, false, cond, ◌&&◌, ◌==◌, List, [], string_bytes, Some, None, IsSome}
use mathlib.Core.Path.{refl, sym, ap, subst, ◌∙◌}
use Rattle.std.specs.declared.string.String.{String}
use Rattle.std.specs.declared.alloc.Global.{Global}
use Rattle.std.specs.BTreeMap as tree
use Rattle.std.specs.BTreeMap.{BTreeMap}
use Rattle.std.specs.BTreeSet as sorted
use Rattle.std.specs.BTreeSet.{BTreeSet, contains_text}
use Rattle.std.specs.Cmp.{Equal-is, both_ways, nat_cmp_total, tied_itself, unsigned_Decides}
use Rattle.std.specs.FinMap.{nat_cmp-IsAntisymmetric}
use Rattle.std.specs.Cmp.Lexicographic.{slice_cmp}
use Rattle.std.specs.List.{list_any}
use Rattle.std.specs.Ordering.{is_eq, nat_cmp}
use Rattle.std.specs.Str.{bytes_eq}
use Rattle.std.specs.String.{string_cmp}
use Rattle.std.proofs.lemmas.Map.Text.{btree_set_updates_text}
use Rattle.odb_locks.specs.Represented.Index.{names_have}

abbrev Names : Type 0
Names = BTreeSet (String Global)

abbrev pub NamesBySession : Type 0
NamesBySession = BTreeMap ℕ Names

pub is_eq-nat_cmp : (s t : ℕ) → is_eq (nat_cmp s t) ≡ (s == t)
is_eq-nat_cmp s t =
    both_ways (is_eq (nat_cmp s t)) (s == t)
    (λ e. (unsigned_Decides s t).1 (nat_cmp-IsAntisymmetric s t ((Equal-is (nat_cmp s t)).0 e)))
    (λ e. ap (λ u. is_eq (nat_cmp s u)) (sym ((unsigned_Decides s t).0 e)) ∙ ap is_eq (tied_itself nat_cmp_total s))

-- the names x at a session become y, in which b stands at one name
pub set_at : (s : ℕ) (name : List ℕ) (b : Bool) (m n : NamesBySession) (y : Names) → tree.UpdatesBy nat_cmp (nat_cmp s) m n (Some y) → ((q : List ℕ) → contains_text y q ≡ cond (bytes_eq name q) b (names_have (tree.get nat_cmp m s) q)) → (t : ℕ) (q : List ℕ) → names_have (tree.get nat_cmp n t) q ≡ cond ((s == t) && bytes_eq name q) b (names_have (tree.get nat_cmp m t) q)
set_at s name b m n y outer inner t q =
    ap (λ o. names_have o q) (outer.0 t ∙ ap (λ d. cond d (Some y) (tree.get nat_cmp m t)) (is_eq-nat_cmp s t)) ∙ at (s == t) refl
  where
    at : (d : Bool) → (s == t) ≡ d → names_have (cond d (Some y) (tree.get nat_cmp m t)) q ≡ cond (d && bytes_eq name q) b (names_have (tree.get nat_cmp m t) q)
    at true e = inner q ∙ ap (λ u. cond (bytes_eq name q) b (names_have (tree.get nat_cmp m u) q)) ((unsigned_Decides s t).0 e)
    at false e = refl

-- a session's names were found, and written to
pub set_found : (s : ℕ) (name : List ℕ) (b : Bool) (m n : NamesBySession) (x y : Names) → Some x ≡ tree.get nat_cmp m s → (IsSome (tree.get nat_cmp m s) → tree.UpdatesBy nat_cmp (nat_cmp s) m n (Some y)) → sorted.UpdatesBy string_cmp (λ k. slice_cmp nat_cmp name (string_bytes k)) x y b → (t : ℕ) (q : List ℕ) → names_have (tree.get nat_cmp n t) q ≡ cond ((s == t) && bytes_eq name q) b (names_have (tree.get nat_cmp m t) q)
set_found s name b m n x y found writes h =
    set_at s name b m n y (writes (subst IsSome found refl)) (λ q. btree_set_updates_text name x y b h q ∙ ap (λ o. cond (bytes_eq name q) b (names_have o q)) found)

-- the same at the key of an owned text
pub insert_found : (s : ℕ) (name : List ℕ) (key : String Global) (m n : NamesBySession) (x y : Names) → string_bytes key ≡ name → Some x ≡ tree.get nat_cmp m s → (IsSome (tree.get nat_cmp m s) → tree.UpdatesBy nat_cmp (nat_cmp s) m n (Some y)) → sorted.UpdatesBy string_cmp (string_cmp key) x y true → (t : ℕ) (q : List ℕ) → names_have (tree.get nat_cmp n t) q ≡ cond ((s == t) && bytes_eq name q) true (names_have (tree.get nat_cmp m t) q)
insert_found s name key m n x y bytes found writes h t q =
    set_found s (string_bytes key) true m n x y found writes h t q
    ∙ ap (λ (bs : List ℕ). cond ((s == t) && bytes_eq bs q) true (names_have (tree.get nat_cmp m t) q)) bytes

-- a session had no names
pub insert_first : (s : ℕ) (name : List ℕ) (key : String Global) (m m' n : NamesBySession) (x y : Names) → string_bytes key ≡ name → None ≡ tree.get nat_cmp m s → m' ≡ m → x.keys ≡ [] → tree.UpdatesBy nat_cmp (nat_cmp s) m' n (Some y) → sorted.UpdatesBy string_cmp (string_cmp key) x y true → (t : ℕ) (q : List ℕ) → names_have (tree.get nat_cmp n t) q ≡ cond ((s == t) && bytes_eq name q) true (names_have (tree.get nat_cmp m t) q)
insert_first s name key m m' n x y bytes none same empty outer h t q =
    set_at s (string_bytes key) true m' n y outer
    (λ q. btree_set_updates_text (string_bytes key) x y true h q
    ∙ ap (λ (ks : List (String Global)). cond (bytes_eq (string_bytes key) q) true (list_any (λ k. is_eq (slice_cmp nat_cmp q (string_bytes k))) ks)) empty
    ∙ ap (λ o. cond (bytes_eq (string_bytes key) q) true (names_have o q)) (none ∙ ap (λ (k : NamesBySession). tree.get nat_cmp k s) (sym same)))
    t q
    ∙ (λ i. cond ((s == t) && bytes_eq (bytes i) q) true (names_have (tree.get nat_cmp (same i) t) q))
