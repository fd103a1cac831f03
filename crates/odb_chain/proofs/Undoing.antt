-- Undoing the segments after a mark gives its content, and neighbouring segments join.
use Rattle.std.proofs.Common.{◌≡◌, ℕ, ◌==◌, arith, Bool, true, false, cond, ◌&&◌, nat_lt, T, List, [], ◌∷◌, Option, Some, None, refl, sym, ap, ◌∙◌}
use Rattle.std.proofs.lemmas.Bool.Decides.{nat_tests}
use Rattle.std.proofs.lemmas.Option.{none-some, same_Some}
use Rattle.std.specs.declared.cmp.Ordering.TheVariants.{Equal, Greater, Less}
use Rattle.std.specs.Cmp.{unsigned_Decides}
use Rattle.std.specs.FinMap.{nat_cmp-IsAntisymmetric}
use Rattle.std.specs.FinMap.Entries.{below_all, find, is_sorted}
use Rattle.std.specs.Ordering.{eq_by_cmp, is_lt, nat_cmp}
use Rattle.odb_atoms.specs.FinMap as finite
use Rattle.odb_atoms.specs.Row.{Row}
use Rattle.odb_atoms.specs.Uuid.{same_number-same, same_uuid}
use Rattle.odb_atoms.specs.Value.{same_values}
use Rattle.odb_atoms.proofs.Atoms.{uuid_cmp_total, uuid_cmp-IsAntisymmetric}
use Rattle.odb_atoms.proofs.Equal.{same_values-equal}
use Rattle.odb_atoms.proofs.Lists.{both}
use Rattle.odb_atoms.proofs.FinMaps.{get-combine, get-entries, same_key, same_map}
use Rattle.odb_tables.specs.Change.{change, changed_row, undone}
use Rattle.odb_tables.specs.Database.{Table, table_at}
use Rattle.odb_tables.proofs.Changes.{undone-change}
use Rattle.odb_chain.specs.Chains.{Standing, live_at}
use Rattle.odb_chain.specs.Segments.{SegmentsJoin, UndoneToMarks, joined_row, segments_of, undone_to}

-- ---- undoing

-- versions that come after this one
less : (b c : Bool) → T (is_lt (cond b Less (cond c Equal Greater))) → b ≡ true
less true c h = refl
less false true h = absurd h
less false false h = absurd h

after_it : (p q : ℕ) → T (is_lt (nat_cmp p q)) → nat_lt p q ≡ true
after_it p q h = less (nat_lt p q) (p == q) h

halves : (a b : Bool) → T (a && b) → T a × T b
halves true b h = (tt, h)
halves false b h = absurd h

-- all of the segments undone gives the first content
whole : (p : ℕ) (e : ℕ × Standing) (es : List (ℕ × Standing)) (t : Table) → nat_lt e.0 p ≡ false → T (is_sorted nat_cmp (e ∷ es)) → undone_to p (segments_of (e ∷ es) t) t ≡ e.1.content
whole p e [] t late sorted = ap (λ b. cond b t (undone t (change e.1.content t))) late ∙ undone-change e.1.content t
whole p e (f ∷ es) t late sorted =
    let parts = halves (below_all nat_cmp e.0 (f ∷ es)) (is_sorted nat_cmp (f ∷ es)) sorted in
    let later : nat_lt e.0 f.0 ≡ true = after_it e.0 f.0 (halves _ _ parts.0).0 in
    let rest = undone_to p (segments_of (f ∷ es) t) t in
    ap (λ b. cond b rest (undone rest (change e.1.content f.1.content))) late
    ∙ ap (λ x. undone x (change e.1.content f.1.content)) (whole p f es t (grind (arith, nat_tests)) parts.1)
    ∙ undone-change e.1.content f.1.content

-- a version that is found comes after those before
found_after : (k p : ℕ) (es : List (ℕ × Standing)) (x : Standing) → T (below_all nat_cmp k es) → find nat_cmp p es ≡ Some x → nat_lt k p ≡ true
found_after k p [] x below there = absurd (none-some x there)
found_after k p (f ∷ es) x below there = by (eq_by_cmp nat_cmp p f.0) refl there (found_after k p es x (halves _ _ below).1)
  where
    by : (b : Bool) → eq_by_cmp nat_cmp p f.0 ≡ b → cond b (Some f.1) (find nat_cmp p es) ≡ Some x → (find nat_cmp p es ≡ Some x → nat_lt k p ≡ true) → nat_lt k p ≡ true
    by true is there rest = ap (nat_lt k) (same_key nat_cmp-IsAntisymmetric p f.0 is) ∙ after_it k f.0 (halves _ _ below).0
    by false is there rest = rest there

not_after : (p q : ℕ) → p ≡ q → nat_lt q p ≡ false
not_after p q e = grind (arith, nat_tests)

undone_from : (p : ℕ) (es : List (ℕ × Standing)) (x : Standing) (t : Table) → T (is_sorted nat_cmp es) → find nat_cmp p es ≡ Some x → undone_to p (segments_of es t) t ≡ x.content
undone_from p [] x t sorted there = absurd (none-some x there)
undone_from p (e ∷ []) x t sorted there = by (eq_by_cmp nat_cmp p e.0) refl there
  where
    by : (b : Bool) → eq_by_cmp nat_cmp p e.0 ≡ b → cond b (Some e.1) None ≡ Some x → undone_to p (segments_of (e ∷ []) t) t ≡ x.content
    by true is there = whole p e [] t (not_after p e.0 (same_key nat_cmp-IsAntisymmetric p e.0 is)) sorted ∙ ap (λ (y : Standing). y.content) (same_Some e.1 x there)
    by false is there = absurd (none-some x there)
undone_from p (e ∷ f ∷ es) x t sorted there = by (eq_by_cmp nat_cmp p e.0) refl there (undone_from p (f ∷ es) x t (halves _ _ sorted).1)
  where
    by : (b : Bool) → eq_by_cmp nat_cmp p e.0 ≡ b → cond b (Some e.1) (find nat_cmp p (f ∷ es)) ≡ Some x
        → (find nat_cmp p (f ∷ es) ≡ Some x → undone_to p (segments_of (f ∷ es) t) t ≡ x.content) → undone_to p (segments_of (e ∷ f ∷ es) t) t ≡ x.content
    by true is there rest = whole p e (f ∷ es) t (not_after p e.0 (same_key nat_cmp-IsAntisymmetric p e.0 is)) sorted ∙ ap (λ (y : Standing). y.content) (same_Some e.1 x there)
    by false is there rest =
        let later = undone_to p (segments_of (f ∷ es) t) t in
        ap (λ b. cond b later (undone later (change e.1.content f.1.content))) (found_after e.0 p (f ∷ es) x (halves _ _ sorted).0 there) ∙ rest there

pub undone_to_marks : UndoneToMarks
undone_to_marks k t p x there = let m = live_at k t in undone_from p m.entries x (table_at k.db t) m.sorted (sym (get-entries m p) ∙ there)

-- ---- joining

same_rows : (p q : Row) → (same_uuid p.version q.version && same_values p.columns q.columns) ≡ true → p ≡ q
same_rows p q e =
    let h = both (same_uuid p.version q.version) (same_values p.columns q.columns) e in
    λ i. record { version = same_number-same p.version q.version ((unsigned_Decides p.version.number q.version.number).0 h.0) i; columns = same_values-equal p.columns q.columns h.1 i }

module _ (p q r : Row) where
  abbrev are_same : Row → Row → Bool
  are_same x y = same_uuid x.version y.version && same_values x.columns y.columns

  abbrev Sides : Type 0
  Sides = Option Row × Option Row

  abbrev pair : Row → Row → Option Sides
  pair x y = Some (Some x, Some y)

  all_there : (b c : Bool) → are_same p q ≡ b → are_same q r ≡ c → joined_row (cond b None (pair p q)) (cond c None (pair q r)) ≡ changed_row (Some p) (Some r)
  all_there true c is at = (λ i. joined_row None (cond (sym at i) None (pair q r))) ∙ ap (λ (x : Row). changed_row (Some x) (Some r)) (sym (same_rows p q is))
  all_there false true is at = sym (ap (λ b. cond b None (pair p q)) is) ∙ ap (λ (x : Row). changed_row (Some p) (Some x)) (same_rows q r at)
  all_there false false is at = refl

  comes : (c : Bool) → are_same q r ≡ c → joined_row (Some (None, Some q)) (cond c None (pair q r)) ≡ changed_row None (Some r)
  comes true at = ap (λ (x : Row). let s : Option Sides = Some (None, Some x) in s) (same_rows q r at)
  comes false at = refl

  goes : (b : Bool) → are_same p q ≡ b → joined_row (cond b None (pair p q)) (Some (Some q, None)) ≡ changed_row (Some p) None
  goes true is = ap (λ (x : Row). let s : Option Sides = Some (Some x, None) in s) (sym (same_rows p q is))
  goes false is = refl

joined_is : (x y z : Option Row) → joined_row (changed_row x y) (changed_row y z) ≡ changed_row x z
joined_is None None None = refl
joined_is None None (Some r) = refl
joined_is None (Some q) None = refl
joined_is None (Some q) (Some r) = comes q q r _ refl
joined_is (Some p) None None = refl
joined_is (Some p) None (Some r) = refl
joined_is (Some p) (Some q) None = goes p q q _ refl
joined_is (Some p) (Some q) (Some r) = all_there p q r _ _ refl refl

pub segments_join : SegmentsJoin
segments_join a b c =
    same_map uuid_cmp_total uuid_cmp-IsAntisymmetric _ _
    (λ u. get-combine uuid_cmp_total uuid_cmp-IsAntisymmetric joined_row refl (change a b) (change b c) u
    ∙ (λ i. joined_row (get-combine uuid_cmp_total uuid_cmp-IsAntisymmetric changed_row refl a b u i) (get-combine uuid_cmp_total uuid_cmp-IsAntisymmetric changed_row refl b c u i))
    ∙ joined_is (finite.get a u) (finite.get b u) (finite.get c u)
    ∙ sym (get-combine uuid_cmp_total uuid_cmp-IsAntisymmetric changed_row refl a c u))
