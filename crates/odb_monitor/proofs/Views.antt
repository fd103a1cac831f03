-- Folding the printed difference of two views into the first gives the second: tables, and whole views.
use Rattle.std.proofs.Common.{◌≡◌, Bool, true, false, cond, List, [], ◌∷◌, Option, Some, None, refl, sym, ◌∙◌, ap, subst, not, ◌&&◌, ◌||◌, is_some, T, true≢false, ◌⊎◌, inl, inr}
use Rattle.std.specs.Prelude.{option_map, option_and_then}
use Rattle.std.specs.List.{list_any}
use Rattle.std.specs.FinMap.Entries.{find, is_sorted}
use Rattle.odb_atoms.specs.FinMap.{FinMap, get, combine}
use Rattle.odb_request.specs.Request.{Column, Shape}
use Rattle.odb_atoms.specs.Uuid.{Uuid, uuid_cmp}
use Rattle.odb_atoms.specs.Value.{same_values}
use Rattle.odb_monitor.specs.View.{Cells, Contents, View, Change, differs, change, delta, is_empty, is_none}
use Rattle.odb_request.specs.Request.{Notation, column_names, table_names}
use Rattle.odb_monitor.specs.Update.{table_update, table_parts, table_updates}
use Rattle.odb_monitor.specs.Fold.{as_object, pairs, named, fold_table, fold_tables, fold}
pub use Rattle.odb_monitor.specs.Law.{IsRowOf, IsTableOf, IsViewOf}
use Rattle.odb_monitor.specs.Names.{AreDistinct, ColumnsDistinct, AreNamed}
use Rattle.odb_monitor.proofs.Lists.{IsAsLong, named-members}
use Rattle.odb_monitor.proofs.Maps.{same_map, get-combine}
use Rattle.odb_monitor.proofs.Cells.{same_cells-is, names_long}
use Rattle.odb_monitor.proofs.Rows.{before, after, IsFit}
use Rattle.odb_monitor.proofs.Folded.{becomes, Folds, fold_rows-row_updates}

-- a first reply folds into an empty table
abbrev pub Begins : Bool → Contents → Type 0
Begins first t = (first ≡ false) ⊎ ((u : Uuid) → get t u ≡ None)

abbrev pub AllBegin : Bool → View → Type 0
AllBegin first [] = Unit {0}
AllBegin first (t ∷ V) = Begins first t × AllBegin first V

pub some_is : {A : Type 0} (x y : A) → Some x ≡ Some y → x ≡ y
some_is x y e = cc

differing : (b : Bool) (old new : Cells) (c : Change) → cond b None (Some (differs old new)) ≡ Some c → (b ≡ false) × (differs old new ≡ c)
differing true old new c e = absurd (true≢false (sym (ap is_some e)))
differing false old new c e = (refl, some_is _ _ e)

change_fits : (first : Bool) (cs : List Column) (o p : Option Cells) (c : Change) → IsRowOf cs o → IsRowOf cs p → (first ≡ false) ⊎ (o ≡ None) → change o p ≡ Some c
    → IsFit first cs c × (o ≡ before c) × (p ≡ after c)
change_fits first cs None None c l m b e = absurd (true≢false (sym (ap is_some e)))
change_fits first cs None (Some new) c l m b e = subst (λ d. IsFit first cs d × (None ≡ before d) × (Some new ≡ after d)) (some_is _ _ e) (m, refl, refl)
change_fits first cs (Some old) None c l m (inl f) e = subst (λ d. IsFit first cs d × (Some old ≡ before d) × (None ≡ after d)) (some_is _ _ e) ((f, l), refl, refl)
change_fits first cs (Some old) None c l m (inr n) e = absurd (true≢false (ap is_some n))
change_fits first cs (Some old) (Some new) c l m (inl f) e =
    let d : (same_values old new ≡ false) × (differs old new ≡ c) = differing (same_values old new) old new c e in
    subst (λ d. IsFit first cs d × (Some old ≡ before d) × (Some new ≡ after d)) d.1 ((f, l, m, d.0), refl, refl)
change_fits first cs (Some old) (Some new) c l m (inr n) e = absurd (true≢false (ap is_some n))

unchanged : (b : Bool) (old new : Cells) → same_values old new ≡ b → cond b None (Some (differs old new)) ≡ None → Some old ≡ Some new
unchanged true old new s e = ap Some (same_cells-is old new s)
unchanged false old new s e = absurd (true≢false (ap is_some e))

-- where there is no change, the two are one
pub no_change_is : (o p : Option Cells) → change o p ≡ None → o ≡ p
no_change_is None None e = refl
no_change_is None (Some new) e = absurd (true≢false (ap is_some e))
no_change_is (Some old) None e = absurd (true≢false (ap is_some e))
no_change_is (Some old) (Some new) e = unchanged (same_values old new) old new refl e

becomes_change : (first : Bool) (cs : List Column) (o p : Option Cells) (d : Option Change) → IsRowOf cs o → IsRowOf cs p → (first ≡ false) ⊎ (o ≡ None) → change o p ≡ d → becomes d o ≡ p
becomes_change first cs o p None l m b e = no_change_is o p e
becomes_change first cs o p (Some c) l m b e = sym ((change_fits first cs o p c l m b e).2)

at : (first : Bool) (t : Contents) → Begins first t → (u : Uuid) → (first ≡ false) ⊎ (get t u ≡ None)
at first t (inl f) u = inl f
at first t (inr n) u = inr (n u)

-- the list has just the changes from t to w
AreChanges : List (Uuid × Change) → Contents → Contents → Type 0
AreChanges es t w = (u : Uuid) → find uuid_cmp u es ≡ change (get t u) (get w u)

fold_table-entries : (n : Notation) (first : Bool) (cs : List Column) → AreDistinct (column_names cs) → (t w : Contents) → IsTableOf cs t → IsTableOf cs w → Begins first t
    → (es : List (Uuid × Change)) → T (is_sorted uuid_cmp es) → AreChanges es t w → fold_table n first cs t (table_update n first cs es) ≡ Some w
unfolding AreChanges
fold_table-entries n first cs a t w l m b [] s is = ap Some (same_map t w (λ u. no_change_is (get t u) (get w u) (sym (is u))))
fold_table-entries n first cs a t w l m b (e ∷ es) s is =
    let folded : Folds n first cs None (e ∷ es) t = fold_rows-row_updates n first cs a None (e ∷ es) s refl t (λ u c found.
    let f : IsFit first cs c × (get t u ≡ before c) × (get w u ≡ after c) = change_fits first cs (get t u) (get w u) c (l u) (m u) (at first t b u) (sym (is u) ∙ found) in (f.0, f.1)) in
    folded.1 ∙ ap Some (same_map folded.0 w (λ q. folded.2 q ∙ becomes_change first cs (get t q) (get w q) (find uuid_cmp q (e ∷ es)) (l q) (m q) (at first t b q) (sym (is q))))

get_find : (m : FinMap uuid_cmp Change) (q : Uuid) → find uuid_cmp q m.entries ≡ get m q
unfolding get
get_find m q = refl

are_changes : (t w : Contents) → AreChanges (combine (change) t w).entries t w
unfolding AreChanges
are_changes t w u = get_find (combine (change) t w) u ∙ get-combine (change) t w u refl

pub fold_table-changes : (n : Notation) (first : Bool) (cs : List Column) → AreDistinct (column_names cs) → (t w : Contents) → IsTableOf cs t → IsTableOf cs w → Begins first t
    → fold_table n first cs t (table_update n first cs (combine (change) t w).entries) ≡ Some w
fold_table-changes n first cs a t w l m b = fold_table-entries n first cs a t w l m b (combine (change) t w).entries (combine (change) t w).sorted (are_changes t w)

fold_tables-parts : (n : Notation) (first : Bool) (ss : List Shape) → ColumnsDistinct ss → (V W : View) → IsViewOf ss V → IsViewOf ss W → AllBegin first V
    → fold_tables n first ss V (table_parts n first ss (delta V W)) ≡ Some W
fold_tables-parts n first [] a [] [] l m b = refl
fold_tables-parts n first [] a [] (w ∷ W) l m b = absurd m
fold_tables-parts n first [] a (t ∷ V) W l m b = absurd l
fold_tables-parts n first (s ∷ ss) a [] W l m b = absurd l
fold_tables-parts n first (s ∷ ss) a (t ∷ V) [] l m b = absurd m
fold_tables-parts n first (s ∷ ss) a (t ∷ V) (w ∷ W) l m b =
    ap (option_and_then (λ u. option_map (λ X. u ∷ X) (fold_tables n first ss V (table_parts n first ss (delta V W))))) (fold_table-changes n first s.columns a.0 t w l.0 m.0 b.0)
    ∙ ap (option_map (λ X. w ∷ X)) (fold_tables-parts n first ss a.1 V W l.1 m.1 b.1)

parts_long : (n : Notation) (first : Bool) (ss : List Shape) (V W : View) → IsViewOf ss V → IsViewOf ss W → IsAsLong ss (table_parts n first ss (delta V W))
parts_long n first [] V W l m = tt
parts_long n first (s ∷ ss) [] W l m = absurd l
parts_long n first (s ∷ ss) (t ∷ V) [] l m = absurd m
parts_long n first (s ∷ ss) (t ∷ V) (w ∷ W) l m = parts_long n first ss V W l.1 m.1

some_entry : (n : Notation) (first : Bool) (cs : List Column) (es : List (Uuid × Change)) → is_some (table_update n first cs es) ≡ not (is_empty es)
some_entry n first cs [] = refl
some_entry n first cs (e ∷ es) = refl

de_morgan : (a b : Bool) → (not a || not b) ≡ not (a && b)
de_morgan true b = refl
de_morgan false b = refl

-- some table is named where there is some change
some_part : (n : Notation) (first : Bool) (ss : List Shape) (V W : View) → IsViewOf ss V → IsViewOf ss W → list_any is_some (table_parts n first ss (delta V W)) ≡ not (is_none (delta V W))
some_part n first [] [] W l m = refl
some_part n first [] (t ∷ V) W l m = absurd l
some_part n first (s ∷ ss) [] W l m = absurd l
some_part n first (s ∷ ss) (t ∷ V) [] l m = absurd m
some_part n first (s ∷ ss) (t ∷ V) (w ∷ W) l m =
    (λ i. some_entry n first s.columns (combine (change) t w).entries i || some_part n first ss V W l.1 m.1 i) ∙ de_morgan (is_empty (combine (change) t w).entries) (is_none (delta V W))

table_updates-read : (n : Notation) (first : Bool) (ss : List Shape) → AreNamed ss → (V W : View) → IsViewOf ss V → IsViewOf ss W
    → option_and_then (λ ms. named (table_names ss) (pairs ms)) (as_object (table_updates n first ss (delta V W))) ≡ Some (table_parts n first ss (delta V W))
table_updates-read n first ss a V W l m = named-members (table_names ss) (table_parts n first ss (delta V W)) a.0 (names_long (λ s. s.name) ss _ (parts_long n first ss V W l m))

-- a first reply folds into the empty view
pub fold-first : (n : Notation) (ss : List Shape) → AreNamed ss → (V W : View) → IsViewOf ss V → IsViewOf ss W → AllBegin true V
    → fold n true ss V (table_updates n true ss (delta V W)) ≡ Some W
fold-first n ss a V W l m b =
    ap (option_and_then (fold_tables n true ss V)) (table_updates-read n true ss a V W l m) ∙ fold_tables-parts n true ss a.1 V W l m b

none_first : (V : View) → AllBegin false V
none_first [] = tt
none_first (t ∷ V) = (inl refl, none_first V)

-- the key law: the printed difference of two views that differ folds into the new view
pub fold-later : (n : Notation) (ss : List Shape) → AreNamed ss → (V W : View) → IsViewOf ss V → IsViewOf ss W → is_none (delta V W) ≡ false
    → fold n false ss V (table_updates n false ss (delta V W)) ≡ Some W
fold-later n ss a V W l m d =
    ap (option_and_then (λ ds. cond (list_any is_some ds) (fold_tables n false ss V ds) None)) (table_updates-read n false ss a V W l m)
    ∙ ap (λ b. cond b (fold_tables n false ss V (table_parts n false ss (delta V W))) None) (some_part n false ss V W l m ∙ ap not d)
    ∙ fold_tables-parts n false ss a.1 V W l m (none_first V)

no_entries : (cs : List Column) (t w : Contents) (es : List (Uuid × Change)) → AreChanges es t w → is_empty es ≡ true → t ≡ w
unfolding AreChanges
no_entries cs t w [] is e = same_map t w (λ u. no_change_is (get t u) (get w u) (sym (is u)))
no_entries cs t w (x ∷ es) is e = absurd (true≢false (sym e))

both_true : (a b : Bool) → (a && b) ≡ true → (a ≡ true) × (b ≡ true)
both_true true b e = (refl, e)
both_true false b e = absurd (true≢false (sym e))

-- where no change is printed, the two views are one
pub delta-none : (ss : List Shape) (V W : View) → IsViewOf ss V → IsViewOf ss W → is_none (delta V W) ≡ true → V ≡ W
delta-none [] [] [] l m e = refl
delta-none [] [] (w ∷ W) l m e = absurd m
delta-none [] (t ∷ V) W l m e = absurd l
delta-none (s ∷ ss) [] W l m e = absurd l
delta-none (s ∷ ss) (t ∷ V) [] l m e = absurd m
delta-none (s ∷ ss) (t ∷ V) (w ∷ W) l m e =
    let h : (is_empty (combine (change) t w).entries ≡ true) × (is_none (delta V W) ≡ true) = both_true (is_empty (combine (change) t w).entries) (is_none (delta V W)) e in
    λ i. no_entries s.columns t w (combine (change) t w).entries (are_changes t w) h.0 i ∷ delta-none ss V W l.1 m.1 h.1 i
