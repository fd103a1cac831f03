-- No other message leads from one view to another than the printed difference of the two.
use Rattle.std.proofs.Common.{◌≡◌, ℕ, Bool, true, false, cond, ◌&&◌, List, [], ◌∷◌, Option, Some, None, refl, sym, ◌∙◌, ap, subst, is_some, true≢false, T}
use Rattle.std.specs.Prelude.{option_map, option_and_then}
use Rattle.std.specs.List.{list_any}
use Rattle.std.specs.declared.cmp.Ordering.{Ordering}
use Rattle.std.specs.declared.cmp.Ordering.TheVariants.{Less, Equal, Greater}
use Rattle.std.specs.Ordering.{eq_by_cmp, is_lt}
use Rattle.std.specs.FinMap.Entries.{find, is_sorted, below_all, same_entries}
use Rattle.std.proofs.lemmas.Option.{none-some, same_Some}
use Rattle.serde_json.specs.Data.{Data, object, Members}
use Rattle.odb_atoms.proofs.Atoms.{uuid_cmp_total, uuid_cmp-IsAntisymmetric}
use Rattle.odb_atoms.proofs.Equal.{find-below, same_values-itself}
use Rattle.odb_atoms.specs.FinMap.{FinMap, get, combine}
use Rattle.odb_atoms.specs.Uuid.{Uuid, uuid_cmp, uuid_text}
use Rattle.odb_request.specs.Request.{Column, Shape, Notation, table_names}
use Rattle.odb_monitor.proofs.Lists.{IsAsLong}
use Rattle.odb_monitor.proofs.Maps.{same_key, key-itself, get-insert, get-remove, get-combine, first_of_both, second_of_both}
use Rattle.odb_monitor.proofs.OnlyRows.{and_then_is, map_is, then_is, pairs-same, as_object-is, named-is, IsOnly, read_row-only}
use Rattle.odb_monitor.proofs.ReadBack.{uuid_text-uuid_read}
use Rattle.odb_monitor.proofs.Rows.{read_row}
use Rattle.odb_monitor.proofs.Views.{IsRowOf, IsTableOf, IsViewOf, no_change_is}
use Rattle.odb_monitor.specs.Fold.{as_object, pairs, put, is_after, fold_rows, fold_named, fold_table, fold_tables, fold, named}
use Rattle.odb_monitor.specs.Reading.{uuid_read}
use Rattle.odb_monitor.specs.Update.{members, row_updates, table_update, table_parts, table_updates}
use Rattle.odb_monitor.specs.View.{Cells, Contents, View, Change, differs, change, delta}

get-put : (t : Contents) (u : Uuid) (c : Option Cells) (q : Uuid) → get (put t u c) q ≡ cond (eq_by_cmp uuid_cmp q u) c (get t q)
get-put t u None q = get-remove t u q
get-put t u (Some c) q = get-insert t u c q

change-itself : (o : Option Cells) → change o o ≡ None
change-itself None = refl
change-itself (Some c) = ap (λ b. cond b None (Some (differs c c))) (same_values-itself c)

-- the list has just the changes from t to w
AreChanges : List (Uuid × Change) → Contents → Contents → Type 0
AreChanges es t w = (q : Uuid) → find uuid_cmp q es ≡ change (get t q) (get w q)

-- all names of the list stand after this one
AreBehind : Option Uuid → List (Uuid × Change) → Type 0
AreBehind None es = Unit {0}
AreBehind (Some u) es = T (below_all uuid_cmp u es)

less_is : (o : Ordering) → is_lt o ≡ true → o ≡ Less
less_is Less e = refl
less_is Equal e = absurd (true≢false (sym e))
less_is Greater e = absurd (true≢false (sym e))

true_is : (b : Bool) → T b → b ≡ true
true_is true h = refl
true_is false h = absurd h

is_T : (b : Bool) → b ≡ true → T b
is_T b e = subst T (sym e) tt

pair_T : (a b : Bool) → T a → T b → T (a && b)
pair_T true b h k = k
pair_T false b h k = absurd h

below_through : (u v : Uuid) (es : List (Uuid × Change)) → is_lt (uuid_cmp u v) ≡ true → T (below_all uuid_cmp v es) → T (below_all uuid_cmp u es)
below_through u v [] lt h = tt
below_through u v (e ∷ es) lt h =
    let first : uuid_cmp v e.0 ≡ Less = less_is (uuid_cmp v e.0) (true_is (is_lt (uuid_cmp v e.0)) (first_of_both (is_lt (uuid_cmp v e.0)) (below_all uuid_cmp v es) h)) in
    pair_T (is_lt (uuid_cmp u e.0)) (below_all uuid_cmp u es) (subst (λ o. T (is_lt o)) (sym (uuid_cmp_total.trans u v e.0 (less_is (uuid_cmp u v) lt) first)) tt)
    (below_through u v es lt (second_of_both (is_lt (uuid_cmp v e.0)) (below_all uuid_cmp v es) h))

-- the rows' updates are those of a list of changes
Rows : Notation → Bool → List Column → Option Uuid → Contents → List (List ℕ × Data) → Contents → Type 0
Rows n first cs last t es w = (cs' : List (Uuid × Change)) × (es ≡ pairs (row_updates n first cs cs')) × T (is_sorted uuid_cmp cs') × AreBehind last cs' × AreChanges cs' t w × IsTableOf cs w

put_fits : (cs : List Column) (t : Contents) (u : Uuid) (c : Option Cells) → IsTableOf cs t → IsRowOf cs c → IsTableOf cs (put t u c)
put_fits cs t u c l m q = subst (IsRowOf cs) (sym (get-put t u c q)) (elim (eq_by_cmp uuid_cmp q u) as (λ b. IsRowOf cs (cond b c (get t q))) [ true ↦ m | false ↦ l q ])

after_all : (last : Option Uuid) (u : Uuid) (c : Change) (cs' : List (Uuid × Change)) → is_after last u ≡ true → T (below_all uuid_cmp u cs') → AreBehind last ((u, c) ∷ cs')
unfolding AreBehind
after_all None u c cs' e h = tt
after_all (Some v) u c cs' e h = pair_T (is_lt (uuid_cmp v u)) (below_all uuid_cmp v cs') (is_T (is_lt (uuid_cmp v u)) e) (below_through v u cs' e h)

at_key : (t w : Contents) (u : Uuid) (c : Change) (cs' : List (Uuid × Change)) (new : Option Cells) (q : Uuid) (b : Bool) → eq_by_cmp uuid_cmp q u ≡ b
    → find uuid_cmp q cs' ≡ change (get (put t u new) q) (get w q) → get w u ≡ new → change (get t u) new ≡ Some c → find uuid_cmp q ((u, c) ∷ cs') ≡ change (get t q) (get w q)
at_key t w u c cs' new q true e rest now only =
    let same : q ≡ u = same_key q u e in
    ap (λ b. cond b (Some c) (find uuid_cmp q cs')) e ∙ sym only ∙ ap (change (get t u)) (sym now) ∙ (λ i. change (get t (sym same i)) (get w (sym same i)))
at_key t w u c cs' new q false e rest now only =
    ap (λ b. cond b (Some c) (find uuid_cmp q cs')) e ∙ rest ∙ ap (λ o. change o (get w q)) (get-put t u new q ∙ ap (λ b. cond b new (get t q)) e)

fold_rows-only : (n : Notation) (first : Bool) (cs : List Column) (last : Option Uuid) (t : Contents) (es : List (List ℕ × Data)) (w : Contents) → IsTableOf cs t → fold_rows n first cs last t es ≡ Some w → Rows n first cs last t es w
unfolding Rows AreChanges AreBehind
fold_rows-only n first cs last t [] w l e =
    subst (λ w. Rows n first cs last t [] w) (same_Some t w e) ([], refl, tt, (elim last as (λ o. AreBehind o []) [ None ↦ tt | Some u ↦ tt ]), (λ q. sym (change-itself (get t q))), l)
fold_rows-only n first cs last t (x ∷ es) w l e =
    let a = and_then_is (λ u. cond (is_after last u) (option_and_then (λ c. fold_rows n first cs (Some u) (put t u c) es) (read_row n first cs (get t u) x.1)) None) (uuid_read x.0) w e in
    let u : Uuid = a.0 in
    let b = then_is (is_after last u) (option_and_then (λ c. fold_rows n first cs (Some u) (put t u c) es) (read_row n first cs (get t u) x.1)) w a.2 in
    let r = and_then_is (λ c. fold_rows n first cs (Some u) (put t u c) es) (read_row n first cs (get t u) x.1) w b.1 in
    let only : IsOnly n first cs (get t u) x.1 r.0 = read_row-only n first cs (get t u) x.1 r.0 (l u) r.1 in
    let rest : Rows n first cs (Some u) (put t u r.0) es w = fold_rows-only n first cs (Some u) (put t u r.0) es w (put_fits cs t u r.0 l only.3) r.2 in
    let name : x.0 ≡ uuid_text u = uuid_text-uuid_read x.0 u a.1 in
    let now : get w u ≡ r.0 =
    sym (no_change_is r.0 (get w u) (sym (rest.4 u ∙ ap (λ o. change o (get w u)) (get-put t u r.0 u ∙ ap (λ b. cond b r.0 (get t u)) (key-itself u))) ∙ find-below uuid_cmp u rest.0 rest.3)) in (
      (u, only.0) ∷ rest.0,
      (λ i. let p : List ℕ × Data = (name i, only.2 i) in p ∷ rest.1 i),
      pair_T (below_all uuid_cmp u rest.0) (is_sorted uuid_cmp rest.0) rest.3 rest.2,
      after_all last u only.0 rest.0 b.0 rest.3,
      (λ q. at_key t w u only.0 rest.0 r.0 q (eq_by_cmp uuid_cmp q u) refl (rest.4 q) now only.1),
      rest.5,
    )

get_find : (m : FinMap uuid_cmp Change) (q : Uuid) → find uuid_cmp q m.entries ≡ get m q
unfolding get
get_find m q = refl

-- the changes of the list are the entries of the difference
entries_are : (cs' : List (Uuid × Change)) (t w : Contents) → T (is_sorted uuid_cmp cs') → AreChanges cs' t w → cs' ≡ (combine change t w).entries
unfolding AreChanges
entries_are cs' t w s is =
    same_entries uuid_cmp uuid_cmp_total uuid_cmp-IsAntisymmetric cs' (combine change t w).entries s (combine change t w).sorted
    (λ q. is q ∙ sym (get_combine_at t w q) ∙ sym (get_find (combine change t w) q))
  where
    get_combine_at : (t w : Contents) (q : Uuid) → get (combine change t w) q ≡ change (get t q) (get w q)
    get_combine_at t w q = get-combine change t w q refl

-- a table that isn't named has no change
none_changed : (n : Notation) (first : Bool) (cs : List Column) (t w : Contents) → t ≡ w → table_update n first cs (combine change t w).entries ≡ None
unfolding AreChanges
none_changed n first cs t w e =
    ap (table_update n first cs) (sym (entries_are [] t w tt (λ q. sym (change-itself (get w q)) ∙ ap (λ m. change (get m q) (get w q)) (sym e))))

has_members : List (List ℕ × Data) → Bool
has_members [] = false
has_members (x ∷ es) = true

-- a table that is named has rows
printed_rows : (n : Notation) (first : Bool) (cs : List Column) (cs' : List (Uuid × Change)) (x : List ℕ × Data) (es : List (List ℕ × Data)) → x ∷ es ≡ pairs (row_updates n first cs cs') → table_update n first cs cs' ≡ Some (object (row_updates n first cs cs'))
unfolding has_members
printed_rows n first cs [] x es e = absurd (true≢false (ap has_members e))
printed_rows n first cs (c ∷ cs') x es e = refl

named_only : (n : Notation) (first : Bool) (cs : List Column) (t w : Contents) (ms : Members) (es : List (List ℕ × Data)) → pairs ms ≡ es → IsTableOf cs t → fold_named n first cs t es ≡ Some w → (Some (object ms) ≡ table_update n first cs (combine change t w).entries) × IsTableOf cs w
unfolding Rows
named_only n first cs t w ms [] is l e = absurd (none-some w e)
named_only n first cs t w ms (x ∷ es) is l e =
    let r : Rows n first cs None t (x ∷ es) w = fold_rows-only n first cs None t (x ∷ es) w l e in (
      ap (λ ns. Some (object ns)) (pairs-same ms (row_updates n first cs r.0) (is ∙ r.1))
          ∙ sym (printed_rows n first cs r.0 x es r.1)
          ∙ ap (table_update n first cs) (entries_are r.0 t w r.2 r.4),
      r.5,
    )

fold_table-only : (n : Notation) (first : Bool) (cs : List Column) (t w : Contents) (d : Option Data) → IsTableOf cs t → fold_table n first cs t d ≡ Some w → (d ≡ table_update n first cs (combine change t w).entries) × IsTableOf cs w
fold_table-only n first cs t w None l e =
    let same : t ≡ w = same_Some t w e in (sym (none_changed n first cs t w same), subst (IsTableOf cs) same l)
fold_table-only n first cs t w (Some d) l e =
    let h = and_then_is (λ ms. fold_named n first cs t (pairs ms)) (as_object d) w e in
    let r = named_only n first cs t w h.0 (pairs h.0) refl l h.2 in
    (ap Some (as_object-is d h.0 h.1) ∙ r.0, r.1)

fold_tables-only : (n : Notation) (first : Bool) (ss : List Shape) (V W : View) (ds : List (Option Data)) → IsViewOf ss V → IsAsLong (table_names ss) ds → fold_tables n first ss V ds ≡ Some W → (ds ≡ table_parts n first ss (delta V W)) × IsViewOf ss W
fold_tables-only n first [] [] W [] l m e = subst (λ W. (◌≡◌ {A = List (Option Data)} [] (table_parts n first [] (delta [] W))) × IsViewOf [] W) (same_Some [] W e) (refl, tt)
fold_tables-only n first [] [] W (d ∷ ds) l m e = absurd m
fold_tables-only n first [] (t ∷ V) W ds l m e = absurd l
fold_tables-only n first (s ∷ ss) [] W ds l m e = absurd l
fold_tables-only n first (s ∷ ss) (t ∷ V) W [] l m e = absurd m
fold_tables-only n first (s ∷ ss) (t ∷ V) W (d ∷ ds) l m e =
    let h = and_then_is (λ u. option_map (λ X. let r : View = u ∷ X in r) (fold_tables n first ss V ds)) (fold_table n first s.columns t d) W e in
    let g = map_is (λ X. let r : View = h.0 ∷ X in r) (fold_tables n first ss V ds) W h.2 in
    let one = fold_table-only n first s.columns t h.0 d l.0 h.1 in
    let rest = fold_tables-only n first ss V g.0 ds l.1 m g.1 in
    subst (λ W. (d ∷ ds ≡ table_parts n first (s ∷ ss) (delta (t ∷ V) W)) × IsViewOf (s ∷ ss) W) g.2 ((λ i. one.0 i ∷ rest.0 i), (one.1, rest.1))

if_any : (first : Bool) (ds : List (Option Data)) (o : Option View) (W : View) → cond first o (cond (list_any is_some ds) o None) ≡ Some W → o ≡ Some W
if_any true ds o W e = e
if_any false ds o W e = (then_is (list_any is_some ds) o W e).1

-- a message that the strict client takes is the printed difference of its two views
pub fold-only : (n : Notation) (first : Bool) (ss : List Shape) (V W : View) (d : Data) → IsViewOf ss V → fold n first ss V d ≡ Some W → d ≡ table_updates n first ss (delta V W)
fold-only n first ss V W d l e =
    let h = and_then_is (λ ds. cond first (fold_tables n first ss V ds) (cond (list_any is_some ds) (fold_tables n first ss V ds) None)) (option_and_then (λ ms. named (table_names ss) (pairs ms)) (as_object d)) W e in
    let g = and_then_is (λ ms. named (table_names ss) (pairs ms)) (as_object d) h.0 h.1 in
    let m = named-is (table_names ss) (pairs g.0) h.0 g.2 in
    let r = fold_tables-only n first ss V W h.0 l m.1 (if_any first h.0 (fold_tables n first ss V h.0) W h.2) in
    as_object-is d g.0 g.1 ∙ ap object (pairs-same g.0 (members (table_names ss) h.0) m.0 ∙ ap (members (table_names ss)) r.0)
