-- Folding the printed difference of two views into the first gives the second.
use Rattle.std.proofs.Common.{◌≡◌, Bool, true, false, cond, List, [], ◌∷◌, Option, Some, None, refl, sym, ◌∙◌, ap, subst, is_some, T, true≢false}
use Rattle.std.specs.Prelude.{option_and_then}
use Rattle.std.specs.Ordering.{eq_by_cmp, is_lt}
use Rattle.std.specs.FinMap.Entries.{find, is_sorted}
use Rattle.odb_atoms.specs.FinMap.{get}
use Rattle.odb_request.specs.Request.{Column}
use Rattle.odb_atoms.specs.Uuid.{Uuid, uuid_cmp}
use Rattle.odb_monitor.specs.View.{Cells, Contents, Change}
use Rattle.odb_request.specs.Request.{Notation, column_names}
use Rattle.odb_monitor.specs.Update.{row_update, row_updates}
use Rattle.odb_monitor.specs.Fold.{pairs, put, is_after, fold_rows}
use Rattle.odb_monitor.specs.Names.{AreDistinct}
use Rattle.odb_monitor.proofs.Maps.{get-insert, get-remove, same_key, key-itself, first_of_both, second_of_both}
use Rattle.odb_atoms.proofs.Equal.{find-below}
use Rattle.odb_monitor.proofs.ReadBack.{uuid_read-uuid_text}
use Rattle.odb_monitor.proofs.Rows.{before, after, IsFit, read_row, read_row-row_update}

get-put : (t : Contents) (u : Uuid) (c : Option Cells) (q : Uuid) → get (put t u c) q ≡ cond (eq_by_cmp uuid_cmp q u) c (get t q)
get-put t u None q = get-remove t u q
get-put t u (Some c) q = get-insert t u c q

-- what a row is after the change that the list has for it
abbrev pub becomes : Option Change → Option Cells → Option Cells
becomes None o = o
becomes (Some c) o = after c

-- each change of the list is of the row that the table has
abbrev pub AreOf : Bool → List Column → List (Uuid × Change) → Contents → Type 0
AreOf first cs es t = (u : Uuid) (c : Change) → find uuid_cmp u es ≡ Some c → IsFit first cs c × (get t u ≡ before c)

-- the name in front of the list is below its first
abbrev pub Follows : Option Uuid → List (Uuid × Change) → Type 0
Follows last [] = Unit {0}
Follows last (e ∷ es) = is_after last e.0 ≡ true

-- the table after the list's changes
abbrev pub Folds : Notation → Bool → List Column → Option Uuid → List (Uuid × Change) → Contents → Type 0
Folds n first cs last es t = (u : Contents) × (fold_rows n first cs last t (pairs (row_updates n first cs es)) ≡ Some u) × ((q : Uuid) → get u q ≡ becomes (find uuid_cmp q es) (get t q))

is_true : (b : Bool) → T b → b ≡ true
is_true true h = refl
is_true false h = absurd h

follows : (e : Uuid × Change) (es : List (Uuid × Change)) → T (is_sorted uuid_cmp (e ∷ es)) → Follows (Some e.0) es
follows e [] s = tt
follows e (f ∷ es) s = is_true (is_lt (uuid_cmp e.0 f.0)) (first_of_both _ _ (first_of_both _ _ s))

absent : (e : Uuid × Change) (es : List (Uuid × Change)) → T (is_sorted uuid_cmp (e ∷ es)) → (q : Uuid) → eq_by_cmp uuid_cmp q e.0 ≡ true → find uuid_cmp q es ≡ None
absent e es s q tied = subst (λ x. find uuid_cmp x es ≡ None) (sym (same_key q e.0 tied)) (find-below uuid_cmp e.0 es (first_of_both _ _ s))

of_rest : (first : Bool) (cs : List Column) (e : Uuid × Change) (es : List (Uuid × Change)) → T (is_sorted uuid_cmp (e ∷ es)) → (t : Contents) → AreOf first cs (e ∷ es) t → AreOf first cs es (put t e.0 (after e.1))
of_rest first cs e es s t of u c found =
    elim (eq_by_cmp uuid_cmp u e.0) as (λ b. eq_by_cmp uuid_cmp u e.0 ≡ b → IsFit first cs c × (get (put t e.0 (after e.1)) u ≡ before c)) [
      | true ↦ λ tied. absurd (true≢false (ap is_some (sym found ∙ absent e es s u tied)))
      | false ↦ λ apart. let h : IsFit first cs c × (get t u ≡ before c) = of u c (ap (λ b. cond b (Some e.1) (find uuid_cmp u es)) apart ∙ found) in
          (h.0, get-put t e.0 (after e.1) u ∙ ap (λ b. cond b (after e.1) (get t u)) apart ∙ h.1)
    ] refl

first_row : (n : Notation) (first : Bool) (cs : List Column) → AreDistinct (column_names cs) → (last : Option Uuid) (e : Uuid × Change) (es : List (Uuid × Change)) (t : Contents) → AreOf first cs (e ∷ es) t → is_after last e.0 ≡ true
    → fold_rows n first cs last t (pairs (row_updates n first cs (e ∷ es))) ≡ fold_rows n first cs (Some e.0) (put t e.0 (after e.1)) (pairs (row_updates n first cs es))
first_row n first cs a last e es t of behind =
    let here : IsFit first cs e.1 × (get t e.0 ≡ before e.1) = of e.0 e.1 (ap (λ b. cond b (Some e.1) (find uuid_cmp e.0 es)) (key-itself e.0)) in
    let go : Option (Option Cells) → Option Contents = option_and_then (λ c. fold_rows n first cs (Some e.0) (put t e.0 c) (pairs (row_updates n first cs es))) in
    ap (option_and_then (λ u. cond (is_after last u) (option_and_then (λ c. fold_rows n first cs (Some u) (put t u c) (pairs (row_updates n first cs es))) (read_row n first cs (get t u) (row_update n first cs e.1))) None)) (uuid_read-uuid_text e.0)
    ∙ ap (λ b. cond b (go (read_row n first cs (get t e.0) (row_update n first cs e.1))) None) behind
    ∙ ap (λ held. go (read_row n first cs held (row_update n first cs e.1))) here.1
    ∙ ap go (read_row-row_update cs a n first e.1 here.0)

becomes_first : (e : Uuid × Change) (es : List (Uuid × Change)) → T (is_sorted uuid_cmp (e ∷ es)) → (t : Contents) (q : Uuid) → becomes (find uuid_cmp q es) (get (put t e.0 (after e.1)) q) ≡ becomes (find uuid_cmp q (e ∷ es)) (get t q)
becomes_first e es s t q =
    ap (becomes (find uuid_cmp q es)) (get-put t e.0 (after e.1) q)
    ∙ elim (eq_by_cmp uuid_cmp q e.0) as (λ b. eq_by_cmp uuid_cmp q e.0 ≡ b → becomes (find uuid_cmp q es) (cond b (after e.1) (get t q)) ≡ becomes (cond b (Some e.1) (find uuid_cmp q es)) (get t q)) [
      | true ↦ λ tied. ap (λ o. becomes o (after e.1)) (absent e es s q tied)
      | false ↦ λ _. refl
    ] refl

pub fold_rows-row_updates : (n : Notation) (first : Bool) (cs : List Column) → AreDistinct (column_names cs) → (last : Option Uuid) (es : List (Uuid × Change)) → T (is_sorted uuid_cmp es) → Follows last es → (t : Contents) → AreOf first cs es t → Folds n first cs last es t
fold_rows-row_updates n first cs a last [] s b t of = (t, refl, λ q. refl)
fold_rows-row_updates n first cs a last (e ∷ es) s b t of =
    let rest : Folds n first cs (Some e.0) es (put t e.0 (after e.1)) = fold_rows-row_updates n first cs a (Some e.0) es (second_of_both _ _ s) (follows e es s) (put t e.0 (after e.1)) (of_rest first cs e es s t of) in
    (rest.0, first_row n first cs a last e es t of b ∙ rest.1, λ q. rest.2 q ∙ becomes_first e es s t q)
