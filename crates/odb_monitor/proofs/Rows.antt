-- The client's step on a row's update gives the new row.
use Rattle.std.proofs.Common.{◌≡◌, Bool, true, false, cond, List, Option, Some, None, refl, ◌∙◌, ap}
use Rattle.std.specs.Prelude.{option_map, option_and_then}
use Rattle.serde_json.specs.Data.{Data}
use Rattle.odb_request.specs.Request.{Column}
use Rattle.odb_atoms.specs.Value.{same_values}
use Rattle.odb_monitor.specs.View.{Cells, Change, comes_in, goes_out, differs}
use Rattle.odb_request.specs.Request.{Notation, update, update2, column_names}
use Rattle.odb_monitor.specs.Update.{all_cells, set_cells, old_cells, differences, row_object, row_update}
use Rattle.odb_monitor.specs.Fold.{as_object, pairs, cells_of, all_given, all_filled, all_modified, all_replaced, comes, goes, modifies, replaces, step_row}
use Rattle.odb_monitor.specs.Names.{AreDistinct}
use Rattle.odb_monitor.proofs.Lists.{IsAsLong}
use Rattle.odb_monitor.proofs.Cells.{all_given-all_cells, long_map, cells_of-row_object, all_filled-set_cells, all_modified-differences, all_replaced-old_cells, names_some-differences, names_some-old_cells, same_cells-itself, set_cells_long, old_cells_long, differences_long}

abbrev pub before : Change → Option Cells
before (comes_in new) = None
before (goes_out old) = Some old
before (differs old new) = Some old

abbrev pub after : Change → Option Cells
after (comes_in new) = Some new
after (goes_out old) = None
after (differs old new) = Some new

-- the change is of rows of these columns, and a first reply has rows that come in alone
abbrev pub IsFit : Bool → List Column → Change → Type 0
IsFit first cs (comes_in new) = IsAsLong cs new
IsFit first cs (goes_out old) = (first ≡ false) × IsAsLong cs old
IsFit first cs (differs old new) = (first ≡ false) × IsAsLong cs old × IsAsLong cs new × (same_values old new ≡ false)

abbrev pub read_row : Notation → Bool → List Column → Option Cells → Data → Option (Option Cells)
read_row n first cs held d = option_and_then (λ ms. step_row n first cs held (pairs ms)) (as_object d)

module _ (cs : List Column) (a : AreDistinct (column_names cs)) where
  given : (vs : Cells) → IsAsLong cs vs → option_and_then (all_given) (cells_of cs (row_object cs (all_cells vs))) ≡ Some vs
  given vs l = ap (option_and_then (all_given)) (cells_of-row_object cs (all_cells vs) a (long_map _ cs vs l)) ∙ all_given-all_cells vs

  pub read_row-row_update : (n : Notation) (first : Bool) (c : Change) → IsFit first cs c → read_row n first cs (before c) (row_update n first cs c) ≡ Some (after c)
  read_row-row_update update true (comes_in new) l = ap (option_map Some) (given new l)
  read_row-row_update update false (comes_in new) l = ap (option_map Some) (given new l)
  read_row-row_update update first (goes_out old) f =
      rw f.0 (ap (goes (Some old)) (given old f.1) ∙ ap (λ b. cond b (Some None) None) (same_cells-itself old))
  read_row-row_update update first (differs old new) f =
      rw f.0 (ap (option_and_then (λ news. option_and_then (replaces (Some old) news) (cells_of cs (row_object cs (old_cells old new))))) (given new f.2)
      ∙ ap (option_and_then (replaces (Some old) new)) (cells_of-row_object cs (old_cells old new) a (old_cells_long cs old new f.1 f.2))
      ∙ ap (λ b. cond b (option_map Some (all_replaced old new (old_cells old new))) None) (names_some-old_cells cs old new f.1 f.2 f.3)
      ∙ ap (option_map Some) (all_replaced-old_cells cs old new f.1 f.2))
  read_row-row_update update2 true (comes_in new) l =
      ap (λ vs. comes None (option_and_then (all_filled cs) vs)) (cells_of-row_object cs (set_cells cs new) a (set_cells_long cs new l))
      ∙ ap (option_map Some) (all_filled-set_cells cs new l)
  read_row-row_update update2 false (comes_in new) l =
      ap (λ vs. comes None (option_and_then (all_filled cs) vs)) (cells_of-row_object cs (set_cells cs new) a (set_cells_long cs new l))
      ∙ ap (option_map Some) (all_filled-set_cells cs new l)
  read_row-row_update update2 first (goes_out old) f = rw f.0 refl
  read_row-row_update update2 first (differs old new) f =
      rw f.0 (ap (option_and_then (modifies cs (Some old))) (cells_of-row_object cs (differences cs old new) a (differences_long cs old new f.1 f.2))
      ∙ ap (λ b. cond b (option_map Some (all_modified cs old (differences cs old new))) None) (names_some-differences cs old new f.1 f.2 f.3)
      ∙ ap (option_map Some) (all_modified-differences cs old new f.1 f.2))
