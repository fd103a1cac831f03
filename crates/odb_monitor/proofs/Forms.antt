-- The columns of a row that is cut to them, one by one.
use Rattle.std.proofs.Common.{◌≡◌, List, [], ◌∷◌, map, refl, ap}
use Rattle.odb_atoms.specs.Row.{Row}
use Rattle.odb_atoms.specs.Uuid.{Uuid}
use Rattle.odb_monitor.specs.Represented.Form.{all_in, difference_in, old_in, set_in}
use Rattle.odb_monitor.specs.Update.{all_cells, differences, old_cells, set_cells}
use Rattle.odb_monitor.specs.View.{cut}
use Rattle.odb_request.specs.Request.{Column}

pub all_cut : (cs : List Column) (u : Uuid) (r : Row) → all_cells (cut cs u r) ≡ map (all_in (u, r)) cs
all_cut [] u r = refl
all_cut (c ∷ cs) u r = ap (λ vs. all_in (u, r) c ∷ vs) (all_cut cs u r)

pub set_cut : (cs : List Column) (u : Uuid) (r : Row) → set_cells cs (cut cs u r) ≡ map (set_in (u, r)) cs
set_cut [] u r = refl
set_cut (c ∷ cs) u r = ap (λ vs. set_in (u, r) c ∷ vs) (set_cut cs u r)

pub old_cut : (cs : List Column) (u : Uuid) (p q : Row) → old_cells (cut cs u p) (cut cs u q) ≡ map (old_in (u, p) (u, q)) cs
old_cut [] u p q = refl
old_cut (c ∷ cs) u p q = ap (λ vs. old_in (u, p) (u, q) c ∷ vs) (old_cut cs u p q)

pub differences_cut : (cs : List Column) (u : Uuid) (p q : Row) → differences cs (cut cs u p) (cut cs u q) ≡ map (difference_in (u, p) (u, q)) cs
differences_cut [] u p q = refl
differences_cut (c ∷ cs) u p q = ap (λ vs. difference_in (u, p) (u, q) c ∷ vs) (differences_cut cs u p q)
