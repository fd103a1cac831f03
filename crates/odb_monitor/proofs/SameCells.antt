-- Whether two rows are the same in the monitored columns, column by column.
use Rattle.std.proofs.Common.{◌≡◌, ◌&&◌, List, [], ◌∷◌, map, refl, ap, ◌∙◌}
use Rattle.std.specs.List.{list_all}
use Rattle.odb_atoms.specs.Row as row
use Rattle.odb_atoms.specs.Row.{Row, cell}
use Rattle.odb_atoms.specs.Uuid.{Uuid}
use Rattle.odb_atoms.specs.Value.{Value, same_values}
use Rattle.odb_cond.specs.Represented.Clause.{selector_of}
use Rattle.odb_cond.specs.declared.clause.Selector.{Selector}
use Rattle.odb_monitor.specs.Represented.Sides.{is_same_in}
use Rattle.odb_monitor.specs.View.{cut}
use Rattle.odb_request.specs.Request.{Column}

-- the cells of these columns
abbrev cells : List row.Selector → Uuid → Row → List Value
cells ss u r = map (cell u r) ss

cells_cut : (cs : List Column) (u : Uuid) (r : Row) → cells (map (λ (c : Column). c.source) cs) u r ≡ cut cs u r
cells_cut [] u r = refl
cells_cut (c ∷ cs) u r = ap (λ vs. cell u r c.source ∷ vs) (cells_cut cs u r)

one_by_one : (xs : List Selector) (u : Uuid) (p q : Row) → list_all (is_same_in (u, p) (u, q)) xs ≡ same_values (cells (map selector_of xs) u p) (cells (map selector_of xs) u q)
one_by_one [] u p q = refl
one_by_one (x ∷ xs) u p q = ap (λ b. is_same_in (u, p) (u, q) x && b) (one_by_one xs u p q)

pub same_cut : (xs : List Selector) (cs : List Column) (u : Uuid) (p q : Row) → map selector_of xs ≡ map (λ (c : Column). c.source) cs → list_all (is_same_in (u, p) (u, q)) xs ≡ same_values (cut cs u p) (cut cs u q)
same_cut xs cs u p q named =
    one_by_one xs u p q ∙ ap (λ ss. same_values (cells ss u p) (cells ss u q)) named ∙ (λ i. same_values (cells_cut cs u p i) (cells_cut cs u q i))
