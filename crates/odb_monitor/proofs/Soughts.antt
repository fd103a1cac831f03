-- The rows that are looked for: by which filter, and what is shown by them.
use Rattle.std.proofs.Common.{◌≡◌, Bool, List, Option, Some, None, subst}
use Rattle.odb_atoms.specs.Row.{Row}
use Rattle.odb_atoms.specs.Uuid.{Uuid, uuid_cmp}
use Rattle.std.specs.List.{IsDistinct}
use Rattle.std.specs.Map.{keys_of}
use Rattle.std.specs.Ordering.{eq_by_cmp}
use Rattle.odb_atoms.specs.FinMap as finite
use Rattle.odb_cond.specs.Filter.{Filter, selects}
use Rattle.odb_monitor.specs.Represented.Candidates.{Covers, ListsApart, ListsSelected}
use Rattle.odb_monitor.specs.Represented.Sides.{Pair}
use Rattle.odb_monitor.specs.Represented.Sought.{AreSought, IsSoughtBy, ListsBy}
use Rattle.odb_monitor.specs.Walk.{selected_of}
use Rattle.odb_monitor.specs.declared.told.Told.{Told}
use Rattle.odb_monitor.specs.declared.told.Told.TheVariants.{Nothing, Under}
use Rattle.odb_request.specs.Request.{Request}
use Rattle.odb_tables.specs.Database.{Table}
use Rattle.odb_tables.specs.Represented.Found.{passing}
use Rattle.odb_tables.proofs.Selected.{distinct-filter, passing-filter}
use Rattle.std.specs.Borrow.{Bor}

-- where the client was told nothing they are those that are asked for
pub selected_sought : (f : Filter) (rows : List (Uuid × Row)) (t : Table) → AreSought Nothing f rows t → ListsSelected f rows t
selected_sought f rows t h = by h.0 h.1 h.2
  where
    by : (o : Option Filter) → IsSoughtBy Nothing f o → ListsBy o rows t → ListsSelected f rows t
    by None none lists = absurd none
    by (Some d) is lists = subst (λ g. ListsSelected g rows t) is lists

-- and else those that the filters may tell apart
pub apart_sought : (g : Bor Filter) (f : Filter) (rows : List (Uuid × Row)) (t : Table) → AreSought (Under g) f rows t → ListsApart g.now f rows t
apart_sought g f rows t h = by h.0 h.1 h.2
  where
    by : (o : Option Filter) → IsSoughtBy (Under g) f o → ListsBy o rows t → ListsApart g.now f rows t
    by None none lists = absurd none
    by (Some d) apart lists = (d, lists, apart)

-- what is shown by a comparison, by what it was made of
pub compares : (es : List (Uuid × Pair)) (then now : Table) (a b : Bool) (v w : Told) (p q : Request) → a ≡ b → v ≡ w → p ≡ q → Covers es a v p then now → Covers es b w q then now
compares es then now a b v w p q first told asked covers =
    subst (λ r. Covers es b w r then now) asked (subst (λ x. Covers es b x p then now) told (subst (λ f. Covers es f v p then now) first covers))

-- of the rows of a table those that a filter selects
pub selected_listed : (d : Filter) (rows : List (Uuid × Row)) (t : Table) → finite.from_entries rows ≡ t → IsDistinct (eq_by_cmp uuid_cmp) (keys_of rows) → ListsSelected d (selected_of d rows) t
selected_listed d rows t is once = (subst (λ s. finite.from_entries (selected_of d rows) ≡ passing (selects d) s) is (passing-filter (selects d) rows once), distinct-filter (selects d) rows once)
