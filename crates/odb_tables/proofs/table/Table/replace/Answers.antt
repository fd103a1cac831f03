use Rattle.std.proofs.Common.{rules, ◌≡◌, Option, None, Some, IsSome, option_map, refl, sym, ap, subst, ◌∙◌}
use Rattle.std.specs.Arc.{arc_value}
use Rattle.std.specs.Ordering.{eq_by_cmp}
use Rattle.indexmap.specs.IndexMap.{Updates, get_by}
use Rattle.odb_atoms.specs.FinMap as finite
use Rattle.odb_atoms.specs.Row.{Row}
use Rattle.odb_atoms.specs.Uuid.{uuid_cmp}
use Rattle.odb_tables.specs.Database.{Table}
use Rattle.odb_tables.specs.Represented.Keyed.{keyed}
use Rattle.odb_tables.specs.Represented.Installed.{with_row_at}
use Rattle.odb_tables.proofs.Installs.{as_it_is}
use Rattle.odb_tables.proofs.KeyedMaps.{get-keyed, inserted}
use Rattle.odb_tables.proofs.table.Table.replace.Goals as goal

pub returns-in_default : goal.returns-in_default
returns-in_default c =
    let k = c.args.key in
    let m = c.self.inside.rows in
    let x : Row = arc_value c.args.row in
    let none : get_by (eq_by_cmp uuid_cmp k) m ≡ None = search rules in
    let had : finite.get c.args.self.now k ≡ None = ap (λ (t : Table). finite.get t k) (sym c.self.view_is) ∙ get-keyed arc_value m k ∙ ap (option_map arc_value) none in
    let unwritten : with_row_at c.args.self.now k (option_map (λ _. x) (finite.get c.args.self.now k)) ≡ with_row_at c.args.self.now k (finite.get c.args.self.now k) = ap (λ (o : Option Row). with_row_at c.args.self.now k (option_map (λ _. x) o)) had ∙ ap (with_row_at c.args.self.now k) (sym had) in
    ap (keyed arc_value) c.get_mut.follows.holds-at-none ∙ c.self.view_is ∙ as_it_is c.args.self.now k ∙ sym unwritten

pub returns : goal.returns
returns c =
    let k = c.args.key in
    let m = c.self.inside.rows in
    let x : Row = arc_value c.args.row in
    let there : get_by (eq_by_cmp uuid_cmp k) m ≡ Some c.in-Some.place.now = search rules in
    let changed : Updates (eq_by_cmp uuid_cmp) m (c.get_mut.follows.lender c.args.row) k (Some c.args.row) = (c.get_mut.follows.holds c.args.row).3 (subst IsSome (sym there) refl) in
    let had : finite.get c.args.self.now k ≡ Some (arc_value c.in-Some.place.now) = ap (λ (t : Table). finite.get t k) (sym c.self.view_is) ∙ get-keyed arc_value m k ∙ ap (option_map arc_value) there in
    inserted arc_value m (c.get_mut.follows.lender c.args.row) k c.args.row changed ∙ ap (λ (t : Table). finite.insert t k x) c.self.view_is ∙ ap (λ (o : Option Row). with_row_at c.args.self.now k (option_map (λ _. x) o)) (sym had)
