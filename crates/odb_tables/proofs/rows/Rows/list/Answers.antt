use Rattle.std.proofs.Common.{rules, ◌≡◌, slice_get, unwrap_or, None, map, sym, ap, subst, ◌∙◌}
use Rattle.std.specs.List.{IsDistinct}
use Rattle.std.specs.Map.{keys_of}
use Rattle.std.specs.Ordering.{eq_by_cmp}
use Rattle.odb_atoms.specs.FinMap as finite
use Rattle.odb_atoms.specs.Uuid.{uuid_cmp}
use Rattle.odb_tables.specs.Database.{Db}
use Rattle.odb_tables.specs.Represented.Table.{listed}
use Rattle.odb_tables.proofs.Overlays.{none_twice}
use Rattle.odb_tables.proofs.rows.Rows.list.Goals as goal

pub returns-in_default-clause-rows : goal.returns-in_default-clause-rows
returns-in_default-clause-rows c =
    let db : Db = c.self.inside.db.now in
    let none : slice_get db c.self.inside.table ≡ None = search rules in
    let nothing : finite.empty ≡ c.args.self.now = sym (ap (λ o. unwrap_or o finite.empty) none) ∙ c.self.view_is in
    ap (λ xs. finite.from_entries {R = uuid_cmp} (map listed xs)) c.new.ensures.items ∙ nothing

pub returns-in_default-clause-distinct : goal.returns-in_default-clause-distinct
returns-in_default-clause-distinct c = subst (λ xs. IsDistinct (eq_by_cmp uuid_cmp) (keys_of (map listed xs))) (sym c.new.ensures.items) none_twice
