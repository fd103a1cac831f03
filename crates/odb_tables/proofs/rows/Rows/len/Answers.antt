use Rattle.std.proofs.Common.{rules, ◌≡◌, slice_get, unwrap_or, None, sym, ap, ◌∙◌}
use Rattle.odb_atoms.specs.FinMap as finite
use Rattle.odb_tables.specs.Database.{Db}
use Rattle.odb_tables.proofs.rows.Rows.len.Goals as goal

pub returns-in-None : goal.returns-in-None
unfolding finite.len finite.empty
returns-in-None c =
    let db : Db = c.self.inside.db.now in
    let none : slice_get db c.self.inside.table ≡ None = search rules in
    let nothing : finite.empty ≡ c.args.self.now = sym (ap (λ o. unwrap_or o finite.empty) none) ∙ c.self.view_is in
    ap finite.len nothing
