use Rattle.std.proofs.Common.{rules, ◌≡◌, Some, None, option_map, option_copied, sym, ap, ◌∙◌}
use Rattle.odb_atoms.specs.Uuid.{uuid_cmp}
use Rattle.std.specs.Ordering.{eq_by_cmp}
use Rattle.indexmap.specs.IndexMap.{get_by}
use Rattle.odb_tables.specs.Represented.Overlay.{row_of}
use Rattle.odb_chain.specs.Represented.Log.{OldRows}
use Rattle.odb_chain.specs.OldRows.{History, at_version}
use Rattle.odb_chain.proofs.Keeps.{got}
use Rattle.odb_chain.proofs.old_rows.OldRows.row_at.Goals as goal

pub returns-in-Some : goal.returns-in-Some
returns-in-Some c =
    let there : get_by (eq_by_cmp uuid_cmp c.args.key) c.self.inside.rows ≡ Some c.in-Some.history.now = search rules in
    c.row_at.ensures ∙ ap (at_version c.args.version (row_of (option_copied c.args.now))) (sym (got c.self.inside.rows c.args.self.now.rows c.args.key (ap (λ (y : OldRows). y.rows) c.self.view_is) ∙ ap (option_map (λ (h : History). h)) there))

pub returns-in-None : goal.returns-in-None
returns-in-None c =
    let none : get_by (eq_by_cmp uuid_cmp c.args.key) c.self.inside.rows ≡ None = search rules in
    ap (at_version c.args.version (row_of (option_copied c.args.now))) (sym (got c.self.inside.rows c.args.self.now.rows c.args.key (ap (λ (y : OldRows). y.rows) c.self.view_is) ∙ ap (option_map (λ (h : History). h)) none))
