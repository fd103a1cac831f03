use Rattle.std.proofs.Common.{rules, ◌≡◌, not, Some, None, option_map, refl, sym, ap, ◌∙◌}
use Rattle.odb_atoms.specs.Uuid.{uuid_cmp}
use Rattle.std.specs.Ordering.{eq_by_cmp}
use Rattle.indexmap.specs.IndexMap.{get_by}
use Rattle.odb_tables.specs.Represented.Keyed.{keyed}
use Rattle.odb_chain.specs.OldRows.{History}
use Rattle.odb_chain.specs.Represented.Log.{is_latest, is_needed}
use Rattle.odb_chain.proofs.Keeps.{got}
use Rattle.odb_chain.proofs.log.is_needed.Goals as goal

pub returns-in-Some : goal.returns-in-Some
returns-in-Some c =
    let m = c.args.rows.now in
    let k = c.entry.inside.key in
    let there : get_by (eq_by_cmp uuid_cmp k) m ≡ Some c.in-Some.history.now = search rules in
    ap not c.passes.ensures ∙ ap (is_latest c.entry.inside.version) (sym (got m (keyed (λ (h : History). h) m) k refl ∙ ap (option_map (λ (h : History). h)) there)) ∙ ap (is_needed (keyed (λ (h : History). h) m)) c.entry.view_is

pub returns-in-None : goal.returns-in-None
returns-in-None c =
    let m = c.args.rows.now in
    let k = c.entry.inside.key in
    let none : get_by (eq_by_cmp uuid_cmp k) m ≡ None = search rules in
    ap (is_latest c.entry.inside.version) (sym (got m (keyed (λ (h : History). h) m) k refl ∙ ap (option_map (λ (h : History). h)) none)) ∙ ap (is_needed (keyed (λ (h : History). h) m)) c.entry.view_is
