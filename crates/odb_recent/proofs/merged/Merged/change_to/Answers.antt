use Rattle.std.proofs.Common.{rules, ◌≡◌, ◌++◌, [], List, map, sym, ap, subst, ◌∙◌}
use Rattle.std.proofs.lemmas.List.{append-nil}
use Rattle.std.specs.List.{IsDistinct}
use Rattle.std.specs.Map.{keys_of}
use Rattle.std.specs.Ordering.{eq_by_cmp}
use Rattle.odb_atoms.specs.FinMap as finite
use Rattle.odb_atoms.specs.Uuid.{uuid_cmp}
use Rattle.odb_tables.specs.Database.{Table}
use Rattle.odb_tables.specs.Represented.Keyed.{shown}
use Rattle.odb_tables.specs.Represented.Overlay.{row_of}
use Rattle.odb_tables.specs.Represented.TableChange.{AreDistinct}
use Rattle.odb_tables.proofs.KeyedMaps.{keys-shown}
use Rattle.odb_tables.proofs.Leading.{Entry, changes_of, distinct-changes}
use Rattle.odb_recent.proofs.Changing.{OldEntry, became, became-change}
use Rattle.odb_recent.proofs.merged.Merged.change_to.Goals as goal

pub new-requires : goal.new-requires
new-requires c =
    let t : Table = c.args.table.now in
    let es : List OldEntry = map (shown row_of) c.self.inside.rows.entries in
    let end : c.loop-key.key-iterator ≡ [] = c.in-None.ensures.steps.0 in
    let start : c.into_iter-key-iterator.result ≡ c.self.inside.rows.entries = search rules in
    let items : c.loop-key.changes.items ≡ changes_of (became t) es =
    sym (ap (λ left. c.loop-key.changes.items ++ changes_of (became t) (map (shown row_of) left)) end ∙ append-nil c.loop-key.changes.items)
    ∙ c.loop-key.invariant ∙ ap (λ left. changes_of (became t) (map (shown row_of) left)) start in
    let apart : IsDistinct (eq_by_cmp uuid_cmp) (keys_of es) = subst (IsDistinct (eq_by_cmp uuid_cmp)) (keys-shown row_of c.self.inside.rows.entries) c.iter-key-items.ensures.unique in
    subst AreDistinct (sym items) (distinct-changes (became t) es apart)

pub returns : goal.returns
returns c =
    let t : Table = c.args.table.now in
    let es : List OldEntry = map (shown row_of) c.self.inside.rows.entries in
    let end : c.loop-key.key-iterator ≡ [] = c.in-None.ensures.steps.0 in
    let start : c.into_iter-key-iterator.result ≡ c.self.inside.rows.entries = search rules in
    let items : c.loop-key.changes.items ≡ changes_of (became t) es =
    sym (ap (λ left. c.loop-key.changes.items ++ changes_of (became t) (map (shown row_of) left)) end ∙ append-nil c.loop-key.changes.items)
    ∙ c.loop-key.invariant ∙ ap (λ left. changes_of (became t) (map (shown row_of) left)) start in
    let apart : IsDistinct (eq_by_cmp uuid_cmp) (keys_of es) = subst (IsDistinct (eq_by_cmp uuid_cmp)) (keys-shown row_of c.self.inside.rows.entries) c.iter-key-items.ensures.unique in
    c.new.ensures ∙ ap (λ (cs : List Entry). finite.from_entries cs) items ∙ became-change t c.args.self.now es apart c.self.view_is
