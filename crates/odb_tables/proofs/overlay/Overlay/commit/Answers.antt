use Rattle.std.proofs.Common.{◌≡◌, ◌++◌, [], map, sym, ap, subst, ◌∙◌}
use Rattle.std.proofs.lemmas.List.{append-nil}
use Rattle.odb_atoms.specs.FinMap as finite
use Rattle.odb_atoms.specs.Represented.Atom.{uuid_of}
use Rattle.odb_tables.specs.Change.{change}
use Rattle.odb_tables.specs.Represented.Draft.{overlaid}
use Rattle.odb_tables.specs.Represented.Keyed.{shown}
use Rattle.odb_tables.specs.Represented.Overlay.{Touched, row_of}
use Rattle.odb_tables.specs.Represented.TableChange.{AreDistinct}
use Rattle.odb_tables.specs.Stamped.{stamped_table}
use Rattle.odb_tables.proofs.Stamps.{distinct-stamped, stamped-changes, stamped_entries}
use Rattle.odb_tables.proofs.TableChanges.{changes_of, distinct-changes, distinct-shown}
use Rattle.odb_tables.proofs.overlay.Overlay.commit.Goals as goal

pub new-requires : goal.new-requires
new-requires c =
    let t = c.args.base.now in
    let v = uuid_of c.args.stamp.now.version in
    let es = map (shown row_of) c.self.inside.rows.entries in
    let none : c.loop-row.row-iterator ≡ [] = c.in-None.ensures.steps.0 in
    let items : c.loop-row.rows.items ≡ changes_of t (stamped_entries v t es) = sym (append-nil c.loop-row.rows.items) ∙ ap (λ left. c.loop-row.rows.items ++ changes_of t (stamped_entries v t (map (shown row_of) left))) (sym none) ∙ c.loop-row.invariant ∙ ap (λ all. changes_of t (stamped_entries v t (map (shown row_of) all))) c.into_iter-row-iterator.ensures.into_iter_gives.0 in
    subst AreDistinct (sym items) (distinct-changes t (stamped_entries v t es) (distinct-stamped v t es (distinct-shown c.self.inside.rows.entries c.len.ensures.unique)))

pub returns : goal.returns
returns c =
    let t = c.args.base.now in
    let v = uuid_of c.args.stamp.now.version in
    let es = map (shown row_of) c.self.inside.rows.entries in
    let none : c.loop-row.row-iterator ≡ [] = c.in-None.ensures.steps.0 in
    let items : c.loop-row.rows.items ≡ changes_of t (stamped_entries v t es) = sym (append-nil c.loop-row.rows.items) ∙ ap (λ left. c.loop-row.rows.items ++ changes_of t (stamped_entries v t (map (shown row_of) left))) (sym none) ∙ c.loop-row.invariant ∙ ap (λ all. changes_of t (stamped_entries v t (map (shown row_of) all))) c.into_iter-row-iterator.ensures.into_iter_gives.0 in
    c.new.ensures ∙ ap finite.from_entries items ∙ stamped-changes v t es (distinct-shown c.self.inside.rows.entries c.len.ensures.unique) ∙ ap (λ (o : Touched). change t (stamped_table v (t, overlaid t o))) c.self.view_is
