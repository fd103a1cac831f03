use Rattle.std.proofs.Common.{rules, ◌≡◌, ◌<◌, length, map, slice_index_or, sym, ap, subst, ◌∙◌}
use Rattle.std.proofs.lemmas.List.{take_all}
use Rattle.std.specs.List.{list_any}
use Rattle.std.specs.Ordering.{eq_by_cmp}
use mathlib.Core.Bool.{true≢false}
use Rattle.odb_atoms.specs.FinMap as finite
use Rattle.odb_atoms.specs.Represented.Atom.{uuid_of}
use Rattle.odb_atoms.specs.Uuid.{uuid_cmp}
use Rattle.odb_tables.specs.Database.{table_at}
use Rattle.odb_tables.specs.Represented.Facet.{HasTagsNow}
use Rattle.odb_tables.proofs.Touching.{listed_more, still-tagged}
use Rattle.odb_tables.proofs.draft.Draft.index_listed.Goals as goal

pub loop-uuid-init : goal.loop-uuid-init
loop-uuid-init c u listed = absurd (true≢false (sym listed))

pub loop-uuid-preserved : goal.loop-uuid-preserved
loop-uuid-preserved c =
    let now = table_at c.args.self.now.now c.args.table in
    let us = c.args.uuids.now in
    let i = c.loop-uuid.uuid-index in
    let x = c.uuid-item.result in
    let k = c.loop-uuid.index in
    let n = c.add_row.new.index in
    let inside : i < length us = search rules in
    let is : x ≡ slice_index_or us i x = search rules in
    listed_more (λ u. HasTagsNow n.facet n.pairs u (finite.get now u)) us i x inside is
    (λ u listed. still-tagged k n u (finite.get now u) c.add_row.ensures.same c.add_row.ensures.grows (c.loop-uuid.invariant u listed))
    (subst (λ f. HasTagsNow f n.pairs (uuid_of x) (finite.get now (uuid_of x))) (sym c.add_row.ensures.same.1) c.in_ok-add_row.ensures.ok)

pub returns : goal.returns
returns c u listed =
    let us = c.args.uuids.now in
    let all = take_all c.loop-uuid.uuid-index us (search rules) in
    c.loop-uuid.invariant u (ap (λ xs. list_any (eq_by_cmp uuid_cmp u) (map uuid_of xs)) all ∙ listed)
