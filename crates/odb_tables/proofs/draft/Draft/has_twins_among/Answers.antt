use Rattle.std.proofs.Common.{rules, ◌≡◌, ◌<◌, length, map, slice_index_or, sym, ap, ◌∙◌}
use Rattle.std.proofs.lemmas.List.{take_all}
use Rattle.std.specs.List.{list_any}
use Rattle.std.specs.Ordering.{eq_by_cmp}
use mathlib.Core.Bool.{true≢false}
use Rattle.odb_atoms.specs.Represented.Atom.{uuid_of}
use Rattle.odb_atoms.specs.Uuid.{uuid_cmp}
use Rattle.odb_tables.specs.Database.{table_at}
use Rattle.odb_tables.specs.Indexed.{StaysApart}
use Rattle.odb_tables.proofs.Touching.{listed_more}
use Rattle.odb_tables.proofs.draft.Draft.has_twins_among.Goals as goal

pub loop-uuid-init : goal.loop-uuid-init
loop-uuid-init c u listed = absurd (true≢false (sym listed))

pub loop-uuid-preserved : goal.loop-uuid-preserved
loop-uuid-preserved c =
    let places = c.args.places.now in
    let old = table_at c.args.self.now.old c.args.table in
    let now = table_at c.args.self.now.now c.args.table in
    let us = c.args.uuids.now in
    let i = c.loop-uuid.uuid-index in
    let x = c.uuid-item.result in
    let inside : i < length us = search rules in
    let is : x ≡ slice_index_or us i x = search rules in
    listed_more (StaysApart places old now) us i x inside is c.loop-uuid.invariant (c.in_ok-gets_twin.ensures.apart c.if-branch.false)

pub returns-then-branch-clause-twins : goal.returns-then-branch-clause-twins
returns-then-branch-clause-twins c e = (uuid_of c.uuid-item.result, c.in_ok-gets_twin.ensures.twin c.if-branch.true)

pub returns-then-branch-clause-apart : goal.returns-then-branch-clause-apart
returns-then-branch-clause-apart c e = absurd (true≢false e)

pub returns-clause-twins : goal.returns-clause-twins
returns-clause-twins c e = absurd (true≢false (sym e))

pub returns-clause-apart : goal.returns-clause-apart
returns-clause-apart c e u listed =
    let us = c.args.uuids.now in
    let all = take_all c.loop-uuid.uuid-index us (search rules) in
    c.loop-uuid.invariant u (ap (λ xs. list_any (eq_by_cmp uuid_cmp u) (map uuid_of xs)) all ∙ listed)
