use Rattle.std.proofs.Common.{rules, ◌≡◌, ◌<◌, ◌++◌, length, slice_get, slice_index_or, sym, subst}
use Rattle.odb_tables.specs.Draft.{KeepsColumn}
use Rattle.odb_integrity.specs.Gained.{gained_at}
use Rattle.odb_integrity.proofs.KeptCells.{kept_appended}
use Rattle.odb_integrity.proofs.Referring.{parts_more}
use Rattle.odb_integrity.proofs.gained.append_changes.Goals as goal

pub loop-place-preserved : goal.loop-place-preserved
loop-place-preserved c =
    let s = c.args.schema.now in
    let before = c.args.before.now in
    let now = c.args.now.now in
    let cs = c.columns_of-column-items.result.now in
    let k = c.loop-place.place in
    let x = c.column-item.result in
    let inside : k < length cs = search rules in
    let is : x ≡ slice_index_or cs k x = search rules in
    let lost : c.append_changes_at.new.lost.items ≡ c.loop-place.lost.items ++ gained_at s x.type (slice_get now.columns k) (slice_get before.columns k) = search rules in
    let gained : c.append_changes_at.new.gained.items ≡ c.loop-place.gained.items ++ gained_at s x.type (slice_get before.columns k) (slice_get now.columns k) = search rules in
    record {
      lost = parts_more (λ e. gained_at s e.1.type (slice_get now.columns e.0) (slice_get before.columns e.0)) c.loop-place.lost.items c.append_changes_at.new.lost.items _ cs k x inside is c.loop-place.invariant.lost lost;
      gained = parts_more (λ e. gained_at s e.1.type (slice_get before.columns e.0) (slice_get now.columns e.0)) c.loop-place.gained.items c.append_changes_at.new.gained.items _ cs k x inside is c.loop-place.invariant.gained gained;
    }

pub loop-place-preserved-then-keeps : goal.loop-place-preserved-then-keeps
loop-place-preserved-then-keeps c =
    let s = c.args.schema.now in
    let before = c.args.before.now in
    let now = c.args.now.now in
    let cs = c.columns_of-column-items.result.now in
    let k = c.loop-place.place in
    let x = c.column-item.result in
    let lost = c.loop-place.lost.items in
    let gained = c.loop-place.gained.items in
    let inside : k < length cs = search rules in
    let is : x ≡ slice_index_or cs k x = search rules in
    let table : c.table-in-loop-place.result ≡ c.args.id.0 = search rules in
    let kept : KeepsColumn c.args.draft.now.old c.args.draft.now.now c.args.id.0 k = subst (λ t. KeepsColumn c.args.draft.now.old c.args.draft.now.now t k) table (c.keeps.ensures c.if-keeps.true) in
    let same : slice_get before.columns k ≡ slice_get now.columns k = kept c.args.id.1 before now c.requires.before c.requires.now in
    record {
      lost = parts_more (λ e. gained_at s e.1.type (slice_get now.columns e.0) (slice_get before.columns e.0)) lost lost _ cs k x inside is c.loop-place.invariant.lost (kept_appended s x.type (slice_get now.columns k) (slice_get before.columns k) lost (sym same));
      gained = parts_more (λ e. gained_at s e.1.type (slice_get before.columns e.0) (slice_get now.columns e.0)) gained gained _ cs k x inside is c.loop-place.invariant.gained (kept_appended s x.type (slice_get before.columns k) (slice_get now.columns k) gained same);
    }
