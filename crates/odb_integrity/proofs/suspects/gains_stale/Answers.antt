use Rattle.std.proofs.Common.{rules, ◌≡◌, ◌<◌, Bool, ℕ, false, true, length, slice_index_or}
use Rattle.odb_schema.specs.Schema.{Column}
use Rattle.odb_integrity.specs.Gained.{cell_of, gains_stale_at}
use Rattle.odb_integrity.proofs.Concerned.{place_fails, place_passes}
use Rattle.odb_integrity.proofs.suspects.gains_stale.Goals as goal

pub returns-then-branch : goal.returns-then-branch
returns-then-branch c =
    let cs = c.columns_of-column-items.result.now in
    let k = c.loop-place.place in
    let x = c.column-item.result in
    let test : ℕ × Column → Bool = λ e. gains_stale_at c.args.schema.now c.args.draft.now.now e.1.type (cell_of c.args.draft.now.old c.args.id e.0) (cell_of c.args.draft.now.now c.args.id e.0) in
    let inside : k < length cs = search rules in
    let is : x ≡ slice_index_or cs k x = search rules in
    let passes : test (k, x) ≡ true = search rules in
    place_passes test cs k x _ inside is c.loop-place.invariant passes

pub loop-place-preserved : goal.loop-place-preserved
loop-place-preserved c =
    let cs = c.columns_of-column-items.result.now in
    let k = c.loop-place.place in
    let x = c.column-item.result in
    let test : ℕ × Column → Bool = λ e. gains_stale_at c.args.schema.now c.args.draft.now.now e.1.type (cell_of c.args.draft.now.old c.args.id e.0) (cell_of c.args.draft.now.now c.args.id e.0) in
    let inside : k < length cs = search rules in
    let is : x ≡ slice_index_or cs k x = search rules in
    let fails : test (k, x) ≡ false = search rules in
    place_fails test cs k x _ inside is c.loop-place.invariant fails
