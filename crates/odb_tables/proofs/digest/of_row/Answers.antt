use Rattle.std.proofs.Common.{rules, ◌≡◌, ◌<◌, ◌≤◌, ◌+◌, length, get_or, drop, sym, ap, ◌∙◌}
use Rattle.std.proofs.lemmas.List.{drop_all}
use Rattle.std.specs.RandomState.{initial_hasher}
use Rattle.odb_atoms.specs.Row.{cell, declared}
use Rattle.odb_atoms.specs.Uuid.{uuid_from, zero_uuid}
use Rattle.std.specs.Hash.DefaultHasher as sip
use Rattle.odb_tables.specs.Indexed.{cells_at}
use Rattle.odb_tables.specs.Represented.Digest.{after_value, after_values, digest}
use Rattle.odb_tables.proofs.Steps.{front_or}
use Rattle.odb_tables.proofs.digest.of_row.Goals as goal

pub loop-place-preserved : goal.loop-place-preserved
loop-place-preserved c =
    let ps = c.args.places.now in
    let r = c.args.row.now in
    let i = c.loop-place.place-index in
    let p = get_or ps i 0 in
    let low : i < length ps = search rules in
    let fed : c.feed_cell.new.state ≡ after_value c.loop-place.state (cell zero_uuid r (declared p)) = search rules in
    ap (λ h. after_values h (cells_at (drop (i + 1) ps) r)) fed ∙ ap (λ xs. after_values c.loop-place.state (cells_at xs r)) (sym (front_or ps i 0 low)) ∙ c.loop-place.invariant

pub returns : goal.returns
unfolding digest
returns c =
    let ps = c.args.places.now in
    let r = c.args.row.now in
    let past : length ps ≤ c.loop-place.place-index = search rules in
    let start : c.build_hasher-state.result ≡ initial_hasher c.args.hashing = search rules in
    let end : c.loop-place.state ≡ after_values (initial_hasher c.args.hashing) (cells_at ps r) = ap (λ xs. after_values c.loop-place.state (cells_at xs r)) (sym (drop_all c.loop-place.place-index ps past)) ∙ c.loop-place.invariant ∙ ap (λ h. after_values h (cells_at ps r)) start in
    let finished : c.finish.result ≡ sip.finish c.loop-place.state = search rules in
    c.of_hash.ensures ∙ ap uuid_from (finished ∙ ap sip.finish end)
