use Rattle.std.proofs.Common.{rules, ◌≡◌, ◌<◌, ◌≤◌, ◌+◌, length, get_or, drop, sym, ap, ◌∙◌}
use Rattle.std.proofs.lemmas.List.{drop_all}
use Rattle.std.specs.RandomState.{initial_hasher}
use Rattle.odb_atoms.specs.Row.{cell, declared}
use Rattle.odb_atoms.specs.Uuid.{uuid_from, zero_uuid}
use Rattle.std.specs.Hash.DefaultHasher as sip
use Rattle.odb_tables.specs.Indexed.{cells_at}
use Rattle.odb_tables.specs.Represented.Digest.{after_value, after_values, digest}
use Rattle.odb_tables.proofs.Steps.{front_or}
use Rattle.odb_tables.proofs.digest.of_matches.Goals as goal

pub loop-place-preserved : goal.loop-place-preserved
loop-place-preserved c u r holds =
    let ps = c.args.places.now in
    let i = c.loop-place.place-index in
    let p = get_or ps i 0 in
    let low : i < length ps = search rules in
    let value : cell zero_uuid r (declared p) ≡ c.in_ok-value.value.now = c.in_ok-value.ensures.in_each_match u r holds in
    let fed : c.feed_value.new.state ≡ after_value c.loop-place.state c.in_ok-value.value.now = search rules in
    ap (λ h. after_values h (cells_at (drop (i + 1) ps) r)) (fed ∙ ap (after_value c.loop-place.state) (sym value)) ∙ ap (λ xs. after_values c.loop-place.state (cells_at xs r)) (sym (front_or ps i 0 low)) ∙ c.loop-place.invariant u r holds

pub returns : goal.returns
unfolding digest
returns c u r holds =
    let ps = c.args.places.now in
    let past : length ps ≤ c.loop-place.place-index = search rules in
    let start : c.build_hasher-state.result ≡ initial_hasher c.args.hashing = search rules in
    let end : c.loop-place.state ≡ after_values (initial_hasher c.args.hashing) (cells_at ps r) = ap (λ xs. after_values c.loop-place.state (cells_at xs r)) (sym (drop_all c.loop-place.place-index ps past)) ∙ c.loop-place.invariant u r holds ∙ ap (λ h. after_values h (cells_at ps r)) start in
    let finished : c.finish.result ≡ sip.finish c.loop-place.state = search rules in
    c.of_hash.ensures ∙ ap uuid_from (finished ∙ ap sip.finish end)
