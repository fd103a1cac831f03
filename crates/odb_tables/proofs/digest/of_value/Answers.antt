use Rattle.std.proofs.Common.{rules, ◌≡◌, ap, ◌∙◌}
use Rattle.std.specs.Hash.DefaultHasher as sip
use Rattle.std.specs.RandomState.{initial_hasher}
use Rattle.odb_atoms.specs.Uuid.{uuid_from}
use Rattle.odb_tables.specs.Represented.Digest.{after_value, digest}
use Rattle.odb_tables.proofs.digest.of_value.Goals as goal

pub returns : goal.returns
unfolding digest
returns c =
    let value = c.args.value.now in
    let start : c.build_hasher-state.result ≡ initial_hasher c.args.hashing = search rules in
    let fed : c.feed_value.new.state ≡ after_value c.build_hasher-state.result value = search rules in
    let finished : c.finish.result ≡ sip.finish c.feed_value.new.state = search rules in
    c.of_hash.ensures ∙ ap uuid_from (finished ∙ ap sip.finish (fed ∙ ap (λ h. after_value h value) start))
