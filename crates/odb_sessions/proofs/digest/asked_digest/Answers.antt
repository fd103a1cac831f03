use Rattle.std.proofs.Common.{rules, ◌≡◌, fold, ap, ◌∙◌}
use Rattle.std.specs.Hash.{usize}
use Rattle.std.specs.Hash.DefaultHasher as sip
use Rattle.odb_sessions.specs.Represented.Digest.{after_filter, asked_digest}
use Rattle.odb_sessions.proofs.digest.asked_digest.Goals as goal

pub returns : goal.returns
unfolding asked_digest
returns c =
    let start : c.new-asked.result ≡ sip.initial = search rules in
    let placed : c.hash.new.state ≡ fold sip.write c.new-asked.result (usize c.args.table) = search rules in
    let fed : c.feed_filter.new.state ≡ after_filter c.hash.new.state c.args.filter.now = search rules in
    let finished : c.finish.result ≡ sip.finish c.feed_filter.new.state = search rules in
    finished ∙ ap sip.finish (fed ∙ ap (λ h. after_filter h c.args.filter.now) (placed ∙ ap (λ h. fold sip.write h (usize c.args.table)) start))
