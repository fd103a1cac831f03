use Rattle.std.proofs.Common.{rules, ◌≡◌, map, ap, ◌∙◌}
use Rattle.odb_sessions.specs.Marked.{MarkedMonitor}
use Rattle.odb_sessions.specs.Represented.Alike.{ago_in, stand_in}
use Rattle.odb_sessions.specs.Represented.Digest.{after_ago, after_stands, digest}
use Rattle.odb_sessions.proofs.digest.digest_of.Goals as goal

pub returns : goal.returns
unfolding digest
returns c =
    let tables : c.as_slice.result.now ≡ c.args.monitor.now.tables = c.as_slice.ensures.value ∙ ap (λ (x : MarkedMonitor). x.tables) c.monitor.view_is in
    let stands : c.with_tables-stands.result ≡ after_stands 0 (map (stand_in c.args.way) c.args.monitor.now.tables) = c.with_tables-stands.ensures ∙ ap (λ ws. after_stands 0 (map (stand_in c.args.way) ws)) tables in
    let ago : c.ago.result ≡ ago_in c.args.way = c.ago.ensures in
    c.with_ago.ensures ∙ (λ i. after_ago (stands i) (ago i))
