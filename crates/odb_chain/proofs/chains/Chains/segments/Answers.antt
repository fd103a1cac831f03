use Rattle.std.proofs.Common.{rules, ◌≡◌, ◌<◌, ◌≤◌, arith, List, length, subst, sym, ap, ◌∙◌}
use Rattle.odb_tables.specs.Database.{Db}
use Rattle.odb_chain.specs.Chains.{Chains}
use Rattle.odb_chain.specs.Represented.Chain.{Chain, chain_at, marked_versions}
use Rattle.odb_chain.specs.Segments.{contents_held, segments_held}
use Rattle.odb_chain.proofs.Counts.{contents_are, few_segments, segments_are}
use Rattle.odb_chain.proofs.Shown.{chain_is}
use Rattle.odb_chain.proofs.chains.Chains.segments.Goals as goal

pub returns-clause-count : goal.returns-clause-count
returns-clause-count c =
    let db : Db = c.self.inside.db in
    let cs : List Chain = c.self.inside.chains.items in
    let t = c.args.table in
    let here : c.place.result ≡ t = search rules in
    let inside : t < length db = subst (λ (k : Chains). t < length k.db) (sym c.self.view_is) c.requires in
    let long : length cs ≡ length db = c.self.invariant.0 in
    let low : c.place.result < length cs = omega arith in
    let x_is : c.index.result.now ≡ chain_at cs t = chain_is cs c.place.result c.index.result.now low (search rules) ∙ ap (chain_at cs) here in
    c.earlier.ensures ∙ ap (λ (x : Chain). length x.live) x_is ∙ sym (segments_are db cs t c.self.invariant) ∙ ap (λ (k : Chains). segments_held k t) c.self.view_is

pub returns-clause-few : goal.returns-clause-few
returns-clause-few c =
    let db : Db = c.self.inside.db in
    let cs : List Chain = c.self.inside.chains.items in
    let t = c.args.table in
    let segments : c.earlier.result ≡ length (chain_at cs t).live = returns-clause-count c ∙ sym (ap (λ (k : Chains). segments_held k t) c.self.view_is) ∙ segments_are db cs t c.self.invariant in
    subst (λ (k : Chains). c.earlier.result ≤ contents_held k t) c.self.view_is
    (subst (λ n. c.earlier.result ≤ n) (sym (contents_are db cs t c.self.invariant)) (subst (λ n. n ≤ length (marked_versions (chain_at cs t))) (sym segments) (few_segments db cs t c.self.invariant)))
