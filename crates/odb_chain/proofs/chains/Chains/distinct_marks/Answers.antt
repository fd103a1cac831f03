use Rattle.std.proofs.Common.{rules, ◌≡◌, ◌<◌, arith, List, length, subst, sym, ap, ◌∙◌}
use Rattle.odb_tables.specs.Database.{Db}
use Rattle.odb_chain.specs.Chains.{Chains}
use Rattle.odb_chain.specs.Represented.Chain.{Chain, chain_at, marked_versions}
use Rattle.odb_chain.specs.Segments.{contents_held}
use Rattle.odb_chain.proofs.Counts.{contents_are}
use Rattle.odb_chain.proofs.Shown.{chain_is}
use Rattle.odb_chain.proofs.chains.Chains.distinct_marks.Goals as goal

pub returns : goal.returns
returns c =
    let db : Db = c.self.inside.db in
    let cs : List Chain = c.self.inside.chains.items in
    let t = c.args.table in
    let here : c.place.result ≡ t = search rules in
    let inside : t < length db = subst (λ (k : Chains). t < length k.db) (sym c.self.view_is) c.requires in
    let long : length cs ≡ length db = c.self.invariant.0 in
    let low : c.place.result < length cs = omega arith in
    let x_is : c.index.result.now ≡ chain_at cs t = chain_is cs c.place.result c.index.result.now low (search rules) ∙ ap (chain_at cs) here in
    c.len.ensures ∙ ap (λ (x : Chain). length (marked_versions x)) x_is ∙ sym (contents_are db cs t c.self.invariant) ∙ ap (λ (k : Chains). contents_held k t) c.self.view_is
