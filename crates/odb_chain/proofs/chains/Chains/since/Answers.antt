use Rattle.std.proofs.Common.{rules, ◌≡◌, ◌<◌, List, length, IfOk, subst, sym, ap, ◌∙◌}
use Rattle.odb_tables.specs.Change.{Changes, change}
use Rattle.odb_tables.specs.Database.{Db, table_at}
use Rattle.odb_chain.specs.Chains.{Chains, IsLive, Mark}
use Rattle.odb_chain.specs.OldRows.{content_at}
use Rattle.odb_chain.specs.Represented.Chain.{Chain, chain_at, shown}
use Rattle.odb_chain.proofs.Shown.{chain_is, live_content, live_inside, table_is}
use Rattle.odb_chain.proofs.chains.Chains.since.Goals as goal

pub index-requires : goal.index-requires
index-requires c =
    let db : Db = c.self.inside.db in
    let cs : List Chain = c.self.inside.chains.items in
    let m : Mark = c.args.mark.now in
    let t = m.table in
    let live : IsLive (shown db cs) m = subst (λ (k : Chains). IsLive k m) (sym c.self.view_is) c.requires in
    let own : c.place-place.result ≡ c.table_of.result = search rules in
    let here : c.place-place.result ≡ t = own ∙ c.table_of.ensures.table in
    let inside : t < length cs = live_inside db cs m c.self.invariant live in
    let low : c.place-place.result < length cs = subst (λ n. n < length cs) (sym here) inside in
    let below : c.place-place.result < length db = subst (λ n. c.place-place.result < n) c.self.invariant.0 low in
    let long : length cs ≡ c.self.inside.chains.len = search rules in
    subst (λ n. c.place-place.result < n) long low

pub returns : goal.returns
returns c =
    let db : Db = c.self.inside.db in
    let cs : List Chain = c.self.inside.chains.items in
    let m : Mark = c.args.mark.now in
    let t = m.table in
    let live : IsLive (shown db cs) m = subst (λ (k : Chains). IsLive k m) (sym c.self.view_is) c.requires in
    let own : c.place-place.result ≡ c.table_of.result = search rules in
    let here : c.place-place.result ≡ t = own ∙ c.table_of.ensures.table in
    let version : c.mark.inside.version ≡ m.version = ap (λ (y : Mark). y.version) c.mark.view_is in
    let inside : t < length cs = live_inside db cs m c.self.invariant live in
    let low : c.place-place.result < length cs = subst (λ n. n < length cs) (sym here) inside in
    let below : c.place-place.result < length db = subst (λ n. c.place-place.result < n) c.self.invariant.0 low in
    let x_is : c.index.result.now ≡ chain_at cs t = chain_is cs c.place-place.result c.index.result.now low (search rules) ∙ ap (chain_at cs) here in
    let table : c.index-tables-place.result ≡ table_at db t = table_is db c.place-place.result c.index-tables-place.result below (search rules) ∙ ap (table_at db) here in
    let was : content_at c.mark.inside.version c.index-tables-place.result c.index.result.now.rows ≡ m.content = (λ i. content_at (version i) (table i) (x_is i).rows) ∙ live_content db cs m c.self.invariant live in
    let now : c.index-tables-place.result ≡ table_at c.args.self.now.db t = table ∙ ap (λ (k : Chains). table_at k.db t) c.self.view_is in
    subst (λ (d : Changes). IfOk c.since.result (λ made. made ≡ d)) (λ i. change (was i) (now i)) c.since.ensures
