use Rattle.std.proofs.Common.{rules, ◌≡◌, ℕ, ◌<◌, List, length, slice_set, true, subst, sym, ap, ◌∙◌}
use Rattle.odb_tables.specs.Database.{Db, table_at}
use Rattle.odb_chain.specs.Chains.{Chains, IsLive, Mark, released}
use Rattle.odb_chain.specs.OldRows.{content_at}
use Rattle.odb_chain.specs.Represented.Chain.{AreChainsOf, Chain, IsChainOf, chain_at, fewer, marked_versions, shown}
use Rattle.odb_chain.specs.Represented.MarkedVersions.{is_marked}
use Rattle.odb_chain.proofs.Shown.{chain_is, is_now, kept_after, live_inside, live_version, released_shown}
use Rattle.odb_chain.proofs.chains.Chains.release.Goals as goal

pub index_mut-requires : goal.index_mut-requires
index_mut-requires c =
    let db : Db = c.self.inside.db in
    let cs : List Chain = c.self.inside.chains.items in
    let m : Mark = c.args.mark in
    let t = m.table in
    let live : IsLive (shown db cs) m = subst (λ (k : Chains). IsLive k m) (sym c.self.view_is) c.requires in
    let own : c.place.result ≡ c.mark.inside.table = search rules in
    let here : c.place.result ≡ t = own ∙ ap (λ (y : Mark). y.table) c.mark.view_is in
    let stood : c.mark.inside.version ≡ m.version = ap (λ (y : Mark). y.version) c.mark.view_is in
    let inside : t < length cs = live_inside db cs m c.self.invariant live in
    let low : c.place.result < length cs = subst (λ n. n < length cs) (sym here) inside in
    let long : length cs ≡ c.self.inside.chains.len = search rules in
    subst (λ n. c.place.result < n) long low

pub release-requires : goal.release-requires
release-requires c =
    let db : Db = c.self.inside.db in
    let cs : List Chain = c.self.inside.chains.items in
    let m : Mark = c.args.mark in
    let t = m.table in
    let live : IsLive (shown db cs) m = subst (λ (k : Chains). IsLive k m) (sym c.self.view_is) c.requires in
    let own : c.place.result ≡ c.mark.inside.table = search rules in
    let here : c.place.result ≡ t = own ∙ ap (λ (y : Mark). y.table) c.mark.view_is in
    let stood : c.mark.inside.version ≡ m.version = ap (λ (y : Mark). y.version) c.mark.view_is in
    let inside : t < length cs = live_inside db cs m c.self.invariant live in
    let low : c.place.result < length cs = subst (λ n. n < length cs) (sym here) inside in
    let x : Chain = c.index_mut.result.now in
    let x_is : x ≡ chain_at cs t = chain_is cs c.place.result x low (search rules) ∙ ap (chain_at cs) here in
    (λ i. is_marked (stood i) (marked_versions (x_is i))) ∙ live_version db cs m c.self.invariant live

pub invariant_of-self : goal.invariant_of-self
invariant_of-self c =
    let db : Db = c.self.inside.db in
    let cs : List Chain = c.self.inside.chains.items in
    let m : Mark = c.args.mark in
    let t = m.table in
    let live : IsLive (shown db cs) m = subst (λ (k : Chains). IsLive k m) (sym c.self.view_is) c.requires in
    let own : c.place.result ≡ c.mark.inside.table = search rules in
    let here : c.place.result ≡ t = own ∙ ap (λ (y : Mark). y.table) c.mark.view_is in
    let stood : c.mark.inside.version ≡ m.version = ap (λ (y : Mark). y.version) c.mark.view_is in
    let inside : t < length cs = live_inside db cs m c.self.invariant live in
    let low : c.place.result < length cs = subst (λ n. n < length cs) (sym here) inside in
    let x : Chain = c.index_mut.result.now in
    let x_is : x ≡ chain_at cs t = chain_is cs c.place.result x low (search rules) ∙ ap (chain_at cs) here in
    let new : Chain = c.release.new.self in
    let same : new.version ≡ (chain_at cs t).version = c.release.ensures.version ∙ ap (λ (y : Chain). y.version) x_is in
    let past : IsChainOf (table_at db t) (chain_at cs t) → IsChainOf (table_at db t) new = λ h. c.release.ensures.past (table_at db t) (subst (λ (y : Chain). IsChainOf (table_at db t) y) (sym x_is) h) in
    subst (λ n. AreChainsOf db (slice_set cs n new)) (sym here) (kept_after db cs t new c.self.invariant same c.release.ensures.rising past)

pub returns-clause-now : goal.returns-clause-now
returns-clause-now c = is_now c.self.inside.db (slice_set c.self.inside.chains.items c.place.result c.release.new.self) (invariant_of-self c)

pub returns-clause-chains : goal.returns-clause-chains
returns-clause-chains c =
    let db : Db = c.self.inside.db in
    let cs : List Chain = c.self.inside.chains.items in
    let m : Mark = c.args.mark in
    let t = m.table in
    let live : IsLive (shown db cs) m = subst (λ (k : Chains). IsLive k m) (sym c.self.view_is) c.requires in
    let own : c.place.result ≡ c.mark.inside.table = search rules in
    let here : c.place.result ≡ t = own ∙ ap (λ (y : Mark). y.table) c.mark.view_is in
    let stood : c.mark.inside.version ≡ m.version = ap (λ (y : Mark). y.version) c.mark.view_is in
    let inside : t < length cs = live_inside db cs m c.self.invariant live in
    let low : c.place.result < length cs = subst (λ n. n < length cs) (sym here) inside in
    let x : Chain = c.index_mut.result.now in
    let x_is : x ≡ chain_at cs t = chain_is cs c.place.result x low (search rules) ∙ ap (chain_at cs) here in
    let new : Chain = c.release.new.self in
    let same : new.version ≡ (chain_at cs t).version = c.release.ensures.version ∙ ap (λ (y : Chain). y.version) x_is in
    let past : IsChainOf (table_at db t) (chain_at cs t) → IsChainOf (table_at db t) new = λ h. c.release.ensures.past (table_at db t) (subst (λ (y : Chain). IsChainOf (table_at db t) y) (sym x_is) h) in
    let gone : marked_versions new ≡ fewer m.version (marked_versions (chain_at cs t)) = c.release.ensures.marked_versions ∙ (λ i. fewer (stood i) (marked_versions (x_is i))) in
    let contents : (q : ℕ) → is_marked q (marked_versions new) ≡ true → content_at q (table_at db t) new.rows ≡ content_at q (table_at db t) (chain_at cs t).rows =
    λ q there. c.release.ensures.contents (table_at db t) q there ∙ ap (λ (y : Chain). content_at q (table_at db t) y.rows) x_is in
    ap (λ n. shown db (slice_set cs n new)) here ∙ released_shown db cs t m.version new c.self.invariant same gone contents ∙ ap (released t m.version) c.self.view_is
