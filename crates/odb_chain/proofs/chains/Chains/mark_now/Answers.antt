use Rattle.std.proofs.Common.{rules, ◌≡◌, ◌+◌, ◌-◌, ◌^◌, ◌<◌, arith, List, length, slice_set, subst, sym, ap, ◌∙◌}
use Rattle.odb_tables.specs.Database.{Db, table_at}
use Rattle.odb_chain.specs.Chains.{Chains, count, marked, version}
use Rattle.odb_chain.specs.Represented.Chain.{AreChainsOf, Chain, chain_at, shown}
use Rattle.odb_chain.proofs.Shown.{chain_is, fresh_shown, is_now, marked_shown, set_chains, table_is, version_shown}
use Rattle.odb_chain.proofs.chains.Chains.mark_now.Goals as goal

pub mark-requires : goal.mark-requires
mark-requires c =
    let db : Db = c.self.inside.db in
    let cs : List Chain = c.self.inside.chains.items in
    let t = c.args.table in
    let here : c.place-place.result ≡ t = search rules in
    let inside : t < length db = subst (λ (k : Chains). t < length k.db) (sym c.self.view_is) c.requires.inside in
    let long : length cs ≡ length db = c.self.invariant.0 in
    let low : c.place-place.result < length cs = omega arith in
    let x_is : c.index_mut.result.now ≡ chain_at cs c.place-place.result = chain_is cs c.place-place.result c.index_mut.result.now low (search rules) in
    let few : count (shown db cs) t (version (shown db cs) t) < 2 ^ 64 - 1 = subst (λ (k : Chains). count k t (version k t) < 2 ^ 64 - 1) (sym c.self.view_is) c.requires.few in
    let small : (chain_at cs t).fresh < 2 ^ 64 - 1 = subst (λ n. n < 2 ^ 64 - 1) (fresh_shown db cs t c.self.invariant) few in
    let fresh : c.index_mut.result.now.fresh ≡ (chain_at cs t).fresh = ap (λ (y : Chain). y.fresh) (x_is ∙ ap (chain_at cs) here) in
    omega arith

pub invariant_of-self : goal.invariant_of-self
invariant_of-self c =
    let db : Db = c.self.inside.db in
    let cs : List Chain = c.self.inside.chains.items in
    let t = c.args.table in
    let here : c.place-place.result ≡ t = search rules in
    let inside : t < length db = subst (λ (k : Chains). t < length k.db) (sym c.self.view_is) c.requires.inside in
    let long : length cs ≡ length db = c.self.invariant.0 in
    let low : c.place-place.result < length cs = omega arith in
    let x_is : c.index_mut.result.now ≡ chain_at cs t = chain_is cs c.place-place.result c.index_mut.result.now low (search rules) ∙ ap (chain_at cs) here in
    let new : c.mark.new.self ≡ record (chain_at cs t) { fresh = (chain_at cs t).fresh + 1 } = c.mark.ensures ∙ ap (λ (y : Chain). record y { fresh = y.fresh + 1 }) x_is in
    let all : slice_set cs c.place-place.result c.mark.new.self ≡ slice_set cs t (record (chain_at cs t) { fresh = (chain_at cs t).fresh + 1 }) = (λ i. slice_set cs (here i) (new i)) in
    subst (AreChainsOf db) (sym all) (set_chains db cs t (record (chain_at cs t) { fresh = (chain_at cs t).fresh + 1 }) c.self.invariant (c.self.invariant.1 t))

pub returns-clause-chains : goal.returns-clause-chains
returns-clause-chains c =
    let db : Db = c.self.inside.db in
    let cs : List Chain = c.self.inside.chains.items in
    let t = c.args.table in
    let here : c.place-place.result ≡ t = search rules in
    let inside : t < length db = subst (λ (k : Chains). t < length k.db) (sym c.self.view_is) c.requires.inside in
    let long : length cs ≡ length db = c.self.invariant.0 in
    let low : c.place-place.result < length cs = omega arith in
    let x_is : c.index_mut.result.now ≡ chain_at cs t = chain_is cs c.place-place.result c.index_mut.result.now low (search rules) ∙ ap (chain_at cs) here in
    let new : c.mark.new.self ≡ record (chain_at cs t) { fresh = (chain_at cs t).fresh + 1 } = c.mark.ensures ∙ ap (λ (y : Chain). record y { fresh = y.fresh + 1 }) x_is in
    let all : slice_set cs c.place-place.result c.mark.new.self ≡ slice_set cs t (record (chain_at cs t) { fresh = (chain_at cs t).fresh + 1 }) = (λ i. slice_set cs (here i) (new i)) in
    ap (shown db) all ∙ marked_shown db cs t c.self.invariant ∙ ap (marked t) c.self.view_is

pub returns-clause-now : goal.returns-clause-now
returns-clause-now c = is_now c.self.inside.db (slice_set c.self.inside.chains.items c.place-place.result c.mark.new.self) (invariant_of-self c)

pub returns-clause-mark : goal.returns-clause-mark
returns-clause-mark c =
    let db : Db = c.self.inside.db in
    let cs : List Chain = c.self.inside.chains.items in
    let t = c.args.table in
    let here : c.place-place.result ≡ t = search rules in
    let inside : t < length db = subst (λ (k : Chains). t < length k.db) (sym c.self.view_is) c.requires.inside in
    let long : length cs ≡ length db = c.self.invariant.0 in
    let low : c.place-place.result < length cs = omega arith in
    let x_is : c.index_mut.result.now ≡ chain_at cs t = chain_is cs c.place-place.result c.index_mut.result.now low (search rules) ∙ ap (chain_at cs) here in
    let y_is : c.index.result.now ≡ chain_at cs t = chain_is cs c.place-place.result c.index.result.now low (search rules) ∙ ap (chain_at cs) here in
    let v : c.version-version.result ≡ version c.args.self.now t = c.version-version.ensures ∙ ap (λ (y : Chain). y.version) y_is ∙ sym (version_shown db cs t) ∙ ap (λ (k : Chains). version k t) c.self.view_is in
    let below : c.place-place.result < length db = omega arith in
    let table : c.index-tables-place.result ≡ table_at db t = table_is db c.place-place.result c.index-tables-place.result below (search rules) ∙ ap (table_at db) here in
    let content : c.of.result.table ≡ table_at c.args.self.now.db t = c.of.ensures ∙ table ∙ ap (λ (k : Chains). table_at k.db t) c.self.view_is in
    λ i. record { table = t; version = v i; content = content i }
