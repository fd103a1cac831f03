use Rattle.std.proofs.Common.{rules, ◌≡◌, ◌<◌, arith, List, length, nat_eq, true, subst, sym, ap, ◌∙◌}
use Rattle.std.proofs.lemmas.Bool.Decides.{nat_tests}
use Rattle.odb_tables.specs.Database.{Db, table_at}
use Rattle.odb_chain.specs.Chains.{Chains, IsLive, Mark, version}
use Rattle.odb_chain.specs.Represented.Chain.{Chain, chain_at, shown}
use Rattle.odb_chain.proofs.Shown.{chain_is, is_now, live_inside, version_shown}
use Rattle.odb_chain.proofs.chains.Chains.is_now.Goals as goal

pub index-requires : goal.index-requires
index-requires c =
    let db : Db = c.self.inside.db in
    let cs : List Chain = c.self.inside.chains.items in
    let m : Mark = c.args.mark.now in
    let live : IsLive (shown db cs) m = subst (λ (k : Chains). IsLive k m) (sym c.self.view_is) c.requires in
    let here : c.place.result ≡ c.mark.inside.table = search rules in
    let at : c.place.result ≡ m.table = here ∙ ap (λ (x : Mark). x.table) c.mark.view_is in
    let low : m.table < length cs = live_inside db cs m c.self.invariant live in
    let long : length cs ≡ c.self.inside.chains.len = search rules in
    subst (λ n. c.place.result < n) long (subst (λ n. n < length cs) (sym at) low)

pub returns-clause-version : goal.returns-clause-version
returns-clause-version c =
    let db : Db = c.self.inside.db in
    let cs : List Chain = c.self.inside.chains.items in
    let m : Mark = c.args.mark.now in
    let x : Chain = c.index.result.now in
    let here : c.place.result ≡ c.mark.inside.table = search rules in
    let at : c.place.result ≡ m.table = here ∙ ap (λ (y : Mark). y.table) c.mark.view_is in
    let live : IsLive (shown db cs) m = subst (λ (k : Chains). IsLive k m) (sym c.self.view_is) c.requires in
    let low : c.place.result < length cs = subst (λ n. n < length cs) (sym at) (live_inside db cs m c.self.invariant live) in
    let x_is : x ≡ chain_at cs c.place.result = chain_is cs c.place.result x low (search rules) in
    let v : c.version.result ≡ version c.args.self.now m.table = c.version.ensures ∙ ap (λ (y : Chain). y.version) (x_is ∙ ap (chain_at cs) at) ∙ sym (version_shown db cs m.table) ∙ ap (λ (k : Chains). version k m.table) c.self.view_is in
    λ i. nat_eq (ap (λ (y : Mark). y.version) c.mark.view_is i) (v i)

pub returns-clause-content : goal.returns-clause-content
returns-clause-content c = λ same.
    let db : Db = c.self.inside.db in
    let cs : List Chain = c.self.inside.chains.items in
    let m : Mark = c.args.mark.now in
    let live : IsLive (shown db cs) m = subst (λ (k : Chains). IsLive k m) (sym c.self.view_is) c.requires in
    let test : nat_eq m.version (version c.args.self.now m.table) ≡ true = sym (returns-clause-version c) ∙ same in
    let at : m.version ≡ version (shown db cs) m.table = (let e : m.version ≡ version c.args.self.now m.table = grind (arith, nat_tests) in e) ∙ sym (ap (λ (k : Chains). version k m.table) c.self.view_is) in
    (is_now db cs c.self.invariant m.table m.version _ live.1).1 at ∙ ap (λ (k : Chains). table_at k.db m.table) c.self.view_is
