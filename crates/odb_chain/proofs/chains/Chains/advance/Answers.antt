use Rattle.std.proofs.Common.{rules, ◌≡◌, ◌<◌, length, subst, sym}
use Rattle.odb_chain.specs.Chains.{Chains, IsLive, Mark, marked}
use Rattle.odb_chain.proofs.Shown.{still_live}
use Rattle.odb_chain.proofs.chains.Chains.advance.Goals as goal

pub release-requires : goal.release-requires
release-requires c =
    let k : Chains = c.args.self.now in
    let m : Mark = c.args.mark.now in
    let table : c.table_of.result ≡ m.table = c.table_of.ensures.table in
    let new : c.mark_now-new.new.self ≡ marked m.table k = search rules in
    let old : c.replace-old.result ≡ m = search rules in
    let low : m.table < length k.live = subst (λ n. m.table < n) (sym c.table_of.ensures.lives) (subst (λ n. n < length k.db) table c.table_of.ensures.inside) in
    subst (λ (x : Mark). IsLive c.mark_now-new.new.self x) (sym old) (subst (λ (x : Chains). IsLive x m) (sym new) (still_live k m c.table_of.ensures.now low c.requires.live))
