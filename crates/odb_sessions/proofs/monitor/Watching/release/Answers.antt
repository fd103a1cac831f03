use Rattle.std.proofs.Common.{◌≡◌, subst, sym, ap}
use Rattle.odb_chain.specs.Chains.{Chains, IsLive, Mark, released}
use Rattle.odb_sessions.specs.Marked.{Watched}
use Rattle.odb_sessions.proofs.Releases.{frees_one}
use Rattle.odb_sessions.proofs.monitor.Watching.release.Goals as goal

pub release-requires : goal.release-requires
release-requires c =
    let mark : c.self.inside.mark ≡ c.args.self.mark = ap (λ (x : Watched). x.mark) c.self.view_is in
    subst (λ (m : Mark). IsLive c.args.past.now m) (sym mark) c.requires.0.0

pub returns : goal.returns
returns c =
    let k : Chains = c.args.past.now in
    let mark : c.self.inside.mark ≡ c.args.self.mark = ap (λ (x : Watched). x.mark) c.self.view_is in
    let gone : c.release.new.self ≡ released c.args.self.mark.table c.args.self.mark.version k = subst (λ (m : Mark). c.release.new.self ≡ released m.table m.version k) mark c.release.ensures.chains in
    frees_one k c.release.new.self c.args.self.mark c.requires gone c.release.ensures.now
