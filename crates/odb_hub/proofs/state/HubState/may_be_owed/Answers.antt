use Rattle.std.proofs.Common.{rules, ◌≡◌, false, subst}
use Rattle.std.specs.BTreeSet.{contains}
use Rattle.std.specs.Ordering.{nat_cmp}
use Rattle.odb_hub.specs.Guarded.{Guarded}
use Rattle.odb_hub.specs.Own.{IsOwedNothing}
use Rattle.odb_hub.proofs.Given.{quiet_given}
use Rattle.odb_hub.proofs.state.HubState.may_be_owed.Goals as goal

pub returns : goal.returns
returns c out =
    let absent : contains nat_cmp c.owed.result.now c.args.session ≡ false = search rules in
    subst (λ (k : Guarded). IsOwedNothing c.args.session k.server) c.self.view_is (quiet_given c.owed.result.now c.args.session c.self.inside.core c.owed.ensures absent)
