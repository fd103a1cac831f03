use Rattle.std.proofs.Common.{rules, ◌≡◌, length, [], ap, subst}
use Rattle.std.proofs.lemmas.List.{nil_from_length}
use Rattle.std.specs.List.{list_any}
use Rattle.std.specs.Ordering.{eq_by_cmp, nat_cmp}
use Rattle.odb_hub.specs.Guarded.{IsQuiet, Guarded}
use Rattle.odb_hub.proofs.state.HubState.owes.Goals as goal

pub returns : goal.returns
returns c none =
    let long : length c.owed.result.now.keys ≡ 0 = search rules in
    let keys : c.owed.result.now.keys ≡ [] = nil_from_length c.owed.result.now.keys long in
    let quiet : IsQuiet c.self.inside.core = λ q x there. c.owed.ensures q x (ap (list_any (eq_by_cmp nat_cmp q)) keys) there in
    subst (λ (k : Guarded). IsQuiet k.server) c.self.view_is quiet
