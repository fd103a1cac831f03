use Rattle.std.proofs.Common.{rules, ◌≡◌, [], sym, ap, subst}
use Rattle.odb_atoms.specs.FinMap.{empty}
use Rattle.odb_service.proofs.SessionMaps.{get-empty}
use Rattle.odb_service.specs.Server.{Server}
use Rattle.odb_hub.specs.Guarded.{AreUnused, IsGuarded, Guarded, counted}
use Rattle.odb_hub.specs.Rings.{Rings}
use Rattle.odb_hub.proofs.Keeping.{begins}
use Rattle.odb_hub.proofs.state.HubState.new.Goals as goal

pub invariant_of-result : goal.invariant_of-result
invariant_of-result c =
    let core = c.args.core in
    let base : c.begin.result.base ≡ core.world = search rules in
    let events : c.begin.result.events ≡ [] = search rules in
    let none : c.new.result ≡ empty = search rules in
    let zero : core.opened ≡ 0 = ap (λ (v : Server). v.opened) c.requires.2 in
    let first : AreUnused empty 0 = λ q above. get-empty q in (
      subst IsGuarded (λ j. let n : Guarded = record { server = core; base = sym base j; events = sym events j; rings = sym none j } in n) (begins core c.requires),
      subst (λ n. AreUnused c.new.result n) (sym zero) (subst (λ (m : Rings). AreUnused m 0) (sym none) first),
      ap counted (sym events),
    )
