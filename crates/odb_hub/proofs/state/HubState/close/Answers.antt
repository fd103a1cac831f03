use Rattle.std.proofs.Common.{rules, ◌≡◌, ℕ, [], ◌∷◌, ◌++◌, Ok, sym, subst, ◌∙◌}
use Rattle.odb_atoms.specs.FinMap.{remove}
use Rattle.odb_service.specs.Run.{Event, closed}
use Rattle.odb_service.specs.Server.{serve}
use Rattle.odb_hub.specs.Guarded.{AreUnused, Guarded, Takes}
use Rattle.odb_hub.specs.Rings.{Rings}
use Rattle.odb_hub.proofs.Keeping.{closed_kept, counted_more, same_opened, unused_closed}
use Rattle.odb_hub.proofs.state.HubState.close.Goals as goal

pub invariant_of-self-2 : goal.invariant_of-self-2
invariant_of-self-2 c =
    let i = c.self.inside in
    let s : ℕ = c.args.session in
    let e : Event = closed s in
    let rings : Rings = c.remove.new.self in
    let k : Guarded = record { server = i.core; base = i.journal.base; events = i.journal.events; rings = i.rings } in
    let n : Guarded = record { server = c.close.new.self; base = c.with-self-inside.result.base; events = c.with-self-inside.result.events; rings = rings } in
    let went : serve e i.core ≡ Ok (c.close.new.self, []) = search rules in
    let events : n.events ≡ k.events ++ e ∷ [] = search rules in
    let base : n.base ≡ k.base = search rules in
    let gone : rings ≡ remove i.rings s = search rules in
    let takes : Takes e k n [] = (went, events, base) in (
      closed_kept k n c.self.invariant.0 s takes gone,
      subst (AreUnused rings) (sym (same_opened e i.core c.close.new.self [] went)) (subst (λ (m : Rings). AreUnused m i.core.opened) (sym gone) (unused_closed i.rings s i.core.opened c.self.invariant.1)),
      c.saturating_add-self-inside.ensures ∙ counted_more i.since_base k.events n.events e c.self.invariant.2 events,
    )
