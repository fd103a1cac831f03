use Rattle.std.proofs.Common.{rules, ◌≡◌, [], ◌∷◌, ◌++◌, Ok, refl, subst, sym, ◌∙◌}
use Rattle.odb_service.specs.Run.{Event, ticked}
use Rattle.odb_service.specs.Server.{serve}
use Rattle.odb_hub.specs.Guarded.{AreUnused, Guarded, Takes}
use Rattle.odb_hub.proofs.Keeping.{counted_more, same_opened, ticked_kept}
use Rattle.odb_hub.proofs.state.HubState.tick.Goals as goal

pub invariant_of-self-2 : goal.invariant_of-self-2
invariant_of-self-2 c =
    let i = c.self.inside in
    let e : Event = ticked c.args.now in
    let k : Guarded = record { server = i.core; base = i.journal.base; events = i.journal.events; rings = i.rings } in
    let n : Guarded = record { server = c.tick.new.self; base = c.with-self-inside.result.base; events = c.with-self-inside.result.events; rings = i.rings } in
    let went : serve e i.core ≡ Ok (c.tick.new.self, []) = search rules in
    let events : n.events ≡ k.events ++ e ∷ [] = search rules in
    let base : n.base ≡ k.base = search rules in
    let takes : Takes e k n [] = (went, events, base) in (
      ticked_kept k n c.self.invariant.0 c.args.now takes refl,
      subst (AreUnused i.rings) (sym (same_opened e i.core c.tick.new.self [] went)) c.self.invariant.1,
      c.saturating_add-self-inside.ensures ∙ counted_more i.since_base k.events n.events e c.self.invariant.2 events,
    )
