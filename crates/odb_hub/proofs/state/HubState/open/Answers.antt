use Rattle.std.proofs.Common.{rules, ◌≡◌, ℕ, ◌+◌, [], ◌∷◌, ◌++◌, Ok, refl, sym, ap, subst, ◌∙◌, arith}
use Rattle.odb_atoms.specs.FinMap.{insert, remove}
use Rattle.odb_service.specs.Run.{Event, opened}
use Rattle.odb_service.specs.Server.{Server, serve}
use Rattle.odb_hub.specs.Guarded.{AreUnused, IsGuarded, Guarded, Takes}
use Rattle.odb_hub.specs.Represented.Mailbox.{name_of}
use Rattle.odb_hub.specs.Rings.{Ring, Rings, fresh_ring}
use Rattle.odb_hub.proofs.Keeping.{counted_more, opened_kept, same_opened, taken_out, unused_opened}
use Rattle.odb_hub.proofs.state.HubState.open.Goals as goal

pub invariant_of-self-in-Ok : goal.invariant_of-self-in-Ok
invariant_of-self-in-Ok c =
    let i = c.self.inside in
    let s : ℕ = c.in-Ok.session in
    let e : Event = opened s in
    let rings : Rings = c.add.new.self in
    let ring : Ring = fresh_ring (name_of c.in_ok-mailbox.mailbox) in
    let k : Guarded = record { server = i.core; base = i.journal.base; events = i.journal.events; rings = i.rings } in
    let n : Guarded = record { server = c.open.new.self; base = c.with-self-inside.result.base; events = c.with-self-inside.result.events; rings = rings } in
    let went : serve e i.core ≡ Ok (c.open.new.self, []) = search rules in
    let number : s ≡ i.core.opened = search rules in
    let events : n.events ≡ k.events ++ e ∷ [] = search rules in
    let base : n.base ≡ k.base = search rules in
    let added : rings ≡ insert i.rings i.core.opened ring = search rules in
    let takes : Takes e k n [] = (went, events, base) in (
      opened_kept k n c.self.invariant.0 s ring refl takes (added ∙ ap (λ m. insert i.rings m ring) (sym number)),
      subst (AreUnused rings) (sym (same_opened e i.core c.open.new.self [] went)) (subst (λ (m : Rings). AreUnused m (i.core.opened + 1)) (sym added) (unused_opened i.rings i.core.opened ring c.self.invariant.1)),
      c.saturating_add-self-inside.ensures ∙ counted_more i.since_base k.events n.events e c.self.invariant.2 events,
    )

pub invariant_of-self-in-Err-1 : goal.invariant_of-self-in-Err-1
invariant_of-self-in-Err-1 c =
    let i = c.self.inside in
    let ring : Ring = fresh_ring (name_of c.in_ok-mailbox.mailbox) in
    let same : c.open.new.self ≡ i.core = search rules in
    let added : c.add.new.self ≡ insert i.rings i.core.opened ring = search rules in
    let gone : c.remove.new.self ≡ remove c.add.new.self i.core.opened = search rules in
    let back : c.remove.new.self ≡ i.rings = gone ∙ ap (λ m. remove m i.core.opened) added ∙ taken_out i.rings i.core.opened ring (c.self.invariant.1 i.core.opened (omega arith)) in (
      subst IsGuarded (λ j. let n : Guarded = record { server = sym same j; base = i.journal.base; events = i.journal.events; rings = sym back j } in n) c.self.invariant.0,
      subst (λ (n : ℕ). AreUnused c.remove.new.self n) (sym (ap (λ (t : Server). t.opened) same)) (subst (λ (m : Rings). AreUnused m i.core.opened) (sym back) c.self.invariant.1),
      c.self.invariant.2,
    )

pub returns-in-Err-clause-err : goal.returns-in-Err-clause-err
returns-in-Err-clause-err c =
    let i = c.self.inside in
    let ring : Ring = fresh_ring (name_of c.in_ok-mailbox.mailbox) in
    let same : c.open.new.self ≡ i.core = search rules in
    let added : c.add.new.self ≡ insert i.rings i.core.opened ring = search rules in
    let gone : c.remove.new.self ≡ remove c.add.new.self i.core.opened = search rules in
    let back : c.remove.new.self ≡ i.rings = gone ∙ ap (λ m. remove m i.core.opened) added ∙ taken_out i.rings i.core.opened ring (c.self.invariant.1 i.core.opened (omega arith)) in
    (λ j. let n : Guarded = record { server = same j; base = i.journal.base; events = i.journal.events; rings = back j } in n) ∙ c.self.view_is
