use Rattle.std.proofs.Common.{rules, ◌≡◌, List, [], ◌∷◌, ◌++◌, map, Ok, refl, subst, sym, ◌∙◌}
use Rattle.odb_atoms.specs.Represented.Atom.{uuid_of}
use Rattle.odb_atoms.specs.Uuid.{Uuid}
use Rattle.odb_schema.specs.Json.{Data}
use Rattle.odb_wire.specs.Shown.{request_data}
use Rattle.odb_service.specs.Run.{Event, submitted}
use Rattle.odb_service.specs.Server.{serve}
use Rattle.odb_hub.specs.Guarded.{AreUnused, Guarded, Takes}
use Rattle.odb_hub.proofs.Keeping.{counted_more, same_opened, submitted_kept}
use Rattle.odb_hub.proofs.state.HubState.receive.Goals as goal

pub invariant_of-self : goal.invariant_of-self
invariant_of-self c =
    let i = c.self.inside in
    let d : Data = request_data c.args.submission.request in
    let fresh : List Uuid = map uuid_of c.args.submission.fresh.items in
    let e : Event = submitted c.args.session d fresh c.args.now in
    let k : Guarded = record { server = i.core; base = i.journal.base; events = i.journal.events; rings = i.rings } in
    let n : Guarded = record { server = c.submit.new.self; base = c.with-grown.result.base; events = c.with-grown.result.events; rings = i.rings } in
    let went : serve e i.core ≡ Ok (c.submit.new.self, []) = search rules in
    let events : n.events ≡ k.events ++ e ∷ [] = search rules in
    let base : n.base ≡ k.base = search rules in
    let takes : Takes e k n [] = (went, events, base) in (
      submitted_kept k n c.self.invariant.0 c.args.session d fresh c.args.now takes refl,
      subst (AreUnused i.rings) (sym (same_opened e i.core c.submit.new.self [] went)) c.self.invariant.1,
      c.saturating_add-self-inside.ensures ∙ counted_more i.since_base k.events n.events e c.self.invariant.2 events,
    )
