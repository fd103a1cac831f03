use Rattle.std.proofs.Common.{rules, ◌≡◌, [], map, OnErr, OnOk, sym, subst}
use Rattle.odb_atoms.specs.Represented.Atom.{uuid_of}
use Rattle.odb_wire.specs.Shown.{request_data}
use Rattle.odb_service.specs.Run.{Event, submitted}
use Rattle.odb_hub.specs.Guarded.{Guarded, Takes}
use Rattle.odb_hub.proofs.state.HubState.submit.Goals as goal

pub returns-clause-ok : goal.returns-clause-ok
returns-clause-ok c =
    let e : Event = submitted c.args.session (request_data c.args.submission.request) (map uuid_of c.args.submission.fresh.items) c.args.now in
    subst (λ (v : Guarded). OnOk c.receive-taken.result (Takes e c.args.self.now v [])) (sym c.record_causes.ensures) c.receive-taken.ensures.ok

pub returns-clause-rings : goal.returns-clause-rings
returns-clause-rings c =
    subst (λ (v : Guarded). OnOk c.receive-taken.result (v.rings ≡ c.args.self.now.rings)) (sym c.record_causes.ensures) c.receive-taken.ensures.rings

pub returns-clause-err : goal.returns-clause-err
returns-clause-err c =
    subst (λ (v : Guarded). OnErr c.receive-taken.result (v ≡ c.args.self.now)) (sym c.record_causes.ensures) c.receive-taken.ensures.err
