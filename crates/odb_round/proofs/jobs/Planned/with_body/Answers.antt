use Rattle.odb_round.specs.Taken.{Pending}
use Rattle.odb_round.proofs.jobs.Planned.with_body.Goals as goal

pub returns : goal.returns
returns c = λ js same. (λ i. let p : Pending = (c.args.self.session, record { items = c.args.self.taking.items; monitors = c.args.self.taking.monitors; text = c.in_ok-body.ensures js same i }) in p)
