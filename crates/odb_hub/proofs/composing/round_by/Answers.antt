use Rattle.std.proofs.Common.{ap, subst, sym, ◌∙◌}
use Rattle.odb_service.specs.Run.{round}
use Rattle.odb_service.specs.Server.{Server, serve}
use Rattle.odb_core.specs.Represented.Rounds.{AreRoundOf}
use Rattle.odb_hub.proofs.composing.round_by.Goals as goal

pub accept-requires : goal.accept-requires
accept-requires g c = (c.args.ready.now, subst (λ (v : Server). AreRoundOf c.args.ready.now v c.in_ok-prepared.field-0.prepared) (sym c.add_first_text.ensures) c.in_ok-prepared.ensures.round)

pub returns-clause-ok : goal.returns-clause-ok
returns-clause-ok g c = ap (serve (round c.args.ready.now)) (sym c.add_first_text.ensures) ∙ c.accept.ensures.round c.args.ready.now c.in_ok-prepared.ensures.round.0
