use Rattle.std.proofs.Common.{sym, subst}
use Rattle.odb_core.specs.Represented.Rounds.{AreRoundOf}
use Rattle.odb_trials.proofs.refusals.on_core.round_by_jobs.Goals as goal

-- what is carried out are the takings that were planned
pub accept-requires : goal.accept-requires
accept-requires c = (c.args.ready.now, subst (AreRoundOf c.args.ready.now c.args.core.now) (sym c.in_ok-prepared.ensures) c.in_ok-jobs.ensures.round)
