use Rattle.std.proofs.Common.{refl, subst, sym, ◌∙◌}
use Rattle.odb_sessions.specs.Owed.{AreOwed}
use Rattle.odb_sessions.proofs.refreshing.Refreshing.go_on.Goals as goal

pub loop-session-init : goal.loop-session-init
loop-session-init c = record {
  tied = c.requires.tied;
  seen = refl;
}

pub refresh-requires-clause-owed : goal.refresh-requires-clause-owed
refresh-requires-clause-owed c = subst (AreOwed c.args.owed.now) (sym c.loop-session.invariant.seen) c.requires.owed

pub loop-session-preserved : goal.loop-session-preserved
loop-session-preserved c = record {
  tied = c.refresh.ensures.tied;
  seen = c.refresh.ensures.seen ∙ c.loop-session.invariant.seen;
}
