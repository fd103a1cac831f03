use Rattle.std.proofs.Common.{subst}
use Rattle.odb_script.proofs.ByteSplits.{splits, SplitsAt}
use Rattle.odb_script.proofs.command.split_at_space.Goals as goal

pub returns-in_err-at : goal.returns-in_err-at
returns-in_err-at c =
    let found = subst (SplitsAt 32 c.args.line.now) c.in_err-at.was (splits 32 c.args.line.now c.first_space.result c.first_space.ensures) in
    rw c.from_residual.ensures found

pub returns : goal.returns
returns c = splits 32 c.args.line.now _ c.in_ok-at.ensures
