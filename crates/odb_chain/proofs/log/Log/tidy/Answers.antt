use Rattle.odb_chain.proofs.log.Log.tidy.Goals as goal

pub returns : goal.returns
returns c = c.clean.ensures.recorded
