use Rattle.odb_hub.proofs.Keeping.{new_is}
use Rattle.ovsdbd.proofs.serve.begin.Goals as goal

pub returns : goal.returns
returns c = new_is c.in-Ok.core c.args.commits.run c.args.commits.kept c.args.schema c.in-Ok.ensures.ok
