use Rattle.std.proofs.Common.{◌∷◌, ap, ◌∙◌}
use Rattle.odb_chain.specs.OldRows.{reaches}
use Rattle.odb_chain.proofs.Lasts.{reaches-last}
use Rattle.odb_chain.proofs.history.History.reaches.Goals as goal

pub returns : goal.returns
returns c = reaches-last c.args.version c.self.inside.latest (c.self.inside.first ∷ c.self.inside.more.items) c.self.invariant ∙ ap (reaches c.args.version) c.self.view_is
