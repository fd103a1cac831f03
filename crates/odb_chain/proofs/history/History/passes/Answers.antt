use Rattle.std.proofs.Common.{◌∷◌, ap, ◌∙◌}
use Rattle.odb_chain.specs.Represented.Log.{passes}
use Rattle.odb_chain.proofs.Lasts.{passes-last}
use Rattle.odb_chain.proofs.history.History.passes.Goals as goal

pub returns : goal.returns
returns c = passes-last c.args.version c.self.inside.latest (c.self.inside.first ∷ c.self.inside.more.items) c.self.invariant ∙ ap (passes c.args.version) c.self.view_is
