use Rattle.std.proofs.Common.{subst}
use Rattle.odb_hub.specs.Rings.{AreShort}
use Rattle.odb_hub.proofs.rings.Rings.short.Goals as goal

pub returns : goal.returns
returns c = subst AreShort c.self.view_is c.self.invariant
