use Rattle.std.proofs.Common.{ap, ◌∙◌}
use Rattle.odb_atoms.specs.FinMap.{remove}
use Rattle.odb_hub.proofs.Putting.{short_less}
use Rattle.odb_hub.proofs.RingsIn.{removed}
use Rattle.odb_hub.proofs.rings.Rings.remove.Goals as goal

pub returns : goal.returns
returns c = removed c.self.inside.rings c.remove.new.self c.args.session c.remove.ensures.updates ∙ ap (λ m. remove m c.args.session) c.self.view_is

pub invariant_of-self : goal.invariant_of-self
invariant_of-self c = short_less c.self.inside.rings c.remove.new.self c.args.session c.remove.ensures.updates c.self.invariant
