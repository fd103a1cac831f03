use Rattle.std.proofs.Common.{rules, Some, ap, ◌∙◌}
use Rattle.odb_atoms.specs.FinMap.{insert}
use Rattle.odb_hub.specs.Represented.Mailbox.{name_of}
use Rattle.odb_hub.specs.Rings.{Ring, fresh_ring}
use Rattle.odb_hub.proofs.Putting.{short_fresh, short_one}
use Rattle.odb_hub.proofs.RingsIn.{Updates, inserted}
use Rattle.odb_hub.proofs.rings.Rings.add.Goals as goal

pub returns-clause-ok : goal.returns-clause-ok
returns-clause-ok c =
    let ring : Ring = fresh_ring (name_of c.in_ok-ring.mailbox) in
    let changed : Updates c.self.inside.rings c.insert.new.self c.args.session (Some ring) = search rules in
    inserted c.self.inside.rings c.insert.new.self c.args.session ring changed ∙ ap (λ m. insert m c.args.session ring) c.self.view_is

pub invariant_of-self-2 : goal.invariant_of-self-2
invariant_of-self-2 c =
    let name = name_of c.in_ok-ring.mailbox in
    let changed : Updates c.self.inside.rings c.insert.new.self c.args.session (Some (fresh_ring name)) = search rules in
    short_one c.self.inside.rings c.insert.new.self c.args.session (fresh_ring name) changed c.self.invariant (short_fresh name)
