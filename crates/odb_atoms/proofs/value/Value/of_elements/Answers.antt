use mathlib.Core.Path.{sym, ◌∙◌}
use Rattle.std.proofs.Common.{arith}
use Rattle.odb_atoms.proofs.Represented.Entries.{only_last, set_in-only}
use Rattle.odb_atoms.proofs.value.Value.of_elements.Goals as goal

pub returns : goal.returns
returns c =
    c.one.ensures ∙ sym (set_in-only c.args.elements.items c.in-Some.atom (only_last c.args.elements.items c.pop.new.self.items c.in-Some.atom c.in-Some.ensures.items (omega arith)))
