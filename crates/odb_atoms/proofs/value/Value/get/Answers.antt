use mathlib.Core.Path.{ap, ◌∙◌}
use Rattle.std.specs.Prelude.{None, Some, option_map}
use Rattle.odb_atoms.specs.Represented.Atom.{atom_of}
use Rattle.odb_atoms.proofs.Represented.Entries.{pairs_rise, value_at-map_in}
use Rattle.odb_atoms.proofs.value.Value.get.Goals as goal

pub find-requires : goal.find-requires
find-requires c = pairs_rise c.in-Map.pairs c.in-Map.ensures.in_order

pub returns-in_err-pair-in-Map : goal.returns-in_err-pair-in-Map
returns-in_err-pair-in-Map c =
    ap (option_map (λ value. atom_of value.now)) c.from_residual.ensures
    ∙ value_at-map_in c.in-Map.pairs c.args.self.now (atom_of c.args.key.now) None c.in-Map.ensures.in_order c.in-Map.ensures.value c.in_err-pair-in-Map.ensures

pub returns-in_ok-pair-in-Map : goal.returns-in_ok-pair-in-Map
returns-in_ok-pair-in-Map c =
    value_at-map_in c.in-Map.pairs c.args.self.now (atom_of c.args.key.now) (Some (atom_of c.in_ok-pair-in-Map.pair.now.1)) c.in-Map.ensures.in_order c.in-Map.ensures.value c.in_ok-pair-in-Map.ensures
