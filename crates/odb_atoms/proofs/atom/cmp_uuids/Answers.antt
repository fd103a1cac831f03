use mathlib.Core.Path.{◌∙◌}
use Rattle.odb_atoms.proofs.Represented.Atoms.{uuid_cmp-uuid_of}
use Rattle.odb_atoms.proofs.atom.cmp_uuids.Goals as goal

pub returns : goal.returns
returns c =
    c.cmp.ensures ∙ uuid_cmp-uuid_of c.args.x c.args.y _ _ c.number_of.ensures c.number_of-2.ensures c.number_of.type_inv c.number_of-2.type_inv
