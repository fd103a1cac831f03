use Rattle.std.proofs.Common.{ap, ◌∙◌}
use Rattle.odb_atoms.specs.Represented.Atom.{uuid_of}
use Rattle.odb_atoms.specs.Row.{Row}
use Rattle.odb_atoms.proofs.Represented.Atoms.{nil_uuid}
use Rattle.odb_ops.proofs.insert.unwritten.Goals as goal

pub returns : goal.returns
returns c =
    let version = ap uuid_of c.nil.ensures ∙ nil_uuid in
    c.new.ensures ∙ (λ i. let r : Row = record { version = version i; columns = c.args.values.items } in r)
