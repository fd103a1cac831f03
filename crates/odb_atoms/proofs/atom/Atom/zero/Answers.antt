use mathlib.Core.Path.{ap, ◌∙◌}
use Rattle.odb_atoms.specs.Atom.{uuid}
use Rattle.odb_atoms.specs.Represented.Atom.{uuid_of}
use Rattle.odb_atoms.proofs.Represented.Atoms.{nil_uuid}
use Rattle.odb_atoms.proofs.atom.Atom.zero.Goals as goal

pub returns-in-Uuid : goal.returns-in-Uuid
returns-in-Uuid c = rw c.in-Uuid.is (ap (λ bytes. uuid (uuid_of bytes)) c.nil.ensures ∙ ap uuid nil_uuid)
