-- What an atom and a kind of the code stand for.
use Rattle.std.specs.Prelude.{List, ℕ, string_bytes}
use Rattle.std.specs.Arc.{arc_str_bytes}
use Rattle.std.specs.Int.{w128, from_be_bytes}
use Rattle.odb_atoms.specs.Atom as model
use Rattle.odb_atoms.specs.Uuid as model_uuid
use Rattle.odb_atoms.specs.declared.atom.Atom.{Atom}
use Rattle.odb_atoms.specs.declared.atom.Atom.TheVariants.{Integer, Boolean, Text, SharedText, Uuid}
use Rattle.odb_atoms.specs.declared.atom.Kind.{Kind}
use Rattle.odb_atoms.specs.declared.atom.Kind.TheVariants as kind

-- the number that the sixteen bytes are, the highest first
abbrev pub uuid_of : List ℕ → model_uuid.Uuid
uuid_of bytes = model_uuid.uuid_from (from_be_bytes w128 bytes)

abbrev pub atom_of : Atom → model.Atom
atom_of (Integer z) = model.integer z
atom_of (Boolean b) = model.boolean b
atom_of (Text s) = model.text (string_bytes s)
atom_of (SharedText s) = model.text (arc_str_bytes s)
atom_of (Uuid u) = model.uuid (uuid_of u)

abbrev pub kind_in : Kind → model.Kind
kind_in kind.Integer = model.integers
kind_in kind.Boolean = model.booleans
kind_in kind.Text = model.strings
kind_in kind.Uuid = model.uuids
