use mathlib.Core.Path.{sym, ◌∙◌}
use Rattle.odb_atoms.specs.Represented.Atom.{atom_of}
use Rattle.odb_atoms.proofs.Chunks.{found_in_slice, found_later, rising_later, rising_slice}
use Rattle.odb_chunks.specs.Represented.Chunks.{items_in}
use Rattle.odb_atoms.proofs.entry.find.Goals as goal

pub find_in-requires : goal.find_in-requires
find_in-requires g c = rising_slice g.E.Entry.entry c.args.entries.now c.parts.result.0.now (items_in c.parts.result.1.now) c.parts.ensures.items c.requires

pub returns-then-starts_after : goal.returns-then-starts_after
returns-then-starts_after g c =
    c.find_in.ensures ∙ found_in_slice g.E.Entry.entry c.args.entries.now c.parts.result.0.now (items_in c.parts.result.1.now) c.parts.ensures.items c.requires (atom_of c.args.key.now) (sym c.if-starts_after.true ∙ c.starts_after.ensures)

pub find_in_chunks-requires-clause-rising : goal.find_in_chunks-requires-clause-rising
find_in_chunks-requires-clause-rising g c = rising_later g.E.Entry.entry c.args.entries.now c.parts.result.0.now (items_in c.parts.result.1.now) c.parts.ensures.items c.requires

pub returns : goal.returns
returns g c =
    c.find_in_chunks.ensures ∙ found_later g.E.Entry.entry c.args.entries.now c.parts.result.0.now (items_in c.parts.result.1.now) c.parts.ensures.items c.requires (atom_of c.args.key.now) (sym c.if-starts_after.false ∙ c.starts_after.ensures)
