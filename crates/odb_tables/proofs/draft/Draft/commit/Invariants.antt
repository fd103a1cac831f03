use Rattle.std.proofs.Common.{◌≡◌, ◌+◌, ◌++◌, length, drop}
use Rattle.odb_atoms.specs.Represented.Atom.{uuid_of}
use Rattle.odb_tables.specs.Represented.Draft.{grounds}
use Rattle.odb_tables.proofs.Stamps.{committed}
use Rattle.odb_tables.proofs.draft.Draft.commit.Given as goal

abbrev pub invariant-loop-overlay : goal.invariant-loop-overlay
invariant-loop-overlay l = record {
  long : length l.tables.items + length l.overlay-iterator.rest.items ≡ length (grounds l.base l.under);
  made : l.tables.items ++ committed (uuid_of l.version) (drop (length l.tables.items) (grounds l.base l.under)) l.overlay-iterator.rest.items ≡ committed (uuid_of l.version) (grounds l.base l.under) l.initial.overlay-iterator.rest.items;
}
