use Rattle.std.proofs.Common.{◌≡◌, drop, option_copied}
use Rattle.odb_chain.specs.OldRows.{at}
use Rattle.odb_tables.specs.Represented.Overlay.{row_of}
use Rattle.odb_chain.proofs.history.row_among.Given as goal

abbrev pub invariant-loop-old : goal.invariant-loop-old
invariant-loop-old l = at l.version (row_of (option_copied l.now)) (drop l.old-index l.olds) ≡ at l.version (row_of (option_copied l.now)) l.olds
