use Rattle.std.proofs.Common.{◌≡◌, map}
use Rattle.odb_chain.proofs.Recorded.{named, sides}
use Rattle.odb_tables.proofs.Leading.{changes_of}
use Rattle.odb_chain.proofs.old_rows.OldRows.changes.Given as goal

abbrev pub invariant-loop-key : goal.invariant-loop-key
invariant-loop-key l = l.rows.items ≡ changes_of (sides l.version l.table l.self.rows) (map (λ k. named l.version l.table l.self.rows k.now) l.yielded)
