use Rattle.std.specs.Option.{option_copied}
use Rattle.odb_tables.specs.Represented.Facet.{Cuts}
use Rattle.odb_tables.proofs.staying.Staying.cut_entries.Given as goal

abbrev pub invariant-loop-entry : goal.invariant-loop-entry
invariant-loop-entry g l = Cuts l.self.facet.now l.initial.pairs l.pairs l.self.key (option_copied l.self.row)
