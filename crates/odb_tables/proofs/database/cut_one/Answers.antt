use Rattle.std.proofs.Common.{rules, ◌≡◌, Some, None, slice_get, subst}
use Rattle.odb_tables.specs.Represented.RowIndex.{CutsAll}
use Rattle.odb_tables.proofs.RowIndexes.{none-settled, one-back, one-settled}
use Rattle.odb_tables.proofs.database.cut_one.Goals as goal

pub returns-in-Some-clause-taken_back : goal.returns-in-Some-clause-taken_back
returns-in-Some-clause-taken_back c side db is kept =
    let at : slice_get c.args.changes.now c.args.index.now.table ≡ Some c.in-Some.change.now = search rules in
    one-back db c.args.changes.now c.args.index.now c.cut.new.self c.cut.ensures.same c.in-Some.change.now is at (subst (λ s. CutsAll c.args.index.now.facet c.args.index.now.pairs c.cut.new.self.pairs s c.in-Some.change.now) side c.cut.ensures.cuts) kept

pub returns-in-Some-clause-made : goal.returns-in-Some-clause-made
returns-in-Some-clause-made c side db is ready =
    let at : slice_get c.args.changes.now c.args.index.now.table ≡ Some c.in-Some.change.now = search rules in
    one-settled db c.args.changes.now c.args.index.now c.cut.new.self c.cut.ensures.same c.in-Some.change.now is at (subst (λ s. CutsAll c.args.index.now.facet c.args.index.now.pairs c.cut.new.self.pairs s c.in-Some.change.now) side c.cut.ensures.cuts) ready

pub returns-in-None-clause-made : goal.returns-in-None-clause-made
returns-in-None-clause-made c side db is ready =
    let none : slice_get c.args.changes.now c.args.index.now.table ≡ None = search rules in
    none-settled db c.args.changes.now c.args.index.now is none ready
