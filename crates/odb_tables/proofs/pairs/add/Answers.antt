use Rattle.std.proofs.Common.{rules, true}
use Rattle.std.specs.BTreeSet.{Updates}
use Rattle.odb_tables.specs.Represented.Pairs.{pair_cmp}
use Rattle.odb_tables.proofs.PairSets.{grown}
use Rattle.odb_tables.proofs.pairs.add.Goals as goal

pub returns-in-Ok-clause-grows : goal.returns-in-Ok-clause-grows
returns-in-Ok-clause-grows c =
    let updated : Updates pair_cmp c.args.pairs.now c.insert.new.self (c.args.tag, c.args.key) true = search rules in
    grown c.args.pairs.now c.insert.new.self (c.args.tag, c.args.key) updated
