use Rattle.std.proofs.Common.{rules, false}
use Rattle.std.specs.BTreeSet.{Updates}
use Rattle.odb_tables.specs.Represented.Pairs.{pair_cmp}
use Rattle.odb_tables.proofs.PairSets.{removed}
use Rattle.odb_tables.proofs.pairs.remove.Goals as goal

pub returns : goal.returns
returns c =
    let updated : Updates pair_cmp c.args.pairs.now c.remove.new.self (c.args.tag, c.args.key) false = search rules in
    removed c.args.pairs.now c.remove.new.self c.args.tag c.args.key updated
