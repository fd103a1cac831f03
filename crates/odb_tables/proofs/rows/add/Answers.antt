use Rattle.std.proofs.Common.{rules, true}
use Rattle.std.specs.BTreeSet.{Updates}
use Rattle.odb_atoms.specs.Uuid.{uuid_cmp}
use Rattle.odb_tables.proofs.Covering.{grown}
use Rattle.odb_tables.proofs.rows.add.Goals as goal

pub returns-in-Ok-clause-keeps : goal.returns-in-Ok-clause-keeps
returns-in-Ok-clause-keeps c =
    let updated : Updates uuid_cmp c.args.keys.now c.insert.new.self c.args.key true = search rules in
    grown c.args.keys.now c.insert.new.self c.args.key updated
