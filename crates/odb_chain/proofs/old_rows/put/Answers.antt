use Rattle.std.proofs.Common.{rules, Some}
use Rattle.std.specs.Ordering.{eq_by_cmp}
use Rattle.indexmap.specs.IndexMap.{Updates}
use Rattle.odb_atoms.specs.Uuid.{uuid_cmp}
use Rattle.odb_tables.proofs.KeyedMaps.{inserted}
use Rattle.odb_chain.specs.OldRows.{History}
use Rattle.odb_chain.proofs.old_rows.put.Goals as goal

pub returns-in-Ok-clause-ok : goal.returns-in-Ok-clause-ok
returns-in-Ok-clause-ok c =
    let changed : Updates (eq_by_cmp uuid_cmp) c.args.rows.now c.insert.new.self c.args.key (Some c.args.history) = search rules in
    inserted (λ (h : History). h) c.args.rows.now c.insert.new.self c.args.key c.args.history changed
