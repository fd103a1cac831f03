use Rattle.odb_mutate.proofs.Listed.{one_alone}
use Rattle.odb_mutate.proofs.elements.lone.Goals as goal

pub unreachable-requires : goal.unreachable-requires
unreachable-requires c = one_alone c.of.result c.args.value.now c.requires c.of.ensures c.in_default.ensures
