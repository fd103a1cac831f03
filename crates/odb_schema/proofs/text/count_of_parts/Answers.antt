use Rattle.std.proofs.Common.{rules, ◌==◌}
use Rattle.std.proofs.lemmas.Iterator.Consumers.{count_from_yields_List}
use Rattle.std.proofs.lemmas.Iterator.Splits.{YieldsList-from_slice_split}
use Rattle.odb_schema.proofs.text.count_of_parts.Goals as goal

pub returns : goal.returns
returns c =
    count_from_yields_List _ c.count.result c.count.ensures.ran
    (YieldsList-from_slice_split _ (λ x. x == 46) c.args.bytes.now c.split.ensures.rest c.split.ensures.done c.split.ensures.closure (search rules))
