use Rattle.std.proofs.Common.{rules, ◌==◌, ◌&&◌, length, nat_lt}
use Rattle.std.specs.List.{list_all}
use Rattle.std.proofs.lemmas.Iterator.Splits.{YieldsList-from_slice_split}
use Rattle.std.proofs.lemmas.Iterator.Search.{all_from_yields_List}
use Rattle.odb_atoms.specs.Text.{is_digit}
use Rattle.odb_schema.proofs.text.are_decimal_parts.Goals as goal

pub returns : goal.returns
returns c =
    all_from_yields_List (λ part. nat_lt 0 (length part) && list_all is_digit part) _ _ c.all.result c.all.ensures.ran
    (YieldsList-from_slice_split _ (λ x. x == 46) c.args.bytes.now c.split.ensures.rest c.split.ensures.done c.split.ensures.closure (search rules)) (search rules)
