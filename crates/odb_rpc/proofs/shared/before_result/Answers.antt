use Rattle.std.proofs.Common.{rules, ◌≡◌}
use Rattle.std.proofs.lemmas.Result.{IfOk-weaker}
use Rattle.serde_json.specs.Written.{compact_text}
use Rattle.odb_rpc.specs.Represented.Printable.{printable_data}
use Rattle.odb_rpc.proofs.shared.before_result.Goals as goal

pub returns : goal.returns
returns c =
    let id = printable_data c.args.id in
    let printed : c.as_slice.result.now ≡ compact_text id = search rules in
    IfOk-weaker c.before_result_printed.result _ _ (λ text is d. is id d printed) c.before_result_printed.ensures
