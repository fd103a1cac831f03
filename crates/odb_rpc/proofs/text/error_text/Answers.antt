use Rattle.std.proofs.Common.{rules, ◌≡◌}
use Rattle.odb_rpc.specs.declared.error.Failure.TheVariants.{UnknownMethod, UnknownDatabase}
use Rattle.odb_rpc.proofs.text.error_text.Goals as goal

pub returns-in-UnknownMethod : goal.returns-in-UnknownMethod
returns-in-UnknownMethod c =
    let is : c.args.failure ≡ UnknownMethod = search rules in
    rw is (search rules)

pub returns-in-UnknownDatabase : goal.returns-in-UnknownDatabase
returns-in-UnknownDatabase c =
    let is : c.args.failure ≡ UnknownDatabase = search rules in
    rw is (search rules)
