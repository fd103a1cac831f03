use Rattle.std.proofs.Common.{sym}
use Rattle.odb_request.proofs.Tables.{found_named}
use Rattle.odb_request.proofs.read.read_table.Goals as goal

pub returns-in-Some-clause-named : goal.returns-in-Some-clause-named
returns-in-Some-clause-named c = found_named c.args.schema.now c.args.name.now c.in-Some.table (sym c.in-Some.ensures)
