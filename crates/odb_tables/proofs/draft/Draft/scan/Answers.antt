use Rattle.std.proofs.Common.{rules, map}
use Rattle.odb_atoms.specs.Represented.Atom.{uuid_of}
use Rattle.odb_tables.specs.Database.{table_at}
use Rattle.odb_tables.specs.Matching.{matching}
use Rattle.odb_tables.specs.Represented.Found.{Lists}
use Rattle.odb_tables.proofs.Found.{in-order}
use Rattle.odb_tables.proofs.draft.Draft.scan.Goals as goal

pub returns : goal.returns
returns c =
    let t = matching c.args.conditions.now (table_at c.args.self.now.now c.args.table) in
    let listed : Lists (map uuid_of c.in_ok-found.found.items) t = search rules in
    in-order uuid_of t c.in_ok-found.found.items c.sort.new.uuids.items listed c.sort.ensures.permutation c.sort.ensures.sorted
