use Rattle.std.specs.Prelude.{false}
use Rattle.odb_locks.proofs.Indexes.{set_found}
use Rattle.odb_locks.proofs.index.Index.remove.Goals as goal

pub returns-in-Some : goal.returns-in-Some
returns-in-Some c = set_found _ _ false c.args.self.now.names (c.get_mut.follows.lender c.remove.new.self) c.in-Some.names.now c.remove.new.self c.in-Some.ensures.value (c.get_mut.follows.holds c.remove.new.self).3 c.remove.ensures.updates
