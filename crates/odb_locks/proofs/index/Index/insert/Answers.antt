use Rattle.odb_locks.proofs.Indexes.{insert_found, insert_first}
use Rattle.odb_locks.proofs.index.Index.insert.Goals as goal

pub returns-in-Some-clause-ok : goal.returns-in-Some-clause-ok
returns-in-Some-clause-ok c = insert_found _ _ c.in_ok-name.name c.args.self.now.names (c.get_mut.follows.lender c.insert.new.self) c.in-Some.names.now c.insert.new.self c.in_ok-name.ensures.ok c.in-Some.ensures.value (c.get_mut.follows.holds c.insert.new.self).3 c.in_ok-insert.ensures.updates

pub returns-clause-ok : goal.returns-clause-ok
returns-clause-ok c = insert_first _ _ c.in_ok-name.name c.args.self.now.names c.get_mut.follows.lender-at-none c.insert-3.new.self c.new-names.result c.insert-2.new.self c.in_ok-name.ensures.ok c.in_default.ensures.value c.get_mut.follows.holds-at-none c.new-names.ensures.empty c.in_ok-insert-3.ensures.updates c.in_ok-insert-2.ensures.updates
