use Rattle.std.proofs.Common.{rules, ◌≡◌, map, string_bytes, sym, ap, ◌∙◌}
use Rattle.std.specs.Map.Iter.{deref}
use Rattle.std.proofs.lemmas.Map.Iter.{iter_end}
use Rattle.odb_locks.specs.Locks.{lock_of}
use Rattle.odb_locks.specs.Represented.Locks.{all_notices}
use Rattle.odb_locks.proofs.Release.{map-map}
use Rattle.odb_locks.proofs.lock_table.LockTable.notices_of_release.Goals as goal

pub returns-clause-notices : goal.returns-clause-notices
returns-clause-notices c =
    let all : map deref c.loop-name.yielded ≡ c.args.names.now.keys = search (rules, iter_end) in
    c.loop-name.invariant ∙ ap (all_notices c.args.session (lock_of c.args.self.now)) (sym (map-map string_bytes deref c.loop-name.yielded) ∙ ap (map string_bytes) all)
