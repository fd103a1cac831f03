use Rattle.std.proofs.Common.{rules, ◌≡◌, filter, map, string_bytes, sym, ap, ◌∙◌}
use Rattle.std.specs.Map.Iter.{deref}
use Rattle.std.proofs.lemmas.Map.Iter.{iter_end}
use Rattle.odb_locks.specs.Locks.{owns}
use Rattle.odb_locks.proofs.Release.{map-map}
use Rattle.odb_locks.proofs.lock_table.LockTable.owned_among.Goals as goal

pub returns-clause-owned : goal.returns-clause-owned
returns-clause-owned c =
    let all : map deref c.loop-name.yielded ≡ c.args.names.now.keys = search (rules, iter_end) in
    c.loop-name.invariant ∙ ap (filter (owns c.args.self.now c.args.session)) (sym (map-map string_bytes deref c.loop-name.yielded) ∙ ap (map string_bytes) all)
