use Rattle.std.proofs.Common.{rules, ◌≡◌, ◌+◌}
use Rattle.odb_core.specs.Represented.Counts.{count_of}
use Rattle.odb_core.proofs.WaitingCounts.{one_more}
use Rattle.odb_core.proofs.counts.Counts.add.Goals as goal

pub returns-clause-ok : goal.returns-clause-ok
returns-clause-ok c =
    let more : c.in_ok-more.more ≡ count_of c.args.self.now c.args.session + 1 = search rules in
    one_more c.args.session c.in_ok-more.more c.args.self.now.counts c.insert.new.self c.in_ok-insert.ensures.updates more
