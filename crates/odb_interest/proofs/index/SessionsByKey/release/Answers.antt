use Rattle.std.proofs.Common.{rules, ◌≡◌, true, false}
use Rattle.odb_interest.specs.Represented.Key.{is_asked, key_in}
use Rattle.odb_interest.proofs.Agreeing.{none_releases, put_releases}
use Rattle.odb_interest.proofs.index.SessionsByKey.release.Goals as goal

pub returns-then-not-is_asked : goal.returns-then-not-is_asked
returns-then-not-is_asked c =
    let none : is_asked c.args.others.now c.args.table (key_in c.args.key) ≡ false = search rules in
    put_releases c.args.table c.args.session c.args.self.now c.remove.new.self (key_in c.args.key) c.args.others.now none c.remove.ensures

pub returns-else-not-is_asked : goal.returns-else-not-is_asked
returns-else-not-is_asked c =
    let some : is_asked c.args.others.now c.args.table (key_in c.args.key) ≡ true = search rules in
    none_releases c.args.table c.args.session c.args.self.now (key_in c.args.key) c.args.others.now some
