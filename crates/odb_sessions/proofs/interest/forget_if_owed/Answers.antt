use Rattle.std.proofs.Common.{rules, ◌≡◌, true}
use Rattle.std.specs.BTreeSet.{contains}
use Rattle.std.specs.Ordering.{nat_cmp}
use Rattle.odb_sessions.proofs.Interests.{forgets_it, forgotten_in}
use Rattle.odb_sessions.proofs.interest.forget_if_owed.Goals as goal

pub returns-clause-resting : goal.returns-clause-resting
returns-clause-resting c =
    let inside : contains nat_cmp c.args.owed.now c.args.session ≡ true = search rules in
    forgotten_in c.args.owed.now c.args.interest.now c.forget.new.self c.args.session inside c.forget.ensures

pub returns-clause-forgets : goal.returns-clause-forgets
returns-clause-forgets c =
    let inside : contains nat_cmp c.args.owed.now c.args.session ≡ true = search rules in
    forgets_it c.args.owed.now c.args.interest.now c.forget.new.self c.args.session inside c.forget.ensures
