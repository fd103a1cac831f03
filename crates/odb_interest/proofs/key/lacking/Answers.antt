use Rattle.std.proofs.Common.{rules, ◌≡◌, true, Some}
use Rattle.odb_cond.specs.Represented.Filter.{member_of}
use Rattle.odb_interest.specs.Keys.{key_of}
use Rattle.odb_interest.specs.Represented.Key.{among, key_in}
use Rattle.odb_interest.proofs.Agreeing.{near_has}
use Rattle.odb_interest.proofs.key.lacking.Goals as goal

pub returns : goal.returns
returns c =
    let others = c.args.others.now in
    let key = key_in c.in-Some.key in
    let is : key_of (member_of c.args.member.now) ≡ Some key = search rules in
    let found : among others key ≡ true = search rules in
    λ k. near_has others (key_of (member_of c.args.member.now)) key k is found
