use Rattle.std.proofs.Common.{rules, ◌≡◌, is_some, Some, ap}
use Rattle.std.proofs.lemmas.Result.{on_err_weaker, on_ok_weaker}
use Rattle.odb_atoms.specs.FinMap as finite
use Rattle.odb_sessions.specs.Posts.{with_item}
use Rattle.odb_sessions.specs.Represented.Item.{marked_item_of}
use Rattle.odb_sessions.proofs.Posts.{changed_at, kept_at}
use Rattle.odb_sessions.proofs.numbered.Numbered.hand.Goals as goal

pub returns-clause-ok : goal.returns-clause-ok
returns-clause-ok c =
    let there : finite.get c.args.self.now c.args.session ≡ Some c.in-Some.to.now = search rules in
    on_ok_weaker c.push.result (λ same. changed_at c.args.self.now c.args.session (with_item (marked_item_of c.args.item)) c.in-Some.to.now c.push.new.self there same) c.push.ensures.ok

pub returns-clause-is_open : goal.returns-clause-is_open
returns-clause-is_open c =
    let there : finite.get c.args.self.now c.args.session ≡ Some c.in-Some.to.now = search rules in
    on_ok_weaker c.push.result (λ same. ap is_some there) c.push.ensures.ok

pub returns-clause-err : goal.returns-clause-err
returns-clause-err c =
    let there : finite.get c.args.self.now c.args.session ≡ Some c.in-Some.to.now = search rules in
    on_err_weaker c.push.result (λ same. kept_at c.args.self.now c.args.session c.in-Some.to.now c.push.new.self there same) c.push.ensures.err
