use Rattle.std.proofs.Common.{rules, ◌≡◌, [], ◌∷◌, ◌++◌, Some, None, ap, ◌∙◌}
use Rattle.odb_atoms.specs.FinMap as finite
use Rattle.odb_sessions.specs.Marked.{MarkedSession, Sessions}
use Rattle.odb_sessions.specs.Posts.{marked_unposted, with_item}
use Rattle.odb_sessions.specs.Represented.Item.{marked_item_of}
use Rattle.odb_sessions.proofs.Posts.{changed_at, kept_at, marked_unposted-append, taken_off, unchanged_at, whatever}
use Rattle.odb_sessions.proofs.numbered.Numbered.post.Goals as goal

pub returns-in_default-clause-ok : goal.returns-in_default-clause-ok
returns-in_default-clause-ok c =
    let shut : finite.get c.args.self.now c.args.session ≡ None = search rules in
    unchanged_at c.args.self.now c.args.session (with_item (marked_item_of c.args.item)) shut

pub returns-in_default-clause-back : goal.returns-in_default-clause-back
returns-in_default-clause-back c =
    let same : c.reserve.new.self.items ≡ c.args.posted_to.now.items = search rules in
    ap (λ us. marked_unposted us c.args.self.now) same

pub returns-in_err-push-clause-err : goal.returns-in_err-push-clause-err
returns-in_err-push-clause-err c =
    let there : finite.get c.args.self.now c.args.session ≡ Some c.in-Some.to.now = search rules in
    let same : c.push.new.self ≡ c.in-Some.to.now = search rules in
    whatever _ c.from_residual-in_err-push.result (kept_at c.args.self.now c.args.session c.in-Some.to.now c.push.new.self there same)

pub returns-clause-ok : goal.returns-clause-ok
returns-clause-ok c =
    let f : MarkedSession → MarkedSession = with_item (marked_item_of c.args.item) in
    let there : finite.get c.args.self.now c.args.session ≡ Some c.in-Some.to.now = search rules in
    let same : c.push.new.self ≡ with_item (marked_item_of c.args.item) c.in-Some.to.now = search rules in
    changed_at c.args.self.now c.args.session f c.in-Some.to.now c.push.new.self there same

pub returns-clause-back : goal.returns-clause-back
returns-clause-back c =
    let s = c.args.session in
    let ts = c.args.posted_to.now.items in
    let there : finite.get c.args.self.now s ≡ Some c.in-Some.to.now = search rules in
    let same : c.push.new.self ≡ with_item (marked_item_of c.args.item) c.in-Some.to.now = search rules in
    let longer : c.push_reserved.new.self.items ≡ ts ++ s ∷ [] = search rules in
    let new : Sessions = finite.insert c.args.self.now s c.push.new.self in
    ap (λ us. marked_unposted us new) longer ∙ marked_unposted-append ts s new
    ∙ ap (marked_unposted ts) (taken_off c.args.self.now s c.in-Some.to.now c.push.new.self (marked_item_of c.args.item) there same)
