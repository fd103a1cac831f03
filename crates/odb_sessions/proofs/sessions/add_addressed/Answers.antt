use Rattle.std.proofs.Common.{rules, ◌≡◌, ◌+◌, true, ◌∷◌, drop, map, sym, ap, subst, ◌∙◌}
use Rattle.std.specs.BTreeSet.{Updates}
use Rattle.std.specs.Ordering.{nat_cmp}
use Rattle.std.proofs.lemmas.List.{drop_more}
use Rattle.odb_queue.specs.Represented.Post.{post_of}
use Rattle.odb_sessions.specs.Owed.{AreAdded, addressed}
use Rattle.odb_sessions.proofs.OwedSessions.{kept_noted, one_noted}
use Rattle.odb_sessions.proofs.sessions.add_addressed.Goals as goal

pub loop-post-preserved : goal.loop-post-preserved
loop-post-preserved c =
    let ps = c.args.posts.now in
    let i = c.loop-post.post-index in
    let p = c.post-item.result in
    let old = c.loop-post.owed in
    let now = c.insert.new.self in
    let step : drop i ps ≡ p ∷ drop (i + 1) ps = drop_more ps i p c.loop-post-test.true ∙ ap (λ x. x ∷ drop (i + 1) ps) (sym c.post-item.is) in
    let grown : Updates nat_cmp old now p.session true = search rules in (
      kept_noted c.args.owed.now old now p.session c.loop-post.invariant.0 grown,
      λ o rest. c.loop-post.invariant.1 o (subst (λ xs. AreAdded old o (addressed (map post_of xs))) (sym step) (one_noted old now o p.session (addressed (map post_of (drop (i + 1) ps))) grown rest)),
    )
