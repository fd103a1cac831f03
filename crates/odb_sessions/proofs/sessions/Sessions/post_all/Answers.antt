use Rattle.std.proofs.Common.{rules, ◌≡◌, List, [], map, subst, sym, ap, ◌∙◌}
use Rattle.std.proofs.lemmas.Result.{IfOk-weaker, on_err_weaker}
use Rattle.odb_queue.specs.Represented.Post.{post_of}
use Rattle.odb_recent.specs.Recent.{recent_of}
use Rattle.odb_sessions.specs.Book.{Book, book_with}
use Rattle.odb_sessions.specs.Marked.{Sessions, all_seen}
use Rattle.odb_sessions.specs.Posts.{all_posted}
use Rattle.odb_queue.specs.declared.post.Post.{Post}
use Rattle.odb_sessions.specs.Owed.{AreAdded, HangTogether, addressed, book_seen}
use Rattle.odb_sessions.specs.Tied.{IsTied}
use Rattle.odb_sessions.proofs.OwedSessions.{noted_rest, still_rest, together}
use Rattle.odb_sessions.proofs.Seen.{either_posted, posts_seen, posts_tied, unposts_seen}
use Rattle.odb_sessions.proofs.sessions.Sessions.post_all.Goals as goal

pub invariant_of-self : goal.invariant_of-self
invariant_of-self c =
    let old = c.self.inside in
    (c.self.invariant.0, still_rest old.owed c.add_addressed.new.owed old.interest (book_seen old.past old.sessions) [] c.self.invariant.1 c.add_addressed.ensures.kept)

pub invariant_of-self-2 : goal.invariant_of-self-2
invariant_of-self-2 c =
    let old = c.self.inside in
    let k = old.past in
    let m : Sessions = old.sessions in
    let b : Book = book_seen k m in
    let o = c.add_addressed.new.owed in
    let ps = map post_of c.args.posts.items in
    let same : c.as_slice.result.now ≡ c.args.posts.items = search rules in
    let noted : AreAdded old.owed o (addressed ps) = subst (λ (xs : List Post). AreAdded old.owed o (addressed (map post_of xs))) same c.in_ok-add_addressed.ensures.added in
    either_posted c.post_all.result (HangTogether k c.post_all.new.self o old.interest)
    (c.post_all.ensures.ok) (c.post_all.ensures.err)
    (λ p is. together k c.post_all.new.self o old.interest (record b { sessions = all_posted b.sessions ps }) (subst (IsTied k) (sym is) (posts_tied k m ps c.self.invariant.0))
    (λ i. book_with k.db (recent_of 0 0) ((ap all_seen is ∙ posts_seen m ps) i))
    (noted_rest old.owed o old.interest b ps c.self.invariant.1 noted))
    (λ is. subst (λ (n : Sessions). HangTogether k n o old.interest) (sym is) (c.self.invariant.0, still_rest old.owed o old.interest b (addressed ps) c.self.invariant.1 noted))

pub returns-clause-ok : goal.returns-clause-ok
returns-clause-ok c =
    let m : Sessions = c.self.inside.sessions in
    let ps = map post_of c.args.posts.items in
    IfOk-weaker c.post_all.result _ _
    (λ p is. (λ i. book_with c.self.inside.past.db c.self.inside.recent ((ap all_seen is ∙ posts_seen m ps) i)) ∙ ap (λ (b : Book). let y : Book = record b { sessions = all_posted b.sessions ps } in y) c.self.view_is)
    c.post_all.ensures.ok

pub returns-clause-back : goal.returns-clause-back
returns-clause-back c =
    IfOk-weaker c.post_all.result _ _
    (λ p is. sym (unposts_seen p.items c.post_all.new.self) ∙ ap all_seen is ∙ ap (λ (b : Book). b.sessions) c.self.view_is)
    c.post_all.ensures.back

pub returns-clause-err : goal.returns-clause-err
returns-clause-err c =
    on_err_weaker c.post_all.result
    (λ is. (λ i. book_with c.self.inside.past.db c.self.inside.recent (all_seen (is i))) ∙ c.self.view_is)
    c.post_all.ensures.err
