use Rattle.std.proofs.Common.{rules, ◌≡◌, List, [], ◌∷◌, map, refl, sym, ap, subst, ◌∙◌}
use Rattle.std.proofs.lemmas.Result.{on_err_weaker, on_ok_weaker}
use Rattle.odb_queue.specs.Represented.Post.{post_of}
use Rattle.odb_recent.specs.Recent.{kept_undo}
use Rattle.odb_sessions.specs.Book.{Book}
use Rattle.odb_sessions.specs.Committed.{ComeTo, each_changed_with}
use Rattle.odb_sessions.specs.Posts.{all_posted}
use Rattle.odb_tables.specs.Change.{Changes}
use Rattle.odb_sessions.proofs.Books.{given_back}
use Rattle.odb_sessions.proofs.sessions.Sessions.post_and_install.Goals as goal

pub returns-clause-ok : goal.returns-clause-ok
returns-clause-ok c =
    let old : Book = c.args.self.now in
    let cs : List Changes = c.args.change in
    let us = c.prepare.new.undos.items in
    let posted : c.post_all.new.self ≡ (let b : Book = record old { sessions = all_posted old.sessions (map post_of c.args.posts.items) } in b) = c.in_ok-queued_for.ensures.ok in
    let kept : us ≡ kept_undo old.earlier.most cs ∷ [] = search rules in
    let come : ComeTo old us cs (cs ∷ []) = ((c.requires, tt), refl, kept) in
    let now : ComeTo c.post_all.new.self us cs (cs ∷ []) = subst (λ (b : Book). ComeTo b us cs (cs ∷ [])) (sym posted) come in
    on_ok_weaker c.install_after.result (λ installed. installed (cs ∷ []) now ∙ ap (each_changed_with (cs ∷ [])) posted) c.install_after.ensures.ok

pub returns-clause-err : goal.returns-clause-err
returns-clause-err c =
    let old : Book = c.args.self.now in
    on_err_weaker c.install_after.result
    (λ left. left ∙ given_back c.in_ok-queued_for.queued_for.items c.post_all.new.self old (all_posted old.sessions (map post_of c.args.posts.items)) c.in_ok-queued_for.ensures.ok c.in_ok-queued_for.ensures.back)
    c.install_after.ensures.err
