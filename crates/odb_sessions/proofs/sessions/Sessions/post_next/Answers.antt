use Rattle.std.proofs.Common.{rules, ◌≡◌, ◌++◌, ap, ◌∙◌}
use Rattle.odb_sessions.specs.Book.{Book}
use Rattle.odb_sessions.specs.Committed.{end_posted, without_posts}
use Rattle.odb_sessions.specs.Represented.Ended.{ending_of}
use Rattle.odb_sessions.proofs.Books.{back-++, given_back}
use Rattle.odb_sessions.proofs.AnySchema.{no_schema}
use Rattle.odb_sessions.proofs.sessions.Sessions.post_next.Goals as goal

pub returns-in-Ok-clause-back : goal.returns-in-Ok-clause-back
returns-in-Ok-clause-back c =
    let old : Book = c.args.self.now in
    let us = c.args.posted_to.now.items in
    let more = c.in_ok-more.more.items in
    let now : Book = c.post_ended.new.self in
    let longer : c.extend_from_slice.new.self.items ≡ us ++ more = search rules in
    ap (λ ss. without_posts ss now) longer ∙ back-++ us more now
    ∙ ap (without_posts us) (given_back more now old (end_posted no_schema old.sessions (ending_of c.args.ended)) (c.in_ok-more.ensures.ok no_schema) c.in_ok-more.ensures.back)

pub returns-in-Err-clause-err : goal.returns-in-Err-clause-err
returns-in-Err-clause-err c =
    let old : Book = c.args.self.now in
    c.take_back.ensures
    ∙ given_back c.in_ok-more.more.items c.post_ended.new.self old (end_posted no_schema old.sessions (ending_of c.args.ended)) (c.in_ok-more.ensures.ok no_schema) c.in_ok-more.ensures.back
