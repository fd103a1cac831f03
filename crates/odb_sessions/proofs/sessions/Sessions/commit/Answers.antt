use Rattle.std.proofs.Common.{◌≡◌, ap, subst, sym, ◌∙◌}
use Rattle.odb_sessions.proofs.AnySchema.{no_schema}
use Rattle.odb_sessions.specs.Book.{Book}
use Rattle.odb_sessions.specs.Posts.{unposted}
use Rattle.odb_tables.specs.Installing.{IsChangeOf}
use Rattle.odb_sessions.proofs.sessions.Sessions.commit.Goals as goal

pub post_and_install-requires : goal.post_and_install-requires
post_and_install-requires c =
    let stays : c.post_end.new.self.db ≡ c.args.self.now.db = ap (λ (b : Book). b.db) (c.in_ok-posted_to.ensures.ok no_schema) in
    subst (λ d. IsChangeOf d c.args.change) (sym stays) c.requires

pub returns-in-Err-clause-err : goal.returns-in-Err-clause-err
returns-in-Err-clause-err c =
    let old : Book = c.args.self.now in
    let us = c.in_ok-posted_to.posted_to.items in
    let stays : c.post_end.new.self.db ≡ old.db = ap (λ (b : Book). b.db) (c.in_ok-posted_to.ensures.ok no_schema) in
    let commits : c.post_end.new.self.commits ≡ old.commits = ap (λ (b : Book). b.commits) (c.in_ok-posted_to.ensures.ok no_schema) in
    let earlier : c.post_end.new.self.earlier ≡ old.earlier = ap (λ (b : Book). b.earlier) (c.in_ok-posted_to.ensures.ok no_schema) in
    let back : unposted us c.post_end.new.self.sessions ≡ old.sessions = c.in_ok-posted_to.ensures.back in
    let failed : c.post_and_install.new.self ≡ c.post_end.new.self = c.in-Err.ensures.err in
    let taken : c.take_back.new.self ≡ record (c.post_and_install.new.self) { sessions = unposted us c.post_and_install.new.self.sessions } = c.take_back.ensures in
    taken ∙ ap (λ (b : Book). let e : Book = record b { sessions = unposted us b.sessions } in e) failed
    ∙ (λ j. let e : Book = record { db = stays j; commits = commits j; earlier = earlier j; sessions = back j } in e)
