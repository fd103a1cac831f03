use Rattle.std.proofs.Common.{◌≡◌, None, subst, sym, ap, ◌∙◌}
use Rattle.std.proofs.lemmas.Result.{on_err_weaker, on_ok_weaker}
use Rattle.odb_atoms.specs.FinMap as finite
use Rattle.odb_chain.specs.Chains.{Chains}
use Rattle.odb_recent.specs.Recent.{recent_of}
use Rattle.odb_sessions.specs.Book.{Book, book_with, fresh_session}
use Rattle.odb_sessions.specs.Marked.{Sessions, all_seen, empty_session}
use Rattle.odb_sessions.specs.Owed.{HangTogether, book_seen}
use Rattle.odb_sessions.specs.Tied.{IsTied}
use Rattle.odb_sessions.proofs.OwedSessions.{opened_rest, together}
use Rattle.odb_sessions.proofs.Ties.{either, none_kept, seen-insert, tied_opened}
use Rattle.odb_sessions.proofs.sessions.Sessions.open.Goals as goal

pub invariant_of-self : goal.invariant_of-self
invariant_of-self c =
    let k : Chains = c.self.inside.past in
    let m : Sessions = c.self.inside.sessions in
    let s = c.args.session in
    let shut : finite.get (all_seen m) s ≡ None = ap (λ (b : Book). finite.get b.sessions s) c.self.view_is ∙ c.requires in
    let o = c.self.inside.owed in
    let i = c.self.inside.interest in
    either c.insert.result c.insert.ensures.ok c.insert.ensures.err
    (λ is.
    let made = is ∙ ap (finite.insert m s) c.new.ensures in
    together k c.insert.new.self o i (record (book_seen k m) { sessions = finite.insert (all_seen m) s fresh_session }) (subst (IsTied k) (sym made) (tied_opened k m s c.self.invariant.0 (none_kept m s shut)))
    (λ j. book_with k.db (recent_of 0 0) ((ap all_seen made ∙ seen-insert m s empty_session) j))
    (opened_rest o i (book_seen k m) s shut c.self.invariant.1))
    (λ is. subst (λ (n : Sessions). HangTogether k n o i) (sym is) c.self.invariant)

pub returns-clause-ok : goal.returns-clause-ok
returns-clause-ok c =
    let m : Sessions = c.self.inside.sessions in
    let s = c.args.session in
    on_ok_weaker c.insert.result
    (λ is. (λ i. book_with c.self.inside.past.db c.self.inside.recent ((ap all_seen (is ∙ ap (finite.insert m s) c.new.ensures) ∙ seen-insert m s empty_session) i)) ∙ ap (λ (b : Book). let y : Book = record b { sessions = finite.insert b.sessions s fresh_session } in y) c.self.view_is)
    c.insert.ensures.ok

pub returns-clause-err : goal.returns-clause-err
returns-clause-err c =
    on_err_weaker c.insert.result
    (λ is. (λ i. book_with c.self.inside.past.db c.self.inside.recent (all_seen (is i))) ∙ c.self.view_is)
    c.insert.ensures.err
