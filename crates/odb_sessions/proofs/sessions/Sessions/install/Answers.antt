use Rattle.std.proofs.Common.{rules, ◌≡◌, List, [], subst, sym, ap, ◌∙◌}
use Rattle.odb_chain.specs.Chains.{Chains}
use Rattle.odb_tables.specs.Change.{all_changed_by}
use Rattle.odb_tables.specs.Database.{Db}
use Rattle.odb_tables.specs.Installing.{IsChangeOf}
use Rattle.odb_recent.specs.Recent.{Recent}
use Rattle.odb_recent.specs.Undo.{Undo}
use Rattle.odb_sessions.specs.Book.{Book, book_with}
use Rattle.odb_sessions.specs.Committed.{ComeTo, all_noted, each_changed_with}
use Rattle.odb_sessions.specs.Marked.{Sessions, all_seen}
use Rattle.odb_sessions.specs.Owed.{AreAdded, AreAtRest, book_seen}
use Rattle.odb_sessions.specs.Tied.{IsTied}
use Rattle.odb_sessions.proofs.InTurn.{books_committed}
use Rattle.odb_sessions.proofs.OwedSessions.{rest_owed, said_rest, still_rest}
use Rattle.odb_sessions.proofs.Ties.{on_err, tied_absorbed}
use Rattle.odb_sessions.proofs.Untouched.{AreTouched, book_after, touched_rest}
use Rattle.odb_sessions.proofs.sessions.Sessions.install.Goals as goal

pub refresh_each-requires-clause-tied : goal.refresh_each-requires-clause-tied
refresh_each-requires-clause-tied c = c.self.invariant.0

pub refresh_each-requires-clause-owed : goal.refresh_each-requires-clause-owed
refresh_each-requires-clause-owed c =
    let old = c.self.inside in
    rest_owed old.owed old.interest (book_seen old.past old.sessions) c.self.invariant.1

pub invariant_of-self : goal.invariant_of-self
invariant_of-self c =
    let old = c.self.inside in
    let o = c.add_each.new.owed in
    let i = old.interest in
    let j = c.forget_owed.new.interest in
    let b : Book = book_seen old.past old.sessions in
    let kept : AreAdded old.owed o [] = c.add_each.ensures.kept in
    (c.refresh_each.ensures.tied, subst (AreAtRest o j) (sym c.refresh_each.ensures.seen) (said_rest o i j b (still_rest old.owed o i b [] c.self.invariant.1 kept) (λ q out. c.forget_owed.ensures.resting q (kept q out).0)))

pub absorb-requires : goal.absorb-requires
absorb-requires c = subst (λ (d : Db). IsChangeOf d c.args.change) (sym (ap (λ (b : Book). b.db) c.refresh_each.ensures.seen ∙ ap (λ (b : Book). b.db) c.self.view_is)) c.requires

pub invariant_of-self-in_err-absorb : goal.invariant_of-self-in_err-absorb
invariant_of-self-in_err-absorb c =
    let old = c.self.inside in
    let m : Sessions = c.refresh_each.new.sessions in
    let o = c.add_each.new.owed in
    let i = old.interest in
    let j = c.forget_owed.new.interest in
    let b : Book = book_seen old.past old.sessions in
    let kept : AreAdded old.owed o [] = c.add_each.ensures.kept in
    let rest : AreAtRest o j b = said_rest o i j b (still_rest old.owed o i b [] c.self.invariant.1 kept) (λ q out. c.forget_owed.ensures.resting q (kept q out).0) in (
      subst (λ (x : Chains). IsTied x m) (sym c.in_err-absorb.ensures.err) c.refresh_each.ensures.tied,
      subst (λ (x : Chains). AreAtRest o j (book_seen x m)) (sym c.in_err-absorb.ensures.err) (subst (AreAtRest o j) (sym c.refresh_each.ensures.seen) rest),
    )

pub go_on-requires-clause-tied : goal.go_on-requires-clause-tied
go_on-requires-clause-tied c = tied_absorbed c.refresh_each.new.past c.absorb.new.self c.args.change c.refresh_each.new.sessions c.refresh_each.ensures.tied c.in_ok-absorb.ensures.ok c.absorb.ensures.now

pub go_on-requires-clause-owed : goal.go_on-requires-clause-owed
go_on-requires-clause-owed c =
    let old = c.self.inside in
    let m : Sessions = c.refresh_each.new.sessions in
    let o = c.add_each.new.owed in
    let i = old.interest in
    let b : Book = book_seen old.past old.sessions in
    let all : c.as_slice-concerned.result.now ≡ c.in_ok-touched.touched.items = search rules in
    let noted : AreAdded old.owed o c.in_ok-touched.touched.items = subst (AreAdded old.owed o) all c.in_ok-add_each.ensures.added in
    let named : AreTouched c.args.change i c.in_ok-touched.touched.items = search rules in
    let is : IsChangeOf b.db c.args.change = subst (λ (x : Book). IsChangeOf x.db c.args.change) (sym c.self.view_is) c.requires in
    let after = book_after old.past c.absorb.new.self c.refresh_each.new.past old.sessions m c.args.change c.in_ok-absorb.ensures.ok c.refresh_each.ensures.seen in
    rest_owed o i (book_seen c.absorb.new.self m) (subst (AreAtRest o i) (sym after) (touched_rest old.owed o i b c.args.change c.in_ok-touched.touched.items c.self.invariant.1 noted is named))

pub invariant_of-self-2 : goal.invariant_of-self-2
invariant_of-self-2 c =
    let old = c.self.inside in
    let m : Sessions = c.refresh_each.new.sessions in
    let o = c.add_each.new.owed in
    let i = old.interest in
    let j = c.forget_owed.new.interest in
    let b : Book = book_seen old.past old.sessions in
    let all : c.as_slice-concerned.result.now ≡ c.in_ok-touched.touched.items = search rules in
    let noted : AreAdded old.owed o c.in_ok-touched.touched.items = subst (AreAdded old.owed o) all c.in_ok-add_each.ensures.added in
    let named : AreTouched c.args.change i c.in_ok-touched.touched.items = search rules in
    let is : IsChangeOf b.db c.args.change = subst (λ (x : Book). IsChangeOf x.db c.args.change) (sym c.self.view_is) c.requires in
    let after = book_after old.past c.absorb.new.self c.refresh_each.new.past old.sessions m c.args.change c.in_ok-absorb.ensures.ok c.refresh_each.ensures.seen in (
      c.go_on.ensures.tied,
      subst (AreAtRest o j) (sym (c.go_on.ensures.seen ∙ after))
          (said_rest o i j (record b { db = all_changed_by b.db c.args.change }) (touched_rest old.owed o i b c.args.change c.in_ok-touched.touched.items c.self.invariant.1 noted is named)
          (λ q out. c.forget_owed.ensures.resting q (noted q out).0)),
    )

pub returns-in_err-add_each-clause-err : goal.returns-in_err-add_each-clause-err
returns-in_err-add_each-clause-err c = on_err c.from_residual-in_err-add_each.result _ (ap (λ (b : Book). book_with b.db c.self.inside.recent b.sessions) c.refresh_each.ensures.seen ∙ c.self.view_is)

pub returns-in_err-absorb-clause-err : goal.returns-in_err-absorb-clause-err
returns-in_err-absorb-clause-err c =
    on_err c.from_residual-in_err-absorb.result _
    (ap (λ (b : Book). book_with b.db c.self.inside.recent b.sessions) ((λ j. book_seen (c.in_err-absorb.ensures.err j) c.refresh_each.new.sessions) ∙ c.refresh_each.ensures.seen) ∙ c.self.view_is)

pub returns-clause-ok : goal.returns-clause-ok
returns-clause-ok c = λ css come.
    let old = c.self.inside in
    let us : List Undo = c.args.undos.items in
    let m = all_seen old.sessions in
    let after = book_after old.past c.absorb.new.self c.refresh_each.new.past old.sessions c.refresh_each.new.sessions c.args.change c.in_ok-absorb.ensures.ok c.refresh_each.ensures.seen in
    let at : ComeTo (book_with old.past.db old.recent m) us c.args.change css = subst (λ (b : Book). ComeTo b us c.args.change css) (sym c.self.view_is) come in
    let noted_so : c.push_commits.new.recent ≡ all_noted us old.recent = search rules in
    ap (λ (b : Book). book_with b.db c.push_commits.new.recent b.sessions) (c.go_on.ensures.seen ∙ after)
    ∙ ap (λ (r : Recent). book_with (all_changed_by old.past.db c.args.change) r m) noted_so
    ∙ ap (λ (d : Db). book_with d (all_noted us old.recent) m) at.1
    ∙ books_committed css old.past.db old.recent us m at.0 at.2
    ∙ ap (each_changed_with css) c.self.view_is
