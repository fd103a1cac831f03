use Rattle.std.proofs.Common.{rules, ◌≡◌, List, map, sym, ap, subst, ◌∙◌}
use Rattle.std.proofs.lemmas.Result.{on_err_weaker, on_ok_weaker}
use Rattle.odb_recent.specs.Recent.{kept_undo}
use Rattle.odb_sessions.specs.Book.{Book}
use Rattle.odb_sessions.specs.Committed.{ComeTo, changes_of, each_changed_with}
use Rattle.odb_sessions.specs.Represented.Ended.{ending_of}
use Rattle.odb_sessions.specs.declared.ended.Ended.{Ended}
use Rattle.odb_tables.specs.Installing.{IsChangeOf}
use Rattle.odb_sessions.proofs.InTurn.{are_in_turn, ended_apart, left_in_turn}
use Rattle.odb_sessions.proofs.AnySchema.{no_schema}
use Rattle.odb_sessions.proofs.sessions.Sessions.end_all.Goals as goal

pub install_after-requires : goal.install_after-requires
install_after-requires c = subst (λ (b : Book). IsChangeOf b.db c.args.change) (sym (c.in_ok-posted_to.ensures.ok no_schema)) c.requires.whole

pub returns-clause-ok : goal.returns-clause-ok
returns-clause-ok c =
    let old : Book = c.args.self.now in
    let es = map ending_of c.args.ended.items in
    let us = c.in_ok-undos.undos.items in
    let all : c.as_slice.result.now ≡ c.args.ended.items = search rules in
    let kept = c.in_ok-undos.ensures ∙ ap (λ (xs : List Ended). map (kept_undo old.earlier.most) (changes_of (map ending_of xs))) all in
    let come : ComeTo old us c.args.change (changes_of es) = (are_in_turn es old.db c.requires.each, c.requires.leads_to ∙ left_in_turn es old.db, kept) in
    let now : ComeTo c.post_ends.new.self us c.args.change (changes_of es) = subst (λ (b : Book). ComeTo b us c.args.change (changes_of es)) (sym (c.in_ok-posted_to.ensures.ok no_schema)) come in
    on_ok_weaker c.install_after.result
    (λ installed schema. installed (changes_of es) now ∙ ap (each_changed_with (changes_of es)) (c.in_ok-posted_to.ensures.ok schema) ∙ sym (ended_apart schema es old))
    c.install_after.ensures.ok

pub returns-clause-err : goal.returns-clause-err
returns-clause-err c = on_err_weaker c.install_after.result (λ left. left ∙ c.in_ok-posted_to.ensures.back) c.install_after.ensures.err
