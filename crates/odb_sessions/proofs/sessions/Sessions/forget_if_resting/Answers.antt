use Rattle.std.proofs.Common.{rules, ◌≡◌, true, false, option_map, subst, sym, ap, ◌∙◌}
use Rattle.std.specs.BTreeSet.{Updates, contains}
use Rattle.std.specs.Option.{option_copied}
use Rattle.std.specs.Ordering.{nat_cmp}
use Rattle.odb_atoms.specs.FinMap as finite
use Rattle.odb_interest.specs.Keys.{asked_at}
use Rattle.odb_recent.specs.Recent.{recent_of}
use Rattle.odb_sessions.specs.Book.{Book, book_with}
use Rattle.odb_sessions.specs.Marked.{Sessions, seen}
use Rattle.odb_sessions.specs.Owed.{IsAtRest, book_seen, interest_if}
use Rattle.odb_sessions.specs.Quiet.{IsQuietAt}
use Rattle.odb_sessions.proofs.OwedSessions.{resting_rest, said_others, said_rest, together}
use Rattle.odb_sessions.proofs.Ties.{get-seen}
use Rattle.odb_sessions.proofs.sessions.Sessions.forget_if_resting.Goals as goal

pub recognise-requires : goal.recognise-requires
recognise-requires c = c.self.invariant.0.3

pub invariant_of-self : goal.invariant_of-self
invariant_of-self c =
    let old = c.self.inside in
    let b : Book = book_seen old.past old.sessions in
    let i = c.cover.new.interest in
    let there : contains nat_cmp old.owed c.args.session ≡ true = search rules in
    together old.past c.recognise.new.self old.owed i b (c.recognise.ensures.tied old.past c.self.invariant.0) (λ j. book_with old.past.db (recent_of 0 0) (c.recognise.ensures.seen j))
    (said_rest old.owed old.interest i b c.self.invariant.1 (said_others old.owed old.interest i c.args.session there c.cover.ensures.others))

pub returns-then-is_err : goal.returns-then-is_err
returns-then-is_err c = (λ j. book_with c.self.inside.past.db c.self.inside.recent (c.recognise.ensures.seen j)) ∙ c.self.view_is

pub invariant_of-self-2 : goal.invariant_of-self-2
invariant_of-self-2 c =
    let old = c.self.inside in
    let m : Sessions = c.recognise.new.self in
    let b : Book = book_seen old.past old.sessions in
    let s = c.args.session in
    let i = c.cover.new.interest in
    let quiet : IsQuietAt c.args.self.now s = search rules in
    let gone : Updates nat_cmp old.owed c.remove.new.self s false = search rules in
    let covered : asked_at i s ≡ interest_if (option_map seen (option_copied c.get.result)) = search rules in
    let rest : IsAtRest i b s = (
      subst (λ (d : Book). IsQuietAt d s) (sym c.self.view_is) quiet,
      covered ∙ ap (λ o. interest_if (option_map seen o)) c.get.ensures ∙ ap interest_if (sym (get-seen m s)) ∙ ap (λ ms. interest_if (finite.get ms s)) c.recognise.ensures.seen,
    ) in
    together old.past m c.remove.new.self i b (c.recognise.ensures.tied old.past c.self.invariant.0) (λ j. book_with old.past.db (recent_of 0 0) (c.recognise.ensures.seen j))
    (resting_rest old.owed c.remove.new.self old.interest i b s c.self.invariant.1 gone c.cover.ensures.others rest)

pub returns : goal.returns
returns c = (λ j. book_with c.self.inside.past.db c.self.inside.recent (c.recognise.ensures.seen j)) ∙ c.self.view_is
