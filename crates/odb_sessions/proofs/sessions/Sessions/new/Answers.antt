use Rattle.std.proofs.Common.{rules, ◌≡◌, subst, sym, ap, ◌∙◌}
use Rattle.odb_atoms.specs.FinMap as finite
use Rattle.odb_chain.specs.Chains.{Chains, IsNow, chains_of}
use Rattle.odb_recent.specs.Recent.{Recent, recent_of}
use Rattle.odb_sessions.specs.Book.{book_with, book_of}
use Rattle.odb_sessions.specs.Marked.{Sessions, all_seen}
use Rattle.odb_sessions.specs.Tied.{IsTied}
use Rattle.odb_sessions.proofs.OwedSessions.{none_rest, together}
use Rattle.odb_sessions.proofs.Ties.{seen-empty, tied_none}
use Rattle.odb_sessions.proofs.sessions.Sessions.new.Goals as goal

pub invariant_of-result : goal.invariant_of-result
invariant_of-result c =
    let k : Chains = c.in_ok-new.field-0 in
    let is : k ≡ chains_of c.args.db = search rules in
    let now : IsNow k = search rules in
    let none : c.new-3.result ≡ finite.empty = search rules in
    together k c.new-3.result c.new-4.result c.new-5.result (book_of 0 0 c.args.db) (subst (λ (m : Sessions). IsTied k m) (sym none) (tied_none k c.args.db is now))
    (λ i. book_with (is i).db (recent_of 0 0) ((ap all_seen none ∙ seen-empty) i))
    (none_rest c.new-4.result c.new-5.result c.args.db c.new-5.ensures)

pub returns : goal.returns
returns c =
    let k : Chains = c.in_ok-new.field-0 in
    let is : k ≡ chains_of c.args.db = search rules in
    let recent : Recent = c.in_ok-new-2.field-0 in
    let made : recent ≡ recent_of c.args.run c.args.most = search rules in
    let none : c.new-3.result ≡ finite.empty = search rules in
    λ i. book_with (is i).db (made i) ((ap all_seen none ∙ seen-empty) i)
