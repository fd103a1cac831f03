use Rattle.std.proofs.Common.{rules, ◌≡◌, ℕ, true, List, [], ◌∷◌, map, is_some, Option, Some, option_map, refl, sym, ap, ◌∙◌}
use Rattle.odb_atoms.specs.FinMap.{get}
use Rattle.odb_service.specs.Run.{take_each}
use Rattle.odb_service.specs.Server.{printed, served_by}
use Rattle.odb_service.specs.World.{World}
use Rattle.odb_sessions.proofs.AnySchema.{no_schema}
use Rattle.odb_sessions.specs.Book.{Book, revision_in}
use Rattle.odb_sessions.specs.Represented.Out.{sent_in}
use Rattle.odb_round.specs.Taken.{Pending, is_finished, text_taken}
use Rattle.odb_round.proofs.Finished.{finished_given, finished_ready, given_as, if_given, one_item, surely_given}
use Rattle.odb_round.proofs.Rounds.{GoesOn, goes_on}
use Rattle.odb_round.proofs.round.take_finished.Goals as goal

pub take-requires : goal.take-requires
take-requires c = λ s.
    let b : Book = c.args.sessions.now in
    let is : is_finished (get b.sessions c.args.session) ≡ true = search rules in
    finished_ready s (revision_in b) (get b.sessions c.args.session) is

pub returns-clause-round : goal.returns-clause-round
returns-clause-round c = if_given _ c.take.result (λ out given s w revision sessions.
    let b : Book = c.args.sessions.now in
    let n = c.args.session in
    let p : Pending = (n, one_item) in
    let u : World = record w { sessions = b.sessions } in
    let is : u ≡ w = λ i. record w { sessions = sym sessions i } in
    let begun : GoesOn s (n ∷ []) w b.sessions (p ∷ []) [] =
    ((λ i. (take_each (served_by s) (n ∷ []) (sym is i)).0), (λ i. map printed (take_each (served_by s) (n ∷ []) (sym is i)).1))
    in
    goes_on s (n ∷ []) w b c.take.new.sessions p [] [] (Some (sent_in out)) revision begun (c.take.ensures.book s) (ap (option_map sent_in) (sym given) ∙ c.take.ensures.out s))

pub returns-clause-revision : goal.returns-clause-revision
returns-clause-revision c = ap revision_in (c.take.ensures.book no_schema)

pub returns-clause-finished : goal.returns-clause-finished
returns-clause-finished c =
    let b : Book = c.args.sessions.now in
    let n = c.args.session in
    let is : is_finished (get b.sessions n) ≡ true = search rules in
    let text : Option (List ℕ) = text_taken (served_by no_schema) (revision_in b) (get b.sessions n) in
    let some : is_some c.take.result ≡ true =
    sym (given_as sent_in c.take.result) ∙ ap is_some (c.take.ensures.out no_schema) ∙ given_as (λ t. let q : ℕ × List ℕ = (n, t) in q) text ∙ finished_given no_schema (revision_in b) (get b.sessions n) is
    in
    some ∙ sym is

pub returns-clause-none : goal.returns-clause-none
returns-clause-none c =
    let b : Book = c.args.sessions.now in
    let is : is_finished (get b.sessions c.args.session) ≡ true = search rules in
    surely_given _ c.take.result (returns-clause-finished c ∙ is)
