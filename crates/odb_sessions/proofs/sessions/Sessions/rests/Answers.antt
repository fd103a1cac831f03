use Rattle.std.proofs.Common.{rules, ◌≡◌, None, Some, sym, ap, subst, ◌∙◌}
use Rattle.odb_atoms.specs.FinMap as finite
use Rattle.odb_chain.specs.Chains.{Chains}
use Rattle.odb_sessions.specs.Book.{Book}
use Rattle.odb_sessions.specs.Marked.{MarkedSession, Sessions, marks_of, seen}
use Rattle.odb_sessions.specs.Quiet.{IsQuiet, IsQuietAt}
use Rattle.odb_sessions.specs.Tied.{AreLive}
use Rattle.odb_sessions.proofs.QuietSessions.{on_true, quiet_open, quiet_shut}
use Rattle.odb_sessions.proofs.sessions.Sessions.rests.Goals as goal
use Rattle.odb_tables.specs.Database.{Db}

pub rests-requires : goal.rests-requires
rests-requires c =
    let m : Sessions = c.self.inside.sessions in
    let x : MarkedSession = c.in-Some.of.now in
    let there : finite.get m c.args.session ≡ Some x = search rules in
    subst (λ (k : Chains). AreLive k (marks_of x)) (sym c.chains.ensures) (c.self.invariant.0.2 c.args.session x there)

pub returns-in_default : goal.returns-in_default
returns-in_default c =
    let m : Sessions = c.self.inside.sessions in
    let none : finite.get m c.args.session ≡ None = search rules in
    quiet_shut c.args.self.now m c.args.session (ap (λ (b : Book). b.sessions) c.self.view_is) none

pub returns : goal.returns
returns c =
    let b : Book = c.args.self.now in
    let m : Sessions = c.self.inside.sessions in
    let x : MarkedSession = c.in-Some.of.now in
    let there : finite.get m c.args.session ≡ Some x = search rules in
    let db : c.chains.result.now.db ≡ b.db = ap (λ (k : Chains). k.db) c.chains.ensures ∙ ap (λ (d : Book). d.db) c.self.view_is in
    on_true c.rests.result (IsQuietAt b c.args.session)
    (λ told. quiet_open b m c.args.session x (ap (λ (d : Book). d.sessions) c.self.view_is) there (subst (λ (d : Db). IsQuiet d (seen x)) db (c.rests.ensures told)))
