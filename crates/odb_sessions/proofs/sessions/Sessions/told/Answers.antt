use Rattle.std.proofs.Common.{◌≡◌, refl, ap, subst, sym, ◌∙◌}
use Rattle.odb_chain.specs.Chains.{Chains}
use Rattle.odb_sessions.specs.Book.{Book}
use Rattle.odb_sessions.specs.Tied.{IsTied}
use Rattle.odb_sessions.specs.Told.{IsToldOf, ToldMarks}
use Rattle.odb_sessions.proofs.Lent.{are_all_marks}
use Rattle.odb_sessions.proofs.sessions.Sessions.told.Goals as goal

pub new-requires : goal.new-requires
new-requires c = subst (λ (k : Chains). IsTied k c.self.inside.sessions) (sym c.chains.ensures) c.self.invariant.0

pub returns-clause-of : goal.returns-clause-of
returns-clause-of c =
    let told : ToldMarks = record { chains = c.self.inside.past; sessions = c.self.inside.sessions } in
    let is : c.new.result ≡ told = c.new.ensures ∙ ap (λ (k : Chains). let t : ToldMarks = record { chains = k; sessions = c.self.inside.sessions } in t) c.chains.ensures in
    subst (IsToldOf c.args.self.now) (sym is) (subst (λ (b : Book). IsToldOf b told) c.self.view_is (refl, refl, are_all_marks c.self.inside.past c.self.inside.sessions c.self.invariant.0))

pub returns-clause-tied : goal.returns-clause-tied
returns-clause-tied c =
    let told : ToldMarks = record { chains = c.self.inside.past; sessions = c.self.inside.sessions } in
    let is : c.new.result ≡ told = c.new.ensures ∙ ap (λ (k : Chains). let t : ToldMarks = record { chains = k; sessions = c.self.inside.sessions } in t) c.chains.ensures in
    subst (λ (t : ToldMarks). IsTied t.chains t.sessions) (sym is) c.self.invariant.0
