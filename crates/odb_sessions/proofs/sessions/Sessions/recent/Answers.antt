use Rattle.std.proofs.Common.{◌≡◌, refl, subst}
use Rattle.odb_sessions.specs.Book.{Book, book_with}
use Rattle.odb_sessions.proofs.sessions.Sessions.recent.Goals as goal

pub returns : goal.returns
returns c = subst (λ (b : Book). book_with b.db c.self.inside.recent b.sessions ≡ b) c.self.view_is refl
