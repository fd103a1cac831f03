use Rattle.std.proofs.Common.{rules, ◌≡◌, Option, Some, None, is_some, option_map, refl, sym, ap, ◌∙◌}
use Rattle.odb_atoms.specs.FinMap as finite
use Rattle.odb_sessions.specs.Book.{Book}
use Rattle.odb_sessions.specs.Marked.{MarkedSession, Sessions, seen}
use Rattle.odb_sessions.proofs.Ties.{get-seen}
use Rattle.odb_sessions.proofs.sessions.Sessions.has.Goals as goal

-- what is seen of a session is there where the session is
still_there : (o : Option MarkedSession) → is_some (option_map seen o) ≡ is_some o
still_there None = refl
still_there (Some x) = refl

pub returns : goal.returns
returns c =
    let m : Sessions = c.self.inside.sessions in
    let there : c.is_some.result ≡ is_some (finite.get m c.args.session) = search rules in
    there ∙ sym (still_there (finite.get m c.args.session)) ∙ ap is_some (sym (get-seen m c.args.session))
    ∙ ap (λ (b : Book). is_some (finite.get b.sessions c.args.session)) c.self.view_is
