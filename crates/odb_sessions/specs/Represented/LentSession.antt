-- What the sessions end as where one of them is lent for writing.
use Rattle.std.specs.Prelude.{ℕ, Option}
use Rattle.std.specs.Borrow.{Fml, LendsIf, MutBor}
use Rattle.odb_atoms.specs.FinMap as finite
use Rattle.odb_sessions.specs.Marked.{MarkedSession, Sessions}
use Rattle.odb_sessions.specs.contracts.numbered.Numbered as Numbered
use Rattle.odb_sessions.specs.contracts.session.Session as Session

-- the number has the last session that is written there; where none is lent all stays
abbrev pub lends_session : MutBor Sessions → ℕ → Option (MutBor MarkedSession) → Fml
lends_session s number r = LendsIf Numbered.the_row Session.the_row s r (finite.insert s.now number) s.now
