-- Texts of first replies serve who asks the same, and what is composed of a first reply's job is one.
use Rattle.std.proofs.Common.{◌≡◌, arith, List, [], Some, sym, subst, ◌∙◌}
use Rattle.odb_chain.specs.Chains.{Chains}
use Rattle.odb_sessions.specs.Composed.{asked_of, first_job, composition}
use Rattle.odb_sessions.specs.FirstTexts.{AreFirstTexts, AsksSo, FirstText, IsFirstText}
use Rattle.odb_sessions.specs.Marked.{MarkedMonitor}
use Rattle.odb_tables.specs.Database.{Db}

-- no text at all
pub no_firsts : (db : Db) → AreFirstTexts db []
no_firsts db i d low = absurd (omega (arith, low))

-- the texts are told first of a database that is the same
pub same_firsts : (old new : Chains) (fs : List FirstText) → new.db ≡ old.db → AreFirstTexts old.db fs → AreFirstTexts new.db fs
same_firsts old new fs same all = subst (λ (db : Db). AreFirstTexts db fs) (sym same) all

-- who asks so is told so
pub found_first : (db : Db) (f : FirstText) (x : MarkedMonitor) → AsksSo f x → IsFirstText db f → Some f.text ≡ composition (first_job db x.notation (asked_of x.tables))
found_first db f x so is = sym is ∙ (λ i. composition (first_job db (so.0 i) (so.1 i)))
