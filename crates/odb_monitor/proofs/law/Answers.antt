-- What holds of printed differences.
use Rattle.std.proofs.Common.{true, List, [], ◌∷◌, inr, subst, sym}
use Rattle.odb_request.specs.Request.{Shape}
use Rattle.odb_monitor.proofs.Maps.{get-empty}
use Rattle.odb_monitor.proofs.OnlyViews.{fold-only}
use Rattle.odb_monitor.proofs.Views.{IsViewOf, IsRowOf, AllBegin, fold-first, fold-later}
use Rattle.odb_monitor.specs.View.{nothing}
use Rattle.odb_monitor.proofs.law.Goals as goal

nothing_fits : (ss : List Shape) → IsViewOf ss (nothing ss)
nothing_fits [] = tt
nothing_fits (s ∷ ss) = (λ u. subst (IsRowOf s.columns) (sym (get-empty u)) tt, nothing_fits ss)

nothing_begins : (ss : List Shape) → AllBegin true (nothing ss)
nothing_begins [] = tt
nothing_begins (s ∷ ss) = (inr (λ u. get-empty u), nothing_begins ss)

pub returns-clause-first : goal.returns-clause-first
returns-clause-first c = λ n ss a W m. fold-first n ss a (nothing ss) W (nothing_fits ss) m (nothing_begins ss)

pub returns-clause-leads : goal.returns-clause-leads
returns-clause-leads c = λ n ss a V W l m d. fold-later n ss a V W l m d

pub returns-clause-only : goal.returns-clause-only
returns-clause-only c = fold-only
