use Rattle.odb_interest.specs.Keys.{change_at}
use Rattle.odb_interest.specs.Represented.Found.{Grows, any_below}
use Rattle.odb_interest.specs.Represented.SessionsByKey.{finds_for}
use Rattle.odb_interest.proofs.index.SessionsByKey.find.Given as goal

abbrev pub invariant-loop-place : goal.invariant-loop-place
invariant-loop-place l = Grows l.fn.found l.found (λ s. any_below l.place (λ t. finds_for l.self t (change_at l.change t) s))
