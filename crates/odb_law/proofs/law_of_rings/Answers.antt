-- What holds of every run of the machine holds of what a hub's rings were sent.
use Rattle.odb_rpc.specs.Served.{served}
use Rattle.odb_service.specs.Server.{served_by}
use Rattle.odb_law.specs.Headline.{IsBroughtToNow, IsChangedWhole, IsDroppedWhole, IsKnown, IsMinimal}
use Rattle.odb_law.specs.Law.{IsAnsweredOnce}
use Rattle.odb_law.proofs.AnsweredOnce.{answered_once}
use Rattle.odb_law.proofs.BroughtToNow.{changed_whole, dropped_whole}
use Rattle.odb_law.proofs.HeadlineRuns.{brought_to_now, known, minimal}
use Rattle.odb_law.proofs.RequestNames.{reads_named}
use Rattle.odb_law.proofs.SentIntoRings.{holds_of_rings}
use Rattle.odb_law.proofs.law_of_rings.Goals as goal

pub returns-clause-brought_to_now : goal.returns-clause-brought_to_now
returns-clause-brought_to_now c = holds_of_rings (λ s. IsBroughtToNow (served_by s)) (λ s. brought_to_now (served_by s) (reads_named served s))

pub returns-clause-known : goal.returns-clause-known
returns-clause-known c = holds_of_rings (λ s. IsKnown (served_by s)) (λ s. known (served_by s) (reads_named served s))

pub returns-clause-minimal : goal.returns-clause-minimal
returns-clause-minimal c = holds_of_rings (λ s. IsMinimal (served_by s)) (λ s. minimal (served_by s) (reads_named served s))

pub returns-clause-dropped_whole : goal.returns-clause-dropped_whole
returns-clause-dropped_whole c = holds_of_rings (λ s. IsDroppedWhole (served_by s)) (λ s. dropped_whole (served_by s) (reads_named served s))

pub returns-clause-changed_whole : goal.returns-clause-changed_whole
returns-clause-changed_whole c = holds_of_rings (λ s. IsChangedWhole (served_by s)) (λ s. changed_whole (served_by s) (reads_named served s))

pub returns-clause-answered_once : goal.returns-clause-answered_once
returns-clause-answered_once c = holds_of_rings (λ s. IsAnsweredOnce (served_by s)) (λ s. answered_once (served_by s))
