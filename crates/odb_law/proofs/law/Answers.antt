-- The law holds of any service whose requests name each table and column once; those of a schema do.
use Rattle.odb_service.specs.Service.{service_of}
use Rattle.odb_law.proofs.NamedCommits.{is_held_by_name}
use Rattle.odb_law.proofs.RequestNames.{reads_named}
use Rattle.odb_law.proofs.HeadlineRuns as runs
use Rattle.odb_law.proofs.BroughtToNow as dropped
use Rattle.odb_law.proofs.RefusedEvents as events
use Rattle.odb_law.proofs.Committed as committed
use Rattle.odb_law.proofs.FoundAgain as found
use Rattle.odb_law.proofs.ToldBeforeReply as last
use Rattle.odb_law.proofs.GrantedMonitors as granted
use Rattle.odb_law.proofs.OwedByRounds as owed
use Rattle.odb_law.proofs.WholeMessages as whole
use Rattle.odb_law.proofs.AnsweredOnce as busy
use Rattle.odb_law.proofs.WaitingTried as waiting
use Rattle.odb_monitor.proofs.OnlyViews.{fold-only}
use Rattle.odb_law.proofs.RepliesAtOnce as replies
use Rattle.odb_law.proofs.ReplyOrder as order
use Rattle.odb_law.proofs.KindsSent as kinds
use Rattle.odb_law.proofs.law.Goals as goal

pub returns-clause-brought_to_now : goal.returns-clause-brought_to_now
returns-clause-brought_to_now c = λ serves s. runs.brought_to_now (service_of serves s) (reads_named serves s)

pub returns-clause-known : goal.returns-clause-known
returns-clause-known c = λ serves s. runs.known (service_of serves s) (reads_named serves s)

pub returns-clause-dropped_whole : goal.returns-clause-dropped_whole
returns-clause-dropped_whole c = λ serves s. dropped.dropped_whole (service_of serves s) (reads_named serves s)

pub returns-clause-changed_whole : goal.returns-clause-changed_whole
returns-clause-changed_whole c = λ serves s. dropped.changed_whole (service_of serves s) (reads_named serves s)

pub returns-clause-brings_whole : goal.returns-clause-brings_whole
returns-clause-brings_whole c = λ serves s. whole.brings_whole (service_of serves s) (reads_named serves s)

pub returns-clause-minimal : goal.returns-clause-minimal
returns-clause-minimal c = λ serves s. runs.minimal (service_of serves s) (reads_named serves s)

pub returns-clause-takes_events : goal.returns-clause-takes_events
returns-clause-takes_events c = λ serves s. events.takes_events (service_of serves s)

pub returns-clause-rounds_take : goal.returns-clause-rounds_take
returns-clause-rounds_take c = λ serves s. owed.rounds_take (service_of serves s)

pub returns-clause-owed_is_taken : goal.returns-clause-owed_is_taken
returns-clause-owed_is_taken c = λ serves s. owed.owed_is_taken (service_of serves s)

pub returns-clause-granted : goal.returns-clause-granted
returns-clause-granted c = λ serves s. granted.is_granted (service_of serves s)

pub returns-clause-committed : goal.returns-clause-committed
returns-clause-committed c = λ serves s. committed.is_committed (service_of serves s)

pub returns-clause-found_again : goal.returns-clause-found_again
returns-clause-found_again c = λ serves s. found.is_found_again (service_of serves s)

pub returns-clause-told_before : goal.returns-clause-told_before
returns-clause-told_before c = λ serves s. last.told_before (service_of serves s) (reads_named serves s)

pub returns-clause-held_by_name : goal.returns-clause-held_by_name
returns-clause-held_by_name c = λ serves s. is_held_by_name (service_of serves s) (reads_named serves s)

pub returns-clause-answered_once : goal.returns-clause-answered_once
returns-clause-answered_once c = λ serves s. busy.answered_once (service_of serves s)

pub returns-clause-counted : goal.returns-clause-counted
returns-clause-counted c = λ serves s. busy.counted (service_of serves s)

pub returns-clause-tried : goal.returns-clause-tried
returns-clause-tried c = λ serves s. waiting.all_are_tried (service_of serves s)

pub returns-clause-only : goal.returns-clause-only
returns-clause-only c = fold-only

pub returns-clause-replies_at_once : goal.returns-clause-replies_at_once
returns-clause-replies_at_once c = λ serves s. replies.replies_at_once (service_of serves s) (reads_named serves s)

pub returns-clause-keeps_order : goal.returns-clause-keeps_order
returns-clause-keeps_order c = λ serves s. order.keeps_order (service_of serves s)

pub returns-clause-sends_kinds : goal.returns-clause-sends_kinds
returns-clause-sends_kinds c = λ serves s. kinds.sends_kinds (service_of serves s)
