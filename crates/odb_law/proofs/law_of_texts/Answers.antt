-- What holds of every run of the machine holds of what a server sent.
use Rattle.odb_rpc.specs.Served.{served}
use Rattle.odb_service.specs.Server.{served_by}
use Rattle.odb_law.specs.Headline.{IsBroughtToNow, IsChangedWhole, IsDroppedWhole, IsKnown, IsMinimal}
use Rattle.odb_law.specs.Law.{IsAnsweredOnce}
use Rattle.odb_law.proofs.AnsweredOnce.{answered_once}
use Rattle.odb_law.proofs.BroughtToNow.{changed_whole, dropped_whole}
use Rattle.odb_law.proofs.HeadlineRuns.{brought_to_now, known, minimal}
use Rattle.odb_law.proofs.RequestNames.{reads_named}
use Rattle.odb_law.proofs.SentTexts.{holds_of_texts, is_run, replies_are_whole, texts_bring_whole}
use Rattle.odb_law.proofs.law_of_texts.Goals as goal

pub returns-clause-is_run : goal.returns-clause-is_run
returns-clause-is_run c = λ s word most. is_run s word most

pub returns-clause-brought_to_now : goal.returns-clause-brought_to_now
returns-clause-brought_to_now c = λ s word most. holds_of_texts s word most (IsBroughtToNow (served_by s)) (brought_to_now (served_by s) (reads_named served s))

pub returns-clause-known : goal.returns-clause-known
returns-clause-known c = λ s word most. holds_of_texts s word most (IsKnown (served_by s)) (known (served_by s) (reads_named served s))

pub returns-clause-minimal : goal.returns-clause-minimal
returns-clause-minimal c = λ s word most. holds_of_texts s word most (IsMinimal (served_by s)) (minimal (served_by s) (reads_named served s))

pub returns-clause-dropped_whole : goal.returns-clause-dropped_whole
returns-clause-dropped_whole c = λ s word most. holds_of_texts s word most (IsDroppedWhole (served_by s)) (dropped_whole (served_by s) (reads_named served s))

pub returns-clause-changed_whole : goal.returns-clause-changed_whole
returns-clause-changed_whole c = λ s word most. holds_of_texts s word most (IsChangedWhole (served_by s)) (changed_whole (served_by s) (reads_named served s))

pub returns-clause-answered_once : goal.returns-clause-answered_once
returns-clause-answered_once c = λ s word most. holds_of_texts s word most (IsAnsweredOnce (served_by s)) (answered_once (served_by s))

pub returns-clause-bring_whole : goal.returns-clause-bring_whole
returns-clause-bring_whole c = λ s word most. texts_bring_whole s word most

pub returns-clause-replies_at_once : goal.returns-clause-replies_at_once
returns-clause-replies_at_once c = λ s word most. replies_are_whole s word most
