-- Nothing is due to a client that was told of its tables as they are now.
use Rattle.std.proofs.Common.{List, None, Option, Some, ap, refl, sym, ◌∙◌, ◌≡◌}
use Rattle.std.proofs.lemmas.Option.{none-some}
use Rattle.std.specs.Prelude.{option_map}
use Rattle.odb_request.specs.Request.{Request}
use Rattle.odb_round.proofs.Plans.{update_given}
use Rattle.odb_round.specs.Planned.{Due, out_of, update_of}
use Rattle.odb_round.specs.Sending.{due_sending, update_sending}
use Rattle.odb_service.specs.Service.{Service}
use Rattle.odb_service.specs.Session.{Monitor, Out, Revision}
use Rattle.odb_sessions.proofs.Quiet.{nothing_sent}
use Rattle.odb_sessions.specs.Composed.{AreNow}
use Rattle.odb_sessions.specs.Marked.{MarkedMonitor, monitor_of, watch_of}

nothing_due : (f : Due → Out) (o : Option Due) → option_map f o ≡ None → o ≡ None
nothing_due f None e = refl
nothing_due f (Some d) e = absurd (none-some (f d) (sym e))

pub quiet : (h : Service) (revision : Revision) (x : MarkedMonitor) → AreNow revision.db x.tables → None ≡ update_sending h revision (watch_of x).requests (monitor_of x)
quiet h revision x same =
    let m : Monitor = monitor_of x in
    let qs : List Request = (watch_of x).requests in
    sym (ap (option_map (due_sending h revision)) (nothing_due (out_of h revision) (update_of h revision.db qs m) (sym (update_given h revision qs m) ∙ nothing_sent h revision x same)))
