use Rattle.std.proofs.Common.{rules, ◌≡◌, List, map, sym, ap, ◌∙◌}
use Rattle.odb_service.specs.Session.{Monitor}
use Rattle.odb_sessions.specs.Asked.{ids_after, ids_asked}
use Rattle.odb_sessions.specs.Marked.{MarkedMonitor, MarkedSession, item_seen, monitor_of, seen}
use Rattle.odb_sessions.proofs.Replays.{map-map}
use Rattle.odb_sessions.proofs.session.Session.asked.Goals as goal

pub returns : goal.returns
returns c =
    let monitors : c.as_slice.result.now ≡ c.self.inside.monitors.items = search rules in
    c.in_ok-ask.ensures
    ∙ ap (ids_after (map item_seen c.self.inside.queue)) (c.in_ok-ids.ensures ∙ ap (λ (hs : List MarkedMonitor). map (λ h. h.id) hs) monitors ∙ sym (map-map monitor_of (λ (m : Monitor). m.watch.id) c.self.inside.monitors.items))
    ∙ ap (λ (x : MarkedSession). ids_asked (seen x)) c.self.view_is
