use Rattle.std.proofs.Common.{rules, ◌≡◌, List, map, sym, ap, ◌∙◌}
use Rattle.odb_service.specs.Session.{Monitor}
use Rattle.odb_sessions.specs.Marked.{MarkedMonitor, MarkedSession, item_seen, monitor_of, seen}
use Rattle.odb_sessions.specs.Named.{named, named_after, named_asked, named_of}
use Rattle.odb_sessions.proofs.Replays.{map-map}
use Rattle.odb_sessions.proofs.session.Session.named.Goals as goal

pub returns : goal.returns
returns c =
    let monitors : c.as_slice.result.now ≡ c.self.inside.monitors.items = search rules in
    c.in_ok-ask_of.ensures
    ∙ ap (named_after (map item_seen c.self.inside.queue)) (c.in_ok-named.ensures ∙ ap (λ (hs : List MarkedMonitor). map named_of hs) monitors ∙ sym (map-map monitor_of (λ (m : Monitor). named m.watch) c.self.inside.monitors.items))
    ∙ ap (λ (x : MarkedSession). named_asked (seen x)) c.self.view_is
