use Rattle.std.proofs.Common.{rules, ◌≡◌, ◌++◌, true, [], List, flat_map, option_map, subst, sym}
use Rattle.std.specs.List.{All}
use Rattle.odb_chain.specs.Chains.{Chains, Mark}
use Rattle.odb_sessions.specs.Composed.{AreNow}
use Rattle.odb_sessions.specs.Marked.{MarkedMonitor, MarkedSession, marks_due, marks_in, marks_of, seen}
use Rattle.odb_sessions.specs.Quiet.{IsQuiet}
use Rattle.odb_sessions.specs.Tied.{AreLive}
use Rattle.odb_sessions.proofs.QuietSessions.{session_quiet}
use Rattle.odb_sessions.proofs.Releases.{live-left}
use Rattle.odb_sessions.proofs.session.Session.rests.Goals as goal
use Rattle.odb_tables.specs.Database.{Db}

pub are_told-requires : goal.are_told-requires
are_told-requires c =
    let k : Chains = c.args.chains.now in
    let ms : List Mark = flat_map marks_in c.self.inside.monitors.items in
    let ds : List Mark = flat_map marks_due c.self.inside.queue in
    let slice : c.as_slice.result.now ≡ c.self.inside.monitors.items = search rules in
    let live : AreLive k (ms ++ ds) = subst (λ (x : MarkedSession). AreLive k (marks_of x)) (sym c.self.view_is) c.requires in
    subst (λ (xs : List MarkedMonitor). AreLive k (flat_map marks_in xs)) (sym slice) (live-left k ms ds live)

pub returns : goal.returns
returns c = λ told.
    let db : Db = c.args.chains.now.db in
    let x : MarkedSession = record { queue = c.self.inside.queue; monitors = c.self.inside.monitors.items; watch = option_map (λ w. w.number) c.self.inside.watch } in
    let slice : c.as_slice.result.now ≡ c.self.inside.monitors.items = search rules in
    let empty : c.is_empty.result ≡ true = search rules in
    let none : c.self.inside.queue ≡ [] = c.is_empty.ensures empty in
    subst (λ (y : MarkedSession). IsQuiet db (seen y)) c.self.view_is
    (session_quiet db x none (subst (All (λ (m : MarkedMonitor). AreNow db m.tables)) slice (c.are_told.ensures told)))
