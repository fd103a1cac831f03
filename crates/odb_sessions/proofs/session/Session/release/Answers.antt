use Rattle.std.proofs.Common.{◌++◌, List, flat_map, subst, sym}
use Rattle.odb_chain.specs.Chains.{Mark}
use Rattle.odb_sessions.specs.Marked.{MarkedSession, marks_due, marks_in, marks_of}
use Rattle.odb_sessions.specs.Tied.{Frees, HasAll}
use Rattle.odb_sessions.proofs.Releases.{frees_on, has-left, has-rest}
use Rattle.odb_sessions.proofs.session.Session.release.Goals as goal

pub release_all-requires : goal.release_all-requires
release_all-requires c =
    let ms : List Mark = flat_map marks_in c.self.inside.monitors.items in
    let ds : List Mark = flat_map marks_due c.self.inside.queue in
    let has : HasAll c.args.past.now (ms ++ ds) = subst (λ (x : MarkedSession). HasAll c.args.past.now (marks_of x)) (sym c.self.view_is) c.requires in
    has-left c.args.past.now ms ds has

pub release-requires : goal.release-requires
release-requires c =
    let ms : List Mark = flat_map marks_in c.self.inside.monitors.items in
    let ds : List Mark = flat_map marks_due c.self.inside.queue in
    let has : HasAll c.args.past.now (ms ++ ds) = subst (λ (x : MarkedSession). HasAll c.args.past.now (marks_of x)) (sym c.self.view_is) c.requires in
    has-rest c.args.past.now c.release_all.new.past ms ds has c.release_all.ensures

pub returns : goal.returns
returns c =
    let ms : List Mark = flat_map marks_in c.self.inside.monitors.items in
    let ds : List Mark = flat_map marks_due c.self.inside.queue in
    subst (λ (x : MarkedSession). Frees c.args.past.now c.release.new.past (marks_of x)) c.self.view_is
    (frees_on c.args.past.now c.release_all.new.past c.release.new.past ms ds c.release_all.ensures c.release.ensures)
