use Rattle.std.proofs.Common.{rules, ◌≡◌, Option, None, option_map, sym, subst}
use Rattle.std.specs.Arc.{arc_value}
use Rattle.odb_chain.specs.Chains.{Chains}
use Rattle.odb_cond.specs.Filter.{Filter}
use Rattle.odb_sessions.specs.Composed.{IsKnown, part_to}
use Rattle.odb_sessions.specs.Marked.{Watched}
use Rattle.odb_sessions.specs.Represented.Told.{told_under}
use Rattle.odb_sessions.proofs.Quiet.{now_same}
use Rattle.odb_sessions.proofs.monitor.Watching.is_told.Goals as goal

pub is_now-requires : goal.is_now-requires
is_now-requires c =
    let known : IsKnown c.args.chains.now (record { request = c.self.inside.request; told = told_under c.self.inside.request (option_map arc_value c.self.inside.told); mark = c.self.inside.mark }) = subst (IsKnown c.args.chains.now) (sym c.self.view_is) c.requires in
    known.0

pub returns : goal.returns
returns c now =
    let k : Chains = c.args.chains.now in
    let db = k.db in
    let t : Option Filter = option_map arc_value c.self.inside.told in
    let none : t ≡ None = search rules in
    let known : IsKnown k (record { request = c.self.inside.request; told = told_under c.self.inside.request t; mark = c.self.inside.mark }) = subst (IsKnown k) (sym c.self.view_is) c.requires in
    subst (λ (w : Watched). (part_to db w).told ≡ (part_to db w).asked) c.self.view_is (now_same db c.self.inside.request t c.self.inside.mark none known.1 (c.is_now.ensures.content now))
