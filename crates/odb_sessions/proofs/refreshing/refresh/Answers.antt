use Rattle.std.proofs.Common.{rules, ◌≡◌, false, ◌∙◌}
use Rattle.std.specs.BTreeSet.{contains}
use Rattle.std.specs.Ordering.{nat_cmp}
use Rattle.odb_chain.specs.Chains.{Chains}
use Rattle.odb_recent.specs.Recent.{recent_of}
use Rattle.odb_sessions.specs.Marked.{Sessions}
use Rattle.odb_sessions.proofs.Carried.{ready_at}
use Rattle.odb_sessions.proofs.CarriedOut.{seen_after, tied_after}
use Rattle.odb_sessions.proofs.Refreshed.{refreshed}
use Rattle.odb_sessions.proofs.AnySchema.{no_schema}
use Rattle.odb_sessions.proofs.refreshing.refresh.Goals as goal

pub carry_out-requires : goal.carry_out-requires
carry_out-requires c = λ x there. ready_at c.args.past.now c.args.sessions.now c.args.session x c.requires.tied there

pub returns-clause-tied : goal.returns-clause-tied
returns-clause-tied c = tied_after c.args.past.now c.carry_out.new.past c.args.sessions.now c.carry_out.new.self c.args.session 0 c.monitors-monitors.result c.carry_out.ensures.carried c.requires.tied

pub returns-clause-seen : goal.returns-clause-seen
returns-clause-seen c =
    let k : Chains = c.args.past.now in
    let m : Sessions = c.args.sessions.now in
    let s = c.args.session in
    let out : contains nat_cmp c.args.owed.now s ≡ false = search rules in
    seen_after k c.carry_out.new.past m c.carry_out.new.self s 0 c.monitors-monitors.result c.carry_out.ensures.carried (recent_of 0 0) no_schema ∙ refreshed k m s c.monitors-monitors.result (c.requires.owed s out)
