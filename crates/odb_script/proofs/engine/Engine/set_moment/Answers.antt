use Rattle.std.proofs.Common.{rules, ◌≡◌, Result, Ok, ap, sym, ◌∙◌}
use Rattle.odb_service.specs.Run.{Refusal, ticked}
use Rattle.odb_service.specs.Server.{served_by}
use Rattle.odb_service.specs.World.{World}
use Rattle.odb_script.specs.Running.{Running}
use Rattle.odb_script.specs.Script.{Script, at_moment, in_world, world_after}
use Rattle.odb_script.proofs.NumberedSessions.{as_opened}
use Rattle.odb_script.proofs.OpenedSessions.{script_of}
use Rattle.odb_script.proofs.engine.Engine.set_moment.Goals as goal

pub invariant_of-self : goal.invariant_of-self
invariant_of-self c =
    let same : c.tick_core.new.core.opened ≡ c.self.inside.core.opened = search rules in
    as_opened c.self.inside.core.opened c.tick_core.new.core.opened c.self.inside.sessions.items same c.self.invariant

pub invariant_of-self-2 : goal.invariant_of-self-2
invariant_of-self-2 c =
    let same : c.tick_core.new.core.opened ≡ c.self.inside.core.opened = search rules in
    as_opened c.self.inside.core.opened c.tick_core.new.core.opened c.self.inside.sessions.items same c.self.invariant

pub returns-clause-done : goal.returns-clause-done
returns-clause-done c =
    let old = c.self.inside in
    let q = c.tick_core.new.core in
    let h = served_by old.core.schema in
    let p : Script = script_of old.core old.sessions.items old.inserts old.moment in
    let after : world_after h (ticked c.args.moment) p ≡ Ok q.world = search rules in
    let number : q.opened ≡ old.core.opened = search rules in
    (λ i. let r : Script = record { world = q.world; sessions = old.sessions.items; opened_so_far = number i; inserts = old.inserts; moment = c.args.moment } in r)
    ∙ ap (λ (w : Result World Refusal). in_world h w (record p { moment = c.args.moment })) (sym after)
    ∙ ap (λ (v : Running). at_moment (served_by v.schema) c.args.moment v.script) c.self.view_is
