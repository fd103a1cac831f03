use Rattle.std.proofs.Common.{rules, ◌≡◌, ℕ, false, [], Ok, max, sym, ap, subst, ◌∙◌}
use Rattle.std.specs.List.{list_any}
use Rattle.odb_service.specs.Server.{Server, served_by}
use Rattle.odb_service.specs.World.{World, is_due, tick, untried}
use Rattle.odb_core.specs.Represented.Upcoming.{after_due}
use Rattle.odb_core.specs.Represented.Steps.{by_service, in_world}
use Rattle.odb_core.proofs.ClosedSessions.{ticks_idly}
use Rattle.odb_core.proofs.ServerSteps.{Served, placed}
use Rattle.odb_core.proofs.server.Core.tick.Goals as goal

pub returns-then-not-has_due-clause-ok : goal.returns-then-not-has_due-clause-ok
returns-then-not-has_due-clause-ok c =
    let v : Server = c.args.self.now in
    let h = served_by v.schema in
    let w : World = v.world in
    let m : ℕ = c.max-moment.result in
    let moment : m ≡ max w.now c.args.now = search rules in
    let set : c.set_moment.new.self ≡ in_world (λ u. record u { now = m }) v = c.set_moment.ensures in
    let off : c.has_due.result ≡ false = search rules in
    let none : list_any (λ p. is_due m p.deadline) w.waiting ≡ false = sym (c.has_due.ensures ∙ ap (λ (u : Server). list_any (λ p. is_due m p.deadline) u.world.waiting) set) ∙ off in
    let ticked : by_service (λ k. tick k c.args.now) v ≡ c.set_moment.new.self =
    ap (placed v) (ticks_idly h c.args.now w (subst (λ k. list_any (λ p. is_due k p.deadline) w.waiting ≡ false) moment none) (c.moment-before.ensures.tried h))
    ∙ ap (λ (k : ℕ). in_world (λ u. record u { now = k }) v) (sym moment) ∙ sym set
    in
    ap (λ (x : Server). let r : Served = Ok (x, []) in r) ticked

pub end_due-requires : goal.end_due-requires
end_due-requires c = record { tried = λ h. ap (λ (u : Server). untried h u.world) c.set_moment.ensures ∙ c.moment-before.ensures.tried h }

pub returns-in-Ok-clause-ok : goal.returns-in-Ok-clause-ok
returns-in-Ok-clause-ok c =
    let v : Server = c.args.self.now in
    let m : ℕ = c.max-moment.result in
    let moment : m ≡ max v.world.now c.args.now = search rules in
    let set : c.set_moment.new.self ≡ in_world (λ u. record u { now = m }) v = c.set_moment.ensures in
    let ticked : by_service (λ k. tick k c.args.now) v ≡ c.end_due.new.self =
    ap (λ (k : ℕ). by_service after_due (in_world (λ u. record u { now = k }) v)) (sym moment) ∙ ap (by_service after_due) (sym set) ∙ c.in-Ok.ensures.ok
    in
    ap (λ (x : Server). let r : Served = Ok (x, []) in r) ticked

pub returns-in-Err-clause-err : goal.returns-in-Err-clause-err
returns-in-Err-clause-err c =
    let b : ℕ = c.moment-before.result in
    let back : Server → Server = in_world (λ u. record u { now = b }) in
    c.set_moment-in-Err.ensures ∙ ap back (c.in-Err.ensures.err ∙ c.set_moment.ensures) ∙ ap (λ (k : ℕ). in_world (λ u. record u { now = k }) c.args.self.now) c.moment-before.ensures.now
