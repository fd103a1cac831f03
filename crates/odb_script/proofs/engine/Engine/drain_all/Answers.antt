use Rattle.std.proofs.Common.{rules, ◌≡◌, OnOk, List, ℕ, subst}
use Rattle.odb_service.specs.Server.{Server, served_by}
use Rattle.odb_script.specs.Running.{Running}
use Rattle.odb_script.specs.Script.{Script, drain_all}
use Rattle.odb_script.specs.Represented.Draining.{all_drained}
use Rattle.odb_script.proofs.DrainAll.{dry_all_is}
use Rattle.odb_script.proofs.NumberedSessions.{as_opened}
use Rattle.std.proofs.lemmas.Result.{on_ok_weaker}
use Rattle.odb_script.proofs.engine.Engine.drain_all.Goals as goal

pub invariant_of-self : goal.invariant_of-self
invariant_of-self c =
    let same : c.drain_all.new.core.opened ≡ c.self.inside.core.opened = search rules in
    as_opened c.self.inside.core.opened c.drain_all.new.core.opened c.self.inside.sessions.items same c.self.invariant

pub returns-clause-done : goal.returns-clause-done
returns-clause-done c =
    let old = c.self.inside in
    let q : Server = c.drain_all.new.core in
    let t : List ℕ = c.args.text.now.items in
    let u : List ℕ = c.drain_all.new.text.items in
    let p : Script = record { world = old.core.world; sessions = old.sessions.items; opened_so_far = old.core.opened; inserts = old.inserts; moment = old.moment } in
    let done : OnOk c.drain_all.result (all_drained c.as_slice.result.now (old.core, t) ≡ (q, u)) = search rules in
    subst (λ (v : Running). OnOk c.drain_all.result (drain_all (served_by v.schema) (v.script, t) ≡ (let r : Script × List ℕ = (record { world = q.world; sessions = old.sessions.items; opened_so_far = q.opened; inserts = old.inserts; moment = old.moment }, u) in r)))
    c.self.view_is
    (on_ok_weaker c.drain_all.result (λ e. (dry_all_is old.core.schema c.as_slice.result.now p t q u c.as_slice.ensures.value e).0) done)

pub returns-clause-schema : goal.returns-clause-schema
returns-clause-schema c =
    let old = c.self.inside in
    let q : Server = c.drain_all.new.core in
    let t : List ℕ = c.args.text.now.items in
    let u : List ℕ = c.drain_all.new.text.items in
    let p : Script = record { world = old.core.world; sessions = old.sessions.items; opened_so_far = old.core.opened; inserts = old.inserts; moment = old.moment } in
    let done : OnOk c.drain_all.result (all_drained c.as_slice.result.now (old.core, t) ≡ (q, u)) = search rules in
    subst (λ (v : Running). OnOk c.drain_all.result (q.schema ≡ v.schema)) c.self.view_is
    (on_ok_weaker c.drain_all.result (λ e. (dry_all_is old.core.schema c.as_slice.result.now p t q u c.as_slice.ensures.value e).1) done)
