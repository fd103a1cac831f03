use Rattle.std.proofs.Common.{rules, ◌≡◌, ◌++◌, ◌∷◌, [], true, Some, None, Option, is_some, sym, ap, subst, ◌∙◌}
use Rattle.std.proofs.lemmas.Result.{on_ok_weaker}
use Rattle.odb_schema.specs.Schema.{Schema}
use Rattle.std.specs.Prelude.{option_to_list}
use Rattle.std.proofs.lemmas.List.{append-nil}
use Rattle.odb_service.specs.Server.{Server, served_by}
use Rattle.odb_service.specs.World.{Waiting, World, attempt}
use Rattle.odb_core.specs.Represented.Steps.{attempted, let_wait}
use Rattle.odb_core.specs.Represented.Upcoming.{GoesOn}
use Rattle.odb_core.specs.Stuck.{IsStuck, IsStuckIf}
use Rattle.odb_core.proofs.HandledRequests.{attempt_waiting}
use Rattle.odb_core.proofs.PassedOver.{left_stuck, passes}
use Rattle.odb_core.proofs.StuckTransactions.{stuck_alike}
use Rattle.odb_core.proofs.upcoming.Upcoming.retry.Goals as goal

pub keep-requires : goal.keep-requires
keep-requires c =
    let v : Server = c.args.self.now.next in
    let h = served_by v.schema in
    let p : Waiting = c.args.waiting in
    let q : Waiting = c.in-Some.waiting in
    let u : Server = c.retried.new.self.next in
    let tried : attempted p v ≡ (u, Some q) = c.in_ok-waiting.ensures.left ∙ ap (λ o. let r : Server × Option Waiting = (u, o) in r) c.in-Some.is in
    let came_to : attempt h p v.world ≡ (u.world, Some q) = ap (λ (r : Server × Option Waiting). let t : World × Option Waiting = (r.0.world, r.1) in t) tried in
    let left : IsStuckIf v.schema c.args.self.now.base.world.db q = left_stuck v.schema c.args.self.now.base.world.db p q v.world u.world c.requires came_to in
    subst (λ (b : Server). IsStuckIf u.schema b.world.db q) (sym c.in_ok-waiting.ensures.base)
    (subst (λ (s : Schema). IsStuckIf s c.args.self.now.base.world.db q) (ap (λ (r : Server × Option Waiting). r.0.schema) tried) left)

pub returns-then-goes_on-clause-next : goal.returns-then-goes_on-clause-next
returns-then-goes_on-clause-next c =
    let v : Server = c.args.self.now.next in
    let p : Waiting = c.args.waiting in
    let b : Server = c.args.self.now.base in
    let is : c.goes_on.result ≡ true = search rules in
    let g : GoesOn c.args.self.now p = c.goes_on.ensures is in
    let stuck : IsStuck v.schema b.world.db p = c.requires (ap is_some g.1) in
    on_ok_weaker c.pass_over.result (λ e. passes v p (stuck_alike v.schema p g.0 g.1 b.world.db v.world.db g.2 stuck) g.3 ∙ sym e) c.pass_over.ensures.next

pub returns-in_ok-keep-clause-next : goal.returns-in_ok-keep-clause-next
returns-in_ok-keep-clause-next c =
    let v : Server = c.args.self.now.next in
    let h = served_by v.schema in
    let p : Waiting = c.args.waiting in
    let q : Waiting = c.in-Some.waiting in
    let u : Server = c.retried.new.self.next in
    let tried : attempted p v ≡ (u, Some q) = c.in_ok-waiting.ensures.left ∙ ap (λ o. let r : Server × Option Waiting = (u, o) in r) c.in-Some.is in
    let came_to : attempt h p v.world ≡ (u.world, Some q) = ap (λ (r : Server × Option Waiting). let t : World × Option Waiting = (r.0.world, r.1) in t) tried in
    let kept : c.keep.new.self.next ≡ let_wait (u.world.waiting ++ q ∷ []) u = search rules in
    ap (λ (r : Server × Option Waiting). let_wait (v.world.waiting ++ option_to_list r.1) r.0) tried
    ∙ ap (λ ps. let_wait (ps ++ q ∷ []) u) (sym (attempt_waiting h p v.world u.world (Some q) came_to)) ∙ sym kept

pub returns-in_default-clause-next : goal.returns-in_default-clause-next
returns-in_default-clause-next c =
    let v : Server = c.args.self.now.next in
    let h = served_by v.schema in
    let p : Waiting = c.args.waiting in
    let u : Server = c.retried.new.self.next in
    let none : c.in_ok-waiting.field-0 ≡ None = search rules in
    let tried : attempted p v ≡ (u, None) = c.in_ok-waiting.ensures.left ∙ ap (λ o. let r : Server × Option Waiting = (u, o) in r) none in
    let came_to : attempt h p v.world ≡ (u.world, None) = ap (λ (r : Server × Option Waiting). let t : World × Option Waiting = (r.0.world, r.1) in t) tried in
    ap (λ (r : Server × Option Waiting). let_wait (v.world.waiting ++ option_to_list r.1) r.0) tried
    ∙ ap (λ ps. let_wait ps u) (append-nil v.world.waiting ∙ sym (attempt_waiting h p v.world u.world None came_to))
