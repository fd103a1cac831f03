use Rattle.std.proofs.Common.{◌≡◌, ◌++◌, ◌∷◌, [], ℕ, Option, ap, sym, subst, ◌∙◌}
use Rattle.std.proofs.lemmas.Result.{on_ok_weaker}
use Rattle.odb_service.specs.Server.{Server}
use Rattle.odb_service.specs.World.{Waiting}
use Rattle.odb_core.specs.Represented.Steps.{let_wait}
use Rattle.odb_core.specs.Stuck.{IsStuckIf}
use Rattle.odb_core.proofs.PassedOver.{stuck_again}
use Rattle.odb_core.proofs.upcoming.Upcoming.pass_over.Goals as goal

pub keep-requires : goal.keep-requires
keep-requires c =
    let v : Server = c.args.self.now.next in
    let b : Server = c.args.self.now.base in
    let p : Waiting = c.args.waiting in
    let n : ℕ = c.count_of_commits-commits.result in
    let q : Waiting = c.tried_again.result in
    let is : q ≡ record p { tried = n } = c.tried_again.ensures ∙ ap (λ (d : Option ℕ). let r : Waiting = record p { deadline = d; tried = n } in r) c.deadline-deadline.ensures in
    subst (IsStuckIf v.schema b.world.db) (sym is) (λ rests. stuck_again v.schema b.world.db p n (c.requires rests))

pub returns-clause-next : goal.returns-clause-next
returns-clause-next c =
    let v : Server = c.args.self.now.next in
    let p : Waiting = c.args.waiting in
    let q : Waiting = c.tried_again.result in
    let is : q ≡ record p { tried = v.world.commits } = c.tried_again.ensures ∙ (λ i. let r : Waiting = record p { deadline = c.deadline-deadline.ensures i; tried = c.count_of_commits-commits.ensures i } in r) in
    on_ok_weaker c.keep.result (λ e. e ∙ ap (λ (x : Waiting). let_wait (v.world.waiting ++ x ∷ []) v) is) c.keep.ensures.next
