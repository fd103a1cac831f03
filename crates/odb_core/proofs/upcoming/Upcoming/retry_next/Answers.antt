use Rattle.std.proofs.Common.{rules, ◌≡◌, ◌==◌, ◌&&◌, true, false, sym, subst}
use Rattle.std.proofs.lemmas.Result.{on_ok_weaker}
use Rattle.odb_service.specs.Server.{Server}
use Rattle.odb_service.specs.World.{Waiting, is_untried}
use Rattle.odb_core.specs.Represented.Retrying.{IsRetrying}
use Rattle.odb_core.proofs.RetriedInTurn.{not_to_try, passed_over, to_try, tried_in_turn}
use Rattle.odb_core.proofs.upcoming.Upcoming.retry_next.Goals as goal

pub returns-then-not-is_to_try-clause-next : goal.returns-then-not-is_to_try-clause-next
returns-then-not-is_to_try-clause-next c =
    let v : Server = c.args.self.now.next in
    let n = c.args.commits in
    let p : Waiting = c.args.waiting in
    let isnt : ((v.world.commits == n) && is_untried n p) ≡ false = search rules in
    on_ok_weaker c.keep.result
    (λ e old rest h. subst (λ u. IsRetrying old u n rest) (sym e) (passed_over old v n p rest h (not_to_try v.world.commits n p isnt)))
    c.keep.ensures.next

pub returns-clause-next : goal.returns-clause-next
returns-clause-next c =
    let v : Server = c.args.self.now.next in
    let n = c.args.commits in
    let p : Waiting = c.args.waiting in
    let is : ((v.world.commits == n) && is_untried n p) ≡ true = search rules in
    let found = to_try v.world.commits n p is in
    on_ok_weaker c.retry.result
    (λ e old rest h. subst (λ u. IsRetrying old u n rest) e (tried_in_turn old v n p rest h found.0 found.1))
    c.retry.ensures.next
