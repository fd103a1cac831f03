use Rattle.std.proofs.Common.{rules, ◌≡◌, ℕ, ◌==◌, true, List, [], ◌∷◌, length, sym, ap, subst, ◌∙◌}
use Rattle.std.proofs.lemmas.List.{nil_from_length}
use Rattle.std.specs.Cmp.{unsigned_Decides}
use Rattle.odb_schema.specs.Schema.{Schema}
use Rattle.odb_service.specs.Server.{Server}
use Rattle.odb_service.specs.World.{Waiting, is_untried, split_first}
use Rattle.odb_core.specs.Represented.Retrying.{IsRetrying}
use Rattle.odb_core.specs.Represented.Steps.{let_wait}
use Rattle.odb_core.specs.Stuck.{AreStuck, IsStuckIf}
use Rattle.odb_core.proofs.RetriedInTurn.{begins_in_turn, changed_is, ends_in_turn, fewer_left}
use Rattle.odb_core.proofs.upcoming.Upcoming.retry_until_commit.Goals as goal

pub loop-waiting-init : goal.loop-waiting-init
loop-waiting-init c =
    let v : Server = c.args.self.now.next in
    let n : ℕ = c.count_of_commits-commits.result in
    let count : n ≡ v.world.commits = c.count_of_commits-commits.ensures in
    let u : Server = c.take_waiting-earlier.new.self.next in
    let none : u ≡ let_wait [] v = c.take_waiting-earlier.ensures.none in
    let rest : List Waiting = c.into_iter-waiting-iterator.result.rest.items in
    let all : rest ≡ v.world.waiting = search rules in
    let begun : IsRetrying v u n rest =
    subst (λ k. IsRetrying v u k rest) (sym count)
    (subst (λ x. IsRetrying v x v.world.commits rest) (sym none) (subst (λ ps. IsRetrying v (let_wait [] v) v.world.commits ps) (sym all) (begins_in_turn v)))
    in
    let stuck : AreStuck v.schema c.args.self.now.base.world.db rest =
    subst (AreStuck v.schema c.args.self.now.base.world.db) (c.take_waiting-earlier.ensures.all ∙ sym all) c.take_waiting-earlier.ensures.stuck
    in
    (begun, c.take_waiting-earlier.ensures.base, stuck)

pub retry_next-requires : goal.retry_next-requires
retry_next-requires c =
    let v : Server = c.args.self.now.next in
    let b : Server = c.args.self.now.base in
    let p : Waiting = c.in-Some.waiting in
    let step : c.loop-waiting.waiting-iterator.rest.items ≡ p ∷ c.next.new.self.rest.items = search rules in
    let one : IsStuckIf v.schema b.world.db p = (subst (AreStuck v.schema b.world.db) step c.loop-waiting.invariant.2).0 in
    subst (λ (s : Schema). IsStuckIf s c.loop-waiting.self.base.world.db p) (ap (λ (x : Server). x.schema) c.loop-waiting.invariant.0.same)
    (subst (λ (x : Server). IsStuckIf v.schema x.world.db p) (sym c.loop-waiting.invariant.1) one)

pub loop-waiting-preserved : goal.loop-waiting-preserved
loop-waiting-preserved c =
    let v : Server = c.args.self.now.next in
    let n : ℕ = c.count_of_commits-commits.result in
    let rest : List Waiting = c.next.new.self.rest.items in
    let step : c.loop-waiting.waiting-iterator.rest.items ≡ c.in-Some.waiting ∷ rest = search rules in
    let goes_on : IsRetrying v c.retry_next.new.self.next n rest = c.in_ok-retry_next.ensures.next v rest (subst (IsRetrying v c.loop-waiting.self.next n) step c.loop-waiting.invariant.0) in
    (goes_on, c.in_ok-retry_next.ensures.base ∙ c.loop-waiting.invariant.1, (subst (AreStuck v.schema c.args.self.now.base.world.db) step c.loop-waiting.invariant.2).1)

pub returns-clause-ok : goal.returns-clause-ok
returns-clause-ok c =
    let rest : List Waiting = c.loop-waiting.waiting-iterator.rest.items in
    let long : length rest ≡ 0 = search rules in
    ends_in_turn c.args.self.now.next c.loop-waiting.self.next c.count_of_commits-commits.result rest (nil_from_length rest long) c.loop-waiting.invariant.0

pub returns-clause-tried : goal.returns-clause-tried
returns-clause-tried c = λ unchanged h.
    let n : ℕ = c.count_of_commits-commits.result in
    let v : Server = c.loop-waiting.self.next in
    let k : ℕ = c.count_of_commits.result in
    let same : (k == n) ≡ true = changed_is k n unchanged in
    let now : v.world.commits ≡ n = sym c.count_of_commits.ensures ∙ (unsigned_Decides k n).0 same in
    ap (λ m. split_first (is_untried m) v.world.waiting) now ∙ c.loop-waiting.invariant.0.tried now

pub returns-clause-fewer : goal.returns-clause-fewer
returns-clause-fewer c =
    let n : ℕ = c.count_of_commits-commits.result in
    fewer_left c.args.self.now.next c.loop-waiting.self.next n c.count_of_commits.result c.loop-waiting.waiting-iterator.rest.items c.count_of_commits.ensures c.loop-waiting.invariant.0
