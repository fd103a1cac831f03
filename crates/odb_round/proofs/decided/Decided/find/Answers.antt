use Rattle.std.proofs.Common.{rules, ◌≡◌, List, [], Option, Some, subst, sym, ap}
use Rattle.std.specs.Prelude.{IfSome, unwrap_or}
use Rattle.std.specs.BTreeMap as tree
use Rattle.std.specs.List.{All}
use Rattle.std.specs.Ordering.{nat_cmp}
use Rattle.odb_schema.specs.Schema.{Schema}
use Rattle.odb_sessions.specs.Alike.{Likeness}
use Rattle.odb_round.specs.Jobs.{Decision}
use Rattle.odb_round.specs.Represented.Decided.{IsLikenessOf, IsAmong, IsDecisionOf, bucket_at}
use Rattle.odb_sessions.specs.Represented.Alike.{likeness_in}
use Rattle.odb_sessions.proofs.Options.{if_some_weaker}
use Rattle.odb_round.proofs.decided.Decided.find.Goals as goal

pub returns-in-Some-clause-some : goal.returns-in-Some-clause-some
returns-in-Some-clause-some c =
    let l : Likeness = likeness_in c.args.monitor.now c.args.way in
    let n = c.args.digest in
    let there : tree.get nat_cmp c.args.self.now.buckets n ≡ Some c.in-Some.bucket.now = search rules in
    let is : bucket_at c.args.self.now n ≡ c.in-Some.bucket.now = ap (λ (o : Option (List Decision)). unwrap_or o []) there in
    let here : IfSome c.find.result (λ place. (s : Schema) → All (IsDecisionOf s) (bucket_at c.args.self.now n) → IsLikenessOf s l → IsAmong (bucket_at c.args.self.now n) (record { likeness = l; place = place })) =
    subst (λ (ds : List Decision). IfSome c.find.result (λ place. (s : Schema) → All (IsDecisionOf s) ds → IsLikenessOf s l → IsAmong ds (record { likeness = l; place = place }))) (sym is) c.find.ensures.some
    in
    if_some_weaker c.find.result _ _ (λ place among. λ s of other. (n, among s (of n) other)) here
