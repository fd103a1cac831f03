use Rattle.std.proofs.Common.{rules, ◌≡◌, ◌∙◌}
use Rattle.std.specs.Prelude.{not, ◌&&◌}
use Rattle.odb_interest.specs.Keys.{Asked, asked_at}
use Rattle.odb_interest.specs.Represented.SessionsByKey.{CoversSome, Uncovers, finds, is_own}
use Rattle.odb_interest.specs.Represented.Key.{has_key, is_asked}
use Rattle.odb_interest.specs.Represented.Lists.{IsSame}
use Rattle.odb_interest.proofs.Agreeing.{taken_back}
use Rattle.odb_interest.proofs.interest.Interest.add.Goals as goal

pub invariant_of-self-in-Err : goal.invariant_of-self-in-Err
invariant_of-self-in-Err c =
    let session = c.args.session in
    let x = c.self.inside.index in
    let v = c.self.inside.lists in
    let y = c.enter.new.index in
    let w = c.enter.new.lists in
    let z = c.uncover.new.self in
    let a : Asked = c.in_ok-asked.asked in
    let covers : CoversSome x y a.0 (λ k. has_key k a.1) session = search rules in
    let same : IsSame v w = search rules in
    let table : c.args.table ≡ a.0 = search rules in
    let filter : c.deref.result.now ≡ a.1 = search rules in
    let uncovers : Uncovers y z a.0 (λ k. has_key k a.1) session (asked_at w session) =
    (λ t k s. c.uncover.ensures t k s ∙ (λ i. finds y t k s && not (is_own (table i) session t s && (has_key k (filter i) && not (is_asked (c.get.ensures i) t k))))) in
    taken_back x v c.self.invariant session y z w a covers same uncovers
