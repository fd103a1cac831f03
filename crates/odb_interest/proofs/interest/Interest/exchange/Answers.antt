use Rattle.std.proofs.Common.{rules, ◌≡◌, slice_get, Some, refl, ap, subst, ◌∙◌}
use Rattle.std.specs.Prelude.{not, ◌&&◌}
use Rattle.odb_interest.specs.Keys.{Asked, Interests, Key, asked_at}
use Rattle.odb_interest.specs.Represented.SessionsByKey.{CoversLacking, CoversSome, Uncovers, UncoversAt, UncoversFound, finds, is_own}
use Rattle.odb_interest.specs.Represented.Key.{has_key, is_asked}
use Rattle.odb_interest.specs.Represented.Lists.{Asks, with_filter}
use Rattle.odb_interest.proofs.Agreeing.{exchanged, taken_back}
use Rattle.odb_interest.proofs.interest.Interest.exchange.Goals as goal

pub invariant_of-self : goal.invariant_of-self
invariant_of-self c =
    let session = c.args.session in
    let x = c.self.inside.index in
    let v = c.self.inside.lists in
    let y = c.cover_lacking-2.new.self in
    let z = c.uncover.new.self in
    let a : Asked = c.args.new in
    let covers : CoversSome x y a.0 (λ k. has_key k a.1) session = search rules in
    let table : c.table.result ≡ a.0 = search rules in
    let filter : c.deref-in-Err.result.now ≡ a.1 = search rules in
    let uncovers : Uncovers y z a.0 (λ k. has_key k a.1) session (asked_at v session) =
    (λ t k s. c.uncover.ensures t k s ∙ (λ i. finds y t k s && not (is_own (table i) session t s && (has_key k (filter i) && not (is_asked (c.get.ensures i) t k))))) in
    taken_back x v c.self.invariant session y z v a covers (λ s. refl) uncovers

pub invariant_of-self-2 : goal.invariant_of-self-2
invariant_of-self-2 c =
    let session = c.args.session in
    let place = c.args.place in
    let x = c.self.inside.index in
    let v = c.self.inside.lists in
    let w = c.put.new.self in
    let y = c.cover_lacking-2.new.self in
    let z = c.uncover_found.new.self in
    let none = c.new-going.result in
    let going = c.cover_lacking.new.self in
    let left = c.uncover_table.new.self in
    let old : Asked = c.args.old.now in
    let new : Asked = c.args.new in
    let there : slice_get (asked_at v session) place ≡ Some old = ap (λ (u : Interests). slice_get (asked_at u session) place) c.self.view_is ∙ c.requires.there in
    let new_filter : c.deref.result.now ≡ new.1 = search rules in
    let old_filter : c.deref-2.result.now ≡ old.1 = search rules in
    let table : c.table-2.result ≡ old.0 = search rules in
    let goes : CoversLacking none going old.0 (λ k. has_key k old.1) (λ k. has_key k c.deref.result.now) session = search rules in
    let comes : CoversLacking x y new.0 (λ k. has_key k new.1) (λ k. has_key k c.deref-2.result.now) session = search rules in
    let leaves : UncoversAt going left c.table-2.result session c.get-2.result.now = search rules in
    let asks : Asks v w session (with_filter (asked_at v session) place new.1) = search rules in
    let uncovers : UncoversFound y z old.0 (λ k. has_key k old.1) session left = search rules in
    exchanged x v c.self.invariant session y z none going left w place old new.1 there c.new-going.ensures
    (subst (λ f. CoversLacking none going old.0 (λ (k : Key). has_key k old.1) (λ (k : Key). has_key k f) session) new_filter goes)
    (subst (λ t. UncoversAt going left t session (asked_at w session)) table (subst (UncoversAt going left c.table-2.result session) c.get-2.ensures leaves))
    (subst (λ f. CoversLacking x y old.0 (λ (k : Key). has_key k new.1) (λ (k : Key). has_key k f) session) old_filter
    (subst (λ t. CoversLacking x y t (λ (k : Key). has_key k new.1) (λ (k : Key). has_key k c.deref-2.result.now) session) c.requires.table comes))
    asks uncovers
